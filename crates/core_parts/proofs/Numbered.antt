-- Offered numbers of names, and the least of them.
use Rattle.std.proofs.Common.{◌≡◌, ◌≢◌, ◌⊎◌, ℕ, zero, suc, ◌+◌, ◌<◌, ◌≤◌, ℤ, Bool, true, false, cond, ◌&&◌, ◌||◌, List, [], ◌∷◌, ◌++◌, map, Option, None, Some, get_or, length, take, nat_le, nat_lt, refl, sym, ap, subst, ◌∙◌, arith}
use mathlib.Core.Logic.{inl, inr}
use Rattle.std.specs.Prelude.{fold, slice_get}
use Rattle.std.specs.List.{flat_map, list_any, range_with_len}
use Rattle.std.specs.Option.{option_map_or}
use Rattle.std.proofs.lemmas.Bool.Decides.{nat_tests}
use Rattle.std.proofs.lemmas.Grind.{flat_map-append}
use Rattle.std.proofs.lemmas.List.{append-nil, map-append, take_more}
use Rattle.std.proofs.lemmas.List.Sums.{fold-append}
use Rattle.std.proofs.lemmas.Bool.{or_from, or_right, or_left}
use Rattle.core_parts.proofs.Placing.{named_once, number_less}
use Rattle.core_parts.specs.declared.least.Least.{Least}
use Rattle.core_laws.proofs.Words.Numbers.{name_at, number_at}
use Rattle.core_laws.specs.Words.Words.{number_among}
use Rattle.core_parts.specs.Least.{offered, offered_all, offered_name}
use Rattle.core_laws.proofs.Events.States.{name_is}
use Rattle.event_spec.specs.Lawful.{Among}
use Rattle.event_spec.specs.Parts.{Name, Shape, below, names, same_name}
use Rattle.event_spec.specs.Touched.{passes_test}
use Rattle.core_laws.proofs.Frames.Looks.{name_self, true_false}
use Rattle.hall_rule.specs.Hands.{IsNext}

-- A name that stands at a place of a list is among it.
among_at : (ns : List Name) (k : ℕ) (w : Name) → slice_get ns k ≡ Some w → Among w ns
among_at [] k w is = cc
among_at (n ∷ ns) zero w is = inl (let e : n ≡ w = cc in sym e)
among_at (n ∷ ns) (suc k) w is = inr (among_at ns k w is)

-- a name that stands at a number offers it, and one that stands nowhere offers nothing
pub offered_there : (sh : Shape) (least : Least) (w : Name) (n : ℕ) → slice_get (names sh) n ≡ Some w → offered_name sh least w ≡ offered n least
offered_there sh least w n at = ap (λ o. option_map_or (λ number. offered number least) o least) (number_at sh n w at)

-- a name that there is not offers nothing
pub offered_away : (sh : Shape) (least : Least) (w : Name) → (Among w (names sh) → ⊥) → offered_name sh least w ≡ least
offered_away sh least w away = go (number_among (names sh) w) refl
  where
    go : (o : Option ℕ) → number_among (names sh) w ≡ o → offered_name sh least w ≡ least
    go None e = ap (λ o. option_map_or (λ number. offered number least) o least) e
    go (Some k) e = absurd (away (among_at (names sh) k w (name_at (names sh) w k e)))

-- ---- the least of what was offered

-- whether the name of a number is this one
abbrev is_at : Shape → Name → ℕ → Bool
is_at sh w k = passes_test (same_name w) (slice_get (names sh) k)

-- The number at which a name stands is tested to be its own.
at_there : (sh : Shape) (w : Name) (n : ℕ) → slice_get (names sh) n ≡ Some w → is_at sh w n ≡ true
at_there sh w n at = ap (passes_test (same_name w)) at ∙ name_self w

-- A number that is tested to be a name's is where it stands.
at_is : (sh : Shape) (w : Name) (n k : ℕ) → slice_get (names sh) n ≡ Some w → is_at sh w k ≡ true → n ≡ k
at_is sh w n k at is = go (slice_get (names sh) k) refl is
  where
    go : (o : Option Name) → slice_get (names sh) k ≡ o → passes_test (same_name w) o ≡ true → n ≡ k
    go None e t = absurd (true_false (sym t))
    go (Some v) e t = named_once sh n k w at (e ∙ ap Some (sym (name_is w v t)))

-- A number at which a name does not stand is tested not to be its own.
at_else : (sh : Shape) (w : Name) (n k : ℕ) → slice_get (names sh) n ≡ Some w → n ≢ k → is_at sh w k ≡ false
at_else sh w n k at other = go (is_at sh w k) refl
  where
    go : (b : Bool) → is_at sh w k ≡ b → is_at sh w k ≡ false
    go true e = absurd (other (at_is sh w n k at e))
    go false e = e

-- No number is that of a name that there is not.
at_never : (sh : Shape) (w : Name) (k : ℕ) → number_among (names sh) w ≡ None → is_at sh w k ≡ false
at_never sh w k none = go (slice_get (names sh) k) refl
  where
    go : (o : Option Name) → slice_get (names sh) k ≡ o → is_at sh w k ≡ false
    go None e = ap (passes_test (same_name w)) e
    go (Some v) e = by (same_name w v) refl
      where
        by : (b : Bool) → same_name w v ≡ b → is_at sh w k ≡ false
        by true t =
            let found : number_among (names sh) w ≡ Some k = number_at sh k w (e ∙ ap Some (sym (name_is w v t))) in
            let never : None ≡ Some k = sym none ∙ found in cc
        by false t = ap (passes_test (same_name w)) e ∙ t

-- A number that is tested not to be at most another is above it.
le_not : (a b : ℕ) → nat_le a b ≡ false → b < a
le_not a b e = grind (arith, nat_tests)

-- what sits is the next number that passes a test
abbrev Sits : (ℕ → Bool) → Shape → ℕ → Least → Type 0
Sits test sh from least = (least.from ≡ from) × IsNext test from (length (names sh)) least.best

-- one more name is offered
sits_on : (sh : Shape) (test : ℕ → Bool) (from : ℕ) (least : Least) (w : Name) → Sits test sh from least
    → Sits (λ k. test k || is_at sh w k) sh from (offered_name sh least w)
sits_on sh test from least w sits = go (number_among (names sh) w) refl
  where
    next : (o p : Option ℕ) → o ≡ p → IsNext (λ k. test k || is_at sh w k) from (length (names sh)) o → IsNext (λ k. test k || is_at sh w k) from (length (names sh)) p
    next o p e is = subst (IsNext (λ k. test k || is_at sh w k) from (length (names sh))) e is

    -- nothing new
    same : (o : Option ℕ) → ((k : ℕ) → from ≤ k → (o ≡ None) ⊎ ((b : ℕ) → o ≡ Some b → k < b) → is_at sh w k ≡ false) → IsNext test from (length (names sh)) o
        → IsNext (λ k. test k || is_at sh w k) from (length (names sh)) o
    same None none is = λ k low high. or_from (test k) (is_at sh w k) (is k low high) (none k low (inl refl))
    same (Some b) none is = (
      is.0,
      is.1,
      or_left (test b) (is_at sh w b) is.2,
      λ k low high. or_from (test k) (is_at sh w k) (is.3 k low high) (none k low (inr (λ c e. let eq : b ≡ c = cc in omega (arith, eq, high)))),
    )

    stays : (n : ℕ) → slice_get (names sh) n ≡ Some w → (nat_le least.from n && option_map_or (λ best. nat_lt n best) least.best true) ≡ false → (o : Option ℕ) → least.best ≡ o
        → IsNext (λ k. test k || is_at sh w k) from (length (names sh)) least.best
    stays n at not None e = next None least.best (sym e) (same None (λ k low b. at_else sh w n k at (λ is. outside n k low is (sym (ap (λ c. nat_le least.from n && option_map_or (λ best. nat_lt n best) c true) e) ∙ not)))
        (subst (IsNext test from (length (names sh))) e sits.1))
      where
        outside : (n k : ℕ) → from ≤ k → n ≡ k → (nat_le least.from n && true) ≡ false → ⊥
        outside n k low is not = let f = sits.0 in let below : n < least.from = le_not least.from n (and_true (nat_le least.from n) not) in omega (arith, f, below, low, is)
          where
            and_true : (a : Bool) → (a && true) ≡ false → a ≡ false
            and_true true e = e
            and_true false e = refl
    stays n at not (Some b) e = next (Some b) least.best (sym e) (same (Some b) (λ k low high. at_else sh w n k at (λ is. outside n k low is high (sym (ap (λ c. nat_le least.from n && option_map_or (λ best. nat_lt n best) c true) e) ∙ not)))
        (subst (IsNext test from (length (names sh))) e sits.1))
      where
        outside : (n k : ℕ) → from ≤ k → n ≡ k → (Some b ≡ None) ⊎ ((c : ℕ) → Some b ≡ Some c → k < c) → (nat_le least.from n && nat_lt n b) ≡ false → ⊥
        outside n k low is (inl none) not = cc
        outside n k low is (inr high) not =
            let f = sits.0 in let h : k < b = high b refl in apart (least.from) n b (omega (arith, f, low, is)) (omega (arith, h, is)) not
          where
            apart : (a n b : ℕ) → a ≤ n → n < b → (nat_le a n && nat_lt n b) ≡ false → ⊥
            apart a n b x y not = absurd (grind (arith, nat_tests))

    sits_new : (n : ℕ) → slice_get (names sh) n ≡ Some w → (nat_le least.from n && option_map_or (λ best. nat_lt n best) least.best true) ≡ true → (o : Option ℕ) → least.best ≡ o
        → IsNext (λ k. test k || is_at sh w k) from (length (names sh)) (Some n)
    sits_new n at takes o e = (
      low o (sym (ap (λ c. nat_le least.from n && option_map_or (λ best. nat_lt n best) c true) e) ∙ takes),
      number_less sh w n at,
      or_right (test n) (is_at sh w n) (at_there sh w n at),
      λ k from' high. or_from (test k) (is_at sh w k)
          (before o (subst (IsNext test from (length (names sh))) e sits.1) (sym (ap (λ c. nat_le least.from n && option_map_or (λ best. nat_lt n best) c true) e) ∙ takes) k from' high)
          (at_else sh w n k at (λ is. absurd (omega (arith, is, high)))),
    )
      where
        low : (o : Option ℕ) → (nat_le least.from n && option_map_or (λ best. nat_lt n best) o true) ≡ true → from ≤ n
        low None t = let f = sits.0 in let l : least.from ≤ n = le_of least.from n true t in omega (arith, f, l)
          where
            le_of : (a n : ℕ) (b : Bool) → (nat_le a n && b) ≡ true → a ≤ n
            le_of a n b t = grind (arith, nat_tests)
        low (Some b) t = let f = sits.0 in let l : least.from ≤ n = le_of least.from n (nat_lt n b) t in omega (arith, f, l)
          where
            le_of : (a n : ℕ) (b : Bool) → (nat_le a n && b) ≡ true → a ≤ n
            le_of a n b t = grind (arith, nat_tests)

        before : (o : Option ℕ) → IsNext test from (length (names sh)) o → (nat_le least.from n && option_map_or (λ best. nat_lt n best) o true) ≡ true
            → (k : ℕ) → from ≤ k → k < n → test k ≡ false
        before None is t k l h = let m = number_less sh w n at in is k l (omega (arith, h, m))
        before (Some b) is t k l h = let less : n < b = lt_of least.from n b t in is.3 k l (omega (arith, h, less))
          where
            lt_of : (a n b : ℕ) → (nat_le a n && nat_lt n b) ≡ true → n < b
            lt_of a n b t = grind (arith, nat_tests)

    taken : (n : ℕ) → slice_get (names sh) n ≡ Some w → (b : Bool) → (nat_le least.from n && option_map_or (λ best. nat_lt n best) least.best true) ≡ b
        → Sits (λ k. test k || is_at sh w k) sh from (offered n least)
    taken n at true e =
        let is : offered n least ≡ record least { best = Some n } = ap (λ c. cond c (record least { best = Some n }) least) e in
        subst (Sits (λ k. test k || is_at sh w k) sh from) (sym is) (sits.0, sits_new n at e least.best refl)
    taken n at false e =
        let is : offered n least ≡ least = ap (λ c. cond c (record least { best = Some n }) least) e in
        subst (Sits (λ k. test k || is_at sh w k) sh from) (sym is) (sits.0, stays n at e least.best refl)

    go : (o : Option ℕ) → number_among (names sh) w ≡ o → Sits (λ k. test k || is_at sh w k) sh from (offered_name sh least w)
    go None e =
        let is : offered_name sh least w ≡ least = ap (λ o. option_map_or (λ number. offered number least) o least) e in
        subst (Sits (λ k. test k || is_at sh w k) sh from) (sym is) (sits.0, same least.best (λ k low b. at_never sh w k e) sits.1)
    go (Some n) e =
        let is : offered_name sh least w ≡ offered n least = ap (λ o. option_map_or (λ number. offered number least) o least) e in
        subst (Sits (λ k. test k || is_at sh w k) sh from) (sym is) (taken n (name_at (names sh) w n e) (nat_le least.from n && option_map_or (λ best. nat_lt n best) least.best true) refl)

-- a test, or one of these names
abbrev tested : Shape → (ℕ → Bool) → List Name → ℕ → Bool
tested sh test [] k = test k
tested sh test (w ∷ ws) k = tested sh (λ k. test k || is_at sh w k) ws k

-- With names offered, what sits is the next that passes the test or is one of theirs.
sits_all : (sh : Shape) (test : ℕ → Bool) (from : ℕ) (ws : List Name) (least : Least) → Sits test sh from least → Sits (tested sh test ws) sh from (offered_all sh ws least)
sits_all sh test from [] least sits = sits
sits_all sh test from (w ∷ ws) least sits = sits_all sh (λ k. test k || is_at sh w k) from ws (offered_name sh least w) (sits_on sh test from least w sits)

-- A disjunction of three is the same from the left as from the right.
or_assoc : (a b c : Bool) → ((a || b) || c) ≡ (a || (b || c))
or_assoc true b c = refl
or_assoc false b c = refl

-- A test with names is passed where the test is or a name is met.
tested_any : (sh : Shape) (test : ℕ → Bool) (ws : List Name) (k : ℕ) → tested sh test ws k ≡ (test k || list_any (λ w. is_at sh w k) ws)
tested_any sh test [] k = sym (or_false (test k))
  where
    or_false : (a : Bool) → (a || false) ≡ a
    or_false true = refl
    or_false false = refl
tested_any sh test (w ∷ ws) k = tested_any sh (λ k. test k || is_at sh w k) ws k ∙ or_assoc (test k) (is_at sh w k) (list_any (λ w. is_at sh w k) ws)

-- the same next number for equal tests
pub next_same : (f g : ℕ → Bool) (from to : ℕ) (o : Option ℕ) → ((k : ℕ) → f k ≡ g k) → IsNext f from to o → IsNext g from to o
next_same f g from to None same is = λ k low high. sym (same k) ∙ is k low high
next_same f g from to (Some b) same is = (is.0, is.1, sym (same b) ∙ is.2, λ k low high. sym (same k) ∙ is.3 k low high)

-- Of names that are offered, the least number from one on is the next that has one of these names.
pub least_is_next : (sh : Shape) (from : ℕ) (ws : List Name)
    → IsNext (λ k. list_any (λ w. is_at sh w k) ws) from (length (names sh)) (offered_all sh ws (record { from = from; best = None })).best
least_is_next sh from ws =
    next_same (tested sh (λ k. false) ws) (λ k. list_any (λ w. is_at sh w k) ws) from (length (names sh)) (offered_all sh ws (record { from = from; best = None })).best
    (tested_any sh (λ k. false) ws)
    (sits_all sh (λ k. false) from ws (record { from = from; best = None }) (refl, λ k low high. refl)).1

-- offered one list behind another
pub offered_twice : (sh : Shape) (ws vs : List Name) (one two three : Least) → two ≡ offered_all sh ws one → three ≡ offered_all sh vs two → three ≡ offered_all sh (ws ++ vs) one
offered_twice sh ws vs one two three a b = b ∙ ap (offered_all sh vs) a ∙ sym (fold-append (offered_name sh) one ws vs)

-- ---- lists of names, one after another

-- the names of some things are offered one after another
pub offered_mapped : {X : Type 0} (sh : Shape) (f : X → Name) (xs : List X) (least : Least) → offered_all sh (map f xs) least ≡ fold (λ l x. offered_name sh l (f x)) least xs
offered_mapped sh f [] least = refl
offered_mapped sh f (x ∷ xs) least = offered_mapped sh f xs (offered_name sh least (f x))

-- one more of what an iterator yields
pub offered_behind : {X : Type 0} (sh : Shape) (f : X → Name) (xs : List X) (x : X) (least old new : Least)
    → old ≡ offered_all sh (map f xs) least → new ≡ offered_name sh old (f x) → new ≡ offered_all sh (map f (xs ++ x ∷ [])) least
offered_behind {X = X} sh f xs x least old new was step =
    let g : Least → X → Least = λ l y. offered_name sh l (f y) in
    step ∙ ap (λ l. offered_name sh l (f x)) (was ∙ offered_mapped sh f xs least)
    ∙ sym (fold-append g least xs (x ∷ []))
    ∙ sym (offered_mapped sh f (xs ++ x ∷ []) least)

-- the numbers below one more
range_next : (from n : ℕ) → range_with_len from (n + 1) ≡ range_with_len from n ++ (from + n) ∷ []
range_next from zero = ap (λ k. k ∷ []) (let e : from ≡ from + 0 = omega arith in e)
range_next from (suc n) = ap (range_with_len from) (let e : suc n + 1 ≡ suc (n + 1) = omega arith in e) ∙ ap (λ (ks : List ℕ). from ∷ ks) (range_next (from + 1) n ∙ ap (λ k. range_with_len (from + 1) n ++ k ∷ []) (let e : from + 1 + n ≡ from + suc n = omega arith in e))

below_next : (n : ℕ) → below (n + 1) ≡ below n ++ n ∷ []
below_next n = range_next 0 n ∙ ap (λ k. below n ++ k ∷ []) (let e : 0 + n ≡ n = omega arith in e)

-- one more of a range
pub offered_next : (sh : Shape) (f : ℕ → Name) (n : ℕ) (least old new : Least)
    → old ≡ offered_all sh (map f (below n)) least → new ≡ offered_name sh old (f n) → new ≡ offered_all sh (map f (below (n + 1))) least
offered_next sh f n least old new was step =
    offered_behind sh f (below n) n least old new was step
    ∙ ap (λ ns. offered_all sh (map f ns) least) (sym (below_next n))

-- the names of one more
pub offered_more : {X Y : Type 0} (sh : Shape) (f : Y → List Name) (g : X → Y) (xs : List X) (x : X) (least old new : Least)
    → old ≡ offered_all sh (flat_map f (map g xs)) least → new ≡ offered_all sh (f (g x)) old
    → new ≡ offered_all sh (flat_map f (map g (xs ++ x ∷ []))) least
offered_more sh f g xs x least old new was step =
    offered_twice sh (flat_map f (map g xs)) (f (g x)) least old new was step
    ∙ ap (λ ns. offered_all sh ns least) (sym (ap (flat_map f) (map-append g xs (x ∷ [])) ∙ flat_map-append f (map g xs) (g x ∷ []) ∙ ap (λ ns. flat_map f (map g xs) ++ ns) (append-nil (f (g x)))))

-- the names of one more item of a slice
pub offered_part : {X : Type 0} (sh : Shape) (f : X → List Name) (xs : List X) (i : ℕ) (d : X) (least old new : Least) → i < length xs
    → old ≡ offered_all sh (flat_map f (take i xs)) least → new ≡ offered_all sh (f (get_or xs i d)) old
    → new ≡ offered_all sh (flat_map f (take (i + 1) xs)) least
offered_part sh f xs i d least old new less was step =
    offered_twice sh (flat_map f (take i xs)) (f (get_or xs i d)) least old new was step
    ∙ ap (λ ns. offered_all sh ns least) (sym (ap (flat_map f) (take_more xs i d less) ∙ flat_map-append f (take i xs) (get_or xs i d ∷ []) ∙ ap (λ ns. flat_map f (take i xs) ++ ns) (append-nil (f (get_or xs i d)))))

-- the names of the keys of one more shard
pub offered_keys : (sh : Shape) (f : ℤ → List Name) (g : ℕ → List ℤ) (n : ℕ) (least old new : Least)
    → old ≡ offered_all sh (flat_map f (flat_map g (below n))) least → new ≡ offered_all sh (flat_map f (g n)) old
    → new ≡ offered_all sh (flat_map f (flat_map g (below (n + 1)))) least
offered_keys sh f g n least old new was step =
    offered_twice sh (flat_map f (flat_map g (below n))) (flat_map f (g n)) least old new was step
    ∙ ap (λ ns. offered_all sh ns least) (sym (ap (flat_map f) more ∙ flat_map-append f (flat_map g (below n)) (g n)))
  where
    more : flat_map g (below (n + 1)) ≡ flat_map g (below n) ++ g n
    more = ap (flat_map g) (below_next n) ∙ flat_map-append g (below n) (n ∷ []) ∙ ap (λ ks. flat_map g (below n) ++ ks) (append-nil (g n))
