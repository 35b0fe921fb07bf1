-- Parts that are marked by their names.
use Rattle.std.proofs.Common.{◌≡◌, ℕ, zero, suc, ◌+◌, ◌<◌, ◌≤◌, Bool, true, false, ◌||◌, List, [], ◌∷◌, ◌++◌, map, Option, None, Some, length, set, take, get_or, unwrap_or, refl, sym, ap, subst, ◌∙◌, cond, length-set, arith}
use mathlib.Core.Logic.{inl, inr}
use Rattle.std.specs.Prelude.{count_by, fold, slice_get}
use Rattle.std.specs.List.{flat_map, list_any}
use Rattle.std.proofs.lemmas.List.Folds.{list_any-append}
use Rattle.block_layout.specs.Place.{block_of}
use Rattle.core_laws.proofs.Events.States.{name_is}
use Rattle.core_laws.proofs.Frames.Looks.{name_self}
use Rattle.core_parts.proofs.Placing.{named_once}
use Rattle.core_parts.specs.Touched.{bodies_at}
use Rattle.event_spec.specs.Lawful.{Among}
use Rattle.event_spec.specs.Parts.{BodyOf, Name, Shape, names, same_name}
use Rattle.event_spec.specs.Touched.{passes_test}
use Rattle.hall_rule.proofs.Lists.{by_cases, get_set_else, get_set_here}
use Rattle.key_index.specs.Candidates.{IsInOrder}
use Rattle.shared_store.specs.Taking.{Marked, has_one, is_marked}

or_false : (a : Bool) → (a || false) ≡ a
or_false true = refl
or_false false = refl

or_true : (a : Bool) → (a || true) ≡ true
or_true true = refl
or_true false = refl

or_assoc : (a b c : Bool) → ((a || b) || c) ≡ (a || (b || c))
or_assoc true b c = refl
or_assoc false b c = refl

true_false : true ≡ false → ⊥
true_false e = cc

-- A name that stands at a place of a list is among it.
pub among_at : (ns : List Name) (k : ℕ) (w : Name) → slice_get ns k ≡ Some w → Among w ns
among_at [] k w is = cc
among_at (n ∷ ns) zero w is = inl (let e : n ≡ w = cc in sym e)
among_at (n ∷ ns) (suc k) w is = inr (among_at ns k w is)

-- whether the name of a number is this one
abbrev is_at : Shape → Name → ℕ → Bool
is_at sh w k = passes_test (same_name w) (slice_get (names sh) k)

-- the number at which the name stands
at_there : (sh : Shape) (w : Name) (n : ℕ) → slice_get (names sh) n ≡ Some w → is_at sh w n ≡ true
at_there sh w n at = ap (passes_test (same_name w)) at ∙ name_self w

-- a number is not a name's where that would stand there
not_at : (sh : Shape) (w : Name) (k : ℕ) → (slice_get (names sh) k ≡ Some w → ⊥) → is_at sh w k ≡ false
not_at sh w k never = go (slice_get (names sh) k) refl
  where
    some : (v : Name) → slice_get (names sh) k ≡ Some v → (b : Bool) → same_name w v ≡ b → b ≡ false
    some v e true is = absurd (never (e ∙ ap Some (sym (name_is w v is))))
    some v e false is = refl

    go : (o : Option Name) → slice_get (names sh) k ≡ o → is_at sh w k ≡ false
    go None e = ap (passes_test (same_name w)) e
    go (Some v) e = ap (passes_test (same_name w)) e ∙ some v e (same_name w v) refl

-- ---- one part

pub one_marked : (sh : Shape) (w : Name) (n : ℕ) (marks later : List Bool) → slice_get (names sh) n ≡ Some w → n < length marks → later ≡ set marks n true → Marked sh (w ∷ []) marks later
one_marked sh w n marks later at less is = record {
  room = ap length is ∙ length-set marks n true;
  marks = λ k low. ap (λ ms. is_marked ms k) is ∙ by_cases k n (is_marked (set marks n true) k ≡ (is_marked marks k || has_one sh (w ∷ []) k))
      (λ e. ap (is_marked (set marks n true)) e ∙ ap (λ o. unwrap_or o false) (get_set_here marks n true less)
      ∙ sym (ap (λ b. is_marked marks k || (b || false)) (ap (is_at sh w) e ∙ at_there sh w n at) ∙ or_true (is_marked marks k)))
      (λ ne. ap (λ o. unwrap_or o false) (get_set_else marks n k true ne)
      ∙ sym (ap (λ b. is_marked marks k || (b || false)) (not_at sh w k (λ there. ne (named_once sh k n w there at))) ∙ or_false (is_marked marks k)));
}

-- a part that there is not
pub none_marked : (sh : Shape) (w : Name) (marks : List Bool) → (Among w (names sh) → ⊥) → Marked sh (w ∷ []) marks marks
none_marked sh w marks away = record {
  room = refl;
  marks = λ k low. sym (ap (λ b. is_marked marks k || (b || false)) (not_at sh w k (λ there. away (among_at (names sh) k w there))) ∙ or_false (is_marked marks k));
}

-- ---- some parts

pub still_marked : (sh : Shape) (marks : List Bool) → Marked sh [] marks marks
still_marked sh marks = record { room = refl; marks = λ k low. sym (or_false (is_marked marks k)) }

pub marked_on : (sh : Shape) (ws vs : List Name) (one two three : List Bool) → Marked sh ws one two → Marked sh vs two three → Marked sh (ws ++ vs) one three
marked_on sh ws vs one two three a b = record {
  room = b.room ∙ a.room;
  marks = λ k low. b.marks k (let r = a.room in omega (arith, low, r)) ∙ ap (λ x. x || has_one sh vs k) (a.marks k low)
      ∙ or_assoc (is_marked one k) (has_one sh ws k) (has_one sh vs k)
      ∙ ap (λ x. is_marked one k || x) (sym (list_any-append (λ w. is_at sh w k) ws vs));
}

pub map-join : {X Y : Type 0} (f : X → Y) (xs ys : List X) → map f (xs ++ ys) ≡ map f xs ++ map f ys
map-join f [] ys = refl
map-join f (x ∷ xs) ys = ap (λ zs. f x ∷ zs) (map-join f xs ys)

flat-join : {X Y : Type 0} (f : X → List Y) (xs : List X) (x : X) → flat_map f (xs ++ x ∷ []) ≡ flat_map f xs ++ f x
flat-join f [] x = nil (f x)
  where
    nil : {Y : Type 0} (ys : List Y) → ys ++ [] ≡ ys
    nil [] = refl
    nil (y ∷ ys) = ap (λ zs. y ∷ zs) (nil ys)
flat-join f (y ∷ xs) x = ap (λ zs. f y ++ zs) (flat-join f xs x) ∙ sym (join (f y) (flat_map f xs) (f x))
  where
    join : {Y : Type 0} (us vs ws : List Y) → (us ++ vs) ++ ws ≡ us ++ (vs ++ ws)
    join [] vs ws = refl
    join (u ∷ us) vs ws = ap (λ zs. u ∷ zs) (join us vs ws)

-- one more of some things, each with one part
pub marked_behind : {X : Type 0} (sh : Shape) (f : X → Name) (xs : List X) (x : X) (one two three : List Bool)
    → Marked sh (map f xs) one two → Marked sh (f x ∷ []) two three → Marked sh (map f (xs ++ x ∷ [])) one three
marked_behind sh f xs x one two three a b =
    subst (λ ws. Marked sh ws one three) (sym (map-join f xs (x ∷ []))) (marked_on sh (map f xs) (f x ∷ []) one two three a b)

-- and each with several
pub marked_flat : {X : Type 0} (sh : Shape) (f : X → List Name) (xs : List X) (x : X) (one two three : List Bool)
    → Marked sh (flat_map f xs) one two → Marked sh (f x) two three → Marked sh (flat_map f (xs ++ x ∷ [])) one three
marked_flat sh f xs x one two three a b =
    subst (λ ws. Marked sh ws one three) (sym (flat-join f xs x)) (marked_on sh (flat_map f xs) (f x) one two three a b)

-- and behind others each with several things, each of which has several parts
pub marked_within : {X Y : Type 0} (sh : Shape) (front : List Name) (f : Y → List Name) (g : X → List Y) (xs : List X) (x : X) (one two three : List Bool)
    → Marked sh (front ++ flat_map f (flat_map g xs)) one two → Marked sh (flat_map f (g x)) two three → Marked sh (front ++ flat_map f (flat_map g (xs ++ x ∷ []))) one three
marked_within {X} {Y} sh front f g xs x one two three a b = subst (λ ws. Marked sh ws one three)
    (join front (flat_map f (flat_map g xs)) (flat_map f (g x)) ∙ ap (λ ws. front ++ ws) (sym (both (flat_map g xs) (g x)) ∙ ap (flat_map f) (sym (flat-join g xs x))))
    (marked_on sh (front ++ flat_map f (flat_map g xs)) (flat_map f (g x)) one two three a b)
  where
    join : (us vs ws : List Name) → (us ++ vs) ++ ws ≡ us ++ (vs ++ ws)
    join [] vs ws = refl
    join (u ∷ us) vs ws = ap (λ zs. u ∷ zs) (join us vs ws)

    both : (ys zs : List Y) → flat_map f (ys ++ zs) ≡ flat_map f ys ++ flat_map f zs
    both [] zs = refl
    both (y ∷ ys) zs = ap (λ ws. f y ++ ws) (both ys zs) ∙ sym (join (f y) (flat_map f ys) (flat_map f zs))

-- the first so many and the next
pub take_next : {X : Type 0} (xs : List X) (i : ℕ) (x : X) → i < length xs → x ≡ get_or xs i x → take (i + 1) xs ≡ take i xs ++ x ∷ []
take_next [] i x less is = absurd (omega (arith, less))
take_next (y ∷ xs) zero x less is = ap (λ z. z ∷ []) (sym is)
take_next (y ∷ xs) (suc i) x less is =
    ap (λ k. take k (y ∷ xs)) (let e : suc i + 1 ≡ suc (i + 1) = omega arith in e) ∙ ap (λ zs. y ∷ zs) (take_next xs i x (omega (arith, less)) is)

pub take_whole : {X : Type 0} (xs : List X) (i : ℕ) → length xs ≤ i → take i xs ≡ xs
take_whole [] zero low = refl
take_whole [] (suc i) low = refl
take_whole (x ∷ xs) zero low = absurd (omega (arith, low))
take_whole (x ∷ xs) (suc i) low = ap (λ zs. x ∷ zs) (take_whole xs i (omega (arith, low)))

-- what stands at a number, whatever stands for it beyond the list
default : {X : Type 0} (xs : List X) (i : ℕ) (d e : X) → i < length xs → get_or xs i d ≡ get_or xs i e
default [] i d e less = absurd (omega (arith, less))
default (x ∷ xs) zero d e less = refl
default (x ∷ xs) (suc i) d e less = default xs i d e (omega (arith, less))

-- the next of a list, each with several parts
pub marked_next : {X : Type 0} (sh : Shape) (f : X → List Name) (xs : List X) (i : ℕ) (d : X) (one two three : List Bool) → i < length xs
    → Marked sh (flat_map f (take i xs)) one two → Marked sh (f (get_or xs i d)) two three → Marked sh (flat_map f (take (i + 1) xs)) one three
marked_next {X} sh f xs i d one two three less a b = subst (λ (ys : List X). Marked sh (flat_map f ys) one three)
    (sym (take_next xs i (get_or xs i d) less (default xs i d (get_or xs i d) less))) (marked_flat sh f (take i xs) (get_or xs i d) one two three a b)

-- ---- places in order

any_counted : (test : ℕ → Bool) (xs ys : List ℕ) → count_by test xs ≡ count_by test ys → list_any test xs ≡ list_any test ys
any_counted test xs ys same = sym (counted 0 xs) ∙ ap some same ∙ counted 0 ys
  where
    some : ℕ → Bool
    some zero = false
    some (suc n) = true

    step : (n : ℕ) (b rest : Bool) → (some (n + cond b 1 0) || rest) ≡ (some n || (b || rest))
    step n true rest = ap (λ m. some m || rest) (let e : n + 1 ≡ suc n = omega arith in e) ∙ sym (or_true (some n))
    step n false rest = ap (λ m. some m || rest) (let e : n + 0 ≡ n = omega arith in e)

    counted : (n : ℕ) (xs : List ℕ) → some (fold (λ a x. a + cond (test x) 1 0) n xs) ≡ (some n || list_any test xs)
    counted n [] = sym (or_false (some n))
    counted n (x ∷ xs) = counted (n + cond (test x) 1 0) xs ∙ step n (test x) (list_any test xs)

any_mapped : {X Y : Type 0} (test : Y → Bool) (f : X → Y) (xs : List X) → list_any test (map f xs) ≡ list_any (λ x. test (f x)) xs
any_mapped test f [] = refl
any_mapped test f (x ∷ xs) = ap (λ b. test (f x) || b) (any_mapped test f xs)

pub order_marked : (sh : Shape) (table : ℕ) (places ascending : List ℕ) (one two : List Bool) → IsInOrder places ascending → Marked sh (bodies_at table ascending) one two → Marked sh (bodies_at table places) one two
order_marked sh table places ascending one two order marked = record {
  room = marked.room;
  marks = λ k low. marked.marks k low ∙ ap (λ b. is_marked one k || b)
      (any_mapped (λ w. is_at sh w k) (λ place. BodyOf table (block_of place)) ascending
      ∙ any_counted (λ place. is_at sh (BodyOf table (block_of place)) k) ascending places (order.same (λ place. is_at sh (BodyOf table (block_of place)) k))
      ∙ sym (any_mapped (λ w. is_at sh w k) (λ place. BodyOf table (block_of place)) places));
}
