-- The least of the parts at spots stands for all of them.
use Rattle.std.proofs.Common.{◌≡◌, ℕ, zero, suc, ◌+◌, ◌<◌, ◌≤◌, Bool, true, false, cond, ◌&&◌, List, [], ◌∷◌, map, Option, None, Some, length, get_or, nat_le, nat_lt, refl, sym, ap, ◌∙◌, arith}
use mathlib.Core.Logic.{inl, inr}
use Rattle.std.specs.Prelude.{slice_get}
use Rattle.std.specs.Option.{option_map_or}
use Rattle.std.specs.List.Sorted.{IsNonDecreasing, IsPermutation}
use Rattle.std.specs.Prelude.{Contains}
use Rattle.std.proofs.lemmas.Bool.Decides.{nat_tests}
use Rattle.std.proofs.lemmas.List.Sorted.{Contains-permutation, IsPermutation-sym}
use Rattle.core_parts.specs.declared.least.Least.{Least}
use Rattle.core_parts.specs.declared.written.PartKind.{PartKind}
use Rattle.core_laws.specs.Words.Words.{number_among}
use Rattle.core_parts.specs.Least.{offered, offered_all, offered_name}
use Rattle.core_parts.specs.Written.{IsFirstSpot, IsLeastOn, name_on}
use Rattle.core_laws.proofs.Words.Numbers.{name_at, number_at}
use Rattle.core_parts.proofs.Numbered.{offered_there}
use Rattle.core_parts.proofs.Spots.{spots_rise}
use Rattle.event_spec.specs.Lawful.{Among}
use Rattle.event_spec.specs.Parts.{Name, Shape, names}

-- ---- the order in which numbers are offered is all the same

-- whether a number takes the seat
abbrev takes : ℕ → ℕ → Option ℕ → Bool
takes from n best = nat_le from n && option_map_or (λ b. nat_lt n b) best true

-- What sits when a number was offered: the number if it takes the seat.
abbrev seated : ℕ → ℕ → Option ℕ → Option ℕ
seated from n best = cond (takes from n best) (Some n) best

-- An offered number changes only what sits.
offered_is : (n : ℕ) (least : Least) → offered n least ≡ record { from = least.from; best = seated least.from n least.best }
offered_is n least = go (takes least.from n least.best) refl
  where
    go : (b : Bool) → takes least.from n least.best ≡ b → offered n least ≡ record { from = least.from; best = seated least.from n least.best }
    go true e = ap (λ c. cond c (record least { best = Some n }) least) e ∙ ap (λ c. record { from = least.from; best = cond c (Some n) least.best }) (sym e)
    go false e = ap (λ c. cond c (record least { best = Some n }) least) e ∙ ap (λ c. record { from = least.from; best = cond c (Some n) least.best }) (sym e)

-- What sits is the same in whichever order two numbers were offered.
seated_turned : (from m n : ℕ) (best : Option ℕ) → seated from m (seated from n best) ≡ seated from n (seated from m best)
seated_turned from m n None = grind (arith, nat_tests)
seated_turned from m n (Some b) = grind (arith, nat_tests)

-- What sits is the same when a number was offered once more.
seated_again : (from n : ℕ) (best : Option ℕ) → seated from n (seated from n best) ≡ seated from n best
seated_again from n None = grind (arith, nat_tests)
seated_again from n (Some b) = grind (arith, nat_tests)

-- A number before the first one takes no seat.
seated_low : (from n : ℕ) (best : Option ℕ) → n < from → seated from n best ≡ best
seated_low from n best low = ap (λ c. cond (c && option_map_or (λ b. nat_lt n b) best true) (Some n) best) (not_le from n low)
  where
    not_le : (a b : ℕ) → b < a → nat_le a b ≡ false
    not_le a b l = grind (arith, nat_tests)

-- A number that is not below one that was offered takes no seat.
seated_behind : (from m n : ℕ) (best : Option ℕ) → from ≤ m → m ≤ n → seated from n (seated from m best) ≡ seated from m best
seated_behind from m n None low le = grind (arith, nat_tests)
seated_behind from m n (Some b) low le = grind (arith, nat_tests)

-- Two numbers may be offered in either order.
turned : (m n : ℕ) (least : Least) → offered m (offered n least) ≡ offered n (offered m least)
turned m n least =
    ap (offered m) (offered_is n least) ∙ offered_is m (record { from = least.from; best = seated least.from n least.best })
    ∙ ap (λ o. record { from = least.from; best = o }) (seated_turned least.from m n least.best)
    ∙ sym (ap (offered n) (offered_is m least) ∙ offered_is n (record { from = least.from; best = seated least.from m least.best }))

-- A number that is offered twice is as if it was offered once.
again : (n : ℕ) (least : Least) → offered n (offered n least) ≡ offered n least
again n least =
    ap (offered n) (offered_is n least) ∙ offered_is n (record { from = least.from; best = seated least.from n least.best })
    ∙ ap (λ o. record { from = least.from; best = o }) (seated_again least.from n least.best)
    ∙ sym (offered_is n least)

-- To offer a number before the first one changes nothing.
pub low_none : (n : ℕ) (least : Least) → n < least.from → offered n least ≡ least
low_none n least low = offered_is n least ∙ ap (λ o. record { from = least.from; best = o }) (seated_low least.from n least.best low)

-- To offer a number not below one that was offered changes nothing.
pub behind_none : (m n : ℕ) (least : Least) → least.from ≤ m → m ≤ n → offered n (offered m least) ≡ offered m least
behind_none m n least low le =
    ap (offered n) (offered_is m least) ∙ offered_is n (record { from = least.from; best = seated least.from m least.best })
    ∙ ap (λ o. record { from = least.from; best = o }) (seated_behind least.from m n least.best low le)
    ∙ sym (offered_is m least)

-- To offer one before the first changes nothing behind another either.
pub outside_none : (m n : ℕ) (least : Least) → n < least.from → offered n (offered m least) ≡ offered m least
outside_none m n least low = turned n m least ∙ ap (offered m) (low_none n least low)

-- a number that is offered, if there is one
abbrev step : Option ℕ → Least → Least
step o least = option_map_or (λ number. offered number least) o least

-- Two numbers, where there are such, may be offered in either order.
step_turned : (o p : Option ℕ) (least : Least) → step p (step o least) ≡ step o (step p least)
step_turned None p least = refl
step_turned (Some m) None least = refl
step_turned (Some m) (Some n) least = turned n m least

-- A number, where there is one, is offered twice as if once.
step_again : (o : Option ℕ) (least : Least) → step o (step o least) ≡ step o least
step_again None least = refl
step_again (Some m) least = again m least

module _ (sh : Shape) where
  -- The parts of two names may be offered in either order.
  name_turned : (least : Least) (w v : Name) → offered_name sh (offered_name sh least w) v ≡ offered_name sh (offered_name sh least v) w
  name_turned least w v = step_turned (number_among (names sh) w) (number_among (names sh) v) least

  -- The part of a name that is offered twice is as if it was offered once.
  name_again : (least : Least) (w : Name) → offered_name sh (offered_name sh least w) w ≡ offered_name sh least w
  name_again least w = step_again (number_among (names sh) w) least

  -- The part of one name may be offered before those of others or after them.
  all_after : (ws : List Name) (least : Least) (w : Name) → offered_all sh ws (offered_name sh least w) ≡ offered_name sh (offered_all sh ws least) w
  all_after [] least w = refl
  all_after (v ∷ ws) least w = ap (offered_all sh ws) (name_turned least w v) ∙ all_after ws (offered_name sh least v) w

  -- a name among those that are offered may be offered before them
  pub absorbed : (ws : List Name) (least : Least) (w : Name) → Among w ws → offered_all sh ws (offered_name sh least w) ≡ offered_all sh ws least
  absorbed [] least w a = absurd a
  absorbed (v ∷ ws) least w (inl e) =
      ap (λ x. offered_all sh ws (offered_name sh (offered_name sh least x) v)) e ∙ ap (offered_all sh ws) (name_again least v)
  absorbed (v ∷ ws) least w (inr a) = ap (offered_all sh ws) (name_turned least w v) ∙ absorbed ws (offered_name sh least v) w a

  -- The parts of two lists of names may be offered in either order.
  all_turned : (ws vs : List Name) (least : Least) → offered_all sh ws (offered_all sh vs least) ≡ offered_all sh vs (offered_all sh ws least)
  all_turned ws [] least = refl
  all_turned ws (v ∷ vs) least = all_turned ws vs (offered_name sh least v) ∙ ap (offered_all sh vs) (all_after ws least v)

  -- To offer parts in front of a list that has their names changes nothing.
  all_absorbed : (ws vs : List Name) (least : Least) → ((w : Name) → Among w vs → Among w ws) → offered_all sh ws (offered_all sh vs least) ≡ offered_all sh ws least
  all_absorbed ws [] least each = refl
  all_absorbed ws (v ∷ vs) least each = all_absorbed ws vs (offered_name sh least v) (λ w a. each w (inr a)) ∙ absorbed ws least v (each v (inl refl))

  -- the same names in whatever order offer the same
  pub same_names : (ws vs : List Name) (least : Least) → ((w : Name) → Among w vs → Among w ws) → ((w : Name) → Among w ws → Among w vs)
      → offered_all sh ws least ≡ offered_all sh vs least
  same_names ws vs least here there =
      sym (all_absorbed ws vs least here) ∙ all_turned ws vs least ∙ all_absorbed vs ws least there

  -- in any order the same least number is offered
  pub permuted : (ws vs : List Name) (least : Least) → IsPermutation ws vs → offered_all sh ws least ≡ offered_all sh vs least
  permuted ws vs least moved = same_names ws vs least
      (λ w a. among ws w (Contains-permutation vs ws w (IsPermutation-sym ws vs moved) (contains vs w a)))
      (λ w a. among vs w (Contains-permutation ws vs w moved (contains ws w a)))
    where
      contains : (ws : List Name) (w : Name) → Among w ws → Contains ws w
      contains [] w a = absurd a
      contains (v ∷ ws) w (inl e) = (0, omega arith, sym e)
      contains (v ∷ ws) w (inr a) = let r = contains ws w a in let l = r.1 in (suc r.0, omega (arith, l), r.2)

      at : (ws : List Name) (w : Name) (k : ℕ) → k < length ws → get_or ws k w ≡ w → Among w ws
      at [] w k l is = absurd (omega (arith, l))
      at (v ∷ ws) w zero l is = inl (sym is)
      at (v ∷ ws) w (suc k) l is = inr (at ws w k (omega (arith, l)) is)

      among : (ws : List Name) (w : Name) → Contains ws w → Among w ws
      among ws w c = at ws w c.0 c.1 c.2

  -- ---- the least of the parts at spots

  -- Where the part at each spot changes nothing, those at all spots change nothing.
  settled : (kind : PartKind) (xs : List ℕ) (least : Least) → ((k : ℕ) → k < length xs → offered_name sh least (name_on kind (get_or xs k 0)) ≡ least)
      → offered_all sh (map (name_on kind) xs) least ≡ least
  settled kind [] least each = refl
  settled kind (x ∷ xs) least each =
      ap (offered_all sh (map (name_on kind) xs)) (each 0 (omega arith)) ∙ settled kind xs least (λ k l. each (suc k) (omega (arith, l)))

  -- The name at a spot is among the names at all spots.
  among_mapped : (kind : PartKind) (xs : List ℕ) (k : ℕ) → k < length xs → Among (name_on kind (get_or xs k 0)) (map (name_on kind) xs)
  among_mapped kind [] k l = absurd (omega (arith, l))
  among_mapped kind (x ∷ xs) zero l = inl refl
  among_mapped kind (x ∷ xs) (suc k) l = inr (among_mapped kind xs k (omega (arith, l)))

  -- an offer of a name changes nothing if one of its number would not
  pub unless : (w : Name) (least : Least) → ((n : ℕ) → slice_get (names sh) n ≡ Some w → offered n least ≡ least) → offered_name sh least w ≡ least
  unless w least each = go (number_among (names sh) w) refl
    where
      go : (o : Option ℕ) → number_among (names sh) w ≡ o → offered_name sh least w ≡ least
      go None e = ap (λ o. step o least) e
      go (Some n) e = ap (λ o. step o least) e ∙ each n (name_at (names sh) w n e)

  -- where no part at the spots has a number from the first one on, nothing is offered
  pub none_offered : (kind : PartKind) (xs : List ℕ) (least : Least) → IsLeastOn kind sh least.from xs None → offered_all sh (map (name_on kind) xs) least ≡ least
  none_offered kind xs least is = settled kind xs least (λ k l. unless (name_on kind (get_or xs k 0)) least (λ n at. low_none n least (is k n l at)))

  -- the least of the parts at the spots is offered for all of them
  pub least_offered : (kind : PartKind) (xs : List ℕ) (least : Least) (m : ℕ) → IsLeastOn kind sh least.from xs (Some m) → offered_all sh (map (name_on kind) xs) least ≡ offered m least
  least_offered kind xs least m is =
      let k = is.1.0 in
      let w = name_on kind (get_or xs k 0) in
      sym (absorbed (map (name_on kind) xs) least w (among_mapped kind xs k is.1.1))
      ∙ ap (offered_all sh (map (name_on kind) xs)) (offered_there sh least w m is.1.2)
      ∙ settled kind xs (offered m least) (λ j l. unless (name_on kind (get_or xs j 0)) (offered m least) (λ n at. apart n (is.2 j n l at) (nat_le least.from n) refl))
    where
      le_of : (a b : ℕ) → nat_le a b ≡ true → a ≤ b
      le_of a b e = grind (arith, nat_tests)

      lt_of : (a b : ℕ) → nat_le a b ≡ false → b < a
      lt_of a b e = grind (arith, nat_tests)

      apart : (n : ℕ) → (least.from ≤ n → m ≤ n) → (b : Bool) → nat_le least.from n ≡ b → offered n (offered m least) ≡ offered m least
      apart n high true e = behind_none m n least is.0 (high (le_of least.from n e))
      apart n high false e = outside_none m n least (lt_of least.from n e)

  -- ---- one spot after another

  -- the parts at the first spots have numbers below
  abbrev pub ArePassed : PartKind → ℕ → List ℕ → ℕ → Type 0
  ArePassed kind from xs i = (k n : ℕ) → k < i → slice_get (names sh) n ≡ Some (name_on kind (get_or xs k 0)) → n < from

  -- spots below the first that counts are passed
  pub passed_first : (kind : PartKind) (from first : ℕ) (xs : List ℕ) (i : ℕ) → IsFirstSpot kind sh from first → ((k : ℕ) → k < i → get_or xs k 0 < first) → ArePassed kind from xs i
  passed_first kind from first xs i is low k n l at = (is (get_or xs k 0) n at).0 (low k l)

  -- a spot without a part is passed
  pub passed_more : (kind : PartKind) (from : ℕ) (xs : List ℕ) (i : ℕ) → ArePassed kind from xs i → number_among (names sh) (name_on kind (get_or xs i 0)) ≡ None → ArePassed kind from xs (i + 1)
  passed_more kind from xs i passed none k n l at = go (nat_lt k i) refl
    where
      below : (a b : ℕ) → nat_lt a b ≡ true → a < b
      below a b e = grind (arith, nat_tests)

      last : (a b : ℕ) → nat_lt a b ≡ false → a < b + 1 → a ≡ b
      last a b e l = grind (arith, nat_tests)

      go : (b : Bool) → nat_lt k i ≡ b → n < from
      go true e = passed k n (below k i e) at
      go false e =
          let same = last k i e l in
          let some : number_among (names sh) (name_on kind (get_or xs i 0)) ≡ Some n =
          number_at sh n (name_on kind (get_or xs i 0)) (at ∙ ap (λ j. Some (name_on kind (get_or xs j 0))) same) in
          let never : None ≡ Some n = sym none ∙ some in cc

  -- the part at the first spot that has one is the least
  pub found : (kind : PartKind) (from first : ℕ) (xs : List ℕ) (i m : ℕ) → IsNonDecreasing xs → IsFirstSpot kind sh from first → ArePassed kind from xs i → i < length xs
      → first ≤ get_or xs i 0 → number_among (names sh) (name_on kind (get_or xs i 0)) ≡ Some m → IsLeastOn kind sh from xs (Some m)
  found kind from first xs i m rise is passed less high some = (low, (i, less, at), rest)
    where
      at : slice_get (names sh) m ≡ Some (name_on kind (get_or xs i 0))
      at = name_at (names sh) (name_on kind (get_or xs i 0)) m some

      low : from ≤ m
      low = (is (get_or xs i 0) m at).1 high

      below : (a b : ℕ) → nat_lt a b ≡ true → a < b
      below a b e = grind (arith, nat_tests)

      above : (a b : ℕ) → nat_lt a b ≡ false → b ≤ a
      above a b e = grind (arith, nat_tests)

      rest : (k n : ℕ) → k < length xs → slice_get (names sh) n ≡ Some (name_on kind (get_or xs k 0)) → from ≤ n → m ≤ n
      rest k n l here le = go (nat_lt k i) refl
        where
          go : (b : Bool) → nat_lt k i ≡ b → m ≤ n
          go true e = let under = passed k n (below k i e) here in absurd (omega (arith, under, le))
          go false e = spots_rise sh kind (get_or xs i 0) (get_or xs k 0) m n (rise i k 0 (above k i e) l) at here
