-- The last of the later commits that pass a test, by the write sets behind a snapshot.
use Rattle.std.proofs.Common.{◌≡◌, ℕ, ◌+◌, ◌-◌, ◌≤◌, nat_lt, zero, suc, Bool, true, false, cond, ◌&&◌, List, [], ◌∷◌, ◌++◌, length, drop, get_or, Option, None, Some, refl, sym, ap, ◌∙◌, subst, arith, append_assoc}
use Rattle.std.specs.Option.{option_or}
use Rattle.std.specs.List.{filter, last_or, range_with_len}
use Rattle.std.proofs.lemmas.Bool.Decides.{nat_tests}
use Rattle.std.proofs.lemmas.List.{length_push, get_or-append-add}
use Rattle.isolation_spec.specs.Contents.{WriteSet, History}
use Rattle.isolation_spec.specs.declared.place.Place.{Place}
use Rattle.isolation_spec.specs.Machine.{writes_place, later_commits, later_writers}

-- the number of the last of these write sets that passes the test, where the first has number `at`
abbrev pub last_passing : (WriteSet → Bool) → ℕ → List WriteSet → Option ℕ
last_passing test at [] = None
last_passing test at (writes ∷ later) = option_or (last_passing test (at + 1) later) (cond (test writes) (Some at) None)

-- that of the last that has the place
abbrev pub last_writer : Place → ℕ → List WriteSet → Option ℕ
last_writer place = last_passing (writes_place place)

-- nothing to fall back on changes nothing
pub nothing-more : {X : Type 0} (o : Option X) → option_or o None ≡ o
nothing-more None = refl
nothing-more (Some x) = refl

-- with one to fall back on, no other is taken
pub over : {X : Type 0} (a : Option X) (x : X) (o : Option X) → option_or (option_or a (Some x)) o ≡ option_or a (Some x)
over None x o = refl
over (Some y) x o = refl

module _ (history : History) (n : ℕ) (test : WriteSet → Bool) where
  -- Whether the commit of a number is above the snapshot and passes.
  abbrev is_later : ℕ → Bool
  is_later k = nat_lt n k && test (get_or history (k - 1) [])

  -- The write set of the number behind a front of the history is the first behind that front.
  its-set : (front : List WriteSet) (w : WriteSet) (rest : List WriteSet) → history ≡ front ++ w ∷ rest → get_or history ((length front + 1) - 1) [] ≡ w
  its-set front w rest whole =
      let e : (length front + 1) - 1 ≡ length front + 0 = omega arith in
      ap (λ (i : ℕ). get_or history i []) e ∙ ap (λ (h : History). get_or h (length front + 0) []) whole ∙ get_or-append-add front (w ∷ rest) 0 []

  -- The history parts as well behind the first write set of the rest.
  moved-on : (front : List WriteSet) (w : WriteSet) (rest : List WriteSet) → history ≡ front ++ w ∷ rest → history ≡ (front ++ w ∷ []) ++ rest
  moved-on front w rest whole = whole ∙ sym (append_assoc front (w ∷ []) rest)

  -- of the numbers above the snapshot
  last-step : (at : ℕ) (o : Option ℕ) (has : Bool) (w : WriteSet) (rest : List WriteSet) → is_later at ≡ has → test w ≡ has
      → ((o : Option ℕ) → last_or o (filter is_later (range_with_len (at + 1) (length rest))) ≡ option_or (last_passing test (at + 1) rest) o)
      → last_or o (filter is_later (range_with_len at (suc (length rest)))) ≡ option_or (last_passing test at (w ∷ rest)) o
  last-step at o true w rest is is_w h = rw (is, is_w) (h (Some at) ∙ sym (over (last_passing test (at + 1) rest) at o))
  last-step at o false w rest is is_w h = rw (is, is_w) (h o ∙ ap (λ (l : Option ℕ). option_or l o) (sym (nothing-more (last_passing test (at + 1) rest))))

  -- Above the snapshot, the last later commit that passes is the last write set that does.
  last-above : (front sets : List WriteSet) (o : Option ℕ) → history ≡ front ++ sets → n ≤ length front
      → last_or o (filter is_later (range_with_len (length front + 1) (length sets))) ≡ option_or (last_passing test (length front + 1) sets) o
  last-above front [] o whole low = refl
  last-above front (w ∷ rest) o whole low =
      let at = length front + 1 in
      let above : nat_lt n at ≡ true = grind (arith, nat_tests, low) in
      let is : is_later at ≡ test w = ap (λ (b : Bool). b && test (get_or history (at - 1) [])) above ∙ ap (test) (its-set front w rest whole) in
      let longer : length (front ++ w ∷ []) ≡ length front + 1 = length_push front w in
      last-step at o (test w) w rest is refl (λ o.
      subst (λ (l : ℕ). last_or o (filter is_later (range_with_len (l + 1) (length rest))) ≡ option_or (last_passing test (l + 1) rest) o) longer
      (last-above (front ++ w ∷ []) rest o (moved-on front w rest whole) (omega (arith, low, longer))))

  -- the numbers up to the snapshot are none
  last-from : (left : ℕ) (front sets : List WriteSet) → history ≡ front ++ sets → n ≡ length front + left
      → last_or None (filter is_later (range_with_len (length front + 1) (length sets))) ≡ last_passing test (n + 1) (drop left sets)
  last-from zero front sets whole is =
      let same : length front ≡ n = omega (arith, is) in
      last-above front sets None whole (omega (arith, is)) ∙ nothing-more (last_passing test (length front + 1) sets) ∙ ap (λ (k : ℕ). last_passing test (k + 1) sets) same
  last-from (suc left) front [] whole is = refl
  last-from (suc left) front (w ∷ rest) whole is =
      let at = length front + 1 in
      let below : nat_lt n at ≡ false = grind (arith, nat_tests, is) in
      let longer : length (front ++ w ∷ []) ≡ length front + 1 = length_push front w in
      let later = last-from left (front ++ w ∷ []) rest (moved-on front w rest whole) (omega (arith, is, longer)) in
      rw below (subst (λ (l : ℕ). last_or None (filter is_later (range_with_len (l + 1) (length rest))) ≡ last_passing test (n + 1) (drop left rest)) longer later)

  -- The last of the later commits that pass is the last of the write sets behind the snapshot that
  -- does.
  pub last-commit : last_or None (later_commits history n test) ≡ last_passing test (n + 1) (drop n history)
  last-commit = last-from n [] history refl (omega arith)

-- The last of the later writers is the last of the write sets behind the snapshot that has the
-- place.
pub last-later : (history : History) (n : ℕ) (place : Place) → last_or None (later_writers history n place) ≡ last_writer place (n + 1) (drop n history)
last-later history n place = last-commit history n (writes_place place)
