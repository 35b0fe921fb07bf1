-- A write more of an owner is kept beside the others.
use Rattle.std.proofs.Common.{◌≡◌, ℕ, ◌+◌, ◌-◌, nat_le, Bool, true, false, cond, ◌&&◌, eqb, List, [], ◌∷◌, ◌++◌, length, None, refl, sym, ap, ◌∙◌, subst, arith, append-nil}
use Rattle.std.specs.Cmp.{eq_by_cmp_equiv}
use Rattle.std.specs.List.{filter, last_or, list_all}
use Rattle.std.specs.List.Sorted.{IsNonDecreasing, IsNonDecreasingBy}
use Rattle.std.specs.Ordering.{int_cmp, nat_cmp, is_eq, ordering_then}
use Rattle.std.specs.declared.cmp.Ordering.{Ordering}
use Rattle.std.specs.Prelude.{is_some, option_map, if◌then◌else◌}
use Rattle.std.proofs.lemmas.Bool.{and_parts, eq-eqb}
use Rattle.std.proofs.lemmas.Bool.Decides.{nat_tests}
use Rattle.std.proofs.lemmas.List.Elements.{filter-append}
use Rattle.std.proofs.lemmas.List.Folds.{list_all-append}
use Rattle.std.proofs.lemmas.List.Sorted.{IsNonDecreasingBy-push}
use Rattle.isolation_spec.specs.Contents.{is_place, at_place, State, with_write}
use Rattle.isolation_spec.specs.declared.place.Place.{Place}
use Rattle.isolation_laws.proofs.Rows.{place_cmp-total}
use Rattle.mark_index.specs.Lists.{marks_at, with_mark}
use Rattle.mark_index.proofs.Noted.{all-weaker, count-push, all-get, filter-all, last-push}
use Rattle.outcome_counts.proofs.Keyed.{nat-same, then-same}
use Rattle.si_machine.specs.Kept.{Rises}
use Rattle.outcome_judge.specs.Spots.{row_at}
use Rattle.outcome_judge.specs.Timed.{TimedWrite, after_writes, left_at, up_to, rows_in, gains, loses}
use Rattle.outcome_judge.specs.HistoryKept.{AreKept, IsNoted, spot_cmp, shelf_cmp, spot_of, shelf_of, place_in, count_up_to, with_time, row_left, row_up_to, with_one, write_noted}
use Rattle.outcome_judge.specs.declared.keys.Spot.{Spot}
use Rattle.outcome_judge.specs.declared.keys.Shelf.{Shelf}
use Rattle.outcome_judge.specs.declared.writes.Left.{Left}
use Rattle.outcome_judge.specs.declared.writes.Writes.{Writes}
use Rattle.outcome_judge.proofs.Laid.{rises-after, after-append}
use Rattle.outcome_judge.proofs.Rows.{rows-write}

-- ---- one more behind a list

-- what passes with one element more
pub filter-push : {X : Type 0} (p : X → Bool) (xs : List X) (x : X) → filter p (xs ++ x ∷ []) ≡ filter p xs ++ cond (p x) (x ∷ []) []
filter-push p xs x = filter-append p xs (x ∷ [])

-- Elements that rise by their times do so with one more, if put, that is no earlier.
rise-by : {X : Type 0} (time : X → ℕ) (put : Bool) (x : X) (xs : List X) → (put ≡ true → list_all (λ y. nat_le (time y) (time x)) xs ≡ true)
    → IsNonDecreasingBy time xs → IsNonDecreasingBy time (with_mark put x xs)
rise-by time true x xs within rise = IsNonDecreasingBy-push time xs x rise
    (λ d some. let last = all-get (λ y. nat_le (time y) (time x)) xs (length xs - 1) d (omega (arith, some)) (within refl) in grind (arith, nat_tests, last))
rise-by time false x xs within rise = rise

-- Where all elements pass, and one more if it is put, all of them with it do.
within-by : {X : Type 0} (p : X → Bool) (put : Bool) (x : X) (xs : List X) → list_all p xs ≡ true → (put ≡ true → p x ≡ true) → list_all p (with_mark put x xs) ≡ true
within-by p true x xs h one = list_all-append p xs (x ∷ []) ∙ rw (h, one refl) refl
within-by p false x xs h one = h

-- ---- keys

-- Of three conditions together the first and the last may change places.
turned : (a b c : Bool) → (a && (b && c)) ≡ (c && (b && a))
turned false false false = refl
turned false false true = refl
turned false true false = refl
turned false true true = refl
turned true false false = refl
turned true false true = refl
turned true true false = refl
turned true true true = refl

-- Three comparisons in turn are equal where the last is, and the second and first in turn are.
then-turned : (a b c : Ordering) → is_eq (ordering_then a (ordering_then b c)) ≡ (is_eq c && is_eq (ordering_then b a))
then-turned a b c =
    then-same a (ordering_then b c)
    ∙ ap (λ (t : Bool). is_eq a && t) (then-same b c)
    ∙ turned (is_eq a) (is_eq b) (is_eq c)
    ∙ ap (λ (t : Bool). is_eq c && t) (sym (then-same b a))

-- The places of owners' rows compare as one where the owners are equal and the places are one.
spot-same : (a b : Spot) → is_eq (spot_cmp a b) ≡ (eqb a.owner b.owner && is_place (place_in (row_at a)) (place_in (row_at b)))
spot-same a b =
    then-turned (int_cmp a.key b.key) (nat_cmp a.table b.table) (nat_cmp a.owner b.owner)
    ∙ ap (λ (t : Bool). t && is_place (place_in (row_at a)) (place_in (row_at b))) (nat-same a.owner b.owner)

-- The tables of owners compare as one where the owners and the tables are equal.
shelf-same : (a b : Shelf) → is_eq (shelf_cmp a b) ≡ (eqb a.owner b.owner && eqb a.table b.table)
shelf-same a b =
    then-same (nat_cmp a.owner b.owner) (nat_cmp a.table b.table)
    ∙ ap (λ (t : Bool). t && is_eq (nat_cmp a.table b.table)) (nat-same a.owner b.owner)
    ∙ ap (λ (t : Bool). eqb a.owner b.owner && t) (nat-same a.table b.table)

-- two places are tested as one in either order
pub symmetric : (a b : Place) → is_place a b ≡ is_place b a
symmetric = (eq_by_cmp_equiv place_cmp-total).symm

module _ (bases : ℕ → State) (written : ℕ → List TimedWrite) (before now : Writes) (spot : Spot) (left : Left) (had : Bool)
    (kept : AreKept bases written before) (noted : IsNoted spot left had before now)
    (latest : list_all (λ write. nat_le write.time left.time) (written spot.owner) ≡ true)
    (rises : Rises (bases spot.owner))
    (has : had ≡ is_some (at_place (after_writes (bases spot.owner) (written spot.owner)) (place_in (row_at spot)))) where
  -- The write that is noted.
  abbrev more : TimedWrite
  more = write_noted spot left

  -- The place of the write that is noted.
  abbrev its : Place
  its = place_in (row_at spot)

  -- The writes of each owner, with the one that is noted.
  abbrev now_written : ℕ → List TimedWrite
  now_written = with_one spot.owner more written

  -- The writes of another owner are as they were.
  other-written : (owner : ℕ) → eqb spot.owner owner ≡ false → now_written owner ≡ written owner
  other-written owner apart = ap (λ (b : Bool). if b then written owner ++ more ∷ [] else written owner) apart

  -- The writes of the owner have the noted one behind them.
  own-written : (owner : ℕ) → eqb spot.owner owner ≡ true → now_written owner ≡ written owner ++ more ∷ []
  own-written owner same = ap (λ (b : Bool). if b then written owner ++ more ∷ [] else written owner) same

  -- The owner that a test finds to be the write's is the write's.
  owner-is : (owner : ℕ) → eqb spot.owner owner ≡ true → spot.owner ≡ owner
  owner-is owner h = grind (arith, nat_tests, h)

  -- what is kept at a place

  -- What is kept at a place has the noted write behind it, where it is the owner's of that place.
  marks-left : (owner : ℕ) (place : Place) (b : Bool) → eqb spot.owner owner ≡ b
      → marks_at spot_cmp now.left (spot_of owner place) ≡ with_mark (b && is_place place its) left (marks_at spot_cmp before.left (spot_of owner place))
  marks-left owner place b is =
      noted.rows (spot_of owner place)
      ∙ ap (λ (put : Bool). with_mark put left (marks_at spot_cmp before.left (spot_of owner place)))
      (spot-same spot (spot_of owner place) ∙ ap (λ (t : Bool). t && is_place its place) is ∙ ap (λ (t : Bool). b && t) (symmetric its place))

  -- With the noted write, what is kept at a place up to a bound is what the writes left there.
  left-push : (place : Place) (bound : ℕ) (marks : List Left) (writes : List TimedWrite) (c d : Bool) → is_place place its ≡ c → nat_le left.time bound ≡ d
      → row_up_to bound marks ≡ left_at place (up_to bound writes)
      → row_up_to bound (with_mark c left marks) ≡ left_at place (up_to bound writes ++ cond d (more ∷ []) [])
  left-push place bound marks writes c false is up old =
      kept-mark c ∙ old ∙ ap (left_at place) (sym (append-nil (up_to bound writes)))
    where
      kept-mark : (c : Bool) → row_up_to bound (with_mark c left marks) ≡ row_up_to bound marks
      kept-mark true = ap (λ (ls : List Left). option_map row_left (last_or None ls)) (filter-push (λ l. nat_le l.time bound) marks left
          ∙ ap (λ (b : Bool). filter (λ l. nat_le l.time bound) marks ++ cond b (left ∷ []) []) up ∙ append-nil (filter (λ l. nat_le l.time bound) marks))
      kept-mark false = refl
  left-push place bound marks writes false true is up old =
      old ∙ ap (λ (ws : List TimedWrite). option_map (λ w. w.row) (last_or None ws)) (sym (filter-push (λ w. is_place place w.place) (up_to bound writes) more
      ∙ ap (λ (b : Bool). filter (λ w. is_place place w.place) (up_to bound writes) ++ cond b (more ∷ []) []) is ∙ append-nil (filter (λ w. is_place place w.place) (up_to bound writes))))
  left-push place bound marks writes true true is up old =
      ap (λ (ls : List Left). option_map row_left (last_or None ls)) (filter-push (λ l. nat_le l.time bound) marks left
      ∙ ap (λ (b : Bool). filter (λ l. nat_le l.time bound) marks ++ cond b (left ∷ []) []) up)
      ∙ ap (option_map row_left) (last-push None (filter (λ l. nat_le l.time bound) marks) left)
      ∙ sym (ap (λ (ws : List TimedWrite). option_map (λ w. w.row) (last_or None ws)) (filter-push (λ w. is_place place w.place) (up_to bound writes) more
      ∙ ap (λ (b : Bool). filter (λ w. is_place place w.place) (up_to bound writes) ++ cond b (more ∷ []) []) is)
      ∙ ap (option_map (λ w. w.row)) (last-push None (filter (λ w. is_place place w.place) (up_to bound writes)) more))

  -- What is kept now at an owner's place up to a bound is what his writes now left there.
  now-left-by : (owner : ℕ) (place : Place) (bound : ℕ) (b : Bool) → eqb spot.owner owner ≡ b
      → row_up_to bound (marks_at spot_cmp now.left (spot_of owner place)) ≡ left_at place (up_to bound (now_written owner))
  now-left-by owner place bound false is =
      ap (row_up_to bound) (marks-left owner place false is) ∙ kept.left owner place bound
      ∙ ap (λ (ws : List TimedWrite). left_at place (up_to bound ws)) (sym (other-written owner is))
  now-left-by owner place bound true is =
      ap (row_up_to bound) (marks-left owner place true is)
      ∙ left-push place bound (marks_at spot_cmp before.left (spot_of owner place)) (written owner) (is_place place its) (nat_le left.time bound) refl refl (kept.left owner place bound)
      ∙ ap (left_at place) (sym (filter-push (λ w. nat_le w.time bound) (written owner) more))
      ∙ ap (λ (ws : List TimedWrite). left_at place (up_to bound ws)) (sym (own-written owner is))

  -- No write of the owner is later than the noted one.
  latest-of : (owner : ℕ) → spot.owner ≡ owner → list_all (λ write. nat_le write.time left.time) (written owner) ≡ true
  latest-of owner e = ap (λ (n : ℕ). list_all (λ write. nat_le write.time left.time) (written n)) (sym e) ∙ latest

  -- Where all an owner's writes now are up to a bound, the old ones are, and his noted one.
  within-rest : (owner bound : ℕ) (b : Bool) → eqb spot.owner owner ≡ b → list_all (λ write. nat_le write.time bound) (now_written owner) ≡ true
      → (list_all (λ write. nat_le write.time bound) (written owner) ≡ true) × (b ≡ true → nat_le left.time bound ≡ true)
  within-rest owner bound false is h =
      (ap (λ (ws : List TimedWrite). list_all (λ write. nat_le write.time bound) ws) (sym (other-written owner is)) ∙ h, (λ e. absurd (let never : ⊥ = cc in never)))
  within-rest owner bound true is h =
      let whole = sym (list_all-append (λ (write : TimedWrite). nat_le write.time bound) (written owner) (more ∷ []))
      ∙ ap (λ (ws : List TimedWrite). list_all (λ write. nat_le write.time bound) ws) (sym (own-written owner is)) ∙ h in
      let parts = and_parts (list_all (λ (write : TimedWrite). nat_le write.time bound) (written owner)) (nat_le left.time bound && true) whole in
      (parts.0, (λ e. (and_parts (nat_le left.time bound) true parts.1).0))

  -- A place that compares as one with the noted write's is of the same owner.
  spot-own : (other : Spot) → is_eq (spot_cmp spot other) ≡ true → eqb spot.owner other.owner ≡ true
  spot-own other h = (and_parts (eqb spot.owner other.owner) (is_place its (place_in (row_at other))) (sym (spot-same spot other) ∙ h)).0

  -- A table at which the noted write's time is put is of the same owner.
  shelf-own : (put : Bool) (other : Shelf) → (put && is_eq (shelf_cmp (shelf_of spot.owner spot.table) other)) ≡ true → eqb spot.owner other.owner ≡ true
  shelf-own put other h =
      let eq = (and_parts put (is_eq (shelf_cmp (shelf_of spot.owner spot.table) other)) h).1 in
      (and_parts (eqb spot.owner other.owner) (eqb spot.table other.table) (sym (shelf-same (shelf_of spot.owner spot.table) other) ∙ eq)).0

  -- how many rows a table has

  -- The noted write's time, if put, is put at an owner's table where both are the write's.
  time-put : (put : Bool) (owner table : ℕ) (b : Bool) (times : List ℕ) → eqb spot.owner owner ≡ b
      → with_time put (shelf_of spot.owner spot.table) (shelf_of owner table) left.time times ≡ with_mark (b && (eqb spot.table table && put)) left.time times
  time-put put owner table b times is =
      ap (λ (t : Bool). with_mark (put && t) left.time times) (shelf-same (shelf_of spot.owner spot.table) (shelf_of owner table) ∙ ap (λ (t : Bool). t && eqb spot.table table) is)
      ∙ ap (λ (t : Bool). with_mark t left.time times) (turn put b (eqb spot.table table))
    where
      turn : (a b c : Bool) → (a && (b && c)) ≡ (b && (c && a))
      turn true true true = refl
      turn true true false = refl
      turn true false c = refl
      turn false true true = refl
      turn false true false = refl
      turn false false c = refl

  -- With the noted write's time one more is up to a bound, if it is put and up to it.
  counted : (bound : ℕ) (put d : Bool) (times : List ℕ) → nat_le left.time bound ≡ d → count_up_to bound (with_mark put left.time times) ≡ count_up_to bound times + cond (d && put) 1 0
  counted bound false true times is = omega arith
  counted bound false false times is = omega arith
  counted bound true d times is = count-push (λ time. nat_le time bound) times left.time ∙ ap (λ (b : Bool). count_up_to bound times + cond b 1 0) (is ∙ same d)
    where
      same : (d : Bool) → d ≡ (d && true)
      same true = refl
      same false = refl

  -- With the noted write a table has the rows that it had, but for one that it gains or loses.
  rows-next : (table bound : ℕ) (d : Bool) → nat_le left.time bound ≡ d
      → rows_in table (after_writes (bases spot.owner) (up_to bound (written spot.owner) ++ cond d (more ∷ []) [])) + cond (d && (eqb spot.table table && loses had (row_left left))) 1 0
      ≡ rows_in table (after_writes (bases spot.owner) (up_to bound (written spot.owner))) + cond (d && (eqb spot.table table && gains had (row_left left))) 1 0
  rows-next table bound false is = ap (λ (ws : List TimedWrite). rows_in table (after_writes (bases spot.owner) ws) + 0) (append-nil (up_to bound (written spot.owner)))
  rows-next table bound true is =
      let whole : up_to bound (written spot.owner) ≡ written spot.owner =
      filter-all (λ w. nat_le w.time bound) (written spot.owner) (all-weaker (λ w. nat_le w.time left.time) (λ w. nat_le w.time bound) (λ w low. grind (arith, nat_tests, low, is)) (written spot.owner) latest) in
      let found : had ≡ is_some (at_place (after_writes (bases spot.owner) (up_to bound (written spot.owner))) its) =
      has ∙ ap (λ (ws : List TimedWrite). is_some (at_place (after_writes (bases spot.owner) ws) its)) (sym whole) in
      let step = rows-write table (after_writes (bases spot.owner) (up_to bound (written spot.owner))) its (row_left left) (rises-after (bases spot.owner) (up_to bound (written spot.owner)) rises) in
      ap (λ (s : State). rows_in table s + cond (eqb spot.table table && loses had (row_left left)) 1 0) (after-append (bases spot.owner) (up_to bound (written spot.owner)) (more ∷ []))
      ∙ ap (λ (b : Bool). rows_in table (with_write (after_writes (bases spot.owner) (up_to bound (written spot.owner))) its (row_left left)) + cond (eqb spot.table table && loses b (row_left left)) 1 0) found
      ∙ step
      ∙ ap (λ (b : Bool). rows_in table (after_writes (bases spot.owner) (up_to bound (written spot.owner))) + cond (eqb spot.table table && gains b (row_left left)) 1 0) (sym found)

  -- The rows of an owner's table now are those at first, with the gained and without the lost.
  now-rows-by : (owner table bound : ℕ) (b : Bool) → eqb spot.owner owner ≡ b
      → rows_in table (after_writes (bases owner) (up_to bound (now_written owner))) + count_up_to bound (marks_at shelf_cmp now.lost (shelf_of owner table))
      ≡ rows_in table (bases owner) + count_up_to bound (marks_at shelf_cmp now.gained (shelf_of owner table))
  now-rows-by owner table bound false is =
      let lost = noted.lost (shelf_of owner table) ∙ time-put (loses had (row_left left)) owner table false (marks_at shelf_cmp before.lost (shelf_of owner table)) is in
      let gained = noted.gained (shelf_of owner table) ∙ time-put (gains had (row_left left)) owner table false (marks_at shelf_cmp before.gained (shelf_of owner table)) is in
      ap (λ (ws : List TimedWrite). rows_in table (after_writes (bases owner) (up_to bound ws)) + count_up_to bound (marks_at shelf_cmp now.lost (shelf_of owner table))) (other-written owner is)
      ∙ ap (λ (ts : List ℕ). rows_in table (after_writes (bases owner) (up_to bound (written owner))) + count_up_to bound ts) lost
      ∙ kept.rows owner table bound
      ∙ ap (λ (ts : List ℕ). rows_in table (bases owner) + count_up_to bound ts) (sym gained)
  now-rows-by owner table bound true is = subst (λ (n : ℕ). rows_in table (after_writes (bases n) (up_to bound (now_written n))) + count_up_to bound (marks_at shelf_cmp now.lost (shelf_of n table))
      ≡ rows_in table (bases n) + count_up_to bound (marks_at shelf_cmp now.gained (shelf_of n table))) (owner-is owner is) own-rows
    where
      self : eqb spot.owner spot.owner ≡ true
      self = eq-eqb spot.owner spot.owner refl

      added : (r r' l l' g g' s b x y : ℕ) → r ≡ r' → l ≡ l' + x → g ≡ g' + y → r' + x ≡ s + y → s + l' ≡ b + g' → r + l ≡ b + g
      added r r' l l' g g' s b x y one two three four five = omega (arith, one, two, three, four, five)

      own-rows : rows_in table (after_writes (bases spot.owner) (up_to bound (now_written spot.owner))) + count_up_to bound (marks_at shelf_cmp now.lost (shelf_of spot.owner table))
          ≡ rows_in table (bases spot.owner) + count_up_to bound (marks_at shelf_cmp now.gained (shelf_of spot.owner table))
      own-rows =
          let put_lost : Bool = eqb spot.table table && loses had (row_left left) in
          let put_gained : Bool = eqb spot.table table && gains had (row_left left) in
          let lost = ap (count_up_to bound) (noted.lost (shelf_of spot.owner table) ∙ time-put (loses had (row_left left)) spot.owner table true (marks_at shelf_cmp before.lost (shelf_of spot.owner table)) self)
          ∙ counted bound put_lost (nat_le left.time bound) (marks_at shelf_cmp before.lost (shelf_of spot.owner table)) refl in
          let gained = ap (count_up_to bound) (noted.gained (shelf_of spot.owner table) ∙ time-put (gains had (row_left left)) spot.owner table true (marks_at shelf_cmp before.gained (shelf_of spot.owner table)) self)
          ∙ counted bound put_gained (nat_le left.time bound) (marks_at shelf_cmp before.gained (shelf_of spot.owner table)) refl in
          let written_now : up_to bound (now_written spot.owner) ≡ up_to bound (written spot.owner) ++ cond (nat_le left.time bound) (more ∷ []) [] =
          ap (up_to bound) (own-written spot.owner self) ∙ filter-push (λ w. nat_le w.time bound) (written spot.owner) more in
          let rows = ap (λ (ws : List TimedWrite). rows_in table (after_writes (bases spot.owner) ws)) written_now in
          let step = rows-next table bound (nat_le left.time bound) refl in
          let old = kept.rows spot.owner table bound in
          added (rows_in table (after_writes (bases spot.owner) (up_to bound (now_written spot.owner)))) _ _ _ _ _ _ _ _ _ rows lost gained step old

  -- What is kept with the write are the writes of each owner with it.
  pub kept-next : AreKept bases now_written now
  kept-next = record {
    left = λ owner place bound. now-left-by owner place bound (eqb spot.owner owner) refl;
    left_rise = λ other. subst (λ (ls : List Left). IsNonDecreasingBy (λ left. left.time) ls) (sym (noted.rows other))
        (rise-by (λ (l : Left). l.time) (is_eq (spot_cmp spot other)) left (marks_at spot_cmp before.left other)
        (λ same. kept.left_within other left.time (latest-of other.owner (owner-is other.owner (spot-own other same)))) (kept.left_rise other));
    gained_rise = λ other. subst IsNonDecreasing (sym (noted.gained other))
        (rise-by (λ (n : ℕ). n) (gains had (row_left left) && is_eq (shelf_cmp (shelf_of spot.owner spot.table) other)) left.time (marks_at shelf_cmp before.gained other)
        (λ same. kept.gained_within other left.time (latest-of other.owner (owner-is other.owner (shelf-own (gains had (row_left left)) other same)))) (kept.gained_rise other));
    lost_rise = λ other. subst IsNonDecreasing (sym (noted.lost other))
        (rise-by (λ (n : ℕ). n) (loses had (row_left left) && is_eq (shelf_cmp (shelf_of spot.owner spot.table) other)) left.time (marks_at shelf_cmp before.lost other)
        (λ same. kept.lost_within other left.time (latest-of other.owner (owner-is other.owner (shelf-own (loses had (row_left left)) other same)))) (kept.lost_rise other));
    left_within = λ other bound h.
        let rest = within-rest other.owner bound (eqb spot.owner other.owner) refl h in
        ap (list_all (λ left. nat_le left.time bound)) (noted.rows other)
        ∙ within-by (λ (l : Left). nat_le l.time bound) (is_eq (spot_cmp spot other)) left (marks_at spot_cmp before.left other) (kept.left_within other bound rest.0) (λ same. rest.1 (spot-own other same));
    gained_within = λ other bound h.
        let rest = within-rest other.owner bound (eqb spot.owner other.owner) refl h in
        ap (list_all (λ time. nat_le time bound)) (noted.gained other)
        ∙ within-by (λ (n : ℕ). nat_le n bound) (gains had (row_left left) && is_eq (shelf_cmp (shelf_of spot.owner spot.table) other)) left.time (marks_at shelf_cmp before.gained other)
        (kept.gained_within other bound rest.0) (λ same. rest.1 (shelf-own (gains had (row_left left)) other same));
    lost_within = λ other bound h.
        let rest = within-rest other.owner bound (eqb spot.owner other.owner) refl h in
        ap (list_all (λ time. nat_le time bound)) (noted.lost other)
        ∙ within-by (λ (n : ℕ). nat_le n bound) (loses had (row_left left) && is_eq (shelf_cmp (shelf_of spot.owner spot.table) other)) left.time (marks_at shelf_cmp before.lost other)
        (kept.lost_within other bound rest.0) (λ same. rest.1 (shelf-own (loses had (row_left left)) other same));
    rows = λ owner table bound. now-rows-by owner table bound (eqb spot.owner owner) refl;
  }
