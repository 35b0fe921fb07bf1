-- What a look finds of a body without versions whose rows stand in front.
use Rattle.std.proofs.Common.{◌≡◌, ◌∙◌, ℕ, zero, suc, ◌+◌, ◌-◌, ◌<◌, ◌≤◌, ℤ, Bool, true, false, cond, List, [], ◌∷◌, Option, None, Some, map, length, get_or, refl, sym, ap, subst, arith}
use Rattle.std.specs.Prelude.{◌&&◌, IfSome, count_by, filter, is_some, is_none}
use Rattle.std.specs.List.{filter_map, list_all, range_with_len}
use Rattle.std.proofs.Math.ListN.{get_or-map}
use Rattle.std.proofs.lemmas.List.{length-map}
use Rattle.std.proofs.lemmas.List.Sums.{count_by-le-length}
use Rattle.isolation_spec.specs.Contents.{key_of}
use Rattle.block_spec.specs.declared.look.MovableRow.{MovableRow}
use Rattle.block_spec.specs.Slots.{Row, Slot, bare, has_none, is_bare}
use Rattle.block_spec.specs.Bodies.{Body as BodyValue, is_front, is_quiet, slot_in}
use Rattle.block_spec.specs.Looks.{looked, movable, movable_row}
use Rattle.block_body.proofs.Looks.{filter_skip, filter_map_skip, slot_passes}
use Rattle.block_body.proofs.Whole.{taken, taken_is}

-- the row of a slot, a name for the lemmas below
abbrev row_of : Slot → Option Row
row_of slot = slot.row

-- the row of a slot stands at the slot's place among the rows
pub row_at : (slots : List Slot) (j : ℕ) → get_or (map (λ (slot : Slot). slot.row) slots) j None ≡ (get_or slots j bare).row
row_at slots j = get_or-map row_of slots j bare

-- how many slots have a row
abbrev pub count_in : List Slot → ℕ
count_in slots = count_by is_some (map (λ (slot : Slot). slot.row) slots)

-- where no slot has a row, none is counted
none_taken : (slots : List Slot) → list_all (λ slot. is_none slot.row) slots ≡ true → taken (map row_of slots) ≡ 0
none_taken [] none = refl
none_taken (slot ∷ slots) none = go slot.row none (none_taken slots)
  where
    go : (o : Option Row) → (is_none o && list_all (λ slot. is_none slot.row) slots) ≡ true
        → (list_all (λ slot. is_none slot.row) slots ≡ true → taken (map row_of slots) ≡ 0)
        → taken (o ∷ map row_of slots) ≡ 0
    go None none rest = rest none
    go (Some row) none rest = let no : false ≡ true = none in cc

-- no place among the rows has one where none is counted
none_at : (rows : List (Option Row)) (j : ℕ) → taken rows ≡ 0 → is_none (get_or rows j None) ≡ true
none_at [] j none = refl
none_at (None ∷ rows) zero none = refl
none_at (None ∷ rows) (suc j) none = none_at rows j none
none_at (Some row ∷ rows) j none = absurd (omega (arith, none))

-- where the rows stand in front, each of the first slots, as many as have a row, has one
taken_has : (slots : List Slot) (j : ℕ) → is_front slots ≡ true → j < taken (map row_of slots) → is_none (get_or (map row_of slots) j None) ≡ false
taken_has [] j front less = absurd (omega (arith, less))
taken_has (slot ∷ slots) j front less = go slot.row j front less (taken_has slots)
  where
    go : (o : Option Row) (j : ℕ) → cond (is_some o) (is_front slots) (list_all (λ slot. is_none slot.row) slots) ≡ true → j < taken (o ∷ map row_of slots)
        → ((j : ℕ) → is_front slots ≡ true → j < taken (map row_of slots) → is_none (get_or (map row_of slots) j None) ≡ false)
        → is_none (get_or (o ∷ map row_of slots) j None) ≡ false
    go (Some row) zero front less rest = refl
    go (Some row) (suc j) front less rest = rest j front (omega (arith, less))
    go None j front less rest = let none = none_taken slots front in absurd (omega (arith, less, none))

-- and each of the others has none
taken_past : (slots : List Slot) (j : ℕ) → is_front slots ≡ true → taken (map row_of slots) ≤ j → is_none (get_or (map row_of slots) j None) ≡ true
taken_past [] j front past = refl
taken_past (slot ∷ slots) j front past = go slot.row j front past (taken_past slots)
  where
    go : (o : Option Row) (j : ℕ) → cond (is_some o) (is_front slots) (list_all (λ slot. is_none slot.row) slots) ≡ true → taken (o ∷ map row_of slots) ≤ j
        → ((j : ℕ) → is_front slots ≡ true → taken (map row_of slots) ≤ j → is_none (get_or (map row_of slots) j None) ≡ true)
        → is_none (get_or (o ∷ map row_of slots) j None) ≡ true
    go (Some row) zero front past rest = absurd (omega (arith, past))
    go (Some row) (suc j) front past rest = rest j front (omega (arith, past))
    go None j front past rest = none_at (None ∷ map row_of slots) j (none_taken slots front)

-- no more slots have a row than there are
pub count_few : (slots : List Slot) → count_in slots ≤ length slots
count_few slots =
    let few : count_in slots ≤ length (map row_of slots) = count_by-le-length is_some (map row_of slots) in
    omega (arith, few, length-map slots row_of)

-- what gives nothing from a number on adds nothing to what is found before it
stops : {X : Type 0} (h : ℕ → Option X) (n more : ℕ) → ((j : ℕ) → n ≤ j → h j ≡ None)
    → filter_map h (range_with_len 0 n) ≡ filter_map h (range_with_len 0 (n + more))
stops h n zero none = let same : n ≡ n + 0 = omega arith in ap (λ (m : ℕ). filter_map h (range_with_len 0 m)) same
stops h n (suc more) none =
    let same : n + more + 1 ≡ n + suc more = omega arith in
    stops h n more none
    ∙ sym (filter_map_skip h (n + more) (none (n + more) (omega arith)))
    ∙ ap (λ (m : ℕ). filter_map h (range_with_len 0 m)) same

-- nothing is listed before the first number that passes
starts : (p : ℕ → Bool) (n : ℕ) → ((j : ℕ) → j < n → p j ≡ false) → [] ≡ filter p (range_with_len 0 n)
starts p zero fails = refl
starts p (suc n) fails =
    let same : n + 1 ≡ suc n = omega arith in
    starts p n (λ j less. fails j (omega (arith, less)))
    ∙ sym (filter_skip p n (fails n (omega arith)))
    ∙ ap (λ (m : ℕ). filter p (range_with_len 0 m)) same

-- a row in a slot without an entry may move
moves : (j : ℕ) (row : Option Row) (quiet : Bool) (key : ℤ) → is_none row ≡ false → quiet ≡ true → IfSome row (λ row. key ≡ key_of row)
    → Some (record { slot = j; key = key }) ≡ movable_row j row quiet
moves j None quiet key has is key_is = let no : true ≡ false = has in cc
moves j (Some row) false key has is key_is = let no : false ≡ true = is in cc
moves j (Some row) true key has is key_is = ap (λ (n : ℤ). let m : MovableRow = record { slot = j; key = n } in Some m) key_is

-- without a row nothing moves
stays : (j : ℕ) (row : Option Row) (quiet : Bool) → is_none row ≡ true → movable_row j row quiet ≡ None
stays j None quiet none = refl
stays j (Some row) quiet none = let no : false ≡ true = none in cc

-- a slot is bare where it has no row, if it has no entry
bare_without : (none quiet b : Bool) → quiet ≡ true → none ≡ b → (none && quiet) ≡ b
bare_without true quiet b is same = is ∙ same
bare_without false quiet b is same = same

module _ (body : BodyValue) (quiet : is_quiet body ≡ true) (front : is_front body.slots ≡ true) where
  -- no slot has an entry
  no_entry : (j : ℕ) → has_none (slot_in body j).entries ≡ true
  no_entry j = slot_passes (λ slot. has_none slot.entries) body.slots j refl quiet

  -- one of the first slots has a row
  has_row : (j : ℕ) → j < count_in body.slots → is_none (slot_in body j).row ≡ false
  has_row j less =
      ap is_none (sym (row_at body.slots j))
      ∙ taken_has body.slots j front (subst (λ (n : ℕ). j < n) (sym (taken_is (map row_of body.slots))) less)

  -- and one behind them has none
  no_row : (j : ℕ) → count_in body.slots ≤ j → is_none (slot_in body j).row ≡ true
  no_row j past =
      ap is_none (sym (row_at body.slots j))
      ∙ taken_past body.slots j front (subst (λ (n : ℕ). n ≤ j) (sym (taken_is (map row_of body.slots))) past)

  -- the row of one of the first slots may move, with its key
  pub front_moves : (j : ℕ) (key : ℤ) → j < count_in body.slots → IfSome (slot_in body j).row (λ row. key ≡ key_of row)
      → Some (record { slot = j; key = key }) ≡ movable body j
  front_moves j key less key_is = moves j (slot_in body j).row (has_none (slot_in body j).entries) key (has_row j less) (no_entry j) key_is

  -- these are all the rows that may move
  pub front_rows : filter_map (movable body) (range_with_len 0 (count_in body.slots)) ≡ (looked body).rows
  front_rows =
      let all : count_in body.slots + (length body.slots - count_in body.slots) ≡ length body.slots = omega (arith, count_few body.slots) in
      stops (movable body) (count_in body.slots) (length body.slots - count_in body.slots)
      (λ j past. stays j (slot_in body j).row (has_none (slot_in body j).entries) (no_row j past))
      ∙ ap (λ (n : ℕ). filter_map (movable body) (range_with_len 0 n)) all

  -- none of the first slots is a gap
  pub front_gaps : [] ≡ filter (λ j. is_bare (slot_in body j)) (range_with_len 0 (count_in body.slots))
  front_gaps =
      starts (λ j. is_bare (slot_in body j)) (count_in body.slots)
      (λ j less. bare_without (is_none (slot_in body j).row) (has_none (slot_in body j).entries) false (no_entry j) (has_row j less))

  -- and each behind them is one
  pub behind_bare : (j : ℕ) → count_in body.slots ≤ j → is_bare (slot_in body j) ≡ true
  behind_bare j past = bare_without (is_none (slot_in body j).row) (has_none (slot_in body j).entries) true (no_entry j) (no_row j past)
