-- Slots whose rows stand in front: their rows, and an image of them.
use Rattle.std.proofs.Common.{◌≡◌, ◌∙◌, ℕ, zero, suc, ◌+◌, ◌<◌, ◌≤◌, ◌^◌, true, cond, ◌&&◌, List, [], ◌∷◌, Option, None, Some, map, take, length, get_or, refl, sym, ap, subst, arith}
use Rattle.std.specs.Prelude.{IsSome, count_by, flat_map, is_none, is_some, option_to_list}
use Rattle.std.specs.List.{cons_option, filter_map, list_all}
use Rattle.std.proofs.lemmas.List.{length-map}
use Rattle.std.proofs.lemmas.List.Sums.{count_by-le-length}
use Rattle.block_body.proofs.Whole.{taken, taken_is}
use Rattle.block_body.specs.Frozen.{IsImageOf, image_of}
use Rattle.block_columns.specs.Images.{FormValue, ImageValue, IsFormOf, IsWhole, rows_of}
use Rattle.block_spec.specs.Bodies.{is_front}
use Rattle.block_spec.specs.Slots.{Row, Slot}
use Rattle.cell_model.specs.declared.column.Column.{Column}
use Rattle.core_parts.specs.FrontValues.{IsFilled, rows_of_front}

-- The row of a slot, if it has one.
abbrev row_of : Slot → Option Row
row_of slot = slot.row

-- without a row in the first slot there is none
none_left : (slots : List Slot) → list_all (λ slot. is_none slot.row) slots ≡ true → (taken (map row_of slots) ≡ 0) × (filter_map row_of slots ≡ [])
none_left [] none = (refl, refl)
none_left (slot ∷ slots) none = go slot.row none (none_left slots)
  where
    go : (o : Option Row) → (is_none o && list_all (λ slot. is_none slot.row) slots) ≡ true
        → (list_all (λ slot. is_none slot.row) slots ≡ true → (taken (map row_of slots) ≡ 0) × (filter_map row_of slots ≡ []))
        → (taken (o ∷ map row_of slots) ≡ 0) × (cons_option o (filter_map row_of slots) ≡ [])
    go None both rest = rest both
    go (Some row) both rest = cc

-- the first slots, as many as there are rows, have these
front_take : (slots : List Slot) → is_front slots ≡ true → take (taken (map row_of slots)) (map row_of slots) ≡ map (λ row. Some row) (filter_map row_of slots)
front_take [] front = refl
front_take (slot ∷ slots) front = go slot.row front (front_take slots)
  where
    go : (o : Option Row) → cond (is_some o) (is_front slots) (list_all (λ slot. is_none slot.row) slots) ≡ true
        → (is_front slots ≡ true → take (taken (map row_of slots)) (map row_of slots) ≡ map (λ row. Some row) (filter_map row_of slots))
        → take (taken (o ∷ map row_of slots)) (o ∷ map row_of slots) ≡ map (λ row. Some row) (cons_option o (filter_map row_of slots))
    go (Some row) front rest =
        let next : 1 + taken (map row_of slots) ≡ suc (taken (map row_of slots)) = omega arith in
        ap (λ n. take n (Some row ∷ map row_of slots)) next ∙ ap (λ (l : List (Option Row)). Some row ∷ l) (rest front)
    go None none rest =
        let left = none_left slots none in
        ap (λ n. take n (None ∷ map row_of slots)) left.0 ∙ ap (λ (l : List Row). map (λ row. Some row) l) (sym left.1)

-- the first slots have all rows, in order
pub front_rows : (slots : List Slot) → is_front slots ≡ true
    → take (count_by is_some (map (λ (slot : Slot). slot.row) slots)) (map (λ (slot : Slot). slot.row) slots) ≡ map (λ row. Some row) (filter_map (λ (slot : Slot). slot.row) slots)
front_rows slots front = ap (λ n. take n (map row_of slots)) (sym (taken_is (map row_of slots))) ∙ front_take slots front

-- each of them has one
taken_held : (slots : List Slot) → is_front slots ≡ true → (k : ℕ) → k < taken (map row_of slots) → IsSome (get_or (map row_of slots) k None)
taken_held [] front k less = absurd (omega (arith, less))
taken_held (slot ∷ slots) front k less = go slot.row k front less (taken_held slots)
  where
    go : (o : Option Row) (k : ℕ) → cond (is_some o) (is_front slots) (list_all (λ slot. is_none slot.row) slots) ≡ true
        → k < taken (o ∷ map row_of slots) → (is_front slots ≡ true → (k : ℕ) → k < taken (map row_of slots) → IsSome (get_or (map row_of slots) k None))
        → IsSome (get_or (o ∷ map row_of slots) k None)
    go (Some row) zero front less rest = refl
    go (Some row) (suc k) front less rest = rest front k (omega (arith, less))
    go None k none less rest = let left = (none_left slots none).0 in absurd (omega (arith, less, left))

-- each of so many first slots has a row
pub front_held : (slots : List Slot) → is_front slots ≡ true → (k : ℕ) → k < count_by is_some (map (λ (slot : Slot). slot.row) slots)
    → IsSome (get_or (map (λ (slot : Slot). slot.row) slots) k None)
front_held slots front k less = taken_held slots front k (subst (λ n. k < n) (sym (taken_is (map row_of slots))) less)

-- there are as many rows as slots that have one
rows_taken : (slots : List Slot) → length (filter_map row_of slots) ≡ taken (map row_of slots)
rows_taken [] = refl
rows_taken (slot ∷ slots) = go slot.row (rows_taken slots)
  where
    go : (o : Option Row) → length (filter_map row_of slots) ≡ taken (map row_of slots) → length (cons_option o (filter_map row_of slots)) ≡ taken (o ∷ map row_of slots)
    go None rest = rest
    go (Some row) rest = let next : suc (taken (map row_of slots)) ≡ 1 + taken (map row_of slots) = omega arith in ap suc rest ∙ next

-- there are as many rows as slots that have one
pub rows_counted : (slots : List Slot) → length (filter_map (λ (slot : Slot). slot.row) slots) ≡ count_by is_some (map (λ (slot : Slot). slot.row) slots)
rows_counted slots = rows_taken slots ∙ taken_is (map row_of slots)

-- Rows that are put into slots and taken out again are the same.
rows_again : (batch : List Row) → flat_map (λ slot. option_to_list slot) (map (λ row. Some row) batch) ≡ batch
rows_again [] = refl
rows_again (row ∷ batch) = ap (λ (l : List Row). row ∷ l) (rows_again batch)

-- columns whose rows stand in front have these, and a row in each of so many first slots
pub front_listed : (columns : List Column) (slots : List Slot) → is_front slots ≡ true
    → rows_of_front (record { columns = columns; slots = map (λ (slot : Slot). slot.row) slots; rows = count_by is_some (map (λ (slot : Slot). slot.row) slots) })
    ≡ filter_map (λ (slot : Slot). slot.row) slots
front_listed columns slots front = ap (λ (l : List (Option Row)). flat_map (λ slot. option_to_list slot) l) (front_rows slots front) ∙ rows_again (filter_map row_of slots)

-- slots whose rows stand in front are filled so far, with at most 2^15 rows
pub front_filled : (slots : List Slot) → is_front slots ≡ true → length slots ≤ 2 ^ 15
    → IsFilled (map (λ (slot : Slot). slot.row) slots) (count_by is_some (map (λ (slot : Slot). slot.row) slots))
front_filled slots front few = record {
  held = front_held slots front;
  few =
      let most : count_by is_some (map row_of slots) ≤ length (map row_of slots) = count_by-le-length is_some (map row_of slots) in
      let long = length-map slots row_of in
      omega (arith, most, long, few);
}

-- An image of the slots is whole, and of their rows.
module _ (columns : List Column) (slots : List Slot) (front : is_front slots ≡ true) where
  -- the rows of an image are those of the slots
  pub image_rows : (image : ImageValue) → IsImageOf columns (map (λ (slot : Slot). slot.row) slots) image → rows_of image ≡ filter_map (λ (slot : Slot). slot.row) slots
  image_rows image is =
      ap (λ (l : List (Option Row)). flat_map (λ slot. option_to_list slot) (take image.rows l)) is.slots_are
      ∙ ap (λ n. flat_map (λ slot. option_to_list slot) (take n (map row_of slots))) is.rows
      ∙ ap (λ (l : List (Option Row)). flat_map (λ slot. option_to_list slot) l) (front_rows slots front)
      ∙ rows_again (filter_map row_of slots)

  -- and the image is whole
  pub image_whole : (image : ImageValue) → IsImageOf columns (map (λ (slot : Slot). slot.row) slots) image → IsWhole image
  image_whole image is = record {
    held = λ slot less.
        subst (λ (l : List (Option Row)). IsSome (get_or l slot None)) (sym is.slots_are)
        (front_held slots front slot (subst (λ n. slot < n) is.rows less));
    form =
        let are = is.form (filter_map row_of slots) (ap (λ n. take n (map row_of slots)) is.rows ∙ front_rows slots front) in
        subst (λ (cs : List Column). IsFormOf cs (rows_of image) image.form) (sym is.columns_are)
        (subst (λ (rows : List Row). IsFormOf columns rows image.form) (sym (image_rows image is)) are);
  }

  -- the form of the rows makes one whole
  pub form_whole : (form : FormValue) → IsFormOf columns (filter_map (λ (slot : Slot). slot.row) slots) form
      → IsWhole (image_of columns (map (λ (slot : Slot). slot.row) slots) form)
  form_whole form made = record {
    held = front_held slots front;
    form =
        subst (λ (rows : List Row). IsFormOf columns rows form)
        (sym (ap (λ (l : List (Option Row)). flat_map (λ slot. option_to_list slot) l) (front_rows slots front) ∙ rows_again (filter_map row_of slots))) made;
  }
