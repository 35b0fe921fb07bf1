-- Bodies that are empty, quiet or dense, and what a change of their slots does to that.
use Rattle.std.proofs.Common.{◌≡◌, ◌⊎◌, ℕ, zero, suc, ◌<◌, Bool, true, false, cond, ◌&&◌, ◌||◌, List, [], ◌∷◌, map, Option, None, Some, is_none, is_some, length, get_or, refl, sym, ap, ◌∙◌, get_or-set_same}
use mathlib.Core.Logic.{inl, inr}
use Rattle.std.specs.List.{list_all, list_any}
use Rattle.std.proofs.lemmas.Bool.{cases_Bool, and_parts}
use Rattle.block_spec.specs.Bodies.{Body, slot_in, has_row, is_dense, is_empty, is_front, is_quiet, with_slot}
use Rattle.block_spec.specs.declared.change.Before.{Before}
use Rattle.block_spec.specs.Slots.{Row, Slot, bare, has_none, is_bare, writer_of}
use Rattle.core_laws.proofs.Events.Heads.{all_bare}
use Rattle.undo_chain.specs.declared.undo.Undo.{Undo}

-- true is not false
pub true_false : true ≡ false → ⊥
true_false e = cc

-- a body with a slot that is not bare is not empty
pub not_empty : (body : Body) (j : ℕ) → is_bare (slot_in body j) ≡ false → is_empty body ≡ false
not_empty body j filled = go (cases_Bool (is_empty body))
  where
    go : (is_empty body ≡ true) ⊎ (is_empty body ≡ false) → is_empty body ≡ false
    go (inl e) = absurd (true_false (sym (all_bare body.slots j e) ∙ filled))
    go (inr e) = e

-- nor is one with a row
bare_row : (x : Slot) → is_bare x ≡ true → is_some x.row ≡ true → ⊥
bare_row x e r = go x.row e r
  where
    go : (row : Option Row) → (is_none row && has_none x.entries) ≡ true → is_some row ≡ true → ⊥
    go None e r = cc
    go (Some row) e r = cc

-- Slots that are all bare have no row in any of them.
row_not_bare : (slots : List Slot) → list_all is_bare slots ≡ true → list_any (λ slot. is_some slot.row) slots ≡ true → ⊥
row_not_bare [] e r = cc
row_not_bare (x ∷ slots) e r = go (is_some x.row) refl r (row_not_bare slots (and_parts (is_bare x) (list_all is_bare slots) e).1)
  where
    go : (b : Bool) → is_some x.row ≡ b → (is_some x.row || list_any (λ slot. is_some slot.row) slots) ≡ true → (list_any (λ slot. is_some slot.row) slots ≡ true → ⊥) → ⊥
    go true is r rest = bare_row x (and_parts (is_bare x) (list_all is_bare slots) e).0 is
    go false is r rest = rest (sym (ap (λ b. b || list_any (λ slot. is_some slot.row) slots) is) ∙ r)

-- a body with a row is not empty
pub row_fills : (body : Body) → has_row body ≡ true → is_empty body ≡ false
row_fills body some = go (cases_Bool (is_empty body))
  where
    go : (is_empty body ≡ true) ⊎ (is_empty body ≡ false) → is_empty body ≡ false
    go (inl e) = absurd (row_not_bare body.slots e some)
    go (inr e) = e

-- a dense body is not empty
pub dense_fills : (body : Body) → is_dense body ≡ true → is_empty body ≡ false
dense_fills body dense = row_fills body (and_parts (has_row body) (is_front body.slots) dense).0

-- a quiet body has no entry in any slot
pub quiet_none : (slots : List Slot) (j : ℕ) → list_all (λ slot. has_none slot.entries) slots ≡ true → has_none (get_or slots j bare).entries ≡ true
quiet_none [] j q = refl
quiet_none (x ∷ slots) zero q = (and_parts (has_none x.entries) (list_all (λ slot. has_none slot.entries) slots) q).0
quiet_none (x ∷ slots) (suc j) q = quiet_none slots j (and_parts (has_none x.entries) (list_all (λ slot. has_none slot.entries) slots) q).1

-- a body with a writer in a slot is not quiet
pub writer_not_quiet : (body : Body) (j q : ℕ) → writer_of (slot_in body j).entries ≡ Some q → is_quiet body ≡ false
writer_not_quiet body j q w = go (cases_Bool (is_quiet body))
  where
    none_writes : (es : List (Undo Before)) → has_none es ≡ true → writer_of es ≡ Some q → ⊥
    none_writes [] n w = cc
    none_writes (e ∷ es) n w = cc

    go : (is_quiet body ≡ true) ⊎ (is_quiet body ≡ false) → is_quiet body ≡ false
    go (inl e) = absurd (none_writes (slot_in body j).entries (quiet_none body.slots j e) w)
    go (inr e) = e

-- ---- a change of each slot

module _ (f : Slot → Slot) where
  -- a change that leaves which slots are bare leaves whether all are
  pub map_empty : ((x : Slot) → is_bare (f x) ≡ is_bare x) → (slots : List Slot) → list_all is_bare (map f slots) ≡ list_all is_bare slots
  map_empty same [] = refl
  map_empty same (x ∷ slots) = ap (λ b. b && list_all is_bare (map f slots)) (same x) ∙ ap (λ b. is_bare x && b) (map_empty same slots)

  -- a change that leaves the rows leaves whether there is one
  pub map_row : ((x : Slot) → (f x).row ≡ x.row) → (slots : List Slot) → list_any (λ slot. is_some slot.row) (map f slots) ≡ list_any (λ slot. is_some slot.row) slots
  map_row same [] = refl
  map_row same (x ∷ slots) =
      ap (λ o. is_some o || list_any (λ slot. is_some slot.row) (map f slots)) (same x) ∙ ap (λ b. is_some x.row || b) (map_row same slots)

  -- A change that leaves the rows leaves whether no slot has one.
  map_none : ((x : Slot) → (f x).row ≡ x.row) → (slots : List Slot) → list_all (λ slot. is_none slot.row) (map f slots) ≡ list_all (λ slot. is_none slot.row) slots
  map_none same [] = refl
  map_none same (x ∷ slots) =
      ap (λ o. is_none o && list_all (λ slot. is_none slot.row) (map f slots)) (same x) ∙ ap (λ b. is_none x.row && b) (map_none same slots)

  -- A change that leaves the rows leaves whether they stand in front.
  map_front : ((x : Slot) → (f x).row ≡ x.row) → (slots : List Slot) → is_front (map f slots) ≡ is_front slots
  map_front same [] = refl
  map_front same (x ∷ slots) =
      ap (λ o. cond (is_some o) (is_front (map f slots)) (list_all (λ slot. is_none slot.row) (map f slots))) (same x)
      ∙ ap (λ b. cond (is_some x.row) b (list_all (λ slot. is_none slot.row) (map f slots))) (map_front same slots)
      ∙ ap (cond (is_some x.row) (is_front slots)) (map_none same slots)

  -- a change that leaves the rows leaves a body as dense as it was
  pub map_dense : ((x : Slot) → (f x).row ≡ x.row) → (body : Body) → is_dense (record body { slots = map f body.slots }) ≡ is_dense body
  map_dense same body = ap (λ b. b && is_front (map f body.slots)) (map_row same body.slots) ∙ ap (λ b. has_row body && b) (map_front same body.slots)

  -- a change that leaves slots without entries so leaves a body quiet
  pub map_quiet : ((x : Slot) → has_none x.entries ≡ true → has_none (f x).entries ≡ true) → (slots : List Slot) → list_all (λ slot. has_none slot.entries) slots ≡ true
      → list_all (λ slot. has_none slot.entries) (map f slots) ≡ true
  map_quiet stays [] q = refl
  map_quiet stays (x ∷ slots) q =
      let both = and_parts (has_none x.entries) (list_all (λ slot. has_none slot.entries) slots) q in
      ap (λ b. b && list_all (λ slot. has_none slot.entries) (map f slots)) (stays x both.0) ∙ map_quiet stays slots both.1

-- ---- a change of one slot

-- a change that leaves a slot that is not bare leaves a body that is not empty
pub slot_filled : (j : ℕ) (g : Slot → Slot) (body : Body) → j < length body.slots → is_bare (g (slot_in body j)) ≡ false → is_empty (with_slot j g body) ≡ false
slot_filled j g body inside filled =
    not_empty (with_slot j g body) j (ap is_bare (get_or-set_same body.slots j (g (slot_in body j)) bare inside) ∙ filled)
