-- The rows that a read of a block finds are those of the definition.
use Rattle.std.proofs.Common.{◌≡◌, ◌∙◌, ℕ, zero, suc, ◌+◌, ◌<◌, ◌≤◌, ◌^◌, Bool, true, false, cond, ◌&&◌, List, [], ◌∷◌, Option, None, Some, option_and_then, get_or, length, refl, sym, ap, arith}
use Rattle.std.specs.Prelude.{IfOk, Result, Ok, Err}
use Rattle.std.specs.List.{cons_option, filter_map, list_all, range_with_len}
use Rattle.block_layout.specs.Place.{block_of, place_of, slot_of}
use Rattle.block_spec.specs.Bodies.{Body, is_quiet, rows_of, slot_in}
use Rattle.block_spec.specs.declared.change.Before.{Before as BeforeImage}
use Rattle.block_spec.specs.Slots.{Row, Slot, bare, has_none, laid_back}
use Rattle.core_events.specs.Reads.{row_in, rows_in}
use Rattle.core_laws.proofs.Events.Heads.{block_is, slot_is}
use Rattle.event_spec.specs.declared.own.OwnTransaction.{OwnTransaction}
use Rattle.event_spec.specs.Parts.{Parts, Shape, body_at, slot_at}
use Rattle.event_spec.specs.Replies.{is_elsewhere, row_read, rows_read}
use Rattle.isolation_spec.specs.Contents.{PlaceMap, at_place, key_of, place_at}
use Rattle.undo_chain.specs.declared.undo.Undo.{Undo}
use Rattle.undo_chain.specs.Visible.{visible_row}

-- What agrees for each number below the end of a range makes the same of it.
same_below : {X : Type 0} (f g : ℕ → Option X) (a n : ℕ) → ((j : ℕ) → j < a + n → f j ≡ g j) → filter_map f (range_with_len a n) ≡ filter_map g (range_with_len a n)
same_below f g a zero same = refl
same_below f g a (suc n) same =
    ap (λ o. cons_option o (filter_map f (range_with_len (a + 1) n))) (same a (omega arith))
    ∙ ap (cons_option (g a)) (same_below f g (a + 1) n (λ j less. same j (omega (arith, less))))

module _ (sh : Shape) (s : Parts) (own : OwnTransaction) (t b : ℕ) (x : Body) (is : body_at sh s t b ≡ x) (few : length x.slots ≤ 2 ^ 15) where
  -- A slot of the body is that of its place in the table.
  slot_here : (j : ℕ) → j < 2 ^ 20 → slot_in x j ≡ slot_at sh s t (place_of b j)
  slot_here j less =
      ap (λ (y : Body). slot_in y j) (sym is)
      ∙ ap (λ c. slot_in (body_at sh s t c) j) (sym (block_is b j less))
      ∙ ap (slot_in (body_at sh s t (block_of (place_of b j)))) (sym (slot_is b j less))

  -- the rows of the body that a reader sees are those of the core
  pub rows_are : rows_in own t b x ≡ rows_read sh s own t b
  rows_are =
      same_below (λ j. row_in own t (place_of b j) (slot_in x j)) (λ j. row_read sh s own t (place_of b j)) 0 (length x.slots)
      (λ j less. ap (row_in own t (place_of b j)) (slot_here j (omega (arith, less, few))))
      ∙ ap (λ (y : Body). filter_map (λ j. row_read sh s own t (place_of b j)) (range_with_len 0 (length y.slots))) (sym is)

-- a list of no length is empty
pub none_there : {X : Type 0} (xs : List X) → length xs ≡ 0 → xs ≡ []
none_there [] none = refl
none_there (x ∷ xs) none = cc

-- what follows of each value follows of that which a call gave
pub each_ok : {T E : Type 0} {P Q : T → Type 0} (result : Result T E) → ((v : T) → P v → Q v) → IfOk result P → IfOk result Q
each_ok (Ok v) follows told = follows v told
each_ok (Err e) follows told = tt

-- Where the session wrote nothing and no slot has an entry, it sees each slot's row.
module _ (own : OwnTransaction) (t b : ℕ) (none : own.writes ≡ []) where
  -- An option whose content is put back is the same.
  some_again : (o : Option Row) → option_and_then (λ row. Some row) o ≡ o
  some_again None = refl
  some_again (Some row) = refl

  -- A transaction without writes reads the current row of a slot without entries.
  sees_own : (place : ℕ) (slot : Slot) → has_none slot.entries ≡ true → row_in own t place slot ≡ slot.row
  sees_own place slot quiet =
      ap (λ (entries : List (Undo BeforeImage)). option_and_then
      (λ row. cond (is_elsewhere (at_place own.writes (place_at t (key_of row))) place) None (Some row))
      (visible_row laid_back slot.row entries own.snapshot.stamp own.session)) (no_entries slot.entries quiet)
      ∙ ap (λ (writes : PlaceMap ℕ). option_and_then
      (λ row. cond (is_elsewhere (at_place writes (place_at t (key_of row))) place) None (Some row)) slot.row) none
      ∙ some_again slot.row
    where
      no_entries : (entries : List (Undo BeforeImage)) → has_none entries ≡ true → entries ≡ []
      no_entries [] quiet = refl
      no_entries (entry ∷ entries) quiet = cc

  -- A transaction without writes reads the current rows of slots without entries.
  sees_all : (all slots : List Slot) (a : ℕ) → list_all (λ (slot : Slot). has_none slot.entries) slots ≡ true
      → ((k : ℕ) → k < length slots → get_or all (a + k) bare ≡ get_or slots k bare)
      → filter_map (λ j. row_in own t (place_of b j) (get_or all j bare)) (range_with_len a (length slots)) ≡ filter_map (λ (slot : Slot). slot.row) slots
  sees_all all [] a quiet same = refl
  sees_all all (slot ∷ slots) a quiet same =
      let here : get_or all a bare ≡ slot = ap (λ n. get_or all n bare) (omega arith) ∙ same 0 (omega arith) in
      ap (λ (o : Option Row). cons_option o (filter_map (λ j. row_in own t (place_of b j) (get_or all j bare)) (range_with_len (a + 1) (length slots))))
      (ap (row_in own t (place_of b a)) here ∙ sees_own (place_of b a) slot (first (has_none slot.entries) quiet))
      ∙ ap (cons_option slot.row) (sees_all all slots (a + 1) (rest (has_none slot.entries) quiet)
      (λ k less. ap (λ n. get_or all n bare) (omega arith) ∙ same (suc k) (omega (arith, less))))
    where
      first : (x : Bool) → (x && list_all (λ (slot : Slot). has_none slot.entries) slots) ≡ true → x ≡ true
      first true both = refl
      first false both = cc

      rest : (x : Bool) → (x && list_all (λ (slot : Slot). has_none slot.entries) slots) ≡ true → list_all (λ (slot : Slot). has_none slot.entries) slots ≡ true
      rest true both = both
      rest false both = cc

  -- the rows of a body without entries are those that a reader without writes sees
  pub quiet_rows : (x : Body) → is_quiet x ≡ true → rows_of x ≡ rows_in own t b x
  quiet_rows x quiet = sym (sees_all x.slots x.slots 0 quiet (λ k less. ap (λ n. get_or x.slots n bare) (omega arith)))

-- a slot more
pub row_at : (own : OwnTransaction) (t b : ℕ) (x : Body) (place j : ℕ) → place ≡ place_of b j → slot_of place ≡ j
    → row_in own t place (slot_in x (slot_of place)) ≡ row_in own t (place_of b j) (slot_in x j)
row_at own t b x place j is slot = ap (λ k. row_in own t place (slot_in x k)) slot ∙ ap (λ p. row_in own t p (slot_in x j)) is
