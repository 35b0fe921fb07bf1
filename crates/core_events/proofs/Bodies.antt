-- What a sound core tells of a body in a hand: its rows have keys, and an imaged one is dense.
use Rattle.std.proofs.Common.{◌≡◌, ℕ, ◌<◌, true, false, ◌&&◌, Bool, List, [], ◌∷◌, Option, None, Some, length, get_or, refl, sym, subst, arith, ⊎_elim}
use Rattle.std.proofs.lemmas.Bool.{cases_lt}
use Rattle.std.proofs.lemmas.List.{get_or_past}
use Rattle.std.specs.Prelude.{All, IfSome}
use Rattle.block_body.proofs.Keyed.{fits-has_key}
use Rattle.block_body.specs.Keys.{HasKey, HasKeys}
use Rattle.block_spec.specs.Bodies.{Body, is_front, is_imaged, is_loose, slot_in}
use Rattle.block_spec.specs.declared.phase.Phase.{Phase}
use Rattle.block_spec.specs.declared.phase.Phase.TheVariants.{Imaged, Loose, Sealed}
use Rattle.block_spec.specs.Fitting.{columns_of}
use Rattle.block_spec.specs.Slots.{Row, Slot, bare, seen}
use Rattle.cell_model.specs.declared.column.Column.{Column}
use Rattle.cell_model.specs.Rows.{Fits}
use Rattle.cell_model.specs.Schemas.{begins_with_key}
use Rattle.core_laws.proofs.Events.Fitting.{current_fits, seen_fits}
use Rattle.event_spec.specs.Parts.{Shape}
use Rattle.event_spec.specs.Replay.{columns_in}
use Rattle.event_spec.specs.SlotSound.{VersionsFit}
use Rattle.event_spec.specs.Sound.{BodyHolds}

-- A row that fits columns which begin with the key has a key.
keyed : (columns : List Column) (row : Option Row) → begins_with_key columns ≡ true → IfSome row (Fits columns) → IfSome row HasKey
keyed columns None key fit = tt
keyed columns (Some row) key fit = fits-has_key columns row key fit

module _ (columns : List Column) (key : begins_with_key columns ≡ true) (slots : List Slot) (fits : All (λ (slot : Slot). VersionsFit columns slot.row slot.entries) slots) (j : ℕ) where
  -- The row that is seen of a slot has a key.
  seen_keyed : (stamp session : ℕ) → IfSome (seen (get_or slots j bare) stamp session) HasKey
  seen_keyed stamp session = ⊎_elim
      (λ less. keyed columns (seen (get_or slots j bare) stamp session) key (seen_fits columns (get_or slots j bare).row (get_or slots j bare).entries stamp session (fits j bare less)))
      (λ past. subst (λ (s : Slot). IfSome (seen s stamp session) HasKey) (sym (get_or_past slots j bare past)) tt)
      (cases_lt j (length slots))

  -- The current row of a slot has a key.
  current_keyed : IfSome (get_or slots j bare).row HasKey
  current_keyed = ⊎_elim
      (λ less. keyed columns (get_or slots j bare).row key (current_fits columns (get_or slots j bare).row (get_or slots j bare).entries (fits j bare less)))
      (λ past. subst (λ (s : Slot). IfSome s.row HasKey) (sym (get_or_past slots j bare past)) tt)
      (cases_lt j (length slots))

module _ (sh : Shape) (t : ℕ) (x : Body) (holds : BodyHolds sh t x) (key : begins_with_key (columns_in sh t) ≡ true) where
  -- a row that a reader sees in the body has a key
  pub keys_seen : (stamp session j : ℕ) → IfSome (seen (slot_in x j) stamp session) HasKey
  keys_seen stamp session j = seen_keyed (columns_in sh t) key x.slots holds.versions j stamp session

  -- each row of the body has a key
  pub has_keys : HasKeys x
  has_keys = record {
    columns = subst (λ (columns : List Column). 0 < length columns) (sym holds.columns) (some (columns_in sh t) key);
    rows = current_keyed (columns_in sh t) key x.slots holds.versions;
  }
    where
      some : (columns : List Column) → begins_with_key columns ≡ true → 0 < length (columns_of columns)
      some [] key = cc
      some (column ∷ columns) key = omega arith

-- a body that is not loose is dense
pub in_front : (sh : Shape) (t : ℕ) (x : Body) → BodyHolds sh t x → is_imaged x.phase ≡ true → is_front x.slots ≡ true
in_front sh t x holds is = second _ (is_front x.slots) (holds.dense (not_loose x.phase is))
  where
    second : (a b : Bool) → (a && b) ≡ true → b ≡ true
    second true b both = both
    second false b both = cc

    not_loose : (phase : Phase) → is_imaged phase ≡ true → is_loose phase ≡ false
    not_loose Loose is = cc
    not_loose (Sealed stamp) is = refl
    not_loose (Imaged stamp) is = refl
