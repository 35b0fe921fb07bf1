-- A body's slots, and what holds of a new body.
use Rattle.std.proofs.Common.{◌≡◌, ℕ, zero, suc, ◌+◌, Bool, List, [], ◌∷◌, None, refl, ap}
use Rattle.std.specs.Prelude.{replicate}
use Rattle.block_spec.specs.declared.phase.Phase.{Phase}
use Rattle.block_spec.specs.Slots.{Slot, bare}
use Rattle.block_spec.specs.Bodies.{slot_in}
use Rattle.block_body.specs.Rows.{RowsValue}
use Rattle.block_body.specs.Slots.{slots_from}
use Rattle.block_body.specs.Chains.{Chains, slot_at}
use Rattle.block_body.specs.Bodies.{IsBody, SlotLists, body_value}
use Rattle.block_body.proofs.Whole.{slot_is}

-- a slot of a body is made of its row and its entries
pub body_slot : (rows : RowsValue) (chains : Chains) (lists : SlotLists) (phase : Phase) (cooling : Bool) (rounds last : ℕ) → IsBody rows chains lists phase last →
    (k : ℕ) → slot_in (body_value rows chains phase cooling rounds last) k ≡ slot_at rows.rows chains k
body_slot rows chains lists phase cooling rounds last is k = slot_is rows chains is.each is.kept k

-- the slots of a new body are bare
pub new_slots : (n at : ℕ) → slots_from (λ k. []) at (replicate n None) ≡ replicate n bare
new_slots zero at = refl
new_slots (suc n) at = ap (λ (slots : List Slot). bare ∷ slots) (new_slots n (at + 1))
