use Rattle.std.proofs.Common.{◌≡◌, ℕ, None, take, cond, length, get_or}
use Rattle.std.specs.List.{list_any}
use Rattle.block_spec.specs.Slots.{rolled_back}
use Rattle.undo_chain.specs.Entry.{is_own}
use Rattle.block_body.specs.Chains.{AreChains, IsKept, slot_at, entries_at, is_listed}
use Rattle.block_body.proofs.chains.roll_back.Given as goal

abbrev pub invariant-loop-slot : goal.invariant-loop-slot
invariant-loop-slot l = record {
  chains : AreChains l.chains.entries;
  own : l.rows.image ≡ None;
  slots : (slot : ℕ) → slot_at l.rows.rows l.chains.entries slot
      ≡ cond (is_listed (take l.slot-index l.slots) slot) (rolled_back l.session (slot_at l.initial.rows.rows l.initial.chains.entries slot)) (slot_at l.initial.rows.rows l.initial.chains.entries slot);
  kept : (slot : ℕ) → IsKept l.rows slot (get_or l.rows.rows slot None) (entries_at l.chains.entries slot);
  long : length l.rows.rows ≡ length l.initial.rows.rows;
  columns : l.rows.columns ≡ l.initial.rows.columns;
  any : l.any ≡ list_any (λ slot. list_any (λ undo. is_own undo l.session) (entries_at l.initial.chains.entries slot)) (take l.slot-index l.slots);
}
