use Rattle.std.proofs.Common.{◌≡◌, ℕ, ◌<◌, ◌≤◌, ◌-◌, ◌*◌, ◌^◌}
use Rattle.std.specs.Prelude.{not, filter}
use Rattle.undo_chain.specs.Entry.{is_stamped_by}
use Rattle.block_body.specs.Chains.{AreChains, chain_at, entries_at, stamped_below}
use Rattle.block_body.proofs.chains.prune.Given as goal

abbrev pub invariant-loop-slot : goal.invariant-loop-slot
invariant-loop-slot l = record {
  chains : AreChains l.chains.entries;
  below : (slot : ℕ) → slot < l.from → entries_at l.chains.entries slot
      ≡ filter (λ undo. not (is_stamped_by undo l.oldest)) (entries_at l.initial.chains.entries slot);
  above : (slot : ℕ) → l.from ≤ slot → chain_at l.chains.entries slot ≡ chain_at l.initial.chains.entries slot;
  count : l.dropped ≡ stamped_below (entries_at l.initial.chains.entries) l.oldest l.from;
  few : l.dropped ≤ l.from * 2 ^ 31;
  within : l.from ≤ l.slots;
}

abbrev pub decreases-loop-slot : goal.decreases-loop-slot
decreases-loop-slot l = l.slots - l.from
