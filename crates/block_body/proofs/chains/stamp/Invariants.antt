use Rattle.std.proofs.Common.{◌≡◌, ℕ, take, map, cond}
use Rattle.undo_chain.specs.Stamped.{stamped}
use Rattle.block_body.specs.Chains.{AreChains, entries_at, is_listed}
use Rattle.block_body.proofs.chains.stamp.Given as goal

abbrev pub invariant-loop-slot : goal.invariant-loop-slot
invariant-loop-slot l = record {
  chains : AreChains l.chains.entries;
  entries : (slot : ℕ) → entries_at l.chains.entries slot
      ≡ cond (is_listed (take l.slot-index l.slots) slot) (map (stamped l.session l.stamp l.number) (entries_at l.initial.chains.entries slot)) (entries_at l.initial.chains.entries slot);
}
