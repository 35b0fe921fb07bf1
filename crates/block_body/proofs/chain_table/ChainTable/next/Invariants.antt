use Rattle.std.proofs.Common.{◌≡◌, ℕ, ◌<◌, ◌≤◌, ◌-◌, None, length}
use Rattle.block_body.specs.Chains.{chain_at}
use Rattle.block_body.specs.Tables.{paired}
use Rattle.block_body.proofs.chain_table.ChainTable.next.Given as goal

abbrev pub invariant-loop-slot : goal.invariant-loop-slot
invariant-loop-slot l = record {
  above : l.from ≤ l.slot;
  least : (other : ℕ) → l.from ≤ other → other < l.slot → chain_at (paired l.self-inside.slots.items l.self-inside.held.items) other ≡ None;
}

abbrev pub decreases-loop-slot : goal.decreases-loop-slot
decreases-loop-slot l = length l.self-inside.places.items - l.slot
