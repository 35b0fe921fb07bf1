use Rattle.std.proofs.Common.{◌≡◌, take}
use Rattle.block_spec.specs.Slots.{patched}
use Rattle.block_body.proofs.view.with_cells.Given as goal

abbrev pub invariant-loop-assignment : goal.invariant-loop-assignment
invariant-loop-assignment l = l.cells.items ≡ patched l.initial.cells.items (take l.assignment-index l.assignment-items)
