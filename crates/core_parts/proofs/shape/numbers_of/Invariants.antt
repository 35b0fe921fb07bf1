use Rattle.std.proofs.Common.{◌≡◌, ◌*◌, ◌++◌, length, drop}
use Rattle.core_parts.specs.Numbers.{first_bodies, after_bodies}
use Rattle.core_parts.proofs.shape.numbers_of.Given as goal

abbrev pub invariant-loop-table : goal.invariant-loop-table
invariant-loop-table l =
    (l.bodies.items ++ first_bodies l.next (drop l.table-index l.fn.tables) ≡ first_bodies (9 * length l.fn.tables) l.fn.tables)
    × (after_bodies l.next (drop l.table-index l.fn.tables) ≡ after_bodies (9 * length l.fn.tables) l.fn.tables)
