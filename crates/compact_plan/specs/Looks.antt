-- What a plan asks of a look at a block.
use Rattle.std.specs.Prelude.{ℕ, ◌<◌, ◌^◌, All}
use Rattle.block_spec.specs.declared.look.MovableRow.{MovableRow}
use Rattle.event_spec.specs.Plans.{BlockLook}

-- Each slot that the look tells has a place: a block has 2 ^ 20 of them.
pub record HasPlaces (seen : BlockLook) : Type 0 where
  pub rows : All (λ (row : MovableRow). row.slot < 2 ^ 20) seen.look.rows
  pub gaps : All (λ (slot : ℕ). slot < 2 ^ 20) seen.look.gaps
