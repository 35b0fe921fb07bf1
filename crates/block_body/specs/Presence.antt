-- Whether a slot has a row, without the row.
use Rattle.std.specs.Prelude.{Bool, true, false}
use Rattle.block_spec.specs.declared.change.Before.{Before}
use Rattle.block_spec.specs.declared.change.Before.TheVariants as before

-- whether there is a row once a before-image is laid back
abbrev pub had_row : Bool → Before → Bool
had_row has before.Empty = false
had_row has (before.Whole old) = true
had_row has (before.Part patch) = has
