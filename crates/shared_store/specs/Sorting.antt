-- By which number a row is sorted.
use Rattle.std.specs.Prelude.{ℤ, pos, if◌then◌else◌}
use Rattle.block_spec.specs.Slots.{Row}
use Rattle.cell_model.specs.declared.kind.Kind.TheVariants.{I64}
use Rattle.cell_model.specs.Values.{is_integer_of}
use Rattle.isolation_spec.specs.Contents.{key_of}

-- the number in a row's first cell, where it has 64 bits: the key of each row that has one
abbrev pub narrow_key : Row → ℤ
narrow_key row = if is_integer_of I64 (key_of row) then key_of row else pos 0
