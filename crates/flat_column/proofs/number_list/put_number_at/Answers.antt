use Rattle.std.proofs.Common.{ℤ, length, drop, ◌-◌, ◌/◌, ◌++◌, ap, ◌∙◌, arith}
use Rattle.std.proofs.lemmas.Int.{to_z-of_z}
use Rattle.std.specs.Int.{w128}
use borrow.Rule.Slice.PartMut.{mid_of}
use Rattle.arrow_spec.specs.Bytes.{number_bytes}
use Rattle.flat_column.specs.Numbers.{width_of}
use Rattle.flat_column.proofs.NumberLemmas.{put_at}
use Rattle.flat_column.proofs.number_list.put_number_at.Goals as goal

pub returns : goal.returns
returns c =
    put_at c.args.bytes.now c.put_number.new.bytes (number_bytes (width_of c.args.width) c.args.value) c.args.at (length c.args.bytes.now - c.args.at)
    (c.args.width / 8) (omega (arith, c.requires.room)) (omega arith)
    (c.put_number.ensures
    ∙ ap
    (λ (value : ℤ). number_bytes (width_of c.args.width) value ++ drop (c.args.width / 8) (mid_of c.args.at (length c.args.bytes.now - c.args.at) c.args.bytes.now))
    (to_z-of_z w128 c.args.value c.ranges.value))
