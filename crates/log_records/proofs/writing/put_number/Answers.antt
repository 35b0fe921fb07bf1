use Rattle.std.proofs.Common.{ℤ, ◌∙◌, ap}
use Rattle.std.specs.Int.{w128, cast_unsigned, to_le_bytes}
use Rattle.std.proofs.lemmas.Int.{to_z-of_z}
use Rattle.log_records.proofs.Written.{put_ok}
use Rattle.log_records.proofs.writing.put_number.Goals as goal

pub returns : goal.returns
returns c =
    put_ok c.extend_from_slice.result c.extend_from_slice.new.self.items c.args.bytes.now.items c.to_le_bytes.result (to_le_bytes w128 (cast_unsigned w128 c.args.number))
    c.extend_from_slice.ensures.items
    (c.to_le_bytes.ensures ∙ ap (λ (n : ℤ). to_le_bytes w128 (cast_unsigned w128 n)) (to_z-of_z w128 c.args.number c.ranges.number))
