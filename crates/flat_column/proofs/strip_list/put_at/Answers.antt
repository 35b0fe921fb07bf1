use Rattle.std.proofs.Common.{length, ◌+◌, ◌-◌, arith}
use Rattle.flat_column.proofs.StripLemmas.{put_part}
use Rattle.flat_column.proofs.strip_list.put_at.Goals as goal

pub returns : goal.returns
returns c =
    put_part c.args.bytes.now c.copy_from_slice.new.self c.args.value.now c.args.at (c.args.at + length c.args.value.now - c.args.at) (length c.args.value.now)
    (omega arith) c.copy_from_slice.ensures.after
