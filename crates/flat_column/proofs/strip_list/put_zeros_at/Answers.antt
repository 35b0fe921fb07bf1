use Rattle.std.proofs.Common.{replicate, length, ◌+◌, ◌-◌, arith, rules}
use Rattle.flat_column.proofs.StripLemmas.{put_part}
use Rattle.flat_column.proofs.strip_list.put_zeros_at.Goals as goal

pub returns : goal.returns
returns c =
    put_part c.args.bytes.now c.fill.new.self (replicate c.args.width 0) c.args.at (c.args.at + c.args.width - c.args.at) c.args.width
    (omega arith) (search rules)
