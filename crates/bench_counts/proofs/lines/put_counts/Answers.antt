use Rattle.std.proofs.Common.{rules}
use Rattle.std.specs.Int.{w128}
use Rattle.std.specs.Int.RustNames.{FitsSigned}
use Rattle.std.proofs.lemmas.Int.{to_z-of_z}
use Rattle.bench_counts.proofs.Pieces.{four_pieces}
use Rattle.bench_counts.proofs.lines.put_counts.Goals as goal

pub returns : goal.returns
returns c =
    let fits : FitsSigned w128 c.args.counts.now.sum = search rules in
    let told = simp to_z-of_z at c.in_ok-put_sum.ensures in
    four_pieces c.args.out.now.items c.put_count.new.out.items c.put_count-2.new.out.items c.put_sum.new.out.items c.put_count-3.new.out.items _ _ _ _
    c.in_ok-put_count.ensures c.in_ok-put_count-2.ensures told c.in_ok-put_count-3.ensures
