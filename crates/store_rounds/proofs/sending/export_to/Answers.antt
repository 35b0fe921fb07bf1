use Rattle.std.proofs.Common.{arith, ap}
use Rattle.store_rounds.proofs.Counting.{counts_of_new}
use Rattle.store_rounds.proofs.sending.export_to.Goals as goal

pub returns-clause-faults : goal.returns-clause-faults
returns-clause-faults g c =
    let counts = counts_of_new (λ sink. g.X.Sink.faults sink.now) c.new-writer.result c.export_uncounted-result.new.writer c.export_uncounted-result.result
    (ap (λ w. w.failed) c.new-writer.ensures) c.export_uncounted-result.ensures.writer in grind (arith, counts)
