use Rattle.std.proofs.Common.{[], arith}
use Rattle.outcome_judge.specs.Judged.{heights_stand, numbers_stand}
use Rattle.outcome_spec.specs.Runs.{run_of}
use Rattle.output_read.specs.Kept.{entries_of}
use Rattle.outcome_judge.proofs.Ends.{both-end}
use Rattle.outcome_judge.proofs.judge.clear_end.Goals as goal

pub numbers_end-requires-clause-within : goal.numbers_end-requires-clause-within
numbers_end-requires-clause-within c = omega (arith, (c.heights_end-low.ensures []).within, c.requires.within)

pub returns : goal.returns
returns c = λ tables.
    both-end (heights_stand (run_of tables (entries_of c.args.replies.now))) (numbers_stand (run_of tables (entries_of c.args.replies.now)))
    c.args.replies.now c.args.until c.heights_end-low.result c.numbers_end.result (c.heights_end-low.ensures tables) (c.numbers_end.ensures tables)
