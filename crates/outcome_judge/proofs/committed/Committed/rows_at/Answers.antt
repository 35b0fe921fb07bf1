use Rattle.std.proofs.Common.{arith}
use Rattle.output_read.specs.Kept.{entries_of}
use Rattle.outcome_judge.proofs.Seen.{rows-committed}
use Rattle.outcome_judge.proofs.committed.Committed.rows_at.Goals as goal

pub lost-lost-requires : goal.lost-lost-requires
lost-lost-requires c = c.requires.commits.kept.lost_rise (record { owner = 0; table = c.args.table })

pub gained-requires : goal.gained-requires
gained-requires c = c.requires.commits.kept.gained_rise (record { owner = 0; table = c.args.table })

pub returns : goal.returns
returns c =
    let rows = rows-committed c.args.openings.now (entries_of c.args.replies.now) c.requires.output c.args.self.now.writes c.requires.commits c.args.number c.args.table in
    omega (arith, rows, c.lost-lost.ensures, c.gained.ensures, c.saturating_sub.ensures)
