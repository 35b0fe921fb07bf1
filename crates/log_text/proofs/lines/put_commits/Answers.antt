use Rattle.std.proofs.Common.{◌∙◌}
use Rattle.log_text.proofs.Behind.{commit_next}
use Rattle.log_text.proofs.lines.put_commits.Goals as goal

pub loop-at-preserved : goal.loop-at-preserved
loop-at-preserved c =
    commit_next c.args.tables.now c.loop-at.out.items c.put_commit.new.out.items c.loop-at.at
    c.args.commits.now c.index-commits-at.result c.loop-at-test.true c.index-commits-at.is
    c.in_ok-put_commit.ensures
    ∙ c.loop-at.invariant
