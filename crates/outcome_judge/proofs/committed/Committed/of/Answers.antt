use Rattle.std.proofs.Common.{◌≡◌, ◌∙◌, ◌+◌, ◌++◌, [], ap, sym, subst, refl, ℕ, List, arith}
use Rattle.output_read.specs.Kept.{entries_of}
use Rattle.outcome_judge.specs.Commits.{IsLaid, commits_from, commit_writes}
use Rattle.outcome_judge.specs.Timed.{TimedWrite}
use Rattle.outcome_judge.proofs.CommitsMade.{laid-none, commits-next, commits-later}
use Rattle.outcome_judge.proofs.committed.Committed.of.Goals as goal

pub loop-at-init : goal.loop-at-init
loop-at-init c = record {
  written = λ owner. [];
  kept = laid-none c.new.result c.new.ensures.left c.new.ensures.gained c.new.ensures.lost (λ owner. []);
  own = refl;
}

pub lay_commit-requires-clause-can : goal.lay_commit-requires-clause-can
lay_commit-requires-clause-can c = record {
  front = commits_from c.args.openings.now (entries_of c.args.replies.now) 1 c.loop-at.at;
  laid = c.loop-at.invariant;
  later = commits-later c.args.openings.now (entries_of c.args.replies.now) 1 c.loop-at.at (c.loop-at.at + 1) (omega arith);
}

pub loop-at-preserved : goal.loop-at-preserved
loop-at-preserved c =
    let openings = c.args.openings.now in
    let entries = entries_of c.args.replies.now in
    let at : ℕ = c.loop-at.at in
    let turn : 1 + at ≡ at + 1 = omega arith in
    subst (λ (ws : List TimedWrite). IsLaid ws c.lay_commit.new.self.writes)
    (ap (λ (n : ℕ). commits_from openings entries 1 at ++ commit_writes openings entries n) (sym turn) ∙ sym (commits-next openings entries 1 at))
    (c.in_ok-lay_commit.ensures (commits_from openings entries 1 at) c.loop-at.invariant (commits-later openings entries 1 at (at + 1) (omega arith)))
