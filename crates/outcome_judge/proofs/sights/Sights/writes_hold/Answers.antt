use Rattle.std.proofs.Common.{◌∙◌, sym}
use Rattle.outcome_judge.proofs.ReadsJudged.{writes-none, writes-some}
use Rattle.outcome_judge.proofs.sights.Sights.writes_hold.Goals as goal

pub returns-in-None : goal.returns-in-None
returns-in-None c = λ tables none. writes-none tables c.args.openings.now c.args.replies.now c.requires.output c.args.at c.requires.inside none (sym c.in-None.ensures)

pub returns-in-Some : goal.returns-in-Some
returns-in-Some c = λ tables none.
    c.write_holds.ensures none ∙ sym (writes-some tables c.args.openings.now c.args.replies.now c.requires.output c.args.at c.requires.inside none c.in-Some.opening (sym c.in-Some.ensures))
