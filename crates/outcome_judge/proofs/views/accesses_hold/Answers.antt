use Rattle.std.proofs.Common.{◌∙◌, sym}
use Rattle.outcome_judge.proofs.Both.{fails-first, is-last}
use Rattle.outcome_judge.proofs.views.accesses_hold.Goals as goal

pub returns-then-not-reads : goal.returns-then-not-reads
returns-then-not-reads c = λ tables none. fails-first _ _ (sym c.if-not-reads.true ∙ c.in_ok-reads.ensures tables none)

pub returns : goal.returns
returns c = λ tables none. is-last _ _ _ (sym c.if-not-reads.false ∙ c.in_ok-reads.ensures tables none) (c.writes_hold.ensures tables none)
