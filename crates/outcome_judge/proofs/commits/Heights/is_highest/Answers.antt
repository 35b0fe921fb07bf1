use Rattle.std.proofs.Common.{◌∙◌, ℕ, ap, nat_le}
use Rattle.outcome_judge.proofs.commits.Heights.is_highest.Goals as goal

pub returns : goal.returns
returns c = λ none.
    ap (λ (n : ℕ). nat_le c.highest_before.result n) c.from.ensures
    ∙ ap (λ (n : ℕ). nat_le n c.args.number) (c.highest_before.ensures none)
