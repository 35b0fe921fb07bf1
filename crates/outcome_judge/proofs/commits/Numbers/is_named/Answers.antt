use Rattle.std.proofs.Common.{◌∙◌, ℕ, Bool, ◌&&◌, ap, sym, nat_lt}
use Rattle.output_read.specs.Kept.{entries_of}
use Rattle.outcome_judge.specs.Writers.{is_number_in, numbers_at}
use Rattle.outcome_judge.proofs.commits.Numbers.is_named.Goals as goal

pub returns : goal.returns
returns c = λ none tables t snapshot.
    let number : ℕ = c.args.number in
    let ns = numbers_at (entries_of c.args.replies.now) c.args.of in
    c.is_named_by.ensures
    ∙ ap (λ (n : ℕ). (nat_lt n number && c.wrote-wrote.result) && c.is_not_after-is_not_after.result) (sym snapshot)
    ∙ ap (λ (b : Bool). (nat_lt t.snapshot number && b) && c.is_not_after-is_not_after.result) c.wrote-wrote.ensures
    ∙ ap (λ (b : Bool). (nat_lt t.snapshot number && is_number_in ns number) && b) (c.is_not_after-is_not_after.ensures none tables)
