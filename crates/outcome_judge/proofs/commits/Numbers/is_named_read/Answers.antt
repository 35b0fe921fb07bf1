use Rattle.std.proofs.Common.{◌∙◌, ℕ, Bool, ◌&&◌, ap, sym, nat_lt}
use Rattle.output_read.specs.Kept.{entries_of}
use Rattle.outcome_judge.specs.Stale.{numbers_meeting}
use Rattle.outcome_judge.specs.Writers.{is_number_in}
use Rattle.outcome_judge.proofs.commits.Numbers.is_named_read.Goals as goal

pub returns : goal.returns
returns c = λ none tables t snapshot.
    let number : ℕ = c.args.number in
    let ns = numbers_meeting (entries_of c.args.replies.now) c.args.what in
    c.is_named_by.ensures
    ∙ ap (λ (n : ℕ). (nat_lt n number && c.wrote_read-wrote.result) && c.is_not_after-is_not_after.result) (sym snapshot)
    ∙ ap (λ (b : Bool). (nat_lt t.snapshot number && b) && c.is_not_after-is_not_after.result) c.wrote_read-wrote.ensures
    ∙ ap (λ (b : Bool). (nat_lt t.snapshot number && is_number_in ns number) && b) (c.is_not_after-is_not_after.ensures none tables)
