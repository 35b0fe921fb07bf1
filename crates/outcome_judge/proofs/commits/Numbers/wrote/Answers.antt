use Rattle.std.proofs.Common.{◌∙◌, ℕ, ap, sym, subst, nat_lt}
use Rattle.std.specs.List.Sorted.{IsNonDecreasing}
use Rattle.mark_index.specs.Marks.{count_below}
use Rattle.output_read.specs.Kept.{entries_of}
use Rattle.outcome_judge.specs.Writers.{count_up_to, numbers_at}
use Rattle.outcome_judge.proofs.Counting.{number-found}
use Rattle.outcome_judge.proofs.commits.Numbers.wrote.Goals as goal

pub count_below-requires : goal.count_below-requires
count_below-requires c = subst IsNonDecreasing (sym c.at-numbers.ensures) (c.requires.rise c.args.of)

pub count_up_to-requires : goal.count_up_to-requires
count_up_to-requires c = subst IsNonDecreasing (sym c.at-numbers.ensures) (c.requires.rise c.args.of)

pub returns : goal.returns
returns c =
    let number : ℕ = c.args.number in
    let same = c.at-numbers.ensures ∙ c.requires.numbers c.args.of in
    ap (λ (n : ℕ). nat_lt n c.count_up_to.result) (c.count_below.ensures ∙ ap (count_below number) same)
    ∙ ap (nat_lt (count_below number (numbers_at (entries_of c.args.replies.now) c.args.of))) (c.count_up_to.ensures ∙ ap (count_up_to number) same)
    ∙ number-found number (numbers_at (entries_of c.args.replies.now) c.args.of)
