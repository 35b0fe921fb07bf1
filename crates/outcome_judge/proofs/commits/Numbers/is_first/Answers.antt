use Rattle.std.proofs.Common.{◌∙◌, ℕ, Option, true, ap, sym, subst, nat_le}
use Rattle.std.specs.List.Sorted.{IsNonDecreasing}
use Rattle.std.specs.Option.{option_map_or}
use Rattle.mark_index.specs.Marks.{count_below}
use Rattle.output_read.specs.Kept.{entries_of}
use Rattle.outcome_judge.specs.Writers.{count_up_to, numbers_at}
use Rattle.outcome_judge.proofs.commits.Numbers.is_first.Goals as goal

pub count_below-requires : goal.count_below-requires
count_below-requires c = subst IsNonDecreasing (sym c.at-numbers.ensures) (c.requires.rise c.args.of)

pub count_up_to-requires : goal.count_up_to-requires
count_up_to-requires c = subst IsNonDecreasing (sym c.at-numbers.ensures) (c.requires.rise c.args.of)

pub returns-in-Some : goal.returns-in-Some
returns-in-Some c =
    let number : ℕ = c.in-Some.number in
    let ns = numbers_at (entries_of c.args.replies.now) c.args.of in
    let same = c.at-numbers.ensures ∙ c.requires.numbers c.args.of in
    ap (λ (n : ℕ). nat_le n c.count_up_to.result) (c.count_below.ensures ∙ ap (count_below number) same)
    ∙ ap (nat_le (count_below number ns)) (c.count_up_to.ensures ∙ ap (count_up_to c.args.t.snapshot) same)
    ∙ ap (λ (o : Option ℕ). option_map_or (λ n. nat_le (count_below n ns) (count_up_to c.args.t.snapshot ns)) o true) (sym c.in-Some.is)
