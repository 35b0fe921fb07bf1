use Rattle.std.proofs.Common.{◌∙◌, ℕ, List, ap, sym, nat_le}
use Rattle.output_read.specs.Kept.{entries_of}
use Rattle.outcome_counts.specs.Asked.{asked_at}
use Rattle.outcome_judge.specs.HistoryKept.{place_in}
use Rattle.mark_index.specs.Marks.{highest}
use Rattle.outcome_spec.specs.Entries.{before}
use Rattle.outcome_judge.specs.Writers.{number_told, numbers_at}
use Rattle.outcome_judge.specs.declared.keys.Target.{Target}
use Rattle.outcome_judge.proofs.Targets.{row-numbers}
use Rattle.outcome_judge.proofs.Updating.{passes-commit}
use Rattle.outcome_judge.proofs.commits.Heights.passes_no_commit.Goals as goal

pub returns : goal.returns
returns c = λ none tables t snapshot.
    let replies = c.args.replies.now in
    ap (λ (n : ℕ). nat_le c.highest_before.result n) (c.from.ensures ∙ sym snapshot)
    ∙ ap (λ (n : ℕ). nat_le n t.snapshot) (c.highest_before.ensures none)
    ∙ ap (λ (of : Target). nat_le (highest (number_told (entries_of replies) (numbers_at (entries_of replies) of)) (before (entries_of replies) (asked_at replies c.args.at none))) t.snapshot) c.row_target.ensures
    ∙ ap (λ (ns : List ℕ). nat_le (highest (number_told (entries_of replies) ns) (before (entries_of replies) (asked_at replies c.args.at none))) t.snapshot) (row-numbers (entries_of replies) (place_in c.args.of))
    ∙ passes-commit tables (entries_of replies) t (place_in c.args.of) (asked_at replies c.args.at none)
