use Rattle.std.proofs.Common.{◌≡◌, ℕ, Bool, nat_le, sym, ◌∙◌}
use Rattle.std.specs.Prelude.{◌&&◌, ◌==◌}
use Rattle.outcome_spec.specs.Entries.{before}
use Rattle.output_read.specs.Kept.{entries_of}
use Rattle.outcome_counts.specs.Asked.{asked_at}
use Rattle.outcome_counts.proofs.Shown.{all-numbered, commits-below}
use Rattle.outcome_counts.proofs.number_marks.NumberMarks.is_commit_number.Goals as goal

numbered : (result : Bool) (number count lines above its_count its_lines its_above : ℕ) (all : Bool)
    → result ≡ (nat_le 1 number && nat_le number count && lines == 1 && nat_le above number) → count ≡ its_count → lines ≡ its_lines → above ≡ its_above → all ≡ nat_le its_above number
    → result ≡ (nat_le 1 number && nat_le number its_count && its_lines == 1 && all)
numbered result number count lines above its_count its_lines its_above all is one two three four = cc

pub returns : goal.returns
returns c = λ tables none.
    numbered c.is_commit_by.result c.args.number c.commit_count-count.result c.lines_of-lines.result c.above_commits_before-above.result _ _ _ _
    c.is_commit_by.ensures (c.commit_count-count.ensures ∙ sym (all-numbered tables (entries_of c.args.replies.now))) c.lines_of-lines.ensures (c.above_commits_before-above.ensures none)
    (commits-below c.args.number (before (entries_of c.args.replies.now) (asked_at c.args.replies.now c.args.at none)))
