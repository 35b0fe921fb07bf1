use Rattle.std.proofs.Common.{sym, subst, ℕ}
use Rattle.std.proofs.lemmas.List.{length-map}
use Rattle.mark_index.specs.Lists.{marks_at}
use Rattle.mark_index.specs.Marks.{ArePeaks}
use Rattle.outcome_counts.specs.BlockMarks.{starts_in}
use Rattle.output_read.specs.Kept.{entries_of, entry_of}
use Rattle.outcome_judge.specs.Targets.{target_cmp}
use Rattle.outcome_judge.specs.Writers.{value_at}
use Rattle.outcome_judge.proofs.commits.Heights.of.Goals as goal

pub returns : goal.returns
returns c =
    let entries = entries_of c.args.replies.now in
    record {
      peaks = λ of. subst (λ (n : ℕ). ArePeaks (value_at entries of) (starts_in entries) entries n (marks_at target_cmp c.in_ok-peaks.field-0 of))
          (sym (length-map c.args.replies.now entry_of)) (c.in_ok-peaks.ensures of);
    }
