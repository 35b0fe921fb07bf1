use Rattle.std.proofs.Common.{◌∙◌, ℕ, List, ap, sym, subst}
use Rattle.std.specs.List.Sorted.{IsNonDecreasingBy}
use Rattle.std.proofs.lemmas.List.{length-map}
use Rattle.mark_index.specs.Lists.{marks_at}
use Rattle.mark_index.specs.Marks.{ArePeaks}
use Rattle.mark_index.specs.declared.marks.Peak.{Peak}
use Rattle.output_read.specs.Kept.{entries_of, entry_of}
use Rattle.outcome_counts.specs.Asked.{peak_before}
use Rattle.outcome_counts.specs.BlockMarks.{starts_in}
use Rattle.outcome_counts.proofs.Peaks.{peaks-before}
use Rattle.outcome_judge.specs.Writers.{number_told, numbers_at}
use Rattle.outcome_judge.specs.Targets.{target_cmp}
use Rattle.outcome_judge.proofs.commits.Heights.highest_before.Goals as goal

pub peak_before-requires : goal.peak_before-requires
peak_before-requires c = subst (λ (peaks : List Peak). IsNonDecreasingBy (λ peak. peak.place) peaks) (sym c.at.ensures) (c.requires.written.peaks c.args.of).rise

pub returns : goal.returns
returns c = λ none.
    let replies = c.args.replies.now in
    let entries = entries_of replies in
    let value = number_told entries (numbers_at entries c.args.of) in
    c.peak_before.ensures ∙ ap (λ (peaks : List Peak). peak_before peaks c.args.at c.args.stretch.now) c.at.ensures
    ∙ peaks-before value replies c.args.at c.args.stretch.now c.requires.asked (marks_at target_cmp c.args.self.now.peaks c.args.of)
    (subst (λ (n : ℕ). ArePeaks value (starts_in entries) entries n (marks_at target_cmp c.args.self.now.peaks c.args.of)) (length-map replies entry_of) (c.requires.written.peaks c.args.of)) none
