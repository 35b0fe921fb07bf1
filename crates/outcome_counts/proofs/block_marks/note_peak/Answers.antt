use Rattle.std.proofs.Common.{List, sym, subst}
use Rattle.std.specs.List.Sorted.{IsNonDecreasingBy}
use Rattle.mark_index.specs.declared.marks.Peak.{Peak}
use Rattle.outcome_counts.proofs.block_marks.note_peak.Goals as goal

pub next_peak-peak-requires : goal.next_peak-peak-requires
next_peak-peak-requires c = subst (λ (peaks : List Peak). IsNonDecreasingBy (λ peak. peak.place) peaks) (sym c.at.ensures) (c.requires c.in-Some.field-0.of)
