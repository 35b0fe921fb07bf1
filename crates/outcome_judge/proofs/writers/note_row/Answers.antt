use Rattle.std.proofs.Common.{◌≡◌, ◌||◌, eqb, ℕ, List, true, arith, sym, subst}
use Rattle.std.specs.List.Sorted.{IsNonDecreasingBy}
use Rattle.std.specs.Ordering.{is_eq}
use Rattle.std.proofs.lemmas.Bool.Decides.{nat_tests}
use Rattle.mark_index.proofs.Noted.{on-ok}
use Rattle.mark_index.specs.Lists.{marks_at}
use Rattle.mark_index.specs.Marks.{next_peak}
use Rattle.mark_index.specs.declared.marks.Peak.{Peak}
use Rattle.outcome_judge.specs.HistoryKept.{place_in}
use Rattle.outcome_judge.specs.Targets.{target_cmp}
use Rattle.outcome_judge.proofs.Numbering.{none-there, peaks-rise}
use Rattle.outcome_judge.proofs.Targets.{both-noted, row-noted}
use Rattle.outcome_judge.proofs.writers.note_row.Goals as goal

pub note_peak-requires : goal.note_peak-requires
note_peak-requires c = λ of.
    subst (λ (ps : List Peak). IsNonDecreasingBy (λ peak. peak.place) ps) (sym (c.requires.marks of))
    (peaks-rise (c.requires.put of) (next_peak (c.requires.base of) c.args.place c.args.start c.args.number) (c.requires.base of) (c.requires.rise of) (c.requires.below of))

pub note_peak-requires-2 : goal.note_peak-requires-2
note_peak-requires-2 c = λ of.
    let its = c.requires in
    let place : ℕ = c.args.place in
    let itself : eqb place place ≡ true = grind (arith, nat_tests) in
    let now = row-noted (λ (p : Peak). eqb p.place place) (λ (ps : List Peak). next_peak ps place c.args.start c.args.number) (place_in c.args.of) its.base (marks_at target_cmp c.args.peaks.now) (marks_at target_cmp c.note_peak.new.peaks)
    (marks_at target_cmp c.note_peak.new.peaks) its.put c.row_target.result c.table_target.result c.row_target.ensures c.table_target.ensures (λ t. itself) (λ t. none-there place (its.base t) (its.below t)) its.marks c.in_ok-note_peak.ensures of in
    subst (λ (ps : List Peak). IsNonDecreasingBy (λ peak. peak.place) ps) (sym now)
    (peaks-rise (its.put of || is_eq (target_cmp c.row_target.result of)) (next_peak (its.base of) place c.args.start c.args.number) (its.base of) (its.rise of) (its.below of))

pub returns : goal.returns
returns c = λ its.
    let place : ℕ = c.args.place in
    let itself : eqb place place ≡ true = grind (arith, nat_tests) in
    on-ok _ _ c.note_peak-2.result
    (λ second.
    both-noted (λ (p : Peak). eqb p.place place) (λ (ps : List Peak). next_peak ps place c.args.start c.args.number) (place_in c.args.of) its.base (marks_at target_cmp c.args.peaks.now) (marks_at target_cmp c.note_peak.new.peaks)
    (marks_at target_cmp c.note_peak-2.new.peaks) its.put c.row_target.result c.table_target.result c.row_target.ensures c.table_target.ensures (λ t. itself) (λ t. none-there place (its.base t) (its.below t)) its.marks c.in_ok-note_peak.ensures second)
    c.note_peak-2.ensures
