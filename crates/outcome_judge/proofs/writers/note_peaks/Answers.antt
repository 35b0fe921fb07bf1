use Rattle.std.proofs.Common.{◌≡◌, ◌∙◌, ◌≤◌, ◌<◌, ◌+◌, ◌++◌, ◌∷◌, [], ℕ, Bool, List, nat_le, nat_lt, true, false, take, ap, sym, arith}
use Rattle.std.specs.List.Sorted.{IsNonDecreasingBy}
use Rattle.std.proofs.lemmas.Bool.Decides.{nat_tests}
use Rattle.mark_index.specs.Lists.{marks_at, with_mark}
use Rattle.mark_index.specs.Marks.{next_peak}
use Rattle.mark_index.specs.declared.marks.Peak.{Peak}
use Rattle.outcome_judge.specs.Targets.{target_cmp}
use Rattle.outcome_judge.specs.declared.changes.Change.{Change}
use Rattle.outcome_judge.proofs.CommitsMade.{take-next-one}
use Rattle.timeline_laws.proofs.Tests.{or-false}
use Rattle.mark_index.specs.declared.MarkIndex.{MarkIndex}
use Rattle.std.specs.List.{list_all}
use Rattle.outcome_judge.specs.declared.keys.Target.{Target}
use Rattle.outcome_judge.specs.Writers.{AreMarked, is_written}
use Rattle.outcome_judge.proofs.Numbering.{written-step}
use Rattle.outcome_judge.proofs.writers.note_peaks.Goals as goal
use Rattle.outcome_judge.proofs.writers.note_peaks.Goals.{then-change-place+in_ok-note_row, else-change-place}

-- What is kept are the marks from before, with one more behind those that the first so many changes
-- have a place of.
abbrev marked : (peaks now : MarkIndex Target Peak) (own : List Change) (i place start number : ℕ) → ((of : Target) → IsNonDecreasingBy (λ peak. peak.place) (marks_at target_cmp peaks of))
    → ((of : Target) → list_all (λ peak. nat_lt peak.place place) (marks_at target_cmp peaks of) ≡ true)
    → ((of : Target) → marks_at target_cmp now of ≡ with_mark (is_written of place (take i own)) (next_peak (marks_at target_cmp peaks of) place start number) (marks_at target_cmp peaks of))
    → AreMarked place start number now
marked peaks now own i place start number rise below marks =
    record { base = marks_at target_cmp peaks; put = λ of. is_written of place (take i own); rise = rise; below = below; marks = marks }

pub note_row-requires : goal.note_row-requires
note_row-requires c =
    marked c.args.peaks.now c.loop-change.peaks c.args.own.now c.loop-change.change-index c.args.place c.args.start c.args.number c.requires.rise c.requires.below c.loop-change.invariant

pub loop-change-preserved : goal.loop-change-preserved
loop-change-preserved c = λ of.
    let own : List Change = c.args.own.now in
    let i : ℕ = c.loop-change.change-index in
    let place : ℕ = c.args.place in
    let change : Change = c.change-item.result in
    let base = marks_at target_cmp c.args.peaks.now of in
    let mark = λ (ps : List Peak). next_peak ps place c.args.start c.args.number in
    let was = is_written of place (take i own) in
    let next : take (i + 1) own ≡ take i own ++ change ∷ [] = take-next-one own i change c.loop-change-test.true c.change-item.is in
    elim c.if-change-place.branch [
      | then-change-place+in_ok-note_row w ↦
          let low : change.left.time ≤ place = w.if-change-place.true in
          let early : nat_le change.left.time place ≡ true = grind (arith, nat_tests, low) in
          ap (λ (ps : _). marks_at target_cmp ps of) w.peaks-is
          ∙ w.in_ok-note_row.ensures (marked c.args.peaks.now c.loop-change.peaks own i place c.args.start c.args.number c.requires.rise c.requires.below c.loop-change.invariant) of
          ∙ sym (ap (λ (b : Bool). with_mark b (mark base) base) (written-step of place own i change next true early))
      | else-change-place w ↦
          let high : place < change.left.time = w.if-change-place.false in
          let late : nat_le change.left.time place ≡ false = grind (arith, nat_tests, high) in
          ap (λ (ps : _). marks_at target_cmp ps of) w.peaks-is
          ∙ c.loop-change.invariant of
          ∙ sym (ap (λ (b : Bool). with_mark b (mark base) base) (written-step of place own i change next false late ∙ or-false was))
    ]
