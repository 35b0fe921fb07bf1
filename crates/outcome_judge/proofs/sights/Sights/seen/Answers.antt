use Rattle.std.proofs.Common.{◌∙◌, ap, sym, ℕ, Option, List}
use Rattle.std.specs.Prelude.{unwrap_or}
use Rattle.cell_model.specs.declared.cell.Cell.{Cell}
use Rattle.isolation_spec.specs.Contents.{at_place, state_at}
use Rattle.output_read.specs.Kept.{entries_of}
use Rattle.mark_index.specs.Lists.{marks_at}
use Rattle.outcome_judge.specs.HistoryKept.{place_in, row_up_to, spot_cmp}
use Rattle.outcome_judge.specs.Seen.{base_at, history_of}
use Rattle.outcome_judge.specs.declared.keys.Spot.{Spot}
use Rattle.outcome_judge.proofs.Seen.{row-seen}
use Rattle.outcome_judge.proofs.sights.Sights.seen.Goals as goal

pub left_at-requires : goal.left_at-requires
left_at-requires c = c.requires.sights.these.own.kept.left_rise c.spot_at-spot.result

pub row_at-requires-clause-commits : goal.row_at-requires-clause-commits
row_at-requires-clause-commits c = c.requires.sights.these.commits

pub returns-in-Some : goal.returns-in-Some
returns-in-Some c = λ taken own.
    let entries = entries_of c.args.replies.now in
    sym (row-seen c.args.openings.now entries taken c.args.self.now.own own c.args.opening c.args.at c.args.of
    ∙ ap (λ (spot : Spot). unwrap_or (row_up_to c.args.at (marks_at spot_cmp c.args.self.now.own.left spot)) (at_place (base_at entries c.args.opening) (place_in c.args.of))) (sym c.spot_at-spot.ensures)
    ∙ ap (λ (o : Option (Option (List Cell))). unwrap_or o (at_place (base_at entries c.args.opening) (place_in c.args.of))) (sym c.in-Some.ensures))

pub returns-in-None : goal.returns-in-None
returns-in-None c = λ taken own.
    let entries = entries_of c.args.replies.now in
    c.row_at.ensures
    ∙ ap (λ (n : ℕ). at_place (state_at (history_of entries) n) (place_in c.args.of)) c.snapshot_at.ensures
    ∙ sym (row-seen c.args.openings.now entries taken c.args.self.now.own own c.args.opening c.args.at c.args.of
    ∙ ap (λ (spot : Spot). unwrap_or (row_up_to c.args.at (marks_at spot_cmp c.args.self.now.own.left spot)) (at_place (base_at entries c.args.opening) (place_in c.args.of))) (sym c.spot_at-spot.ensures)
    ∙ ap (λ (o : Option (Option (List Cell))). unwrap_or o (at_place (base_at entries c.args.opening) (place_in c.args.of))) (sym c.in-None.ensures))
