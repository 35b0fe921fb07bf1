use Rattle.std.proofs.Common.{◌≡◌, ◌∙◌, ◌<◌, ap, subst, Some, length, arith}
use Rattle.std.specs.Prelude.{is_some}
use Rattle.output_read.specs.Kept.{entries_of, entry_of}
use Rattle.outcome_counts.proofs.Starts.{kept-at, at-place}
use Rattle.mark_index.proofs.Noted.{on-ok}
use Rattle.outcome_judge.specs.HistoryKept.{IsNoted}
use Rattle.outcome_judge.specs.declared.keys.Spot.{Spot}
use Rattle.outcome_judge.proofs.CommitsMade.{some-mapped}
use Rattle.outcome_judge.proofs.Seen.{own-same, own-noted, opening-cut}
use Rattle.outcome_judge.proofs.sights.Sights.note_own.Goals as goal

pub seen-row-requires-clause-sights : goal.seen-row-requires-clause-sights
seen-row-requires-clause-sights c = record { taken = c.args.place; these = c.requires.sights }

pub returns-in-None-clause-own : goal.returns-in-None-clause-own
returns-in-None-clause-own c =
    let at = kept-at c.args.replies.now c.args.place c.index-replies-place.result c.requires.inside c.index-replies-place.is in
    let inside : c.args.place < length c.args.replies.now = c.requires.inside in
    let long : length c.args.openings.now ≡ length c.args.replies.now = c.requires.long in
    let cut = at-place c.args.openings.now c.args.place (omega (arith, inside, long)) in
    own-same c.args.openings.now (entries_of c.args.replies.now) at.front (entry_of c.index-replies-place.result) at.rest cut.front cut.item cut.rest c.args.place at.whole at.far cut.whole cut.far
    c.in-None.ensures c.args.self.now.own c.requires.sights.own

pub returns-in-Some-clause-own : goal.returns-in-Some-clause-own
returns-in-Some-clause-own c =
    let at = kept-at c.args.replies.now c.args.place c.index-replies-place.result c.requires.inside c.index-replies-place.is in
    let inside : c.args.place < length c.args.replies.now = c.requires.inside in
    let long : length c.args.openings.now ≡ length c.args.replies.now = c.requires.long in
    let cut = at-place c.args.openings.now c.args.place (omega (arith, inside, long)) in
    let opening : cut.item ≡ Some c.args.opening = opening-cut c.args.openings.now c.args.place cut.item cut.found ∙ c.requires.opened in
    on-ok _ _ c.note.result (λ noted.
    own-noted c.args.openings.now (entries_of c.args.replies.now) at.front (entry_of c.index-replies-place.result) at.rest cut.front cut.item cut.rest c.args.place at.whole at.far cut.whole cut.far
    c.args.opening opening c.in-Some.change c.in-Some.ensures c.args.self.now.own c.note.new.self c.is_some-had.result c.requires.sights.own
    (c.is_some-had.ensures ∙ some-mapped _ c.seen-row.result ∙ ap is_some (c.seen-row.ensures c.args.place c.requires.sights.own))
    (subst (λ (spot : Spot). IsNoted spot c.in-Some.change.left c.is_some-had.result c.args.self.now.own c.note.new.self) c.spot_at-spot.ensures noted)) c.note.ensures
