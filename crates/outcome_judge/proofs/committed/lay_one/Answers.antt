use Rattle.std.proofs.Common.{◌∙◌, ap, refl, subst, None}
use Rattle.std.specs.Prelude.{is_some, unwrap_or}
use Rattle.mark_index.specs.Lists.{marks_at}
use Rattle.mark_index.proofs.Noted.{on-ok}
use Rattle.outcome_judge.specs.HistoryKept.{IsNoted, row_up_to, spot_cmp}
use Rattle.outcome_judge.specs.Spots.{spot_at}
use Rattle.outcome_judge.specs.declared.keys.Spot.{Spot}
use Rattle.outcome_judge.specs.declared.writes.Left.{Left}
use Rattle.outcome_judge.proofs.CommitsMade.{laid-one, lay-rise, some-mapped}
use Rattle.outcome_judge.proofs.committed.lay_one.Goals as goal

pub row_at-requires : goal.row_at-requires
row_at-requires c = lay-rise c.args.number c.args.writes.now c.requires _

pub returns : goal.returns
returns c = λ front laid later.
    let change = c.args.change.now in
    let left : Left = record { time = c.args.number; row = change.left.row } in
    on-ok _ _ c.note.result (λ noted.
    laid-one front c.args.writes.now c.note.new.self (spot_at 0 change.of) left c.is_some-had.result
    refl laid later (c.is_some-had.ensures ∙ some-mapped _ c.row_at.result ∙ ap is_some (c.row_at.ensures
    ∙ ap (λ (spot : Spot). unwrap_or (row_up_to c.args.number (marks_at spot_cmp c.args.writes.now.left spot)) None) c.spot_at-spot.ensures))
    (subst (λ (spot : Spot). IsNoted spot left c.is_some-had.result c.args.writes.now c.note.new.self) c.spot_at-spot.ensures noted)) c.note.ensures
