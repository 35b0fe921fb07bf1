use Rattle.std.proofs.Common.{List, ap, ◌∙◌}
use Rattle.std.specs.Prelude.{slice_set, Option, Some, None}
use Rattle.std.proofs.lemmas.List.{set-set}
use Rattle.cell_model.specs.declared.cell.Cell.{Cell}
use Rattle.block_columns.proofs.columns.Columns.put.Goals as goal

pub returns-clause-ok : goal.returns-clause-ok
returns-clause-ok c =
    c.lay.ensures.rows
    ∙ ap (λ (l : List (Option (List Cell))). slice_set l c.args.slot (Some c.args.row)) c.in_ok-before.ensures.ok
    ∙ set-set c.reserve.new.self.rows c.args.slot None (Some c.args.row)
    ∙ ap (λ (l : List (Option (List Cell))). slice_set l c.args.slot (Some c.args.row)) c.reserve.ensures.rows
