use Rattle.std.proofs.Common.{◌∙◌, get_or, List, sym, ap}
use Rattle.std.proofs.lemmas.Int.{to_z-of_z}
use mir.Syntax.{w128}
use Rattle.cell_model.specs.Kinds.{values_of}
use Rattle.cell_model.specs.declared.column.Column.{Column}
use Rattle.lane_filter.specs.Totals.{numbers_among}
use Rattle.shared_store.proofs.Totals.{wanted_is}
use Rattle.shared_store.proofs.totalling.wanted_of.Goals as goal

pub returns-clause-wanted : goal.returns-clause-wanted
returns-clause-wanted c =
    wanted_is c.args.schema.now c.args.column c.in-Some.numbers c.args.low c.args.high _ _ c.index-columns-column.result c.requires
    (c.index-columns-column.is ∙ ap (λ (columns : List Column). get_or columns c.args.column c.index-columns-column.result) c.columns.ensures.columns)
    (ap (λ (its : Column). numbers_among (values_of its.kind)) c.index-columns-column.is ∙ sym c.of.ensures ∙ c.in-Some.is)
    (to_z-of_z w128 c.args.low c.ranges.low) (to_z-of_z w128 c.args.high c.ranges.high)
