use Rattle.std.proofs.Common.{◌≡◌, ◌≤◌, ◌++◌, ◌∙◌, List, length, get_or, sym, ap, subst, append-nil, arith}
use Rattle.std.proofs.lemmas.List.{drop_all}
use Rattle.cell_model.specs.Rows.{Fits}
use Rattle.cell_model.specs.declared.column.Column.{Column}
use Rattle.arrow_spec.specs.Batches.{arrays_of}
use Rattle.arrow_array.proofs.ArrayLemmas.{arrays_from, arrays-few, slot-fits}
use Rattle.arrow_array.proofs.arrays.build.Goals as goal

pub array-requires-clause-fits : goal.array-requires-clause-fits
array-requires-clause-fits c =
    let columns : List Column = c.columns-columns.result.now in
    λ k d inside.
    let row = get_or c.args.rows.now k d in
    slot-fits columns row c.index-columns-place.result c.loop-place.place c.loop-place-test.true c.index-columns-place.is
    (subst (λ (all : List Column). Fits all row) (sym c.columns-columns.ensures.columns) (c.requires.fits k d inside))

pub new-requires : goal.new-requires
new-requires c =
    let columns : List Column = c.columns-columns.result.now in
    let few : length columns ≤ 32 = subst (λ (all : List Column). length all ≤ 32) (sym c.columns-columns.ensures.columns) c.columns-columns.ensures.schema.few in
    let whole : c.loop-place.arrays.items ≡ arrays_of columns c.args.rows.now =
    sym (append-nil c.loop-place.arrays.items)
    ∙ ap
    (λ (rest : List Column). c.loop-place.arrays.items ++ arrays_from c.loop-place.place rest c.args.rows.now)
    (sym (drop_all c.loop-place.place columns (omega arith)))
    ∙ c.loop-place.invariant in
    arrays-few columns c.args.rows.now c.loop-place.arrays.items few whole
