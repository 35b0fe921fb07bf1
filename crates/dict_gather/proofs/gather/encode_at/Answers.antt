use Rattle.std.proofs.Common.{get_or}
use Rattle.arrow_spec.specs.Batches.{column_cells}
use Rattle.dict_gather.proofs.GatherLemmas.{any_column, column-is, column-within, encoded-is}
use Rattle.dict_gather.proofs.gather.encode_at.Goals as goal

pub encode-requires : goal.encode-requires
encode-requires c =
    let columns = c.requires.some.0 in
    let rows = c.requires.some.1.0 in (
      (get_or columns c.args.at any_column).kind,
      (
        column_cells c.args.at rows,
        column-is c.args.batch.now columns rows c.arrays-arrays.result.now c.rows.result c.args.at c.index-arrays-at.result c.requires.some.1.1
            c.arrays-arrays.ensures.arrays c.rows.ensures c.requires.at c.index-arrays-at.is,
      ),
    )

pub returns : goal.returns
returns c = λ columns rows is.
    let kind = (get_or columns c.args.at any_column).kind in
    let cells = column_cells c.args.at rows in
    let column = column-is c.args.batch.now columns rows c.arrays-arrays.result.now c.rows.result c.args.at c.index-arrays-at.result is
    c.arrays-arrays.ensures.arrays c.rows.ensures c.requires.at c.index-arrays-at.is in
    encoded-is c.encode.result columns rows c.args.at (column-within c.args.batch.now columns rows c.args.at is c.requires.at)
    (c.encode.ensures.dictionary kind cells column) (c.encode.ensures.array kind cells column)
