use Rattle.std.proofs.Common.{rules, List, ◌≡◌, ◌++◌}
use Rattle.cell_model.specs.declared.cell.Cell.{Cell}
use Rattle.arrow_spec.specs.Arrays.{number_of}
use Rattle.arrow_array.specs.Batches.{cell_at, value_bytes}
use Rattle.arrow_array.proofs.ValueLemmas.{piece-added}
use Rattle.arrow_array.proofs.values.numbers.Goals as goal

pub loop-row-preserved : goal.loop-row-preserved
loop-row-preserved c =
    let added : c.add_number.new.bytes.items ≡ c.loop-row.bytes.items ++ value_bytes c.args.values.now (number_of (cell_at c.args.place c.row-item.result)) = search rules in
    piece-added (λ (row : List Cell). value_bytes c.args.values.now (number_of (cell_at c.args.place row))) c.args.rows.now c.row-item.result
    c.loop-row.row-index c.loop-row.bytes.items c.add_number.new.bytes.items c.loop-row-test.true c.row-item.is c.loop-row.invariant added
