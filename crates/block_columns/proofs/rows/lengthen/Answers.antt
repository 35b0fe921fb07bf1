use Rattle.std.proofs.Common.{arith}
use Rattle.block_columns.proofs.Rowed.{longer_zip, longer_set, longer_next}
use Rattle.block_columns.proofs.rows.lengthen.Goals as goal

pub loop-column-init : goal.loop-column-init
loop-column-init c = record { longer = longer_zip c.args.columns.now; done = λ k d lt. absurd (omega (arith, lt)) }

pub loop-column-preserved : goal.loop-column-preserved
loop-column-preserved c = record {
  longer = longer_set c.args.columns.now c.loop-column.columns c.loop-column.column-index c.column-item.result c.lengthen_column.new.column c.loop-column.invariant.longer c.lengthen_column.ensures.longer;
  done = longer_next c.args.to c.loop-column.columns c.loop-column.column-index c.lengthen_column.new.column (omega arith) c.loop-column.invariant.done c.in_ok-lengthen_column.ensures.ok;
}

pub returns-in_err-lengthen_column-clause-longer : goal.returns-in_err-lengthen_column-clause-longer
returns-in_err-lengthen_column-clause-longer c =
    longer_set c.args.columns.now c.loop-column.columns c.loop-column.column-index c.column-item.result c.lengthen_column.new.column c.loop-column.invariant.longer c.lengthen_column.ensures.longer
