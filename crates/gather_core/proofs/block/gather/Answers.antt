use Rattle.std.proofs.Common.{ap, ◌∙◌, length, sym}
use Rattle.block_columns.specs.Columns.{ColumnsValue}
use Rattle.gather_core.proofs.Columns.{whole_image}
use Rattle.gather_core.proofs.block.gather.Goals as goal

pub of-requires-clause-each : goal.of-requires-clause-each
of-requires-clause-each g c = c.in_ok-form.ensures.each ∙ ap (λ (v : ColumnsValue). length v.columns) (sym c.in_ok-copy.ensures)

pub returns-clause-whole : goal.returns-clause-whole
returns-clause-whole g c =
    whole_image c.args.columns.now c.in_ok-copy.field-0 c.args.rows c.in_ok-form.form c.of.result
    c.of.ensures c.in_ok-copy.ensures c.in_ok-form.ensures.whole
