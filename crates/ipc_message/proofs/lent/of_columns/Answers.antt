use Rattle.std.proofs.Common.{List, ◌∙◌, arith}
use Rattle.std.proofs.lemmas.List.{take_all}
use Rattle.arrow_spec.specs.Batches.{arrays_of}
use Rattle.arrow_array.proofs.ArrayLemmas.{length-arrays}
use Rattle.arrow_array.proofs.Splits.{take-added}
use Rattle.block_columns.specs.Images.{apart, image_with, rows_of}
use Rattle.block_spec.specs.Slots.{Row}
use Rattle.ipc_message.proofs.ImageLemmas.{buffers_long}
use Rattle.ipc_message.proofs.lent.of_columns.Goals as goal

pub lent_at-requires-clause-each : goal.lent_at-requires-clause-each
lent_at-requires-clause-each c =
    omega (arith, c.loop-at-test.true, c.width-width.ensures, buffers_long (image_with c.args.columns.now c.args.rows (apart c.args.buffers.now)) c.requires)

pub loop-at-preserved : goal.loop-at-preserved
loop-at-preserved c =
    let rows : List Row = rows_of (image_with c.args.columns.now c.args.rows (apart c.args.buffers.now)) in
    take-added (arrays_of c.args.columns.now.columns rows) c.loop-at.lent.items c.push.new.self.items c.loop-at.at c.lent_at.result
    c.loop-at.invariant
    (omega (arith, c.loop-at-test.true, c.width-width.ensures, length-arrays 0 c.args.columns.now.columns rows))
    c.lent_at.ensures c.in_ok-push.ensures.items

pub returns : goal.returns
returns c =
    let rows : List Row = rows_of (image_with c.args.columns.now c.args.rows (apart c.args.buffers.now)) in
    c.loop-at.invariant
    ∙ take_all c.loop-at.at (arrays_of c.args.columns.now.columns rows)
    (omega (arith, c.loop-at-test.false, c.width-width.ensures, length-arrays 0 c.args.columns.now.columns rows))
