use Rattle.std.proofs.Common.{List, length, ◌∙◌, ap}
use Rattle.cell_model.specs.declared.cell.Cell.{Cell}
use Rattle.std.specs.Int.{from_bool}
use Rattle.arrow_array.specs.Batches.{bit_of, cell_at}
use Rattle.arrow_array.proofs.BitmapLemmas.{bit-added, byte-below}
use Rattle.arrow_array.proofs.bitmaps.byte.Goals as goal

pub loop-at-preserved : goal.loop-at-preserved
loop-at-preserved c =
    record {
      byte = bit-added (λ (row : List Cell). bit_of c.args.bit (cell_at c.args.place row)) c.args.rows.now c.index-rows-at.result
          c.loop-at.at c.loop-at.byte c.from.result c.loop-at-test.true c.loop-at.auto.at c.index-rows-at.is
          (c.from.ensures ∙ ap from_bool c.bit_at.ensures) c.loop-at.invariant.byte;
      small = byte-below c.bit_at.result c.loop-at.at (length c.args.rows.now) c.loop-at.byte c.from.result
          c.loop-at-test.true c.loop-at.auto.at c.from.ensures c.loop-at.invariant.small;
    }
