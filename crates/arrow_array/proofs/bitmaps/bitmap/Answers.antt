use Rattle.std.proofs.Common.{rules, ◌<◌, List, length, map, arith}
use Rattle.cell_model.specs.declared.cell.Cell.{Cell}
use Rattle.arrow_spec.specs.Bytes.{bitmap}
use Rattle.arrow_array.specs.Batches.{bit_of, cell_at}
use Rattle.arrow_array.proofs.BitmapLemmas.{byte-added}
use Rattle.arrow_array.proofs.bitmaps.bitmap.Goals as goal

pub loop-rest-preserved : goal.loop-rest-preserved
loop-rest-preserved c =
    let some : 0 < length c.loop-rest.rest.now = search rules in
    byte-added (λ (row : List Cell). bit_of c.args.bit (cell_at c.args.place row)) c.loop-rest.rest.now
    c.split_at.result.0.now c.split_at.result.1.now c.min.result c.byte.result c.loop-rest.bytes.items c.push.new.self.items
    (bitmap (map (λ (row : List Cell). bit_of c.args.bit (cell_at c.args.place row)) c.args.rows.now))
    some (omega arith) c.split_at.ensures.front c.split_at.ensures.back c.byte.ensures c.in_ok-push.ensures.items c.loop-rest.invariant
