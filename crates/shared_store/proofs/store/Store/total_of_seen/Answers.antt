use Rattle.std.proofs.Common.{length, ap, arith, List}
use Rattle.block_spec.specs.Slots.{Row}
use Rattle.shared_store.specs.Reading.{rows_in}
use Rattle.shared_store.specs.declared.reading.SeenBlock.{SeenBlock}
use Rattle.shared_store.proofs.Counted.{rows_counted}
use Rattle.shared_store.proofs.store.Store.total_of_seen.Goals as goal

pub total_of_columns-total-requires-clause-few : goal.total_of_columns-total-requires-clause-few
total_of_columns-total-requires-clause-few c =
    let few = c.requires.few in
    let count = c.rows.ensures in
    let whole = rows_counted c.columns-image.result.now c.columns-image.ensures.whole in
    let same = ap (λ (rows : List Row). length rows) c.columns-image.ensures.rows in
    let here = ap (λ (seen : SeenBlock). length (rows_in seen)) c.in-Lent.is in
    omega (arith, few, count, whole, same, here)
