use Rattle.std.proofs.Common.{◌<◌, ◌^◌, List, length, subst, sym, ap, arith, length-append}
use Rattle.std.specs.List.{flat_map}
use Rattle.std.specs.Int.{w32, to_le_bytes}
use Rattle.std.specs.Prelude.{Option}
use Rattle.cell_model.specs.declared.cell.Cell.{Cell}
use Rattle.isolation_spec.specs.Contents.{WriteSet}
use Rattle.isolation_spec.specs.declared.place.Place.{Place}
use Rattle.log_spec.specs.LogText.{write_text}
use Rattle.log_spec.proofs.Commits.{write_some}
use Rattle.log_spec.proofs.Fronts.{few_items}
use Rattle.log_records.proofs.Written.{one_short}
use Rattle.log_records.proofs.writing.put_set.Goals as goal

pub put_count-requires : goal.put_count-requires
put_count-requires c =
    let same = c.as_slice-writes.ensures in
    let few = few_items write_text write_some c.args.writes.now in
    let short = c.requires in
    let long = ap length same in
    omega (arith, few, short, long, length-append (to_le_bytes w32 (length c.args.writes.now)) (flat_map write_text c.args.writes.now))

pub put_write-requires : goal.put_write-requires
put_write-requires c =
    let writes = c.as_slice-writes.result.now in
    let behind : length (flat_map write_text writes) < 2 ^ 32 =
    (let short = c.requires in
    let same = ap (λ (l : WriteSet). length (flat_map write_text l)) c.as_slice-writes.ensures in
    omega (arith, short, same, length-append (to_le_bytes w32 (length c.args.writes.now)) (flat_map write_text c.args.writes.now))) in
    subst (λ (x : Place × Option (List Cell)). length (write_text x) < 2 ^ 32) (sym c.write-item.is)
    (one_short write_text writes c.loop-write.write-index c.write-item.result (2 ^ 32) c.loop-write-test.true behind)
