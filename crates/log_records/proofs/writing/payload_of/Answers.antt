use Rattle.std.proofs.Common.{◌<◌, ◌^◌, length, subst, sym, arith, length-append}
use Rattle.std.specs.List.{flat_map}
use Rattle.std.specs.Int.{w32, to_le_bytes}
use Rattle.isolation_spec.specs.Contents.{WriteSet}
use Rattle.log_spec.specs.LogText.{set_text}
use Rattle.log_spec.proofs.Commits.{set_some}
use Rattle.log_spec.proofs.Fronts.{few_items}
use Rattle.log_records.proofs.Written.{one_short}
use Rattle.log_records.proofs.writing.payload_of.Goals as goal

pub put_count-requires : goal.put_count-requires
put_count-requires c =
    let few = few_items set_text set_some c.args.commits.now in
    let short = c.requires in
    omega (arith, few, short, length-append (to_le_bytes w32 (length c.args.commits.now)) (flat_map set_text c.args.commits.now))

pub put_set-requires : goal.put_set-requires
put_set-requires c =
    let behind : length (flat_map set_text c.args.commits.now) < 2 ^ 32 =
    (let short = c.requires in omega (arith, short, length-append (to_le_bytes w32 (length c.args.commits.now)) (flat_map set_text c.args.commits.now))) in
    subst (λ (x : WriteSet). length (set_text x) < 2 ^ 32) (sym c.writes-item.is)
    (one_short set_text c.args.commits.now c.loop-writes.writes-index c.writes-item.result (2 ^ 32) c.loop-writes-test.true behind)
