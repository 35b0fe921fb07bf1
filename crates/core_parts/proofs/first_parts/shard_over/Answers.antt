use Rattle.std.proofs.Common.{◌≡◌, ◌/◌, ◌%◌, Some, length, to_z, of_z, w64, refl, ap, sym, ◌∙◌, arith, rules}
use Rattle.std.specs.Prelude.{slice_get}
use Rattle.std.proofs.Math.Facts.{to_z-of_z}
use Rattle.std.proofs.lemmas.Option.{slice_get_read}
use Rattle.block_layout.specs.Place.{place_of}
use Rattle.core_parts.proofs.FirstLent.{item_is, lacks_key, shard_skip, shard_step}
use Rattle.event_spec.specs.Parts.{shard_of, slots_of}
use Rattle.event_spec.specs.Replay.{rows_first}
use Rattle.core_parts.proofs.first_parts.shard_over.Goals as goal
use Rattle.core_parts.proofs.first_parts.shard_over.Goals.{then-shard_of-shard+in_ok-add, else-shard_of-shard}

pub loop-number-preserved : goal.loop-number-preserved
loop-number-preserved c =
    let sh = c.args.shape.now in
    let n = c.loop-number.number in
    let item = c.index-rows-number.result in
    let there : slice_get c.args.rows.now n ≡ Some item = slice_get_read c.args.rows.now (length c.args.rows.now) n item refl (omega arith) c.index-rows-number.is in
    let its = item_is sh c.args.table c.args.rows.now c.requires.rows n item there in
    let lacks = lacks_key sh c.requires.commits c.args.table n item.row.now its.0 in
    let key : to_z w64 (of_z w64 item.key) ≡ item.key = to_z-of_z {w = w64} (search rules) in
    elim c.if-shard_of-shard.branch [
      | then-shard_of-shard+in_ok-add w ↦
          w.index-is
          ∙ shard_step (slots_of sh c.args.table) c.args.shard n (rows_first sh c.args.table) item.row.now c.loop-number.index w.add.new.self (to_z w64 (of_z w64 item.key)) w.join.result its.0 lacks
          (key ∙ its.1) (w.join.ensures.place ∙ ap (λ slots. place_of (n / slots) (n % slots)) c.slots-slots.ensures.slots)
          (sym c.shard_of.ensures ∙ w.if-shard_of-shard.true) c.loop-number.invariant w.in_ok-add.ensures.ok
      | else-shard_of-shard w ↦
          w.index-is ∙ shard_skip (slots_of sh c.args.table) c.args.shard n (rows_first sh c.args.table) item.row.now c.loop-number.index item.key its.0 its.1 (λ e. w.if-shard_of-shard.false (c.shard_of.ensures ∙ ap shard_of key ∙ e)) c.loop-number.invariant
    ]
