use Rattle.std.proofs.Common.{◌≡◌, ◌≤◌, ◌^◌, List, length, sym, ap, subst, ◌∙◌, arith}
use Rattle.std.specs.Prelude.{All}
use Rattle.std.specs.declared.alloc.AllocError.{AllocError}
use Rattle.block_spec.specs.Slots.{Row}
use Rattle.cell_model.specs.declared.column.Column.{Column}
use Rattle.cell_model.specs.Rows.{Fits}
use Rattle.event_spec.specs.Parts.{Shape, slots_of}
use Rattle.event_spec.specs.Replay.{columns_in}
use Rattle.shared_store.specs.Reading.{rows_in}
use Rattle.shared_store.specs.Store.{shape_in}
use Rattle.shared_store.proofs.Calls.{own_open}
use Rattle.shared_store.proofs.GivenBack.{given_back}
use Rattle.shared_store.proofs.Scanned.{rows_same}
use Rattle.store_export.proofs.Blocks.{block_sent, block_unread}
use Rattle.store_export.proofs.table.send_block.Goals as goal

pub write_seen-requires-clause-session : goal.write_seen-requires-clause-session
write_seen-requires-clause-session g c =
    let o = own_open c.args.session.now c.requires.busy in
    (c.in-Ok.ensures.sees o.0 o.1).reads.session

pub write_seen-requires-clause-holds : goal.write_seen-requires-clause-holds
write_seen-requires-clause-holds g c =
    let o = own_open c.args.session.now c.requires.busy in
    (c.in-Ok.ensures.sees o.0 o.1).holds

pub write_seen-requires-clause-fits : goal.write_seen-requires-clause-fits
write_seen-requires-clause-fits g c =
    let o = own_open c.args.session.now c.requires.busy in
    let r = (c.in-Ok.ensures.sees o.0 o.1).reads in
    let columns : c.schema.result.now ≡ columns_in (shape_in c.args.store.now) c.args.table = c.schema.ensures.columns ∙ ap (λ (sh : Shape). columns_in sh c.args.table) c.shape-shape.ensures in
    subst (λ (cs : List Column). All (λ (row : Row). Fits cs row) (rows_in c.in-Ok.seen)) (sym columns)
    (subst (λ (rows : List Row). All (λ (row : Row). Fits (columns_in (shape_in c.args.store.now) c.args.table) row) rows) (rows_same AllocError c.in-Ok.seen) r.fits)

pub write_seen-requires-clause-few : goal.write_seen-requires-clause-few
write_seen-requires-clause-few g c =
    let o = own_open c.args.session.now c.requires.busy in
    let r = (c.in-Ok.ensures.sees o.0 o.1).reads in
    let slots : c.slots-slots.result ≡ slots_of (shape_in c.args.store.now) c.args.table = c.slots-slots.ensures.slots ∙ ap (λ (sh : Shape). slots_of sh c.args.table) c.shape-shape.ensures in
    let few = c.slots-slots.ensures.few in
    let most : length (rows_in c.in-Ok.seen) ≤ slots_of (shape_in c.args.store.now) c.args.table =
    subst (λ (rows : List Row). length rows ≤ slots_of (shape_in c.args.store.now) c.args.table) (rows_same AllocError c.in-Ok.seen) r.few in
    omega (arith, most, slots, few)

pub returns-in-Ok-clause-sends : goal.returns-in-Ok-clause-sends
returns-in-Ok-clause-sends g c own is =
    let columns : c.schema.result.now ≡ columns_in (shape_in c.args.store.now) c.args.table = c.schema.ensures.columns ∙ ap (λ (sh : Shape). columns_in sh c.args.table) c.shape-shape.ensures in
    let slots : c.slots-slots.result ≡ slots_of (shape_in c.args.store.now) c.args.table = c.slots-slots.ensures.slots ∙ ap (λ (sh : Shape). slots_of sh c.args.table) c.shape-shape.ensures in
    let few = c.slots-slots.ensures.few in
    let most : slots_of (shape_in c.args.store.now) c.args.table ≤ 2 ^ 15 = omega (arith, slots, few) in
    block_sent c.args.store.now c.args.session.now c.write_seen.new.session own c.args.table c.args.block g.W.Sink.written g.W.Sink.faults c.args.steps.now c.see_block.new.steps most
    AllocError c.args.writer.now c.write_seen.new.writer c.in-Ok.seen c.schema.result.now c.write_seen.result columns
    (given_back AllocError c.args.store.now c.args.session.now c.see_block.new.session c.write_seen.new.session own c.args.table c.args.block c.args.steps.now c.see_block.new.steps c.in-Ok.seen
    (c.in-Ok.ensures.sees own is) c.write_seen.ensures.gives)
    c.in-Ok.ensures.steps c.write_seen.ensures.answer c.write_seen.ensures.sent

pub returns-in-Err-clause-sends : goal.returns-in-Err-clause-sends
returns-in-Err-clause-sends g c own is =
    let slots : c.slots-slots.result ≡ slots_of (shape_in c.args.store.now) c.args.table = c.slots-slots.ensures.slots ∙ ap (λ (sh : Shape). slots_of sh c.args.table) c.shape-shape.ensures in
    let few = c.slots-slots.ensures.few in
    let most : slots_of (shape_in c.args.store.now) c.args.table ≤ 2 ^ 15 = omega (arith, slots, few) in
    let seen = c.in-Err.ensures.sees own is in
    block_unread c.args.store.now c.args.session.now c.see_block.new.session own c.args.table c.args.block g.W.Sink.written g.W.Sink.faults c.args.steps.now c.see_block.new.steps most
    c.args.writer.now (record {}) c.requires.fresh seen.reads seen.holds c.in-Err.ensures.steps
