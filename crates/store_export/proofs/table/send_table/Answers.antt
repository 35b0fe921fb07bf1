use Rattle.std.proofs.Common.{◌≡◌, ◌<◌, ℕ, not, true, List, Option, Err, is_some, refl, ap, subst, ◌∙◌, arith, sym}
use Rattle.std.specs.Io.KnownBytes.{Appends}
use Rattle.arrow_spec.specs.Streams.{end_word, schema_message}
use Rattle.cell_model.specs.declared.column.Column.{Column}
use Rattle.event_spec.specs.declared.own.OwnTransaction.{OwnTransaction}
use Rattle.event_spec.specs.Parts.{Shape, blocks_of}
use Rattle.event_spec.specs.Replay.{columns_in}
use Rattle.ipc_write.specs.Calls.{MakesPiece}
use Rattle.ipc_write.specs.declared.faults.PieceFault.TheVariants.{Sink}
use Rattle.run_spec.specs.Occurrences.{Occurrence}
use Rattle.run_spec.specs.Told.{is_shared, rows_told}
use Rattle.shared_store.specs.Store.{shape_in}
use Rattle.shared_store.proofs.Calls.{own_open}
use Rattle.shared_store.proofs.Claims.{free_on}
use Rattle.std.proofs.lemmas.List.Sums.{count_by-le-length}
use Rattle.store_export.proofs.Course.{Sending, block_broke, end_broke, ended, first_leaves, end_leaves, more_few, piece_is_now, piece_leaves, same_fault, schema_broke, sending_count, sending_more, sending_starts}
use Rattle.store_export.specs.Groups.{group_message}
use Rattle.store_export.specs.declared.sent.Sent.{Sent}
use Rattle.workload_spec.specs.declared.reply.Said.TheVariants as said
use Rattle.store_export.proofs.table.send_table.Goals as goal
use Rattle.shared_store.specs.declared.session.Session.{Session}
use Rattle.store_export.specs.Exports.{ExportsCounted}
use Rattle.shared_store.proofs.Open.{measures_of}

pub returns-in-Err-clause-exports : goal.returns-in-Err-clause-exports
returns-in-Err-clause-exports g c own is clean =
    let st = c.args.store.now in
    let columns : c.schema.result.now ≡ columns_in (shape_in st) c.args.table = c.schema.ensures.columns ∙ ap (λ (sh : Shape). columns_in sh c.args.table) c.shape-shape.ensures in
    schema_broke st own c.args.table c.args.session.now c.requires.session is clean (Unit {0}) g.W.Sink.written g.W.Sink.faults c.args.writer.now c.schema-2.new.self c.args.steps.now c.in-Err.fault
    (subst (λ (cs : List Column). MakesPiece {T = Unit {0}} g.W.Sink.written g.W.Sink.faults c.args.writer.now c.schema-2.new.self (schema_message cs) (Err c.in-Err.fault)) columns c.in-Err.ensures.answer)

pub loop-block-init : goal.loop-block-init
loop-block-init g c =
    let st = c.args.store.now in
    let columns : c.schema.result.now ≡ columns_in (shape_in st) c.args.table = c.schema.ensures.columns ∙ ap (λ (sh : Shape). columns_in sh c.args.table) c.shape-shape.ensures in
    record {
      sending = λ own is. sending_starts st own c.args.table c.args.session.now (g.W.Sink.written c.args.writer.now.sink) (g.W.Sink.written c.schema-2.new.self.sink)
          (record { rows = 0; batches = 0; frozen = 0 }) c.args.steps.now c.requires.session refl refl refl
          (subst (λ (cs : List Column). Appends (g.W.Sink.written c.args.writer.now.sink) (g.W.Sink.written c.schema-2.new.self.sink) (schema_message cs)) columns c.in_default.ensures.answer.bytes);
      first = c.in_default.ensures.answer.before;
      fresh = c.in_default.ensures.answer.after;
      started = c.schema-2.ensures.started;
      loan = c.schema-2.ensures.loan;
      kept = c.in_default.ensures.answer.kept;
    }

pub send_block-requires-clause-session : goal.send_block-requires-clause-session
send_block-requires-clause-session g c =
    let o = own_open c.args.session.now c.requires.busy in
    (c.loop-block.invariant.sending o.0 o.1).went.session

pub send_block-requires-clause-room : goal.send_block-requires-clause-room
send_block-requires-clause-room g c =
    let o = own_open c.args.session.now c.requires.busy in
    let s = c.loop-block.invariant.sending o.0 o.1 in
    let many = sending_count c.args.store.now o.0 c.args.table c.args.session.now c.loop-block.session c.loop-block.block (g.W.Sink.written c.args.writer.now.sink) (g.W.Sink.written c.loop-block.writer.sink)
    c.loop-block.sent c.args.steps.now c.loop-block.steps s in
    let count = s.went.count in
    let events = count_by-le-length (λ (o : Occurrence). not (is_shared o.reply)) s.made in
    let room = c.requires.room in
    let few = c.blocks-block-end.ensures.few in
    let below = c.loop-block-test.true in
    let end' = c.loop-block.auto.block-end in
    omega (arith, many, count, events, room, few, below, end')

pub send_block-requires-clause-free : goal.send_block-requires-clause-free
send_block-requires-clause-free g c =
    let o = own_open c.args.session.now c.requires.busy in
    free_on (c.loop-block.invariant.sending o.0 o.1).went.reads c.requires.free

pub send_block-requires-clause-busy : goal.send_block-requires-clause-busy
send_block-requires-clause-busy g c =
    let o = own_open c.args.session.now c.requires.busy in
    let s = c.loop-block.invariant.sending o.0 o.1 in
    ap (λ (x : Option OwnTransaction). is_some x) s.went.opened ∙ c.requires.busy

pub add-requires-clause-rows : goal.add-requires-clause-rows
add-requires-clause-rows g c =
    let o = own_open c.args.session.now c.requires.busy in
    let s = c.loop-block.invariant.sending o.0 o.1 in
    let more = more_few c.args.store.now o.0 c.args.table g.W.Sink.written g.W.Sink.faults c.loop-block.session c.send_block.new.session c.loop-block.block c.loop-block.writer c.send_block.new.writer
    c.loop-block.steps c.send_block.new.steps c.in-Ok.more (c.in-Ok.ensures.sends o.0 (s.went.opened ∙ o.1)) in
    let most = more.0 in
    let sent = s.rows_few in
    let few = c.blocks-block-end.ensures.few in
    let below = c.loop-block-test.true in
    let end' = c.loop-block.auto.block-end in
    omega (arith, most, sent, few, below, end')

pub add-requires-clause-batches : goal.add-requires-clause-batches
add-requires-clause-batches g c =
    let o = own_open c.args.session.now c.requires.busy in
    let s = c.loop-block.invariant.sending o.0 o.1 in
    let more = more_few c.args.store.now o.0 c.args.table g.W.Sink.written g.W.Sink.faults c.loop-block.session c.send_block.new.session c.loop-block.block c.loop-block.writer c.send_block.new.writer
    c.loop-block.steps c.send_block.new.steps c.in-Ok.more (c.in-Ok.ensures.sends o.0 (s.went.opened ∙ o.1)) in
    let most = more.1 in
    let sent = s.batches_few in
    let few = c.blocks-block-end.ensures.few in
    let below = c.loop-block-test.true in
    let end' = c.loop-block.auto.block-end in
    omega (arith, most, sent, few, below, end')

pub add-requires-clause-frozen : goal.add-requires-clause-frozen
add-requires-clause-frozen g c =
    let o = own_open c.args.session.now c.requires.busy in
    let s = c.loop-block.invariant.sending o.0 o.1 in
    let more = more_few c.args.store.now o.0 c.args.table g.W.Sink.written g.W.Sink.faults c.loop-block.session c.send_block.new.session c.loop-block.block c.loop-block.writer c.send_block.new.writer
    c.loop-block.steps c.send_block.new.steps c.in-Ok.more (c.in-Ok.ensures.sends o.0 (s.went.opened ∙ o.1)) in
    let most = more.2 in
    let sent = s.frozen_few in
    let few = c.blocks-block-end.ensures.few in
    let below = c.loop-block-test.true in
    let end' = c.loop-block.auto.block-end in
    omega (arith, most, sent, few, below, end')

pub returns-in-Err-send_block-clause-exports : goal.returns-in-Err-send_block-clause-exports
returns-in-Err-send_block-clause-exports g c own is clean =
    let st = c.args.store.now in
    let s = c.loop-block.invariant.sending own is in
    let b = c.in-Err-send_block.ensures.sends own (s.went.opened ∙ is) in
    let blocks : c.blocks-block-end.result ≡ blocks_of (shape_in st) c.args.table = c.blocks-block-end.ensures.blocks ∙ ap (λ (sh : Shape). blocks_of sh c.args.table) c.shape-shape.ensures in
    let below = c.loop-block-test.true in
    let end' = c.loop-block.auto.block-end in
    block_broke st own c.args.table c.args.session.now c.requires.session is clean g.W.Sink.written g.W.Sink.faults c.loop-block.session c.send_block.new.session c.loop-block.block
    (g.W.Sink.written c.args.writer.now.sink) c.loop-block.writer c.send_block.new.writer c.loop-block.sent c.args.steps.now c.loop-block.steps c.send_block.new.steps c.in-Err-send_block.fault s
    c.loop-block.invariant.fresh (free_on s.went.reads c.requires.free) (omega (arith, blocks, below, end')) b

pub returns-in-Err-send_block-clause-writer : goal.returns-in-Err-send_block-clause-writer
returns-in-Err-send_block-clause-writer g c =
    let inv = c.loop-block.invariant in
    let o = own_open c.args.session.now c.requires.busy in
    let s = inv.sending o.0 o.1 in
    let b = c.in-Err-send_block.ensures.sends o.0 (s.went.opened ∙ o.1) in
    piece_leaves g.W.Sink.written g.W.Sink.faults c.args.writer.now c.loop-block.writer c.send_block.new.writer
    (group_message (columns_in (shape_in c.args.store.now) c.args.table) (rows_told b.told)) inv.first inv.fresh inv.kept Sent Sent c.in-Err-send_block.fault b.writes

pub returns-in-Err-send_block-clause-at_once : goal.returns-in-Err-send_block-clause-at_once
returns-in-Err-send_block-clause-at_once g c is =
    let inv = c.loop-block.invariant in
    let o = own_open c.args.session.now c.requires.busy in
    let s = inv.sending o.0 o.1 in
    let b = c.in-Err-send_block.ensures.sends o.0 (s.went.opened ∙ o.1) in
    absurd (piece_is_now g.W.Sink.written g.W.Sink.faults c.args.writer.now c.loop-block.writer c.send_block.new.writer
    (group_message (columns_in (shape_in c.args.store.now) c.args.table) (rows_told b.told)) inv.first inv.fresh inv.kept Sent c.in-Err-send_block.fault b.writes (same_fault c.in-Err-send_block.fault (Sink (record { earlier = true })) is))

pub returns-in-Err-send_block-clause-unread : goal.returns-in-Err-send_block-clause-unread
returns-in-Err-send_block-clause-unread g c is =
    let inv = c.loop-block.invariant in
    let o = own_open c.args.session.now c.requires.busy in
    let s = inv.sending o.0 o.1 in
    let b = c.in-Err-send_block.ensures.sends o.0 (s.went.opened ∙ o.1) in
    absurd (piece_is_now g.W.Sink.written g.W.Sink.faults c.args.writer.now c.loop-block.writer c.send_block.new.writer
    (group_message (columns_in (shape_in c.args.store.now) c.args.table) (rows_told b.told)) inv.first inv.fresh inv.kept Sent c.in-Err-send_block.fault b.writes (same_fault c.in-Err-send_block.fault (Sink (record { earlier = true })) is))

pub returns-in-Err-clause-writer : goal.returns-in-Err-clause-writer
returns-in-Err-clause-writer g c =
    first_leaves (Unit {0}) Sent g.W.Sink.written g.W.Sink.faults c.args.writer.now c.schema-2.new.self (schema_message c.schema.result.now) c.in-Err.fault c.in-Err.ensures.answer

pub returns-in-Err-finish-clause-writer : goal.returns-in-Err-finish-clause-writer
returns-in-Err-finish-clause-writer g c =
    let inv = c.loop-block.invariant in
    end_leaves g.W.Sink.written g.W.Sink.faults c.args.writer.now c.loop-block.writer c.finish.new.self end_word inv.first inv.fresh inv.kept (Unit {0}) Sent c.in-Err-finish.fault c.in-Err-finish.ensures.answer

pub returns-in-Err-finish-clause-at_once : goal.returns-in-Err-finish-clause-at_once
returns-in-Err-finish-clause-at_once g c is =
    let inv = c.loop-block.invariant in
    absurd (piece_is_now g.W.Sink.written g.W.Sink.faults c.args.writer.now c.loop-block.writer c.finish.new.self end_word inv.first inv.fresh inv.kept (Unit {0}) (Sink c.in-Err-finish.fault) c.in-Err-finish.ensures.answer (same_fault (Sink c.in-Err-finish.fault) (Sink (record { earlier = true })) is))

pub returns-in-Err-finish-clause-unread : goal.returns-in-Err-finish-clause-unread
returns-in-Err-finish-clause-unread g c is =
    let inv = c.loop-block.invariant in
    absurd (piece_is_now g.W.Sink.written g.W.Sink.faults c.args.writer.now c.loop-block.writer c.finish.new.self end_word inv.first inv.fresh inv.kept (Unit {0}) (Sink c.in-Err-finish.fault) c.in-Err-finish.ensures.answer (same_fault (Sink c.in-Err-finish.fault) (Sink (record { earlier = true })) is))

pub returns-in-Ok-finish-clause-writer : goal.returns-in-Ok-finish-clause-writer
returns-in-Ok-finish-clause-writer g c =
    let inv = c.loop-block.invariant in
    record { before = inv.first; after = c.in-Ok-finish.ensures.answer.after; kept = c.in-Ok-finish.ensures.answer.kept ∙ inv.kept }

pub loop-block-preserved : goal.loop-block-preserved
loop-block-preserved g c =
    let st = c.args.store.now in
    let inv = c.loop-block.invariant in
    let o = own_open c.args.session.now c.requires.busy in
    let first = c.in-Ok.ensures.sends o.0 ((inv.sending o.0 o.1).went.opened ∙ o.1) in
    let blocks : c.blocks-block-end.result ≡ blocks_of (shape_in st) c.args.table = c.blocks-block-end.ensures.blocks ∙ ap (λ (sh : Shape). blocks_of sh c.args.table) c.shape-shape.ensures in
    let below = c.loop-block-test.true in
    let end' = c.loop-block.auto.block-end in
    let within : c.loop-block.block < blocks_of (shape_in st) c.args.table = omega (arith, blocks, below, end') in
    record {
      sending = λ own is.
          let s = inv.sending own is in
          let b = c.in-Ok.ensures.sends own (s.went.opened ∙ is) in
          sending_more st own c.args.table g.W.Sink.written g.W.Sink.faults c.args.session.now c.loop-block.session c.send_block.new.session c.loop-block.block (g.W.Sink.written c.args.writer.now.sink)
          c.loop-block.writer c.send_block.new.writer c.loop-block.sent c.in-Ok.more c.add.new.self c.args.steps.now c.loop-block.steps c.send_block.new.steps s b
          (free_on s.went.reads c.requires.free) within c.add.ensures.rows c.add.ensures.batches c.add.ensures.frozen;
      first = inv.first;
      fresh = first.writes.after;
      started = c.send_block.ensures.started ∙ inv.started;
      loan = c.send_block.ensures.loan ∙ inv.loan;
      kept = first.writes.kept ∙ inv.kept;
    }

pub returns-in-Ok-finish-clause-exports : goal.returns-in-Ok-finish-clause-exports
returns-in-Ok-finish-clause-exports g c own is clean =
    let st = c.args.store.now in
    let s = c.loop-block.invariant.sending own is in
    let blocks : c.blocks-block-end.result ≡ blocks_of (shape_in st) c.args.table = c.blocks-block-end.ensures.blocks ∙ ap (λ (sh : Shape). blocks_of sh c.args.table) c.shape-shape.ensures in
    let done = c.loop-block-test.false in
    let end' = c.loop-block.auto.block-end in
    let all : c.loop-block.block ≡ blocks_of (shape_in st) c.args.table = omega (arith, blocks, done, end') in
    subst (λ (later : Session). ExportsCounted st c.args.session.now later c.args.table (said.Exported own.snapshot.number c.loop-block.sent.rows c.loop-block.sent.batches c.loop-block.sent.frozen)
    (g.W.Sink.written c.args.writer.now.sink) (g.W.Sink.written c.finish.new.self.sink) c.args.steps.now c.loop-block.steps) (sym c.sweep.ensures)
    (ended st own c.args.table c.args.session.now c.requires.session is clean c.requires.table c.loop-block.session (g.W.Sink.written c.args.writer.now.sink) (g.W.Sink.written c.loop-block.writer.sink) (g.W.Sink.written c.finish.new.self.sink)
    c.loop-block.sent c.args.steps.now c.loop-block.steps
    (subst (λ (k : ℕ). Sending st c.args.session.now c.loop-block.session own c.args.table k (g.W.Sink.written c.args.writer.now.sink) (g.W.Sink.written c.loop-block.writer.sink) c.loop-block.sent c.args.steps.now c.loop-block.steps) all s)
    c.in-Ok-finish.ensures.answer.bytes)

pub sweep-requires : goal.sweep-requires
sweep-requires g c =
    let few = (measures_of c.args.store.now c.args.session.now c.requires.session).tables in
    let table = c.requires.table in
    omega (arith, few, table)

pub returns-in-Err-finish-clause-exports : goal.returns-in-Err-finish-clause-exports
returns-in-Err-finish-clause-exports g c own is clean =
    let st = c.args.store.now in
    let s = c.loop-block.invariant.sending own is in
    let blocks : c.blocks-block-end.result ≡ blocks_of (shape_in st) c.args.table = c.blocks-block-end.ensures.blocks ∙ ap (λ (sh : Shape). blocks_of sh c.args.table) c.shape-shape.ensures in
    let done = c.loop-block-test.false in
    let end' = c.loop-block.auto.block-end in
    let all : c.loop-block.block ≡ blocks_of (shape_in st) c.args.table = omega (arith, blocks, done, end') in
    end_broke st own c.args.table c.args.session.now c.requires.session is clean (Unit {0}) g.W.Sink.written g.W.Sink.faults c.loop-block.session (g.W.Sink.written c.args.writer.now.sink) c.loop-block.writer c.finish.new.self
    c.loop-block.sent c.args.steps.now c.loop-block.steps c.in-Err-finish.fault
    (subst (λ (k : ℕ). Sending st c.args.session.now c.loop-block.session own c.args.table k (g.W.Sink.written c.args.writer.now.sink) (g.W.Sink.written c.loop-block.writer.sink) c.loop-block.sent c.args.steps.now c.loop-block.steps) all s)
    c.loop-block.invariant.fresh c.in-Err-finish.ensures.answer
