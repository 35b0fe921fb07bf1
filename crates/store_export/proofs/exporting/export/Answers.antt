use Rattle.std.proofs.Common.{rules, ◌≡◌, ℕ, ℤ, true, Option, Some, to_z, of_z, w64, sym, ap, subst, ◌∙◌}
use Rattle.shared_store.proofs.Calls.{own_open}
use Rattle.workload_spec.specs.declared.reply.Said.TheVariants as said
use Rattle.store_export.specs.Exports.{ExportsCounted}
use Rattle.store_export.proofs.Course.{clean_here, number_here, of_piece, piece_fault, refused}
use Rattle.store_export.proofs.exporting.export.Goals as goal

pub returns-in-Some-clause-exports : goal.returns-in-Some-clause-exports
returns-in-Some-clause-exports g c =
    let st = c.args.store.now in
    let s = c.args.session.now in
    let before = g.W.Sink.written c.args.writer.now.sink in
    let key : to_z w64 (of_z w64 c.in-Some.key) ≡ c.in-Some.key = search rules in
    subst (λ (k : ℤ). ExportsCounted st s s c.args.table (said.Dirty k) before before c.args.steps.now c.args.steps.now) (sym key)
    (refused st s c.args.table c.in-Some.key before c.args.steps.now c.requires.session (c.dirty.ensures ∙ ap (λ (o : Option ℤ). Some o) c.in-Some.is))

pub returns-in-Ok-clause-exports : goal.returns-in-Ok-clause-exports
returns-in-Ok-clause-exports g c =
    let s = c.args.session.now in
    let o = own_open s c.requires.busy in
    let clean = clean_here s o.0 c.args.table c.dirty.result c.dirty.ensures o.1 c.in_default.is in
    subst (λ (n : ℕ). ExportsCounted c.args.store.now s c.send_table.new.session c.args.table (said.Exported n c.in-Ok.sent.rows c.in-Ok.sent.batches c.in-Ok.sent.frozen)
    (g.W.Sink.written c.args.writer.now.sink) (g.W.Sink.written c.send_table.new.writer.sink) c.args.steps.now c.send_table.new.steps)
    (number_here s o.0 c.number-number.result c.number-number.ensures o.1)
    (c.in-Ok.ensures.exports o.0 o.1 clean)

pub returns-in-Err-Sink-clause-exports : goal.returns-in-Err-Sink-clause-exports
returns-in-Err-Sink-clause-exports g c =
    let o = own_open c.args.session.now c.requires.busy in
    c.in-Err-Sink.ensures.exports o.0 o.1 (clean_here c.args.session.now o.0 c.args.table c.dirty.result c.dirty.ensures o.1 c.in_default.is)

pub returns-in-Err-Memory-clause-exports : goal.returns-in-Err-Memory-clause-exports
returns-in-Err-Memory-clause-exports g c =
    let o = own_open c.args.session.now c.requires.busy in
    c.in-Err-Memory.ensures.exports o.0 o.1 (clean_here c.args.session.now o.0 c.args.table c.dirty.result c.dirty.ensures o.1 c.in_default.is)

pub returns-in-Err-Sink-clause-at_once : goal.returns-in-Err-Sink-clause-at_once
returns-in-Err-Sink-clause-at_once g c is = c.in-Err-Sink.ensures.at_once (ap of_piece c.in-Err-Sink.field-0-is ∙ piece_fault c.in-Err-Sink.fault (record { earlier = true }) is)

pub returns-in-Err-Sink-clause-unread : goal.returns-in-Err-Sink-clause-unread
returns-in-Err-Sink-clause-unread g c is = c.in-Err-Sink.ensures.unread (ap of_piece c.in-Err-Sink.field-0-is ∙ piece_fault c.in-Err-Sink.fault (record { earlier = true }) is)
