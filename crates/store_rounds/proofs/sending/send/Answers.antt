use Rattle.std.proofs.Common.{Ok, Err, refl, sym, ap, ◌∙◌, subst}
use Rattle.store_export.specs.Exports.{exported_told}
use Rattle.store_export.specs.declared.exporting.ExportFault.{ExportFault}
use Rattle.store_rounds.specs.Answered.{Answered}
use Rattle.store_rounds.proofs.Answering.{refused}
use Rattle.store_rounds.proofs.Sends.{export_answered, export_refused}
use Rattle.workload_spec.specs.declared.command.Command.TheVariants as command
use Rattle.workload_spec.specs.declared.reply.Said.{Said}
use Rattle.store_rounds.proofs.sending.send.Goals as goal

pub returns-then-not-busy-clause-answered : goal.returns-then-not-busy-clause-answered
returns-then-not-busy-clause-answered g c =
    export_refused c.args.store.now c.args.session.now c.args.table (g.X.Sink.written c.args.outlet.now) c.requires.session
    (refused c.args.store.now c.args.session.now (command.Export c.args.table) c.requires.session refl (sym c.busy.ensures ∙ c.if-not-busy.true))

pub returns-in-Ok-clause-answered : goal.returns-in-Ok-clause-answered
returns-in-Ok-clause-answered g c =
    export_answered c.args.store.now c.args.session.now c.export_to.new.session c.args.table (Ok c.in-Ok.field-0) _ _
    c.requires.session c.in-Ok.ensures.exports

pub returns-in-Err-Sink-clause-answered : goal.returns-in-Err-Sink-clause-answered
returns-in-Err-Sink-clause-answered g c =
    subst (λ (line : Said). Answered c.args.store.now c.args.session.now c.export_to.new.session (command.Export c.args.table) line
    (g.X.Sink.written c.args.outlet.now) (g.X.Sink.written c.export_to.new.outlet))
    (ap (λ (failed : ExportFault). exported_told (Err failed)) c.in-Err-Sink.field-0-is)
    (export_answered c.args.store.now c.args.session.now c.export_to.new.session c.args.table (Err c.in-Err-Sink.field-0) _ _
    c.requires.session c.in-Err-Sink.ensures.exports)

pub returns-in-Err-Memory-clause-answered : goal.returns-in-Err-Memory-clause-answered
returns-in-Err-Memory-clause-answered g c =
    subst (λ (line : Said). Answered c.args.store.now c.args.session.now c.export_to.new.session (command.Export c.args.table) line
    (g.X.Sink.written c.args.outlet.now) (g.X.Sink.written c.export_to.new.outlet))
    (ap (λ (failed : ExportFault). exported_told (Err failed)) c.in-Err-Memory.field-0-is)
    (export_answered c.args.store.now c.args.session.now c.export_to.new.session c.args.table (Err c.in-Err-Memory.field-0) _ _
    c.requires.session c.in-Err-Memory.ensures.exports)
