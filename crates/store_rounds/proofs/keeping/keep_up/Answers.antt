use Rattle.std.proofs.Common.{sym, ap, subst, ◌∙◌}
use Rattle.shared_store.specs.Store.{MakesAtMost, shape_in}
use Rattle.shared_store.specs.Told.{gathered_told, sealed_told}
use Rattle.workload_spec.specs.Valid.{is_command}
use Rattle.workload_spec.specs.declared.command.Command.{Command}
use Rattle.workload_spec.specs.declared.reply.Said.TheVariants as said
use Rattle.store_rounds.specs.Keeping.{most_made}
use Rattle.store_rounds.proofs.Kept.{gather_few, observe_few, seal_few, table_named}
use Rattle.store_rounds.proofs.keeping.keep_up.Goals as goal

pub compact-requires-clause-table : goal.compact-requires-clause-table
compact-requires-clause-table g c =
    table_named (shape_in c.args.store.now).tables c.in-Compact.table
    (ap (is_command (shape_in c.args.store.now).tables) (sym c.in-Compact.is) ∙ c.requires.command)

pub returns-in-Seal-clause-few : goal.returns-in-Seal-clause-few
returns-in-Seal-clause-few g c =
    subst (λ (command : Command). MakesAtMost (most_made command) c.args.session.now c.seal.new.session) (sym c.in-Seal.is)
    (seal_few c.args.store.now c.args.session.now c.seal.new.session c.in-Seal.table c.in-Seal.block (sealed_told c.in-Seal.table c.in-Seal.block c.seal.result) c.seal.ensures.answers)

pub returns-in-Gather-clause-few : goal.returns-in-Gather-clause-few
returns-in-Gather-clause-few g c =
    subst (λ (command : Command). MakesAtMost (most_made command) c.args.session.now c.gather.new.session) (sym c.in-Gather.is)
    (gather_few c.args.store.now c.args.session.now c.gather.new.session c.in-Gather.table c.in-Gather.block (gathered_told c.in-Gather.table c.in-Gather.block c.gather.result) c.gather.ensures.answers)

pub returns-in-Observe-clause-few : goal.returns-in-Observe-clause-few
returns-in-Observe-clause-few g c =
    subst (λ (command : Command). MakesAtMost (most_made command) c.args.session.now c.observe.new.session) (sym c.in-Observe.is)
    (observe_few c.args.store.now c.args.session.now c.observe.new.session (said.Cooling c.observe.result) c.tables-tables.ensures.few c.tables-tables.ensures.many c.observe.ensures.answers)
