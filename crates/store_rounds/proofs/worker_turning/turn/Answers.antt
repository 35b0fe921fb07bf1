use Rattle.std.proofs.Common.{◌+◌, ◌∷◌, [], arith}
use Rattle.shared_store.specs.Store.{shape_in}
use Rattle.workload_spec.specs.declared.command.Command.TheVariants as command
use Rattle.store_rounds.specs.Keeping.{most_made}
use Rattle.store_rounds.specs.Turns.{asked_of_tables, most_of_tables}
use Rattle.store_rounds.proofs.Tended.{keeps_on, turn_made}
use Rattle.store_rounds.proofs.worker_turning.turn.Goals as goal

pub returns : goal.returns
returns g c =
    let st = c.args.store.now in
    let first = most_made command.Observe + most_made command.Prune in
    turn_made st c.args.session.now c.tend_tables.new.session c.new-lines.result c.tend_tables.new.lines c.into_told.result (first + most_of_tables)
    c.new-lines.ensures (omega arith)
    (keeps_on st c.args.session.now c.step-2.new.session c.tend_tables.new.session c.new-lines.result c.step-2.new.lines c.tend_tables.new.lines
    (command.Observe ∷ command.Prune ∷ []) (asked_of_tables (shape_in st).tables) first most_of_tables
    (keeps_on st c.args.session.now c.step.new.session c.step-2.new.session c.new-lines.result c.step.new.lines c.step-2.new.lines
    (command.Observe ∷ []) (command.Prune ∷ []) (most_made command.Observe) (most_made command.Prune) c.step.ensures c.step-2.ensures)
    c.tend_tables.ensures)
    c.into_told.ensures
