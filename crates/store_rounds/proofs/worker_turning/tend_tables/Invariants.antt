use Rattle.std.proofs.Common.{◌*◌}
use Rattle.shared_store.specs.Store.{shape_in}
use Rattle.store_rounds.specs.Turns.{KeepsUp, most_of_table}
use Rattle.store_rounds.proofs.Tended.{first_tables}
use Rattle.store_rounds.proofs.worker_turning.tend_tables.Given as goal

abbrev pub invariant-loop-table : goal.invariant-loop-table
invariant-loop-table g l =
    KeepsUp l.fn.store l.fn.session l.session l.fn.lines l.lines (first_tables (shape_in l.fn.store).tables l.table) (most_of_table * l.table)
