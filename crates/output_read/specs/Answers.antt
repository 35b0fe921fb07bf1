-- What a reply of one line may say where one is due.
use Rattle.std.specs.Prelude.{ℕ, Bool, true, false, ◌&&◌, ◌||◌, not, ◌==◌, List, ℤ, if◌then◌else◌}
use Rattle.std.specs.Ordering.{int_eq}
use Rattle.cell_model.specs.declared.column.Column.{Column}
use Rattle.cell_model.specs.declared.table.TableDecl.{TableDecl}
use Rattle.cell_model.specs.Rows.{fits}
use Rattle.isolation_spec.specs.Contents.{key_of}
use Rattle.workload_spec.specs.declared.command.Command.{Command}
use Rattle.workload_spec.specs.declared.command.Command.TheVariants as command
use Rattle.workload_spec.specs.declared.reply.Said.{Said}
use Rattle.workload_spec.specs.declared.reply.Said.TheVariants as said
use Rattle.outcome_spec.specs.Forms.{Due, is_silent, is_upkeep, is_worker}
use Rattle.outcome_spec.specs.Tables.{columns_at}

abbrev pub answers_begin : Said → Bool
answers_begin said.InTransaction = true
answers_begin _ = false

-- a row of the table that has the key, or none
abbrev pub answers_get : List Column → ℤ → Said → Bool
answers_get columns key (said.Found row) = fits columns row && int_eq (key_of row) key
answers_get columns key said.Absent = true
answers_get columns key said.Memory = true
answers_get columns key _ = false

-- a scan's rows have lines of their own
abbrev pub answers_scan : Said → Bool
answers_scan said.Memory = true
answers_scan _ = false

-- how many numbers, and their sum
abbrev pub answers_total : Said → Bool
answers_total (said.Totalled count sum) = true
answers_total said.Memory = true
answers_total _ = false

abbrev pub answers_insert : Said → Bool
answers_insert said.Accepted = true
answers_insert said.Exists = true
answers_insert said.Full = true
answers_insert said.Memory = true
answers_insert (said.ConflictSession session) = true
answers_insert (said.ConflictCommit number) = true
answers_insert _ = false

abbrev pub answers_change : ℕ → Said → Bool
answers_change table said.Accepted = true
answers_change table said.Missing = true
answers_change table said.Memory = true
answers_change table (said.Freezing of block stamp) = of == table
answers_change table (said.ConflictSession session) = true
answers_change table (said.ConflictCommit number) = true
answers_change table _ = false

abbrev pub answers_commit : Said → Bool
answers_commit (said.Committed number) = true
answers_commit (said.Stale read number) = true
answers_commit _ = false

abbrev pub answers_abort : Said → Bool
answers_abort said.Aborted = true
answers_abort _ = false

abbrev pub answers_observe : Said → Bool
answers_observe (said.Cooling count) = true
answers_observe _ = false

abbrev pub answers_prune : Said → Bool
answers_prune (said.Pruned count) = true
answers_prune _ = false

abbrev pub answers_compact : Said → Bool
answers_compact (said.Moved count) = true
answers_compact said.Memory = true
answers_compact _ = false

abbrev pub answers_seal : ℕ → ℕ → Said → Bool
answers_seal table block (said.Sealed of at stamp) = of == table && at == block
answers_seal table block (said.NotSealed cause) = true
answers_seal table block _ = false

abbrev pub answers_gather : ℕ → ℕ → Said → Bool
answers_gather table block (said.Frozen of at rows) = of == table && at == block
answers_gather table block said.NotFrozen = true
answers_gather table block said.Memory = true
answers_gather table block _ = false

abbrev pub answers_export : Said → Bool
answers_export (said.Exported number rows batches frozen) = true
answers_export (said.Dirty key) = true
answers_export said.Memory = true
answers_export _ = false

-- in a transaction, and to upkeep
abbrev pub answers_within : List TableDecl → Command → Said → Bool
answers_within tables (command.Begin checked) told = answers_begin told
answers_within tables (command.Get table key) told = answers_get (columns_at tables table) key told
answers_within tables (command.Scan table) told = answers_scan told
answers_within tables (command.Range table low high) told = answers_scan told
answers_within tables (command.Total table column low high) told = answers_total told
answers_within tables (command.Insert table row) told = answers_insert told
answers_within tables (command.Update table row) told = answers_change table told
answers_within tables (command.Delete table key) told = answers_change table told
answers_within tables command.Commit told = answers_commit told
answers_within tables command.Abort told = answers_abort told
answers_within tables command.Observe told = answers_observe told
answers_within tables command.Prune told = answers_prune told
answers_within tables (command.Compact table) told = answers_compact told
answers_within tables (command.Seal table block) told = answers_seal table block told
answers_within tables (command.Gather table block) told = answers_gather table block told
answers_within tables (command.Export table) told = answers_export told

abbrev pub is_opening : Said → Bool
is_opening (said.At number) = true
is_opening _ = false

abbrev pub is_without : Said → Bool
is_without said.NoTransaction = true
is_without _ = false

-- without a transaction
abbrev pub answers_without : Command → Said → Bool
answers_without (command.Begin checked) told = is_opening told
answers_without (command.Get table key) told = is_without told
answers_without (command.Scan table) told = is_without told
answers_without (command.Range table low high) told = is_without told
answers_without (command.Total table column low high) told = is_without told
answers_without (command.Insert table row) told = is_without told
answers_without (command.Update table row) told = is_without told
answers_without (command.Delete table key) told = is_without told
answers_without command.Commit told = is_without told
answers_without command.Abort told = is_without told
answers_without command.Observe told = is_without told
answers_without command.Prune told = is_without told
answers_without (command.Compact table) told = is_without told
answers_without (command.Seal table block) told = is_without told
answers_without (command.Gather table block) told = is_without told
answers_without (command.Export table) told = is_without told

-- The command may be told this, in a transaction or without one.
abbrev pub answers : List TableDecl → Bool → Command → Said → Bool
answers tables within asked told = if within || is_upkeep asked
    then answers_within tables asked told else answers_without asked told

-- What is due may be told this, in a line.
abbrev pub may_say : List TableDecl → Bool → Due → Said → Bool
may_say tables within due told = not (is_worker due.who && is_silent told)
    && answers tables within due.command told
