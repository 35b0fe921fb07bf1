-- How much of the workload format is taken: what each version takes, and which workloads run within
-- an extent.
use Rattle.std.specs.Prelude.{◌≡◌, ℕ, Bool, true, ◌&&◌, ◌||◌, not, nat_le, List, length}
use Rattle.std.specs.List.{list_all}
use Rattle.cell_model.specs.Schemas.{most_columns}
use Rattle.cell_model.specs.declared.column.Column.{Column}
use Rattle.workload_spec.specs.declared.command.Command.{Command}
use Rattle.workload_spec.specs.declared.command.Command.TheVariants as command
use Rattle.workload_spec.specs.declared.extent.Commands.{Commands}
use Rattle.workload_spec.specs.declared.extent.Extent.{Extent}
use Rattle.workload_spec.specs.declared.script.Script.{Script}
use Rattle.workload_spec.specs.Valid.{is_within, most_tables, most_sessions, most_workers}
use Rattle.workload_spec.specs.Valid.{most_turns, all_lines, takes_later_kinds, are_taken_kinds}
use Rattle.workload_spec.specs.Valid.{takes_checked, takes_ranges, takes_totals}

-- The whole format.
abbrev pub whole : Extent
whole = record {
  tables = most_tables;
  columns = most_columns;
  sessions = most_sessions;
  workers = most_workers;
  turns = most_turns;
  parts_rounds = true;
  later_kinds = true;
  commands = record {
    begin = true;
    begin_checked = true;
    get = true;
    scan = true;
    range = true;
    total = true;
    insert = true;
    update = true;
    delete = true;
    commit = true;
    abort = true;
    observe = true;
    prune = true;
    compact = true;
    seal = true;
    gather = true;
    export = true;
  };
}

-- How much each version takes: all of it, but of kinds and commands that came later those that it
-- has.
abbrev pub extent_of : ℕ → Extent
extent_of version = record whole {
  later_kinds = takes_later_kinds version;
  commands = record whole.commands {
    begin_checked = takes_checked version;
    range = takes_ranges version;
    total = takes_totals version;
  };
}

-- the command is one of those taken
abbrev pub is_taken : Commands → Command → Bool
is_taken taken (command.Begin checked) = taken.begin && (not checked || taken.begin_checked)
is_taken taken (command.Get table key) = taken.get
is_taken taken (command.Scan table) = taken.scan
is_taken taken (command.Range table low high) = taken.range
is_taken taken (command.Total table column low high) = taken.total
is_taken taken (command.Insert table row) = taken.insert
is_taken taken (command.Update table row) = taken.update
is_taken taken (command.Delete table key) = taken.delete
is_taken taken command.Commit = taken.commit
is_taken taken command.Abort = taken.abort
is_taken taken command.Observe = taken.observe
is_taken taken command.Prune = taken.prune
is_taken taken (command.Compact table) = taken.compact
is_taken taken (command.Seal table block) = taken.seal
is_taken taken (command.Gather table block) = taken.gather
is_taken taken (command.Export table) = taken.export

-- a table's columns are no more than the extent takes, and of kinds that it takes
abbrev pub are_within : Extent → List Column → Bool
are_within extent columns = nat_le (length columns) extent.columns
    && are_taken_kinds extent.later_kinds columns

-- The script runs within the extent: it has no more tables, columns, sessions, workers and turns,
-- one round where none are parted, and only kinds and commands that are taken.
abbrev pub runs_within : Extent → Script → Bool
runs_within extent script = nat_le (length script.tables) extent.tables
    && list_all (λ table. are_within extent table.schema) script.tables
    && nat_le script.sessions extent.sessions && nat_le script.workers extent.workers
    && nat_le script.turns extent.turns
    && (extent.parts_rounds || nat_le (length script.rounds) 1)
    && list_all (λ line. is_taken extent.commands line.command) (all_lines script)

abbrev pub RunsWithin : Extent → Script → Type 0
RunsWithin extent script = runs_within extent script ≡ true

-- An extent is one of the format: no bound passes the whole's, and there is room for the key's
-- column.
abbrev pub is_extent : Extent → Bool
is_extent extent = nat_le extent.tables most_tables && is_within 1 most_columns extent.columns
    && nat_le extent.sessions most_sessions && nat_le extent.workers most_workers
    && nat_le extent.turns most_turns
