-- Which scripts are workloads: names, limits, cells that fit, and at most one export.
use Rattle.std.specs.Prelude.{◌≡◌, ℕ, ◌%◌, Bool, true, false, ◌&&◌, ◌||◌, not, ◌==◌, nat_lt, nat_le}
use Rattle.std.specs.Prelude.{List, [], ◌∷◌, length, flat_map, count_by, is_some, is_none}
use Rattle.std.specs.Prelude.{slice_get, bytes_eq, ℤ}
use Rattle.std.specs.List.{list_all, list_any}
use Rattle.std.specs.Option.{option_map_or}
use Rattle.cell_model.specs.declared.cell.Cell.{Cell}
use Rattle.cell_model.specs.declared.column.Column.{Column}
use Rattle.cell_model.specs.declared.table.TableDecl.{TableDecl}
use Rattle.cell_model.specs.Kinds.{has_width, values_of}
use Rattle.cell_model.specs.declared.values.Values.{Values}
use Rattle.cell_model.specs.declared.values.Values.TheVariants.{Signed, Unsigned, Truths}
use Rattle.cell_model.specs.declared.values.Values.TheVariants.{Texts, Blobs, Strips}
use Rattle.cell_model.specs.Rows.{fits}
use Rattle.cell_model.specs.Values.{is_integer_of}
use Rattle.cell_model.specs.declared.kind.Kind.{Kind}
use Rattle.cell_model.specs.declared.kind.Kind.TheVariants as kind
use Rattle.cell_model.specs.Schemas.{begins_with_key, first_twins, most_columns, most_slots_of}
use Rattle.workload_spec.specs.declared.command.Command.{Command}
use Rattle.workload_spec.specs.declared.command.Command.TheVariants as command
use Rattle.workload_spec.specs.declared.script.Line.{Line}
use Rattle.workload_spec.specs.declared.script.Script.{Script}

-- the number lies between these two, both counted
abbrev pub is_within : ℕ → ℕ → ℕ → Bool
is_within low high number = nat_le low number && nat_le number high

-- the most tables of a workload, blocks of a table, sessions, workers, and turns of a worker in a
-- round
abbrev pub most_tables : ℕ
most_tables = 16

abbrev pub most_blocks : ℕ
most_blocks = 1024

abbrev pub most_sessions : ℕ
most_sessions = 64

abbrev pub most_workers : ℕ
most_workers = 16

abbrev pub most_turns : ℕ
most_turns = 100

-- the least slots of a block
abbrev pub least_slots : ℕ
least_slots = 8

-- a letter from `a` to `z`, and a digit
abbrev pub is_lower_case : ℕ → Bool
is_lower_case byte = is_within 97 122 byte

abbrev pub is_digit : ℕ → Bool
is_digit byte = is_within 48 57 byte

abbrev pub underscore : ℕ
underscore = 95

-- a byte of a name after its first: a lower-case letter, a digit or an underscore
abbrev pub is_name_byte : ℕ → Bool
is_name_byte byte = is_lower_case byte || is_digit byte || byte == underscore

-- A name: a lower-case letter, and then lower-case letters, digits and underscores, at most 32
-- bytes in all.
abbrev pub is_name : List ℕ → Bool
is_name [] = false
is_name (first ∷ rest) = is_lower_case first && list_all is_name_byte rest
    && nat_lt (length rest) 32

-- how many slots a block of these columns may have: 8 or more, a multiple of 8, and no more than
-- fit
abbrev pub are_slots : List Column → ℕ → Bool
are_slots columns slots = is_within least_slots (most_slots_of columns) slots && slots % 8 == 0

-- how many blocks a table may have
abbrev pub are_blocks : ℕ → Bool
are_blocks blocks = is_within 1 most_blocks blocks

-- a column's name is one, and its values have a width that there is
abbrev pub is_column : Column → Bool
is_column column = is_name column.name && has_width (values_of column.kind)

-- The columns are a table's: the key first, at most 32, each a column, and names that differ.
abbrev pub are_columns : List Column → Bool
are_columns columns = begins_with_key columns && nat_le (length columns) most_columns
    && is_none (first_twins 0 columns) && list_all is_column columns

-- the kind came with the second version of the format
abbrev pub is_later : Kind → Bool
is_later kind.I8 = false
is_later kind.I16 = false
is_later kind.I32 = false
is_later kind.I64 = false
is_later kind.U8 = false
is_later kind.U16 = false
is_later kind.U32 = false
is_later kind.U64 = false
is_later kind.Bool = false
is_later kind.Utf8 = false
is_later kind.Binary = false
is_later kind.LargeUtf8 = true
is_later kind.LargeBinary = true
is_later (kind.Fixed bytes) = true
is_later kind.Date = true

-- the kind is one of those that are taken, the later ones or not
abbrev pub is_taken_kind : Bool → Kind → Bool
is_taken_kind later kind = not (is_later kind) || later

-- each column's kind is
abbrev pub are_taken_kinds : Bool → List Column → Bool
are_taken_kinds later columns = list_all (λ column. is_taken_kind later column.kind) columns

-- A table: its name, its columns, its slots and its blocks are of their forms and within their
-- limits.
abbrev pub is_table : TableDecl → Bool
is_table table = is_name table.name && are_columns table.schema
    && are_slots table.schema table.slots && are_blocks table.blocks

-- one of the tables has this name
abbrev pub is_declared : List ℕ → List TableDecl → Bool
is_declared name tables = list_any (λ table. bytes_eq table.name name) tables

-- no two tables have one name
abbrev pub have_own_names : List TableDecl → Bool
have_own_names [] = true
have_own_names (table ∷ tables) = not (is_declared table.name tables) && have_own_names tables

-- the row fits the table at this place
abbrev pub fits_table : List TableDecl → ℕ → List Cell → Bool
fits_table tables place row = option_map_or (λ table. fits table.schema row)
    (slice_get tables place) false

-- there is a table at this place, and it has this block
abbrev pub is_table_place : List TableDecl → ℕ → Bool
is_table_place tables place = is_some (slice_get tables place)

abbrev pub is_block_of : List TableDecl → ℕ → ℕ → Bool
is_block_of tables place block = option_map_or (λ table. nat_lt block table.blocks)
    (slice_get tables place) false

-- a key is a signed number of 64 bits
abbrev pub is_key_number : ℤ → Bool
is_key_number key = is_integer_of kind.I64 key

-- the values are numbers
abbrev pub are_numbers : Values → Bool
are_numbers (Signed width) = true
are_numbers (Unsigned width) = true
are_numbers Truths = false
are_numbers (Texts width) = false
are_numbers (Blobs width) = false
are_numbers (Strips bytes) = false

-- the column has numbers, and these two are of its kind
abbrev pub are_bounds_in : Column → ℤ → ℤ → Bool
are_bounds_in column low high = are_numbers (values_of column.kind)
    && is_integer_of column.kind low && is_integer_of column.kind high

-- the table at this place has this column of numbers, counted from 0, and these two are of its kind
abbrev pub is_total : List TableDecl → ℕ → ℕ → ℤ → ℤ → Bool
is_total tables place column low high = option_map_or
    (λ table. option_map_or (λ its. are_bounds_in its low high) (slice_get table.schema column)
    false)
    (slice_get tables place) false

-- The command names tables, blocks and columns of numbers that there are, keys that are 64-bit
-- numbers, bounds of a column's kind, and rows that fit.
abbrev pub is_command : List TableDecl → Command → Bool
is_command tables (command.Begin checked) = true
is_command tables (command.Get table key) = is_table_place tables table && is_key_number key
is_command tables (command.Scan table) = is_table_place tables table
is_command tables (command.Range table low high) = is_table_place tables table
    && is_key_number low && is_key_number high
is_command tables (command.Total table column low high) = is_total tables table column low high
is_command tables (command.Insert table row) = fits_table tables table row
is_command tables (command.Update table row) = fits_table tables table row
is_command tables (command.Delete table key) = is_table_place tables table && is_key_number key
is_command tables command.Commit = true
is_command tables command.Abort = true
is_command tables command.Observe = true
is_command tables command.Prune = true
is_command tables (command.Compact table) = is_table_place tables table
is_command tables (command.Seal table block) = is_block_of tables table block
is_command tables (command.Gather table block) = is_block_of tables table block
is_command tables (command.Export table) = is_table_place tables table

-- the command exports a table
abbrev pub is_export : Command → Bool
is_export (command.Export table) = true
is_export (command.Begin checked) = false
is_export (command.Get table key) = false
is_export (command.Scan table) = false
is_export (command.Range table low high) = false
is_export (command.Total table column low high) = false
is_export (command.Insert table row) = false
is_export (command.Update table row) = false
is_export (command.Delete table key) = false
is_export command.Commit = false
is_export command.Abort = false
is_export command.Observe = false
is_export command.Prune = false
is_export (command.Compact table) = false
is_export (command.Seal table block) = false
is_export (command.Gather table block) = false

-- Whether a version takes checked transactions, ranges and totals, which came with the second.
abbrev pub takes_checked : ℕ → Bool
takes_checked version = nat_le 2 version

abbrev pub takes_ranges : ℕ → Bool
takes_ranges version = nat_le 2 version

abbrev pub takes_totals : ℕ → Bool
takes_totals version = nat_le 2 version

-- the version takes the command
abbrev pub takes_command : ℕ → Command → Bool
takes_command version (command.Begin checked) = not checked || takes_checked version
takes_command version (command.Get table key) = true
takes_command version (command.Scan table) = true
takes_command version (command.Range table low high) = takes_ranges version
takes_command version (command.Total table column low high) = takes_totals version
takes_command version (command.Insert table row) = true
takes_command version (command.Update table row) = true
takes_command version (command.Delete table key) = true
takes_command version command.Commit = true
takes_command version command.Abort = true
takes_command version command.Observe = true
takes_command version command.Prune = true
takes_command version (command.Compact table) = true
takes_command version (command.Seal table block) = true
takes_command version (command.Gather table block) = true
takes_command version (command.Export table) = true

-- a line of a round: one of the sessions, and a command of these tables that the version takes
abbrev pub is_line : Script → Line → Bool
is_line script line = is_within 1 script.sessions line.session
    && is_command script.tables line.command && takes_command script.version line.command

-- all lines of a script, round after round
abbrev pub all_lines : Script → List Line
all_lines script = flat_map (λ round. round) script.rounds

-- the versions of the format
abbrev pub is_version : ℕ → Bool
is_version version = version == 1 || version == 2

-- the later kinds are taken from the second version on
abbrev pub takes_later_kinds : ℕ → Bool
takes_later_kinds version = nat_le 2 version

-- The version of a workload: one that there is, which takes the kinds of the columns.
abbrev pub has_version : Script → Bool
has_version script = is_version script.version
    && list_all (λ table. are_taken_kinds (takes_later_kinds script.version) table.schema)
    script.tables

-- The head of a workload: its version, 1 to 16 tables of their own names, 1 to 64 sessions, at most
-- 16 workers and at most 100 turns.
abbrev pub has_head : Script → Bool
has_head script = has_version script
    && is_within 1 most_tables (length script.tables) && list_all is_table script.tables
    && have_own_names script.tables
    && is_within 1 most_sessions script.sessions && nat_le script.workers most_workers
    && nat_le script.turns most_turns

-- The script is a workload: its head is one, there is a round, each line is a session's command,
-- and there is at most one export.
abbrev pub is_valid : Script → Bool
is_valid script = has_head script && nat_lt 0 (length script.rounds)
    && list_all (is_line script) (all_lines script)
    && nat_le (count_by (λ line. is_export line.command) (all_lines script)) 1

-- A workload as it is written: it is valid, and its store begins with nothing.
pub record IsWritten (script : Script) : Type 0 where
  pub valid : is_valid script ≡ true
  pub begun : script.begun ≡ []
