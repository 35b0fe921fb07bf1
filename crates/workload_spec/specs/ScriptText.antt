-- The text of a workload.
use Rattle.std.specs.Prelude.{ℕ, true, false, List, [], ◌∷◌, ◌++◌, map, codes, decimal}
use Rattle.std.specs.Prelude.{if◌then◌else◌, slice_get}
use Rattle.std.specs.Fmt.{signed_decimal}
use Rattle.std.specs.Option.{option_map_or}
use Rattle.cell_model.specs.declared.kind.Kind.{Kind}
use Rattle.cell_model.specs.declared.kind.Kind.TheVariants as kind
use Rattle.cell_model.specs.declared.column.Column.{Column}
use Rattle.cell_model.specs.declared.table.TableDecl.{TableDecl}
use Rattle.workload_spec.specs.declared.command.Command.{Command}
use Rattle.workload_spec.specs.declared.command.Command.TheVariants as command
use Rattle.workload_spec.specs.declared.script.Line.{Line}
use Rattle.workload_spec.specs.declared.script.Script.{Script}
use Rattle.workload_spec.specs.Words.{cell_words, spaced, lines_text}

-- the name of a kind
abbrev pub kind_text : Kind → List ℕ
kind_text kind.I8 = codes "i8"
kind_text kind.I16 = codes "i16"
kind_text kind.I32 = codes "i32"
kind_text kind.I64 = codes "i64"
kind_text kind.U8 = codes "u8"
kind_text kind.U16 = codes "u16"
kind_text kind.U32 = codes "u32"
kind_text kind.U64 = codes "u64"
kind_text kind.Bool = codes "bool"
kind_text kind.Utf8 = codes "utf8"
kind_text kind.Binary = codes "binary"
kind_text kind.LargeUtf8 = codes "large_utf8"
kind_text kind.LargeBinary = codes "large_binary"
kind_text (kind.Fixed bytes) = codes "fixed" ++ decimal bytes
kind_text kind.Date = codes "date"

-- a column: its name, a colon, its kind, and a question mark where it is nullable
abbrev pub column_text : Column → List ℕ
column_text column = column.name ++ codes ":" ++ kind_text column.kind
    ++ (if column.nullable then codes "?" else [])

-- a table's line
abbrev pub table_text : TableDecl → List ℕ
table_text table = spaced (codes "table" ∷ table.name ∷ (map column_text table.schema
    ++ codes "slots" ∷ decimal table.slots ∷ codes "blocks" ∷ decimal table.blocks ∷ []))

-- the name of a table by its place
abbrev pub name_of_table : List TableDecl → ℕ → List ℕ
name_of_table tables place = option_map_or (λ table. table.name) (slice_get tables place) []

-- the name of a table's column, by the places of both
abbrev pub name_of_column : List TableDecl → ℕ → ℕ → List ℕ
name_of_column tables place column = option_map_or
    (λ table. option_map_or (λ its. its.name) (slice_get table.schema column) [])
    (slice_get tables place) []

-- the words of a command; a row's first cell is its key
abbrev pub command_words : List TableDecl → Command → List (List ℕ)
command_words tables (command.Begin false) = codes "begin" ∷ []
command_words tables (command.Begin true) = codes "begin" ∷ codes "checked" ∷ []
command_words tables (command.Get table key) = codes "get" ∷ name_of_table tables table
    ∷ signed_decimal key ∷ []
command_words tables (command.Scan table) = codes "scan" ∷ name_of_table tables table ∷ []
command_words tables (command.Range table low high) = codes "range" ∷ name_of_table tables table
    ∷ signed_decimal low ∷ signed_decimal high ∷ []
command_words tables (command.Total table column low high) = codes "total"
    ∷ name_of_table tables table ∷ name_of_column tables table column ∷ signed_decimal low
    ∷ signed_decimal high ∷ []
command_words tables (command.Insert table row) = codes "insert" ∷ name_of_table tables table
    ∷ cell_words row
command_words tables (command.Update table row) = codes "update" ∷ name_of_table tables table
    ∷ cell_words row
command_words tables (command.Delete table key) = codes "delete" ∷ name_of_table tables table
    ∷ signed_decimal key ∷ []
command_words tables command.Commit = codes "commit" ∷ []
command_words tables command.Abort = codes "abort" ∷ []
command_words tables command.Observe = codes "observe" ∷ []
command_words tables command.Prune = codes "prune" ∷ []
command_words tables (command.Compact table) = codes "compact" ∷ name_of_table tables table ∷ []
command_words tables (command.Seal table block) = codes "seal" ∷ name_of_table tables table
    ∷ decimal block ∷ []
command_words tables (command.Gather table block) = codes "gather" ∷ name_of_table tables table
    ∷ decimal block ∷ []
command_words tables (command.Export table) = codes "export" ∷ name_of_table tables table ∷ []

-- a line of a round
abbrev pub line_text : List TableDecl → Line → List ℕ
line_text tables line = spaced (decimal line.session ∷ command_words tables line.command)

-- the lines of rounds, a line `--` between each two
abbrev pub round_lines : List TableDecl → List (List Line) → List (List ℕ)
round_lines tables [] = []
round_lines tables (round ∷ []) = map (line_text tables) round
round_lines tables (round ∷ next ∷ rounds) = map (line_text tables) round
    ++ codes "--" ∷ round_lines tables (next ∷ rounds)

-- the lines of a workload: its version, its tables, its sessions, its workers with their turns,
-- `go`, and its rounds
abbrev pub script_lines : Script → List (List ℕ)
script_lines script =
    spaced (codes "store" ∷ decimal script.version ∷ [])
    ∷ (map table_text script.tables
    ++ spaced (codes "sessions" ∷ decimal script.sessions ∷ [])
    ∷ spaced (codes "workers" ∷ decimal script.workers ∷ decimal script.turns ∷ [])
    ∷ codes "go"
    ∷ round_lines script.tables script.rounds)

-- The text of a workload: its lines, each ended by a line feed.
abbrev pub script_text : Script → List ℕ
script_text script = lines_text (script_lines script)
