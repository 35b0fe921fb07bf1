-- Which bytes are a workload, line by line, and else the first line that is none, with the first
-- word or rule on it that fails. An extent says how much of the format is taken, which the version
-- tells; seven rules look at it: the kind of a column, the room for a column and for a table, the
-- bounds of `sessions` and `workers`, the test for a line `--`, and the form of a command.
use Rattle.std.specs.Prelude.{ℕ, ◌+◌, ◌-◌, ◌%◌, Bool, true, false, ◌&&◌, ◌||◌, not, ◌==◌, nat_lt}
use Rattle.std.specs.Prelude.{List, [], ◌∷◌, ◌++◌, ℤ, length, take, drop, find, position}
use Rattle.std.specs.Prelude.{take_while, Option, None, Some, option_map, option_and_then, is_none}
use Rattle.std.specs.Prelude.{slice_get, bytes_eq, codes, decimal, Result, Ok, Err}
use Rattle.std.specs.Prelude.{if◌then◌else◌}
use Rattle.std.specs.List.{list_any, join_with_byte}
use Rattle.std.specs.Option.{option_map_or, option_or}
use Rattle.cell_model.specs.declared.cell.Cell.{Cell}
use Rattle.cell_model.specs.declared.cell.Cell.TheVariants.{Num}
use Rattle.cell_model.specs.declared.kind.Kind.{Kind}
use Rattle.cell_model.specs.declared.kind.Kind.TheVariants as kind
use Rattle.cell_model.specs.declared.column.Column.{Column}
use Rattle.cell_model.specs.declared.table.TableDecl.{TableDecl}
use Rattle.cell_model.specs.Kinds.{kinds, values_of}
use Rattle.cell_model.specs.Schemas.{most_slots_of, place_of_name}
use Rattle.cell_model.specs.Values.{is_integer_of}
use Rattle.workload_spec.specs.declared.command.Command.{Command}
use Rattle.workload_spec.specs.declared.command.Command.TheVariants as command
use Rattle.workload_spec.specs.declared.script.Cause.{Cause}
use Rattle.workload_spec.specs.declared.script.Cause.TheVariants as cause
use Rattle.workload_spec.specs.declared.extent.Extent.{Extent}
use Rattle.workload_spec.specs.declared.extent.Commands.{Commands}
use Rattle.workload_spec.specs.declared.script.Line.{Line}
use Rattle.workload_spec.specs.declared.script.Script.{Script}
use Rattle.workload_spec.specs.Extents.{extent_of}
use Rattle.workload_spec.specs.Reading.{onto_first, parts, words_of, natural_of, natural_within}
use Rattle.workload_spec.specs.Reading.{integer_of, cell_of}
use Rattle.workload_spec.specs.ScriptText.{kind_text}
use Rattle.workload_spec.specs.Valid.{most_blocks, least_slots, is_name, is_declared, is_key_number}
use Rattle.workload_spec.specs.Valid.{is_block_of, is_export, is_taken_kind, are_numbers}
use Rattle.workload_spec.specs.Words.{line_feed, spaced, lines_text}

-- what is read, and then what is read with it; the first failure stands
infixl 10 ◌>>=◌
abbrev pub ◌>>=◌ : {A B E : Type 0} → Result A E → (A → Result B E) → Result B E
(Ok value) >>= next = next value
(Err fault) >>= next = Err fault

-- the value, where there is one, else the cause
abbrev pub or_cause : {A : Type 0} → Cause → Option A → Result A Cause
or_cause cause None = Err cause
or_cause cause (Some value) = Ok value

-- the rule holds, or the cause
abbrev pub rule : Cause → Bool → Result (Unit {0}) Cause
rule cause true = Ok tt
rule cause false = Err cause

-- the first word and those after it, or the cause
abbrev pub word : Cause → List (List ℕ) → Result (List ℕ × List (List ℕ)) Cause
word cause [] = Err cause
word cause (first ∷ rest) = Ok (first, rest)

-- no word is left, or the cause
abbrev pub no_word : Cause → List (List ℕ) → Result (Unit {0}) Cause
no_word cause [] = Ok tt
no_word cause (first ∷ rest) = Err cause

-- the first word is this one; the words after it, or the cause
abbrev pub keyword : Cause → List ℕ → List (List ℕ) → Result (List (List ℕ)) Cause
keyword cause text words = do
  first ← word cause words
  is ← rule cause (bytes_eq first.0 text)
  Ok first.1

-- the first word is a number between two; the number and the words after it, or the cause
abbrev pub number : Cause → ℕ → ℕ → List (List ℕ) → Result (ℕ × List (List ℕ)) Cause
number cause low high words = do
  first ← word cause words
  value ← or_cause cause (natural_within low high first.0)
  Ok (value, first.1)

-- Table lines.

-- the kind of values of so many bytes each that the name tells: `fixed` and their number
abbrev pub fixed_named : List ℕ → Option Kind
fixed_named name = if bytes_eq (take 5 name) (codes "fixed")
    then option_map kind.Fixed (natural_within 1 1024 (drop 5 name)) else None

-- the kind of this name
abbrev pub kind_named : List ℕ → Option Kind
kind_named name = option_or (find (λ kind. bytes_eq (kind_text kind) name) kinds) (fixed_named name)

-- the same, where it is one of those that are taken, the later ones or not
abbrev pub taken_kind : Bool → List ℕ → Option Kind
taken_kind later name = option_and_then
    (λ kind. if is_taken_kind later kind then Some kind else None) (kind_named name)

-- what ends the word of a column that may have nulls
abbrev pub question_mark : ℕ
question_mark = 63

-- what stands before the question mark that ends the word, where one does
abbrev pub before_mark : List ℕ → Option (List ℕ)
before_mark [] = None
before_mark (byte ∷ []) = if byte == question_mark then Some [] else None
before_mark (byte ∷ next ∷ bytes) = option_map (λ front. byte ∷ front) (before_mark (next ∷ bytes))

-- the kind that the word names, and whether a question mark follows its name
abbrev pub kind_of : Bool → List ℕ → Option (Kind × Bool)
kind_of later word = option_map_or
    (λ name. option_map (λ kind. (kind, true)) (taken_kind later name)) (before_mark word)
    (option_map (λ kind. (kind, false)) (taken_kind later word))

-- what parts a column's name from its kind
abbrev pub colon : ℕ
colon = 58

abbrev pub has_colon : List ℕ → Bool
has_colon word = list_any (λ byte. byte == colon) word

-- the bytes before the word's first colon, and those after it
abbrev pub before_colon : List ℕ → List ℕ
before_colon word = take_while (λ byte. not (byte == colon)) word

abbrev pub after_colon : List ℕ → List ℕ
after_colon word = drop (length (before_colon word) + 1) word

-- A column behind others: a name, which none of these has, a colon and a kind; and there is room
-- for it.
abbrev pub column_of : Extent → List Column → List ℕ → Result Column Cause
column_of extent columns word = do
  named ← rule cause.Name (is_name (before_colon word))
  own ← rule cause.Twice (is_none (place_of_name (before_colon word) columns))
  kind ← or_cause cause.Kind (kind_of extent.later_kinds (after_colon word))
  room ← rule cause.Columns (nat_lt (length columns) extent.columns)
  Ok (record { name = before_colon word; kind = kind.0; nullable = kind.1 })

-- the columns behind others, as far as words have a colon, and the words after them
abbrev pub columns_from : Extent → List Column → List (List ℕ)
    → Result (List Column × List (List ℕ)) Cause
columns_from extent columns [] = Ok (columns, [])
columns_from extent columns (word ∷ words) = elim (has_colon word) [
  | true ↦ column_of extent columns word >>= λ column. columns_from extent (columns ++ column ∷ [])
      words
  | false ↦ Ok (columns, word ∷ words)
]

-- the key's column
abbrev pub key_column : Column
key_column = record { name = codes "key"; kind = kind.I64; nullable = false }

-- A table's line behind those of these tables: `table`, a name that none of them has, `key:i64`,
-- further columns, `slots` and `blocks` with their numbers, and nothing more.
abbrev pub table_of : Extent → List TableDecl → List (List ℕ) → Result TableDecl Cause
table_of extent tables words = do
  line ← keyword cause.Table (codes "table") words
  name ← word cause.Name line
  named ← rule cause.Name (is_name name.0)
  own ← rule cause.Twice (not (is_declared name.0 tables))
  key ← keyword cause.Key (codes "key:i64") name.1
  columns ← columns_from extent (key_column ∷ []) key
  slots_word ← keyword cause.Slots (codes "slots") columns.1
  slots ← number cause.Slots least_slots (most_slots_of columns.0) slots_word
  eighths ← rule cause.Slots (slots.0 % 8 == 0)
  blocks_word ← keyword cause.Blocks (codes "blocks") slots.1
  blocks ← number cause.Blocks 1 most_blocks blocks_word
  end ← no_word cause.Blocks blocks.1
  Ok (record { name = name.0; schema = columns.0; slots = slots.0; blocks = blocks.0 })

-- Lines of a round.

-- What the words after a command's first are, and the command that they make. A begin is told
-- whether its word `checked` is taken.
pub data Form : Type 0 where
  Alone : Command → Form
  OfTable : (ℕ → Command) → Form
  OfKey : (ℕ → ℤ → Command) → Form
  OfRow : (ℕ → List Cell → Command) → Form
  OfBlock : (ℕ → ℕ → Command) → Form
  OfBegin : Bool → Form
  OfRange : Form
  OfTotal : Form

-- each command's first word, its form, and whether it is taken
abbrev pub forms : Commands → List (List ℕ × Form × Bool)
forms taken = (codes "begin", OfBegin taken.begin_checked, taken.begin)
    ∷ (codes "get", OfKey command.Get, taken.get) ∷ (codes "scan", OfTable command.Scan, taken.scan)
    ∷ (codes "insert", OfRow command.Insert, taken.insert)
    ∷ (codes "update", OfRow command.Update, taken.update)
    ∷ (codes "delete", OfKey command.Delete, taken.delete)
    ∷ (codes "commit", Alone command.Commit, taken.commit)
    ∷ (codes "abort", Alone command.Abort, taken.abort)
    ∷ (codes "observe", Alone command.Observe, taken.observe)
    ∷ (codes "prune", Alone command.Prune, taken.prune)
    ∷ (codes "compact", OfTable command.Compact, taken.compact)
    ∷ (codes "seal", OfBlock command.Seal, taken.seal)
    ∷ (codes "gather", OfBlock command.Gather, taken.gather)
    ∷ (codes "export", OfTable command.Export, taken.export)
    ∷ (codes "range", OfRange, taken.range) ∷ (codes "total", OfTotal, taken.total) ∷ []

-- the form of the command whose first word this is, where it is taken
abbrev pub form_of : Extent → List ℕ → Option Form
form_of extent word = option_map (λ entry. entry.1)
    (find (λ entry. bytes_eq entry.0 word && entry.2) (forms extent.commands))

-- the place of the declared table of this name
abbrev pub table_named : List TableDecl → List ℕ → Result ℕ Cause
table_named tables name = or_cause cause.Unknown
    (position (λ table. bytes_eq table.name name) tables)

-- the key that the word is
abbrev pub key_in : List ℕ → Result ℤ Cause
key_in word = do
  key ← or_cause cause.Number (integer_of word)
  fits ← rule cause.Number (is_key_number key)
  Ok key

-- the columns of the table at a place
abbrev pub schema_at : List TableDecl → ℕ → List Column
schema_at tables place = option_map_or (λ table. table.schema) (slice_get tables place) []

-- the cells of columns, one word for each
abbrev pub cells_of : List Column → List (List ℕ) → Result (List Cell) Cause
cells_of [] words = Ok []
cells_of (column ∷ columns) [] = Ok []
cells_of (column ∷ columns) (word ∷ words) = do
  cell ← or_cause cause.Cell (cell_of column word)
  cells ← cells_of columns words
  Ok (cell ∷ cells)

-- the place of the column of this name, where it has numbers, and its kind
abbrev pub numbers_named : List Column → List ℕ → Result (ℕ × Kind) Cause
numbers_named columns name = do
  place ← or_cause cause.Column (place_of_name name columns)
  column ← or_cause cause.Column (slice_get columns place)
  numbers ← rule cause.Column (are_numbers (values_of column.kind))
  Ok (place, column.kind)

-- the number of a kind that the word is
abbrev pub number_in : Kind → List ℕ → Result ℤ Cause
number_in kind word = do
  value ← or_cause cause.Number (integer_of word)
  fits ← rule cause.Number (is_integer_of kind value)
  Ok value

-- A command of this form with these words: first their number, then the table, the column, the key
-- or the bounds, the cells and the block. The number of cells is judged where the table is
-- declared.
abbrev pub formed : List TableDecl → Form → List (List ℕ) → Result Command Cause
formed tables (Alone command) words = do
  end ← no_word cause.Command words
  Ok command
formed tables (OfTable command) words = do
  name ← word cause.Command words
  end ← no_word cause.Command name.1
  table ← table_named tables name.0
  Ok (command table)
formed tables (OfKey command) words = do
  name ← word cause.Command words
  key_word ← word cause.Command name.1
  end ← no_word cause.Command key_word.1
  table ← table_named tables name.0
  key ← key_in key_word.0
  Ok (command table key)
formed tables (OfRow command) words = do
  name ← word cause.Command words
  key_word ← word cause.Command name.1
  table ← table_named tables name.0
  all ← rule cause.Command (length (schema_at tables table) == length key_word.1 + 1)
  key ← key_in key_word.0
  cells ← cells_of (drop 1 (schema_at tables table)) key_word.1
  Ok (command table (Num key ∷ cells))
formed tables (OfBlock command) words = do
  name ← word cause.Command words
  block_word ← word cause.Command name.1
  end ← no_word cause.Command block_word.1
  table ← table_named tables name.0
  block ← or_cause cause.Block (natural_of block_word.0)
  there ← rule cause.Block (is_block_of tables table block)
  Ok (command table block)
formed tables (OfBegin takes_checked) [] = Ok (command.Begin false)
formed tables (OfBegin takes_checked) (how ∷ words) = do
  checked ← rule cause.Command (takes_checked && bytes_eq how (codes "checked"))
  end ← no_word cause.Command words
  Ok (command.Begin true)
formed tables OfRange words = do
  name ← word cause.Command words
  low_word ← word cause.Command name.1
  high_word ← word cause.Command low_word.1
  end ← no_word cause.Command high_word.1
  table ← table_named tables name.0
  low ← key_in low_word.0
  high ← key_in high_word.0
  Ok (command.Range table low high)
formed tables OfTotal words = do
  name ← word cause.Command words
  column_word ← word cause.Command name.1
  low_word ← word cause.Command column_word.1
  high_word ← word cause.Command low_word.1
  end ← no_word cause.Command high_word.1
  table ← table_named tables name.0
  column ← numbers_named (schema_at tables table) column_word.0
  low ← number_in column.1 low_word.0
  high ← number_in column.1 high_word.0
  Ok (command.Total table column.0 low high)

-- A line of a round: a session of these many, and a command; an export only where none was before.
abbrev pub line_of : Extent → List TableDecl → ℕ → Bool → List (List ℕ) → Result Line Cause
line_of extent tables sessions exported words = do
  session ← number cause.Session 1 sessions words
  first ← word cause.Command session.1
  form ← or_cause cause.Command (form_of extent first.0)
  command ← formed tables form first.1
  once ← rule cause.Export (not (exported && is_export command))
  Ok (record { session = session.0; command = command })

-- The lines of a workload. A line is whole where a line feed ends it: of the parts between line
-- feeds all but the last are, which is empty where the last line is whole too.

-- The first line that is none of a workload, counted from 1, and the cause.
pub record Fault : Type 0 where
  pub line : ℕ
  pub cause : Cause

-- the name of a cause
abbrev pub cause_word : Cause → List ℕ
cause_word cause.Version = codes "version"
cause_word cause.Table = codes "table"
cause_word cause.Name = codes "name"
cause_word cause.Twice = codes "twice"
cause_word cause.Key = codes "key"
cause_word cause.Kind = codes "kind"
cause_word cause.Columns = codes "columns"
cause_word cause.Slots = codes "slots"
cause_word cause.Blocks = codes "blocks"
cause_word cause.Sessions = codes "sessions"
cause_word cause.Workers = codes "workers"
cause_word cause.Go = codes "go"
cause_word cause.Session = codes "session"
cause_word cause.Command = codes "command"
cause_word cause.Unknown = codes "unknown"
cause_word cause.Number = codes "number"
cause_word cause.Cell = codes "cell"
cause_word cause.Block = codes "block"
cause_word cause.Column = codes "column"
cause_word cause.Export = codes "export"
cause_word cause.Line = codes "line"
cause_word cause.Parting = codes "parting"

-- The text of a refusal: `refused`, the line and the cause.
abbrev pub refused_text : Fault → List ℕ
refused_text fault = lines_text
    (spaced (codes "refused" ∷ decimal fault.line ∷ cause_word fault.cause ∷ []) ∷ [])

-- the result of a line's words
abbrev pub on_line : {A : Type 0} → ℕ → Result A Cause → Result A Fault
on_line line (Ok value) = Ok value
on_line line (Err cause) = Err (record { line = line; cause = cause })

-- the next line and the parts after it; where none is left, the cause of the line that is absent
abbrev pub next_line : ℕ → Cause → List (List ℕ) → Result (List ℕ × List (List ℕ)) Fault
next_line at absent [] = on_line at (Err absent)
next_line at absent ([] ∷ []) = on_line at (Err absent)
next_line at absent ((byte ∷ bytes) ∷ []) = on_line at (Err cause.Line)
next_line at absent (line ∷ next ∷ rest) = Ok (line, next ∷ rest)

-- the line's first word is `table`
abbrev pub is_table_line : List ℕ → Bool
is_table_line line = option_map_or (λ word. bytes_eq word (codes "table"))
    (slice_get (words_of line) 0) false

-- the tables behind others, as far as lines begin with `table`, and the parts after them; where
-- there is no more room one is too many
abbrev pub tables_from : Extent → ℕ → List TableDecl → List (List ℕ)
    → Result (List TableDecl × List (List ℕ)) Fault
tables_from extent at tables [] = Ok (tables, [])
tables_from extent at tables (last ∷ []) = Ok (tables, last ∷ [])
tables_from extent at tables (line ∷ next ∷ rest) = elim (is_table_line line) [
  | true ↦ on_line at (rule cause.Table (nat_lt (length tables) extent.tables)) >>= λ room.
      on_line at (table_of extent tables (words_of line)) >>= λ table. tables_from extent (at + 1)
      (tables ++ table ∷ []) (next ∷ rest)
  | false ↦ Ok (tables, line ∷ next ∷ rest)
]

-- the rounds of the lines that are left, a line `--` between each two
abbrev pub rounds_from : Extent → List TableDecl → ℕ → ℕ → Bool → List (List ℕ)
    → Result (List (List Line)) Fault
rounds_from extent tables sessions at exported [] = Ok ([] ∷ [])
rounds_from extent tables sessions at exported ([] ∷ []) = Ok ([] ∷ [])
rounds_from extent tables sessions at exported ((byte ∷ bytes) ∷ []) = on_line at (Err cause.Line)
rounds_from extent tables sessions at exported (line ∷ next ∷ rest) = elim
    (extent.parts_rounds && bytes_eq line (codes "--")) [
      | true ↦ rounds_from extent tables sessions (at + 1) exported (next ∷ rest) >>= λ rounds. Ok
          ([] ∷ rounds)
      | false ↦ on_line at (line_of extent tables sessions exported (words_of line)) >>= λ read.
          rounds_from extent tables sessions (at + 1) (exported || is_export read.command)
          (next ∷ rest) >>= λ rounds. Ok (onto_first read rounds)
    ]

-- how many sessions there are
abbrev pub sessions_of : Extent → List (List ℕ) → Result ℕ Cause
sessions_of extent words = do
  rest ← keyword cause.Sessions (codes "sessions") words
  sessions ← number cause.Sessions 1 extent.sessions rest
  end ← no_word cause.Sessions sessions.1
  Ok sessions.0

-- how many workers there are, and how many turns each makes in a round
abbrev pub workers_of : Extent → List (List ℕ) → Result (ℕ × ℕ) Cause
workers_of extent words = do
  rest ← keyword cause.Workers (codes "workers") words
  workers ← number cause.Workers 0 extent.workers rest
  turns ← number cause.Workers 0 extent.turns workers.1
  end ← no_word cause.Workers turns.1
  Ok (workers.0, turns.0)

-- the version that the first line names: it is `store 1` or `store 2`
abbrev pub version_of : List ℕ → Option ℕ
version_of line = if bytes_eq line (codes "store 1") then Some 1
    else if bytes_eq line (codes "store 2") then Some 2
    else None

-- The workload of a version, within an extent, that the lines behind the first are: the tables, the
-- sessions, the workers with their turns, `go`, and the rounds.
abbrev pub script_behind : ℕ → Extent → List (List ℕ) → Result Script Fault
script_behind version extent all = do
  first ← next_line 2 cause.Table all
  begins ← on_line 2 (rule cause.Table (is_table_line first.0))
  tables ← tables_from extent 2 [] all
  let behind = length tables.0 + 2
  sessions_line ← next_line behind cause.Sessions tables.1
  sessions ← on_line behind (sessions_of extent (words_of sessions_line.0))
  workers_line ← next_line (behind + 1) cause.Workers sessions_line.1
  workers ← on_line (behind + 1) (workers_of extent (words_of workers_line.0))
  go ← next_line (behind + 2) cause.Go workers_line.1
  goes ← on_line (behind + 2) (rule cause.Go (bytes_eq go.0 (codes "go")))
  rounds ← rounds_from extent tables.0 sessions (behind + 3) false go.1
  Ok (record {
    version = version;
    tables = tables.0;
    sessions = sessions;
    workers = workers.0;
    turns = workers.1;
    rounds = rounds;
    begun = [];
  })

-- The workload that the lines are: its version, and behind it what that takes.
abbrev pub script_in : List (List ℕ) → Result Script Fault
script_in all = do
  store ← next_line 1 cause.Version all
  version ← on_line 1 (or_cause cause.Version (version_of store.0))
  script_behind version (extent_of version) store.1

-- The workload that the bytes are, or the first line that is none of one, and its cause.
abbrev pub script_of : List ℕ → Result Script Fault
script_of bytes = script_in (parts line_feed bytes)

-- A workload and the output behind it, which a line `====` parts: the workload ends before that
-- line.

abbrev pub parting : List ℕ
parting = codes "===="

-- the place of the first line `====`, where one is whole
abbrev pub place_of_parting : List (List ℕ) → Option ℕ
place_of_parting all = position (λ line. bytes_eq line parting) (take (length all - 1) all)

-- the workload before a parting and the bytes behind it; without one, the workload's fault or that
-- the parting is wanting
abbrev pub checked_in : List (List ℕ) → Option ℕ → Result (Script × List ℕ) Fault
checked_in all (Some place) = do
  script ← script_in (take place all ++ [] ∷ [])
  Ok (script, join_with_byte line_feed (drop (place + 1) all))
checked_in all None = do
  script ← script_in all
  on_line (length all) (Err cause.Parting)

-- The workload and the output that the bytes are, or the first line that is none, and its cause.
abbrev pub checked_of : List ℕ → Result (Script × List ℕ) Fault
checked_of bytes = checked_in (parts line_feed bytes) (place_of_parting (parts line_feed bytes))
