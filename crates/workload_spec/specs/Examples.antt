-- Worked examples of texts and faults, as facts.
use Rattle.std.specs.Prelude.{◌≡◌, ℕ, ◌-◌, ◌^◌, true, false, List, [], ◌∷◌, ◌++◌, map, flat_map}
use Rattle.std.specs.Prelude.{replicate, drop, pos, negsuc, codes, decimal, option_map, None, Some}
use Rattle.std.specs.Prelude.{Result, Ok, Err}
use Rattle.std.specs.List.{range_with_len}
use Rattle.std.specs.Result.{result_ok}
use Rattle.cell_model.specs.declared.cell.Cell.TheVariants.{Null, Num, Truth, Text, Blob}
use Rattle.cell_model.specs.declared.kind.Kind.TheVariants as kind
use Rattle.cell_model.specs.declared.column.Column.{Column}
use Rattle.cell_model.specs.declared.table.TableDecl.{TableDecl}
use Rattle.workload_spec.specs.declared.command.Command.{Command}
use Rattle.workload_spec.specs.declared.command.Command.TheVariants as command
use Rattle.workload_spec.specs.declared.extent.Extent.{Extent}
use Rattle.workload_spec.specs.declared.script.Cause.{Cause}
use Rattle.workload_spec.specs.declared.script.Cause.TheVariants as cause
use Rattle.workload_spec.specs.declared.script.Line.{Line}
use Rattle.workload_spec.specs.declared.script.Script.{Script}
use Rattle.workload_spec.specs.declared.reply.Who.TheVariants.{Session, Worker}
use Rattle.workload_spec.specs.declared.reply.Said.{Said}
use Rattle.workload_spec.specs.declared.reply.Said.TheVariants as said
use Rattle.workload_spec.specs.declared.reply.SealCause.TheVariants.{Head}
use Rattle.workload_spec.specs.Grammar.{key_column, kind_of, Fault, script_behind, script_of}
use Rattle.workload_spec.specs.Grammar.{checked_of, refused_text}
use Rattle.workload_spec.specs.Reading.{cell_of, integer_of, parts, words_of}
use Rattle.workload_spec.specs.ReplyText.{said_words, replies_text}
use Rattle.workload_spec.specs.ScriptText.{line_text, script_text}
use Rattle.workload_spec.specs.Valid.{is_valid}
use Rattle.workload_spec.specs.Extents.{extent_of, whole, runs_within, is_extent}
use Rattle.workload_spec.specs.Words.{cell_text, line_feed, spaced, lines_text}

-- `v:utf8?`
abbrev pub text_column : Column
text_column = record { name = codes "v"; kind = kind.Utf8; nullable = true }

-- A quote, a backslash, the bytes 01 and 7f, and a character of two bytes.
abbrev pub hard_text : List ℕ
hard_text = 34 ∷ 92 ∷ 1 ∷ 0x7f ∷ 0xc3 ∷ 0xa9 ∷ []

abbrev pub hard_spelling : List ℕ
hard_spelling = codes "\"\\\"\\\\\\x01\\x7f" ++ 0xc3 ∷ 0xa9 ∷ 34 ∷ []

abbrev pub HardTextIsSpelled : Type 0
HardTextIsSpelled = cell_text (Text hard_text) ≡ hard_spelling

abbrev pub HardSpellingIsRead : Type 0
HardSpellingIsRead = cell_of text_column hard_spelling ≡ Some (Text hard_text)

abbrev pub NumbersAreRead : Type 0
NumbersAreRead = map (cell_of key_column)
    (codes "-9223372036854775808" ∷ codes "9223372036854775807" ∷ codes "9223372036854775808"
    ∷ codes "0" ∷ [])
    ≡ Some (Num (negsuc (2 ^ 63 - 1))) ∷ Some (Num (pos (2 ^ 63 - 1))) ∷ None ∷ Some (Num (pos 0))
    ∷ []

abbrev pub LeastKeyIsSpelled : Type 0
LeastKeyIsSpelled = cell_text (Num (negsuc (2 ^ 63 - 1))) ≡ codes "-9223372036854775808"

abbrev pub NoNumbers : Type 0
NoNumbers = map integer_of (codes "01" ∷ codes "-0" ∷ codes "+1" ∷ codes "-" ∷ [] ∷ codes "1x" ∷ [])
    ≡ replicate 6 None

-- one spelling only: a control byte in upper case, an escape that need not be, a text without its
-- end or its quotes
abbrev pub NoTexts : Type 0
NoTexts = map (cell_of text_column)
    (codes "\"\\x1F\"" ∷ codes "\"\\x41\"" ∷ codes "\"ab" ∷ codes "ab" ∷ codes "\"a\"b" ∷ [])
    ≡ replicate 5 None

-- a null is none of a column that is not nullable
abbrev pub NoNull : Type 0
NoNull = cell_of key_column (codes "null") ≡ None

-- `b:binary?`
abbrev pub blob_column : Column
blob_column = record { name = codes "b"; kind = kind.Binary; nullable = true }

-- pairs of lower-case hexadecimal digits, and no others
abbrev pub BlobsAreRead : Type 0
BlobsAreRead = map (cell_of blob_column)
    (codes "x" ∷ codes "x00ff" ∷ codes "xg0" ∷ codes "xz9" ∷ codes
    "x{0" ∷ codes "x0g" ∷ codes "xFF" ∷ codes "x0" ∷ codes "X00" ∷ [])
    ≡ Some (Blob []) ∷ Some (Blob (0x00 ∷ 0xff ∷ [])) ∷ replicate 7 None

-- `q:bool`
abbrev pub bool_column : Column
bool_column = record { name = codes "q"; kind = kind.Bool; nullable = false }

abbrev pub TruthsAreRead : Type 0
TruthsAreRead = map (cell_of bool_column)
    (codes "true" ∷ codes "false" ∷ codes "null" ∷ codes "1" ∷ [])
    ≡ Some (Truth true) ∷ Some (Truth false) ∷ None ∷ None ∷ []

-- a space within a text parts nothing, a quote within another word opens nothing
abbrev pub WordsAreParted : Type 0
WordsAreParted = map words_of (codes "a \"b c\\\" d\" e\"f g" ∷ codes "a  b " ∷ [])
    ≡ (codes "a" ∷ codes "\"b c\\\" d\"" ∷ codes "e\"f" ∷ codes "g" ∷ [])
    ∷ (codes "a" ∷ [] ∷ codes "b" ∷ [] ∷ []) ∷ []

-- the table a with `key:i64 v:utf8?`, 8 slots and 2 blocks
abbrev pub table_a : TableDecl
table_a = record { name = codes "a"; schema = key_column ∷ text_column ∷ []; slots = 8; blocks = 2 }

abbrev pub example_script : Script
example_script = record {
  version = 1;
  tables = table_a ∷ [];
  sessions = 2;
  workers = 0;
  turns = 0;
  rounds =
      (record { session = 1; command = command.Begin false } ∷ record {
        session = 1;
        command = command.Insert 0 (Num (pos 1) ∷ Text (codes "x y") ∷ []);
      } ∷ [])
      ∷ (record { session = 2; command = command.Get 0 (negsuc 2) } ∷ record {
        session = 1;
        command = command.Seal 0 1;
      } ∷ []) ∷ [];
  begun = [];
}

abbrev pub head : List (List ℕ)
head = codes "store 1" ∷ codes "table a key:i64 v:utf8? slots 8 blocks 2" ∷ codes "sessions 2"
    ∷ codes "workers 0 0" ∷ codes "go" ∷ []

abbrev pub example_text : List ℕ
example_text = lines_text (head
    ++ codes "1 begin" ∷ codes "1 insert a 1 \"x y\"" ∷ codes "--" ∷ codes "2 get a -3" ∷ codes
    "1 seal a 1" ∷ [])

-- the first session exports the table
abbrev pub exporting : Line
exporting = record { session = 1; command = command.Export 0 }

abbrev pub ScriptIsPrinted : Type 0
ScriptIsPrinted = script_text example_script ≡ example_text

abbrev pub ScriptIsRead : Type 0
ScriptIsRead = script_of example_text ≡ Ok example_script

-- that script, and it with one field changed
abbrev pub ScriptsAreJudged : Type 0
ScriptsAreJudged = map is_valid
    (example_script ∷ record example_script { version = 3 } ∷ record example_script
    { tables = [] }
    ∷ record example_script { tables = table_a ∷ table_a ∷ [] } ∷ record example_script
    { tables = record table_a { slots = 12 } ∷ [] }
    ∷ record example_script { sessions = 1 } ∷ record example_script { sessions = 65 }
    ∷ record example_script { workers = 17 } ∷ record example_script { turns = 101 }
    ∷ record example_script { rounds = [] } ∷ record example_script
    { rounds = (exporting ∷ exporting ∷ []) ∷ [] } ∷ record example_script {
      turns = 100;
      workers = 16;
    } ∷ [])
    ≡ true ∷ replicate 10 false ++ true ∷ []

-- that script with a worker of one turn
abbrev pub worked_script : Script
worked_script = record example_script { workers = 1; turns = 1 }

abbrev pub worked_text : List ℕ
worked_text = lines_text (codes "store 1" ∷ codes "table a key:i64 v:utf8? slots 8 blocks 2" ∷ codes
    "sessions 2" ∷ codes "workers 1 1" ∷ codes "go"
    ∷ codes "1 begin" ∷ codes "1 insert a 1 \"x y\"" ∷ codes "--" ∷ codes "2 get a -3" ∷ codes
    "1 seal a 1" ∷ [])

-- the whole format, and it with one bound below what that script has
abbrev pub extents : List Extent
extents = whole ∷ record whole { tables = 0 } ∷ record whole { columns = 1 } ∷ record whole
    { sessions = 1 } ∷ record whole { workers = 0 } ∷ record whole { turns = 0 }
    ∷ record whole { parts_rounds = false } ∷ record whole
    { commands = record whole.commands { seal = false } } ∷ []

abbrev pub ExtentsAreJudged : Type 0
ExtentsAreJudged = map (λ extent. runs_within extent worked_script) extents
    ≡ true ∷ replicate 7 false

-- a workload of the first version within an extent, read from its text behind the first line
abbrev pub read_within : Extent → List ℕ → Result Script Fault
read_within extent text = script_behind 1 extent (drop 1 (parts line_feed text))

-- what passes an extent is refused where it stands
abbrev pub ExtentsAreRead : Type 0
ExtentsAreRead = map (λ extent. read_within extent worked_text) extents
    ≡ Ok worked_script ∷ map (λ (told : ℕ × Cause). Err (record { line = told.0; cause = told.1 }))
    ((2, cause.Table) ∷ (2, cause.Columns) ∷ (3, cause.Sessions) ∷ (4, cause.Workers)
    ∷ (4, cause.Workers) ∷ (8, cause.Session) ∷ (10, cause.Command) ∷ [])

-- a command that is not taken, before a line that is none
abbrev pub two_faults : List ℕ
two_faults = lines_text (head ++ codes "1 scan a" ∷ codes "3 begin" ∷ [])

abbrev pub FirstFaultStands : Type 0
FirstFaultStands = map (λ extent. read_within extent two_faults)
    (whole ∷ record whole { commands = record whole.commands { scan = false } } ∷ [])
    ≡ map (λ (told : ℕ × Cause). Err (record { line = told.0; cause = told.1 }))
    ((7, cause.Session) ∷ (6, cause.Command) ∷ [])

-- the first version takes these bounds, and no later kinds and commands
abbrev pub FirstVersionIsTaken : Type 0
FirstVersionIsTaken = extent_of 1 ≡ record {
  tables = 16;
  columns = 32;
  sessions = 64;
  workers = 16;
  turns = 100;
  parts_rounds = true;
  later_kinds = false;
  commands = record {
    begin = true;
    begin_checked = false;
    get = true;
    scan = true;
    range = false;
    total = false;
    insert = true;
    update = true;
    delete = true;
    commit = true;
    abort = true;
    observe = true;
    prune = true;
    compact = true;
    seal = true;
    gather = true;
    export = true;
  };
}

-- the kinds of the first version by their names, and those that may be null
abbrev pub FirstKindsAreRead : Type 0
FirstKindsAreRead = map (kind_of false)
    (codes "i8" ∷ codes "i16" ∷ codes "i32" ∷ codes "i64" ∷ codes "u8" ∷ codes "u16" ∷ codes "u32"
    ∷ codes "u64" ∷ codes "bool" ∷ codes "utf8" ∷ codes "binary?" ∷ codes "binary??" ∷ codes "?"
    ∷ [] ∷ codes "I8" ∷ [])
    ≡ map (λ kind. Some (kind, false))
    (kind.I8 ∷ kind.I16 ∷ kind.I32 ∷ kind.I64 ∷ kind.U8 ∷ kind.U16 ∷ kind.U32 ∷ kind.U64
    ∷ kind.Bool ∷ kind.Utf8 ∷ []) ++ Some (kind.Binary, true) ∷ replicate 4 None

-- the kinds of the second version by their names, and those that may be null
abbrev pub LaterKindsAreRead : Type 0
LaterKindsAreRead = map (kind_of true)
    (codes "large_utf8" ∷ codes "large_binary?" ∷ codes "date" ∷ codes "fixed1" ∷ codes
    "fixed1024?" ∷ codes "i8" ∷ [])
    ≡ Some (kind.LargeUtf8, false) ∷ Some (kind.LargeBinary, true) ∷ Some (kind.Date, false)
    ∷ Some (kind.Fixed 1, false) ∷ Some (kind.Fixed 1024, true) ∷ Some (kind.I8, false) ∷ []

-- other spellings name none
abbrev pub NoLaterKinds : Type 0
NoLaterKinds = map (kind_of true)
    (codes "fixed" ∷ codes "fixed0" ∷ codes "fixed02" ∷ codes "fixed1025" ∷ codes "fixed-1" ∷ codes
    "Fixed1" ∷ codes "largeutf8" ∷ codes "large_utf8??" ∷ codes "dates" ∷ [])
    ≡ replicate 9 None

-- the first version has none of them
abbrev pub LaterKindsAreLater : Type 0
LaterKindsAreLater = map (kind_of false)
    (codes "large_utf8" ∷ codes "large_binary?" ∷ codes "date" ∷ codes "fixed1" ∷ [])
    ≡ replicate 4 None

-- `d:date` and `h:fixed2?`
abbrev pub date_column : Column
date_column = record { name = codes "d"; kind = kind.Date; nullable = false }

abbrev pub fixed_column : Column
fixed_column = record { name = codes "h"; kind = kind.Fixed 2; nullable = true }

-- a date is a number of 32 bits, and a fixed value has just its bytes
abbrev pub DatesAreRead : Type 0
DatesAreRead = map (cell_of date_column)
    (codes "19000" ∷ codes "-2147483648" ∷ codes "2147483648" ∷ codes "null" ∷ [])
    ≡ Some (Num (pos 19000)) ∷ Some (Num (negsuc (2 ^ 31 - 1))) ∷ None ∷ None ∷ []

abbrev pub FixedValuesAreRead : Type 0
FixedValuesAreRead = map (cell_of fixed_column)
    (codes "x0aff" ∷ codes "null" ∷ codes "x0a" ∷ codes "x" ∷ codes "x0aff00" ∷ codes "\"ab\"" ∷ [])
    ≡ Some (Blob (0x0a ∷ 0xff ∷ [])) ∷ Some Null ∷ replicate 4 None

-- the table f with `key:i64 d:date h:fixed2?`
abbrev pub table_f : TableDecl
table_f = record {
  name = codes "f";
  schema = key_column ∷ date_column ∷ fixed_column ∷ [];
  slots = 8;
  blocks = 1;
}

abbrev pub later_script : Script
later_script = record {
  version = 2;
  tables = table_f ∷ [];
  sessions = 1;
  workers = 0;
  turns = 0;
  rounds = (record {
    session = 1;
    command = command.Insert 0 (Num (pos 1) ∷ Num (negsuc 0) ∷ Blob (0 ∷ 1 ∷ []) ∷ []);
  } ∷ []) ∷ [];
  begun = [];
}

-- the head of a workload of a version with that table, and lines behind it
abbrev pub later_lines : List ℕ → List (List ℕ) → List (List ℕ)
later_lines store lines = store ∷ codes "table f key:i64 d:date h:fixed2? slots 8 blocks 1" ∷ codes
    "sessions 1" ∷ codes "workers 0 0" ∷ codes "go" ∷ lines

abbrev pub later_text : List ℕ
later_text = lines_text (later_lines (codes "store 2") (codes "1 insert f 1 -1 x0001" ∷ []))

abbrev pub LaterScriptIsPrinted : Type 0
LaterScriptIsPrinted = script_text later_script ≡ later_text

abbrev pub LaterScriptIsRead : Type 0
LaterScriptIsRead = script_of later_text ≡ Ok later_script

-- that workload is one of the second version alone, with a width that there is
abbrev pub VersionsAreJudged : Type 0
VersionsAreJudged = map is_valid
    (later_script ∷ record later_script { version = 1 } ∷ record later_script { version = 3 }
    ∷ record later_script {
      tables = record table_f {
        schema = key_column ∷ date_column ∷ record fixed_column { kind = kind.Fixed 0 } ∷ [];
      } ∷ [];
    } ∷ record example_script { version = 2 } ∷ [])
    ≡ true ∷ replicate 3 false ++ true ∷ []

-- the whole format and one of a column are extents of it, and one without a column or with a bound
-- past the whole's is none
abbrev pub BoundsAreJudged : Type 0
BoundsAreJudged = map is_extent
    (record whole { columns = 1 } ∷ whole ∷ record whole { columns = 0 } ∷ record whole
    { tables = 17 } ∷ record whole { columns = 33 } ∷ record whole { sessions = 65 }
    ∷ record whole { workers = 17 } ∷ record whole { turns = 101 } ∷ [])
    ≡ true ∷ true ∷ replicate 6 false

-- lines, and the fault of the workload that they are
abbrev pub Case : Type 0
Case = List (List ℕ) × ℕ × Cause

-- the lines of each case are refused by its line and cause
abbrev pub AreRefused : List Case → Type 0
AreRefused cases = map (λ case. script_of (lines_text case.0)) cases
    ≡ map (λ case. Err (record { line = case.1; cause = case.2 })) cases

-- `store 1`, a table, and lines behind it
abbrev pub behind_table : List (List ℕ) → List (List ℕ)
behind_table lines = codes "store 1" ∷ codes "table a key:i64 slots 8 blocks 1" ∷ lines

-- a table's line of a name with a number
abbrev pub numbered_table : ℕ → List ℕ
numbered_table number = codes "table t" ++ decimal number ++ codes " key:i64 slots 8 blocks 1"

abbrev pub HeadsAreRefused : Type 0
HeadsAreRefused = AreRefused (
    ([], 1, cause.Version) ∷ (codes "store 9" ∷ [], 1, cause.Version)
    ∷ (codes "store 02" ∷ [], 1, cause.Version)
    ∷ (later_lines (codes "store 1") [], 2, cause.Kind)
    ∷ (later_lines (codes "store 2") (codes "1 begin check" ∷ []), 6, cause.Command)
    ∷ (later_lines (codes "store 2") (codes "1 range f 1" ∷ []), 6, cause.Command)
    ∷ (later_lines (codes "store 2") (codes "1 total f h 1 2" ∷ []), 6, cause.Column)
    ∷ (later_lines (codes "store 2") (codes "1 gather dict f 0" ∷ []), 6, cause.Command)
    ∷ (later_lines (codes "store 2") (codes "1 export dict f" ∷ []), 6, cause.Command)
    ∷ (later_lines (codes "store 2") (codes "1 insert f 1 1 x0a" ∷ []), 6, cause.Cell)
    ∷ (codes "store 1" ∷ [], 2, cause.Table)
    ∷ (codes "store 1" ∷ codes "tables" ∷ [], 2, cause.Table)
    ∷ (behind_table (codes "table a key:i64 slots 8 blocks 1" ∷ []), 3, cause.Twice)
    ∷ (
      codes "store 1" ∷ (map numbered_table (range_with_len 1 9 ++ range_with_len 10 8)),
      18,
      cause.Table,
    )
    ∷ (behind_table [], 3, cause.Sessions)
    ∷ (behind_table (codes "sessions 0" ∷ []), 3, cause.Sessions)
    ∷ (behind_table (codes "sessions 65" ∷ []), 3, cause.Sessions)
    ∷ (behind_table (codes "sessions 1 " ∷ []), 3, cause.Sessions)
    ∷ (behind_table (codes "sessions 1" ∷ []), 4, cause.Workers)
    ∷ (behind_table (codes "sessions 1" ∷ codes "workers 17 0" ∷ []), 4, cause.Workers)
    ∷ (behind_table (codes "sessions 1" ∷ codes "workers 16 101" ∷ []), 4, cause.Workers)
    ∷ (behind_table (codes "sessions 1" ∷ codes "workers 0 0" ∷ codes "stop" ∷ []), 5, cause.Go)
    ∷ [])

-- a table's line with so many columns beside the key
abbrev pub wide_table : ℕ → List ℕ
wide_table count = codes "table a key:i64"
    ++ flat_map (λ number. codes " c" ++ decimal number ++ codes ":u8") (range_with_len 0 count)
    ++ codes " slots 8 blocks 1"

-- a table's line behind `store 1`, and its cause
abbrev pub table_case : List ℕ → Cause → Case
table_case line cause = (codes "store 1" ∷ line ∷ [], 2, cause)

abbrev pub TablesAreRefused : Type 0
TablesAreRefused = AreRefused (
    table_case (codes "table") cause.Name ∷ table_case (codes "table A key:i64 slots 8 blocks 1")
    cause.Name
    ∷ table_case (codes "table a") cause.Key ∷ table_case (codes "table a key:i32 slots 8 blocks 1")
    cause.Key
    ∷ table_case (codes "table a key:i64 9:u8 slots 8 blocks 1") cause.Name
    ∷ table_case (codes "table a key:i64 key:u8 slots 8 blocks 1") cause.Twice ∷ table_case
    (codes "table a key:i64 n:u9 slots 8 blocks 1") cause.Kind
    ∷ table_case (codes "table a key:i64 n slots 8 blocks 1") cause.Slots ∷ table_case
    (codes "table a key:i64 slots 12 blocks 1") cause.Slots
    ∷ table_case (codes "table a key:i64 slots 32776 blocks 1") cause.Slots ∷ table_case
    (codes "table a key:i64 slots 0 blocks 1") cause.Slots
    ∷ table_case (codes "table aaaaaaaaaaaaaaaaaaaaaaaaaaaaaaaaa key:i64 slots 8 blocks 1")
    cause.Name
    ∷ table_case (codes "table a key:i64 key:u9 slots 8 blocks 1") cause.Twice ∷ table_case
    (wide_table 32) cause.Columns
    ∷ table_case (codes "table a key:i64 slots 8 blocks 0") cause.Blocks
    ∷ table_case (codes "table a key:i64 slots 8 blocks 1025") cause.Blocks ∷ table_case
    (codes "table a key:i64 slots 8 blocks 1 x") cause.Blocks ∷ [])

-- lines behind the head, and their fault
abbrev pub body_case : List (List ℕ) → ℕ → Cause → Case
body_case lines line cause = (head ++ lines, line, cause)

abbrev pub LinesAreRefused : Type 0
LinesAreRefused = AreRefused (
    body_case (codes "3 begin" ∷ []) 6 cause.Session ∷ body_case (codes "1 begin" ∷ [] ∷ []) 7
    cause.Session
    ∷ body_case (codes "1" ∷ []) 6 cause.Command ∷ body_case (codes "1 begin a" ∷ []) 6
    cause.Command
    ∷ body_case (codes "1 insert a 01 \"x\" 7" ∷ []) 6 cause.Command ∷ body_case
    (codes "1 insert z 1 2 3" ∷ []) 6 cause.Unknown
    ∷ body_case (codes "1 insert z" ∷ []) 6 cause.Command ∷ body_case
    (codes "1 insert a 01 \"x\"" ∷ []) 6 cause.Number
    ∷ body_case (codes "1 insert a 1 7" ∷ []) 6 cause.Cell ∷ body_case (codes "1 seal a 2" ∷ []) 6
    cause.Block
    ∷ body_case (codes "0 begin" ∷ []) 6 cause.Session ∷ body_case (codes "-- " ∷ []) 6
    cause.Session
    ∷ body_case (codes "1 get z 1 2" ∷ []) 6 cause.Command ∷ body_case (codes "1 seal z" ∷ []) 6
    cause.Command ∷ body_case (codes "1 insert a x 7" ∷ []) 6 cause.Number
    ∷ body_case (codes "1 seal a 02" ∷ []) 6 cause.Block ∷ body_case
    (codes "1 export a" ∷ codes "2 export z" ∷ []) 7 cause.Unknown
    ∷ body_case (codes "1 export a" ∷ codes "--" ∷ codes "2 export a" ∷ []) 8 cause.Export ∷ [])

-- the last line of the head does not end
abbrev pub LastLineIsOpen : Type 0
LastLineIsOpen = script_of (codes "store 1") ≡ Err (record { line = 1; cause = cause.Line })

-- a workload, `====` and an output; without the parting, and where that line does not end
abbrev pub PartingIsFound : Type 0
PartingIsFound = map checked_of
    ((example_text ++ codes "====\n1 1 1 at 0\n") ∷ example_text
    ∷ (example_text ++ codes "====") ∷ [])
    ≡ Ok (example_script, codes "1 1 1 at 0\n") ∷ Err (record { line = 11; cause = cause.Parting })
    ∷ Err (record { line = 11; cause = cause.Line }) ∷ []

-- what each reply says, in the order of its type
abbrev pub all_replies : List Said
all_replies = said.At 1 ∷ said.InTransaction ∷ said.NoTransaction ∷ said.Found
    (Num (negsuc 0) ∷ Text (codes "x") ∷ []) ∷ said.Absent ∷ said.Accepted
    ∷ said.ConflictSession 2 ∷ said.ConflictCommit 3 ∷ said.Exists ∷ said.Missing ∷ said.Full
    ∷ said.Freezing 0 1 2 ∷ said.Committed (Some 4) ∷ said.Committed None
    ∷ said.Aborted ∷ said.Cooling 1 ∷ said.Pruned 2 ∷ said.Moved 3 ∷ said.Sealed 0 1 7
    ∷ said.NotSealed Head ∷ said.Frozen 0 1 8 ∷ said.NotFrozen
    ∷ said.Exported 1 9 2 1 ∷ said.Dirty (negsuc 4) ∷ said.Memory ∷ []

abbrev pub RepliesArePrinted : Type 0
RepliesArePrinted = map (λ told. spaced (said_words (table_a ∷ []) told)) all_replies
    ≡ codes "at 1" ∷ codes "in transaction" ∷ codes "no transaction" ∷ codes "row -1 \"x\"" ∷ codes
    "none" ∷ codes "ok"
    ∷ codes "conflict session 2" ∷ codes "conflict #3" ∷ codes "exists" ∷ codes "missing" ∷ codes
    "full" ∷ codes "freezing a 1 2" ∷ codes "committed 4" ∷ codes "committed -"
    ∷ codes "aborted" ∷ codes "cooling 1" ∷ codes "pruned 2" ∷ codes "moved 3" ∷ codes
    "sealed a 1 7" ∷ codes "not sealed head" ∷ codes "frozen a 1 8" ∷ codes "not frozen"
    ∷ codes "export 1 rows 9 batches 2 frozen 1" ∷ codes "dirty -5" ∷ codes "memory" ∷ []

abbrev pub LinesArePrinted : Type 0
LinesArePrinted =
    replies_text (table_a ∷ []) (record {
      round = 1;
      who = Session 2;
      index = 3;
      said = said.Scanned ((Num (pos 1) ∷ Null ∷ []) ∷ []);
    }
    ∷ record { round = 2; who = Worker 1; index = 1; said = said.Sealed 0 1 7 } ∷ [])
    ≡ lines_text (codes "1 2 3 rows 1" ∷ codes "| 1 null" ∷ codes "2 w1 1 sealed a 1 7" ∷ [])

-- a line of each command, behind the head
abbrev pub command_lines : List (List ℕ)
command_lines = codes "1 begin" ∷ codes "1 get a -7" ∷ codes "1 scan a" ∷ codes "1 insert a 1 null"
    ∷ codes "1 update a 1 \"y\"" ∷ codes "1 delete a 1"
    ∷ codes "1 commit" ∷ codes "1 abort" ∷ codes "1 observe" ∷ codes "1 prune" ∷ codes "1 compact a"
    ∷ codes "1 seal a 0" ∷ codes "1 gather a 1" ∷ codes "1 export a" ∷ []

-- the same as commands
abbrev pub all_commands : List Command
all_commands = command.Begin false ∷ command.Get 0 (negsuc 6) ∷ command.Scan 0 ∷ command.Insert 0
    (Num (pos 1) ∷ Null ∷ []) ∷ command.Update 0 (Num (pos 1) ∷ Text (codes "y") ∷ [])
    ∷ command.Delete 0 (pos 1) ∷ command.Commit ∷ command.Abort ∷ command.Observe ∷ command.Prune
    ∷ command.Compact 0 ∷ command.Seal 0 0 ∷ command.Gather 0 1 ∷ command.Export 0 ∷ []

abbrev pub CommandsAreRead : Type 0
CommandsAreRead = option_map (λ script. map (λ round. map (λ line. line.command) round)
    script.rounds) (result_ok (script_of (lines_text (head ++ command_lines))))
    ≡ Some (all_commands ∷ [])

abbrev pub CommandsArePrinted : Type 0
CommandsArePrinted = map (λ asked. line_text (table_a ∷ [])
    (record { session = 1; command = asked })) all_commands ≡ command_lines

abbrev pub RefusalIsPrinted : Type 0
RefusalIsPrinted = refused_text (record { line = 6; cause = cause.Cell }) ≡ codes "refused 6 cell\n"
