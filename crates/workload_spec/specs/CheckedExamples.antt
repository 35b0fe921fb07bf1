-- Worked examples of checked transactions, ranges and totals as texts, as facts.
use Rattle.std.specs.Prelude.{◌≡◌, ℕ, ◌^◌, Bool, true, false, List, [], ◌∷◌, ◌++◌, map, replicate}
use Rattle.std.specs.Prelude.{drop, pos, negsuc, codes, Option, None, Some, Ok, Err}
use Rattle.cell_model.specs.declared.kind.Kind.{Kind}
use Rattle.cell_model.specs.declared.kind.Kind.TheVariants as kind
use Rattle.cell_model.specs.declared.column.Column.{Column}
use Rattle.cell_model.specs.declared.table.TableDecl.{TableDecl}
use Rattle.workload_spec.specs.declared.command.Command.{Command}
use Rattle.workload_spec.specs.declared.command.Command.TheVariants as command
use Rattle.workload_spec.specs.declared.extent.Extent.{Extent}
use Rattle.workload_spec.specs.declared.reply.Said.TheVariants as said
use Rattle.workload_spec.specs.declared.reply.StaleRead.TheVariants as stale
use Rattle.workload_spec.specs.declared.script.Cause.{Cause}
use Rattle.workload_spec.specs.declared.script.Cause.TheVariants as cause
use Rattle.workload_spec.specs.declared.script.Script.{Script}
use Rattle.workload_spec.specs.Examples.{head, read_within, table_a}
use Rattle.workload_spec.specs.Extents.{whole, runs_within}
use Rattle.workload_spec.specs.Grammar.{key_column, script_of}
use Rattle.workload_spec.specs.ReplyText.{said_words}
use Rattle.workload_spec.specs.ScriptText.{line_text}
use Rattle.workload_spec.specs.Valid.{is_command, is_valid}
use Rattle.workload_spec.specs.Words.{spaced, lines_text}

-- a column of this name and kind that is not null
abbrev pub column : List ℕ → Kind → Column
column name its = record { name = name; kind = its; nullable = false }

-- the table n with `key:i64 n:i32 d:date u:u8 v:utf8 h:fixed2`
abbrev pub table_n : TableDecl
table_n = record {
  name = codes "n";
  schema =
      key_column ∷ column (codes "n") kind.I32 ∷ column (codes "d") kind.Date
      ∷ column (codes "u") kind.U8 ∷ column (codes "v") kind.Utf8
      ∷ column (codes "h") (kind.Fixed 2) ∷ [];
  slots = 8;
  blocks = 2;
}

-- the text of a workload with that table and one line behind the head
abbrev pub text_with : List ℕ → List ℕ
text_with line = lines_text (codes "store 1"
    ∷ codes "table n key:i64 n:i32 d:date u:u8 v:utf8 h:fixed2 slots 8 blocks 2"
    ∷ codes "sessions 2" ∷ codes "workers 0 0" ∷ codes "go" ∷ line ∷ [])

-- that workload's script where the line is this command of the first session
abbrev pub script_with : ℕ → Command → Script
script_with version asked = record {
  version = version;
  tables = table_n ∷ [];
  sessions = 2;
  workers = 0;
  turns = 0;
  rounds = (record { session = 1; command = asked } ∷ []) ∷ [];
  begun = [];
}

-- the commands, as lines and as data
abbrev pub asked_lines : List (List ℕ)
asked_lines = codes "1 begin" ∷ codes "1 begin checked" ∷ codes "1 range n -3 5"
    ∷ codes "1 total n n -3 9" ∷ codes "1 total n key 1 9" ∷ codes "1 total n d 9 -3"
    ∷ codes "1 total n u 0 255" ∷ []

abbrev pub asked_commands : List Command
asked_commands = command.Begin false ∷ command.Begin true ∷ command.Range 0 (negsuc 2) (pos 5)
    ∷ command.Total 0 1 (negsuc 2) (pos 9) ∷ command.Total 0 0 (pos 1) (pos 9)
    ∷ command.Total 0 2 (pos 9) (negsuc 2) ∷ command.Total 0 3 (pos 0) (pos 255) ∷ []

-- within the whole format they are read, and they are printed so
abbrev pub AskedIsRead : Type 0
AskedIsRead = map (λ line. read_within whole (text_with line)) asked_lines
    ≡ map (λ asked. Ok (script_with 1 asked)) asked_commands

abbrev pub AskedIsPrinted : Type 0
AskedIsPrinted = map (λ asked. line_text (table_n ∷ [])
    (record { session = 1; command = asked })) asked_commands ≡ asked_lines

-- what is wrong with the sixth line, within an extent
abbrev pub cause_within : Extent → List ℕ → Option Cause
cause_within extent line = elim (read_within extent (text_with line))
    [ Ok script ↦ None | Err fault ↦ Some fault.cause ]

-- The number of words goes first, then the table, the column, the low number and the high one.
abbrev pub AskedIsRefused : Type 0
AskedIsRefused = map (cause_within whole)
    (codes "1 begin now" ∷ codes "1 begin checked 1" ∷ codes "1 range n 1" ∷ codes "1 range z 1 2 3"
    ∷ codes "1 total n n 1" ∷ codes "1 total z z 1 2 3" ∷ codes "1 range z x 2"
    ∷ codes "1 total z v x 1" ∷ codes "1 range n x 2" ∷ codes "1 range n 1 9223372036854775808"
    ∷ codes "1 total n z x 1" ∷ codes "1 total n v x 1" ∷ codes "1 total n h 0 1"
    ∷ codes "1 total n n 0 2147483648" ∷ codes "1 total n n 01 2" ∷ codes "1 total n u -1 2" ∷ [])
    ≡ map (λ why. Some why)
    (replicate 6 cause.Command ++ replicate 2 cause.Unknown ++ replicate 2 cause.Number
    ++ replicate 3 cause.Column ++ replicate 3 cause.Number)

-- what is wrong with a line behind this head
abbrev pub cause_of : List (List ℕ) → List ℕ → Option Cause
cause_of behind line = elim (script_of (lines_text (behind ++ line ∷ [])))
    [ Ok script ↦ None | Err fault ↦ Some fault.cause ]

-- commands of a table that each version has, as lines and as data
abbrev pub first_lines : List (List ℕ)
first_lines = codes "1 begin" ∷ codes "1 begin checked" ∷ codes "1 range a -3 5"
    ∷ codes "1 total a key 1 9" ∷ []

abbrev pub first_commands : List Command
first_commands = command.Begin false ∷ command.Begin true ∷ command.Range 0 (negsuc 2) (pos 5)
    ∷ command.Total 0 0 (pos 1) (pos 9) ∷ []

-- the command alone is a workload of this version
abbrev pub is_valid_in : ℕ → Command → Bool
is_valid_in version asked = is_valid (record (script_with version asked) { tables = table_a ∷ [] })

-- lines whose bounds are turned round, and one whose column has no numbers
abbrev pub turned_lines : List (List ℕ)
turned_lines = codes "1 range a 4 3" ∷ codes "1 total a key 9 -3" ∷ codes "1 total a v 0 1" ∷ []

-- The second version takes a checked begin, a range and a total, also with bounds that are turned
-- round, and the first none of them.
abbrev pub TakenByVersion : Type 0
TakenByVersion =
    (map (cause_of head) first_lines ≡ None ∷ replicate 3 (Some cause.Command))
    × (map (cause_of (codes "store 2" ∷ drop 1 head)) first_lines
    ≡ replicate 4 None)
    × (map (cause_of head) turned_lines ≡ replicate 3 (Some cause.Command))
    × (map (cause_of (codes "store 2" ∷ drop 1 head)) turned_lines
    ≡ None ∷ None ∷ Some cause.Column ∷ [])
    × (map (is_valid_in 1) first_commands ≡ true ∷ replicate 3 false)
    × (map (is_valid_in 2) first_commands ≡ replicate 4 true)

-- within the whole format they run, and each alone is refused where it is not taken
abbrev pub without : List Extent
without = record whole { commands = record whole.commands { begin_checked = false } }
    ∷ record whole { commands = record whole.commands { range = false } }
    ∷ record whole { commands = record whole.commands { total = false } }
    ∷ record whole { commands = record whole.commands { begin = false } } ∷ []

abbrev pub EachIsSwitched : Type 0
EachIsSwitched =
    (map (λ asked. runs_within whole (script_with 1 asked)) asked_commands ≡ replicate 7 true)
    × (map (λ extent. map (λ asked. runs_within extent (script_with 1 asked)) asked_commands)
    without ≡ (true ∷ false ∷ replicate 5 true) ∷ (true ∷ true ∷ false ∷ replicate 4 true)
    ∷ (replicate 3 true ++ replicate 4 false) ∷ (false ∷ false ∷ replicate 5 true) ∷ [])
    × (map (λ extent. map (cause_within extent) asked_lines) without
    ≡ (None ∷ Some cause.Command ∷ replicate 5 None)
    ∷ (None ∷ None ∷ Some cause.Command ∷ replicate 4 None)
    ∷ (replicate 3 None ++ replicate 4 (Some cause.Command))
    ∷ (Some cause.Command ∷ Some cause.Command ∷ replicate 5 None) ∷ [])

-- commands of that table, and commands that are none: a table, a column or a number that it has not
abbrev pub CommandsAreJudged : Type 0
CommandsAreJudged =
    (map (is_command (table_n ∷ [])) asked_commands ≡ replicate 7 true)
    × (map (is_command (table_n ∷ []))
    (command.Range 1 (pos 0) (pos 1) ∷ command.Range 0 (pos (2 ^ 63)) (pos 1)
    ∷ command.Range 0 (pos 0) (pos (2 ^ 63)) ∷ command.Total 1 0 (pos 0) (pos 1)
    ∷ command.Total 0 4 (pos 0) (pos 1) ∷ command.Total 0 5 (pos 0) (pos 1)
    ∷ command.Total 0 6 (pos 0) (pos 1) ∷ command.Total 0 3 (negsuc 0) (pos 1)
    ∷ command.Total 0 3 (pos 0) (pos 256) ∷ [])
    ≡ replicate 9 false)

-- the replies of their own
abbrev pub AnswersArePrinted : Type 0
AnswersArePrinted = map (λ told. spaced (said_words (table_a ∷ []) told))
    (said.Stale (stale.Key 0 (negsuc 4)) 2 ∷ said.Stale (stale.Table 0) 1
    ∷ said.Stale (stale.Range 0 (negsuc 19) (pos 29)) 1 ∷ said.Totalled 6 (negsuc 16) ∷ [])
    ≡ codes "stale a -5 #2" ∷ codes "stale table a #1" ∷ codes "stale range a -20 29 #1"
    ∷ codes "total 6 -17" ∷ []
