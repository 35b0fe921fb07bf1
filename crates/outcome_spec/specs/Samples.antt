-- Words that worked examples are written with: tables, commands and scripts.
use Rattle.std.specs.Prelude.{◌≡◌, ℕ, List, [], ◌∷◌, ◌++◌, map, codes, pos, None, Some, false, true}
use Rattle.std.specs.List.{range_with_len}
use Rattle.cell_model.specs.declared.cell.Cell.{Cell}
use Rattle.cell_model.specs.declared.cell.Cell.TheVariants.{Num, Text}
use Rattle.cell_model.specs.declared.column.Column.{Column}
use Rattle.cell_model.specs.declared.kind.Kind.TheVariants as kind
use Rattle.cell_model.specs.declared.table.TableDecl.{TableDecl}
use Rattle.workload_spec.specs.declared.command.Command.{Command}
use Rattle.workload_spec.specs.declared.command.Command.TheVariants as command
use Rattle.workload_spec.specs.declared.script.Line.{Line}
use Rattle.workload_spec.specs.declared.script.Script.{Script}
use Rattle.workload_spec.specs.Words.{lines_text}
use Rattle.outcome_spec.specs.Explained.{failing_line}

abbrev pub key_column : Column
key_column = record { name = codes "key"; kind = kind.I64; nullable = false }

abbrev pub text_column : Column
text_column = record { name = codes "v"; kind = kind.Utf8; nullable = true }

-- a table of keys and texts, and one of keys alone, with 8 slots in each of so many blocks
abbrev pub texts : ℕ → TableDecl
texts blocks = record {
  name = codes "a";
  schema = key_column ∷ text_column ∷ [];
  slots = 8;
  blocks = blocks;
}

abbrev pub keys : ℕ → TableDecl
keys blocks = record { name = codes "a"; schema = key_column ∷ []; slots = 8; blocks = blocks }

-- two sessions and no worker over a table; one session and one worker of one turn
abbrev pub sessions : TableDecl → List (List Line) → Script
sessions table rounds = record {
  version = 1;
  tables = table ∷ [];
  sessions = 2;
  workers = 0;
  turns = 0;
  rounds = rounds;
  begun = [];
}

abbrev pub with_worker : TableDecl → List (List Line) → Script
with_worker table rounds = record {
  version = 1;
  tables = table ∷ [];
  sessions = 1;
  workers = 1;
  turns = 1;
  rounds = rounds;
  begun = [];
}

-- the row of a key and a text, and of a key alone
abbrev pub text_row : ℕ → List ℕ → List Cell
text_row key text = Num (pos key) ∷ Text text ∷ []

abbrev pub key_row : ℕ → List Cell
key_row key = Num (pos key) ∷ []

abbrev pub asks : ℕ → Command → Line
asks session asked = record { session = session; command = asked }

abbrev pub begin : ℕ → Line
begin session = asks session (command.Begin false)

abbrev pub begin_checked : ℕ → Line
begin_checked session = asks session (command.Begin true)

-- the rows of the keys between two, and a total of a column's numbers between two
abbrev pub range : ℕ → ℕ → ℕ → Line
range session low high = asks session (command.Range 0 (pos low) (pos high))

abbrev pub total : ℕ → ℕ → ℕ → ℕ → Line
total session column low high = asks session (command.Total 0 column (pos low) (pos high))

abbrev pub get : ℕ → ℕ → Line
get session key = asks session (command.Get 0 (pos key))

abbrev pub scan : ℕ → Line
scan session = asks session (command.Scan 0)

abbrev pub insert : ℕ → ℕ → List ℕ → Line
insert session key text = asks session (command.Insert 0 (text_row key text))

abbrev pub update : ℕ → ℕ → List ℕ → Line
update session key text = asks session (command.Update 0 (text_row key text))

-- a change that leaves a row of a key alone as it is
abbrev pub touch : ℕ → ℕ → Line
touch session key = asks session (command.Update 0 (key_row key))

abbrev pub put : ℕ → ℕ → Line
put session key = asks session (command.Insert 0 (key_row key))

-- inserts of so many keys from 1 on
abbrev pub puts : ℕ → ℕ → List Line
puts session count = map (put session) (range_with_len 1 count)

-- inserts of so many keys from 1 on with one text
abbrev pub inserts : ℕ → ℕ → List ℕ → List Line
inserts session count text = map (λ key. insert session key text) (range_with_len 1 count)

abbrev pub delete : ℕ → ℕ → Line
delete session key = asks session (command.Delete 0 (pos key))

abbrev pub commit : ℕ → Line
commit session = asks session command.Commit

abbrev pub abort : ℕ → Line
abort session = asks session command.Abort

abbrev pub observe : ℕ → Line
observe session = asks session command.Observe

abbrev pub prune : ℕ → Line
prune session = asks session command.Prune

abbrev pub compact : ℕ → Line
compact session = asks session (command.Compact 0)

abbrev pub seal : ℕ → ℕ → Line
seal session block = asks session (command.Seal 0 block)

abbrev pub gather : ℕ → ℕ → Line
gather session block = asks session (command.Gather 0 block)

abbrev pub export : ℕ → Line
export session = asks session (command.Export 0)

-- a transaction inserts the keys 1 to 9, of which the last stands in the second block; then the
-- first block is cold
abbrev pub nine_rows : List Line
nine_rows = begin 1 ∷ (puts 1 9 ++ commit 1 ∷ prune 1 ∷ observe 1 ∷ observe 1 ∷ [])

abbrev pub nine_replies : List (List ℕ)
nine_replies =
    codes "1 1 1 at 0" ∷ codes "1 1 2 ok" ∷ codes "1 1 3 ok" ∷ codes "1 1 4 ok" ∷ codes "1 1 5 ok"
    ∷ codes "1 1 6 ok" ∷ codes "1 1 7 ok"
    ∷ codes "1 1 8 ok" ∷ codes "1 1 9 ok" ∷ codes "1 1 10 ok" ∷ codes "1 1 11 committed 1" ∷ codes
    "1 1 12 pruned 9"
    ∷ codes "1 1 13 cooling 0" ∷ codes "1 1 14 cooling 1" ∷ []

-- the output of these lines is explained
abbrev pub Explains : Script → List (List ℕ) → Type 0
Explains script lines = failing_line script (lines_text lines) ≡ None

-- the output of these lines fails at this line
abbrev pub FailsAt : Script → List (List ℕ) → ℕ → Type 0
FailsAt script lines number = failing_line script (lines_text lines) ≡ Some number
