-- The workload that a seed and a size generate: rounds in which four sessions write, each into keys
-- of its own, rounds of upkeep between them, and a last round that reads and exports what was
-- written.
use Rattle.std.specs.Prelude.{ℕ, ◌+◌, ◌-◌, ◌*◌, ◌/◌, ◌%◌, ◌==◌, List, [], ◌∷◌, ◌++◌, flat_map, ℤ}
use Rattle.std.specs.Prelude.{pos, ◌-ℤ◌, codes, decimal, if◌then◌else◌, true, false}
use Rattle.std.specs.List.{range_with_len}
use Rattle.cell_model.specs.declared.cell.Cell.{Cell}
use Rattle.cell_model.specs.declared.cell.Cell.TheVariants.{Null, Num, Text}
use Rattle.cell_model.specs.declared.column.Column.{Column}
use Rattle.cell_model.specs.declared.kind.Kind.TheVariants.{I64, Utf8}
use Rattle.cell_model.specs.declared.table.TableDecl.{TableDecl}
use Rattle.workload_spec.specs.declared.command.Command.{Command}
use Rattle.workload_spec.specs.declared.command.Command.TheVariants as command
use Rattle.workload_spec.specs.declared.script.Line.{Line}
use Rattle.workload_spec.specs.declared.script.Script.{Script}
use Rattle.bench_spec.specs.Draws.{draw}

-- `table bench key:i64 n:i64 t:utf8? slots 64 blocks 512`
abbrev pub bench_columns : List Column
bench_columns =
    record { name = codes "key"; kind = I64; nullable = false }
    ∷ record { name = codes "n"; kind = I64; nullable = false }
    ∷ record { name = codes "t"; kind = Utf8; nullable = true } ∷ []

abbrev pub bench_table : TableDecl
bench_table = record { name = codes "bench"; schema = bench_columns; slots = 64; blocks = 512 }

-- how many sessions write, and how many draws each takes in a round
abbrev pub writers : ℕ
writers = 4

abbrev pub draws_of_each : ℕ
draws_of_each = 5

-- a line of a session
abbrev pub line : ℕ → Command → Line
line session asked = record { session = session; command = asked }

-- the number of a draw, from -1,000 to 1,000
abbrev pub number_of : ℕ → ℤ
number_of drawn = pos (drawn % 2001) -ℤ pos 1000

-- the text of a draw: `s` and the draw, and for a fourth of them none
abbrev pub text_of : ℕ → Cell
text_of drawn = if drawn % 4 == 0 then Null else Text (codes "s" ++ decimal drawn)

-- a row, with the number and the text of these draws
abbrev pub row_of : ℕ → ℕ → ℕ → List Cell
row_of key number text = Num (pos key) ∷ Num (number_of number) ∷ text_of text ∷ []

-- the key that a session inserts in a round, both counted from 1: keys rise by one from session to
-- session
abbrev pub key_of : ℕ → ℕ → ℕ
key_of round session = writers * (round - 1) + session

-- a draw of a session in a round, which takes five; they rise as the keys do
abbrev pub draw_in : ℕ → ℕ → ℕ → ℕ → ℕ
draw_in seed round session number = draw seed (draws_of_each * (key_of round session - 1) + number)

-- the key that a session updates in a round: one that it inserted in one of the rounds up to it,
-- which a draw names
abbrev pub updated_key : ℕ → ℕ → ℕ → ℕ
updated_key round session drawn = writers * (drawn % round) + session

-- A session's transaction in a round: it inserts a row and updates one.
abbrev pub transaction : ℕ → ℕ → ℕ → List Line
transaction seed round session =
    line session (command.Begin false)
    ∷ line session (command.Insert 0
    (row_of (key_of round session) (draw_in seed round session 1)
    (draw_in seed round session 2)))
    ∷ line session (command.Update 0
    (row_of (updated_key round session (draw_in seed round session 3))
    (draw_in seed round session 4) (draw_in seed round session 5)))
    ∷ line session command.Commit
    ∷ []

-- A round in which each session writes.
abbrev pub write_round : ℕ → ℕ → List Line
write_round seed round = flat_map (transaction seed round) (range_with_len 1 writers)

-- the sealing and the gathering of a block
abbrev pub freezing : ℕ → List Line
freezing block = line 1 (command.Seal 0 block) ∷ line 1 (command.Gather 0 block) ∷ []

-- Upkeep behind a round: of the blocks that the rows up to it fill, and of the next one.
abbrev pub upkeep_round : ℕ → List Line
upkeep_round round =
    line 1 command.Prune ∷ line 1 command.Observe ∷ line 1 command.Observe ∷ line 1
    (command.Compact 0)
    ∷ flat_map freezing (range_with_len 0 (writers * round / bench_table.slots + 1))

-- a round, with upkeep behind each sixteenth
abbrev pub rounds_at : ℕ → ℕ → List (List Line)
rounds_at seed round = write_round seed round
    ∷ (if round % 16 == 0 then upkeep_round round ∷ [] else [])

-- The last round reads and exports the table.
abbrev pub last_round : List Line
last_round = line 1 (command.Begin false) ∷ line 1 (command.Scan 0) ∷ line 1 (command.Export 0) ∷ line 1
    command.Commit ∷ []

-- the workload of these rounds
abbrev pub bench_script : List (List Line) → Script
bench_script rounds = record {
  version = 1;
  tables = bench_table ∷ [];
  sessions = writers;
  workers = 0;
  turns = 0;
  rounds = rounds;
  begun = [];
}

-- The workload that a seed generates, with so many rounds of writes.
abbrev pub generated : ℕ → ℕ → Script
generated seed size = bench_script
    (flat_map (rounds_at seed) (range_with_len 1 size) ++ last_round ∷ [])
