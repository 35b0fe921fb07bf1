-- Worked examples of checked transactions, ranges and totals, as facts.
use Rattle.std.specs.Prelude.{◌≡◌, ℕ, List, [], ◌∷◌, ◌++◌, pos, negsuc, None, Some, codes}
use Rattle.std.specs.Prelude.{true}
use Rattle.cell_model.specs.declared.cell.Cell.{Cell}
use Rattle.cell_model.specs.declared.cell.Cell.TheVariants.{Null, Num, Truth, Text, Blob}
use Rattle.isolation_spec.specs.declared.command.Act.TheVariants as act
use Rattle.isolation_spec.specs.declared.command.Answer.{Answer}
use Rattle.isolation_spec.specs.declared.command.Answer.TheVariants as answer
use Rattle.isolation_spec.specs.declared.command.Command.{Command}
use Rattle.isolation_spec.specs.declared.read.Read.TheVariants as read
use Rattle.isolation_spec.specs.Checked.{opening, answers_from}
use Rattle.isolation_spec.specs.Examples.{asks, row_of, insert, update, delete, scan, get, begin}
use Rattle.isolation_spec.specs.Examples.{commit, abort}

abbrev pub begin_checked : ℕ → Command
begin_checked session = asks session (act.Begin true)

-- a session asks for the rows of table 0 whose keys lie between two
abbrev pub range : ℕ → ℕ → ℕ → Command
range session low high = asks session (act.Range 0 (pos low) (pos high))

-- it asks for the numbers of a column of table 0 that do
abbrev pub total : ℕ → ℕ → ℕ → ℕ → Command
total session column low high = asks session (act.Total 0 column (pos low) (pos high))

-- it commits a row of a key alone
abbrev pub inserts : ℕ → ℕ → List Command
inserts session key = begin session ∷ insert session key (codes "y") ∷ commit session ∷ []

-- it is answered so, where the begin sees so many commits
abbrev pub inserted : ℕ → ℕ → List Answer
inserted seen number = answer.At seen ∷ answer.Accepted ∷ answer.Committed (Some number) ∷ []

-- the commands are answered so by a checked machine where nothing has happened
abbrev pub Answers : List Command → List Answer → Type 0
Answers commands answers = answers_from opening commands ≡ answers

-- Two transactions read each other's key and write their own.
abbrev pub skew : Command → List Command
skew begins =
    begin 1 ∷ insert 1 1 (codes "x") ∷ insert 1 2 (codes "x") ∷ commit 1 ∷ begins ∷ get 1 2
    ∷ update 1 1 (codes "y") ∷ begin_checked 2 ∷ get 2 1 ∷ update 2 2 (codes "y") ∷ commit 2
    ∷ commit 1 ∷ abort 1 ∷ []

abbrev pub skewed : List Answer → List Answer
skewed ends =
    answer.At 0 ∷ answer.Accepted ∷ answer.Accepted ∷ answer.Committed (Some 1) ∷ answer.At 1
    ∷ answer.Found (Some (row_of 2 (codes "x"))) ∷ answer.Accepted ∷ answer.At 1
    ∷ answer.Found (Some (row_of 1 (codes "x"))) ∷ answer.Accepted ∷ answer.Committed (Some 2)
    ∷ ends

-- the second to commit is refused, and stays open
abbrev pub WriteSkew : Type 0
WriteSkew = Answers (skew (begin_checked 1))
    (skewed (answer.Stale (read.Key 0 (pos 2)) 2 ∷ answer.Aborted ∷ []))

-- where it is plain, it is not
abbrev pub PlainSkew : Type 0
PlainSkew = Answers (skew (begin 1))
    (skewed (answer.Committed (Some 3) ∷ answer.NoTransaction ∷ []))

-- A row came into a table that was scanned, and the scan did not see it.
abbrev pub Phantom : Type 0
Phantom = Answers
    (begin_checked 1 ∷ scan 1 ∷ insert 1 3 (codes "x") ∷ inserts 2 4 ++ commit 1 ∷ [])
    (answer.At 0 ∷ answer.Rows [] ∷ answer.Accepted ∷ inserted 0 1
    ++ answer.Stale (read.Table 0) 1 ∷ [])

-- A get that finds none is a read, and a row that comes and goes is a write into it.
abbrev pub ComesAndGoes : Type 0
ComesAndGoes = Answers
    (begin_checked 1 ∷ get 1 5 ∷ insert 1 3 (codes "x") ∷ inserts 2 5
    ++ begin 2 ∷ delete 2 5 ∷ commit 2 ∷ inserts 2 6 ++ commit 1 ∷ [])
    (answer.At 0 ∷ answer.Found None ∷ answer.Accepted ∷ inserted 0 1
    ++ answer.At 1 ∷ answer.Accepted ∷ answer.Committed (Some 2) ∷ inserted 2 3
    ++ answer.Stale (read.Key 0 (pos 5)) 2 ∷ [])

-- a session reads a range from 20 to 29 and writes, and another commits a row of this key
abbrev pub ranged : ℕ → List Command
ranged key = begin_checked 1 ∷ range 1 20 29 ∷ insert 1 1 (codes "x") ∷ inserts 2 key
    ++ commit 1 ∷ []

abbrev pub range_answers : Answer → List Answer
range_answers ends = answer.At 0 ∷ answer.Rows [] ∷ answer.Accepted ∷ inserted 0 1 ++ ends ∷ []

-- A key in a range refuses the commit, at both ends of it too; one beside it does not.
abbrev pub InRange : ℕ → Type 0
InRange key = Answers (ranged key)
    (range_answers (answer.Stale (read.Range 0 (pos 20) (pos 29)) 1))

abbrev pub BesideRange : ℕ → Type 0
BesideRange key = Answers (ranged key) (range_answers (answer.Committed (Some 2)))

abbrev pub RangesHaveBothEnds : Type 0
RangesHaveBothEnds = InRange 20 × InRange 25 × InRange 29 × BesideRange 19 × BesideRange 30

-- A key goes before a table and a table before a range, though they were read the other way round;
-- of keys the least goes first, and of the commits that met it the last is named.
abbrev pub KeyFirst : Type 0
KeyFirst = Answers
    (begin_checked 1 ∷ range 1 0 9 ∷ scan 1 ∷ get 1 7 ∷ get 1 5 ∷ inserts 2 5
    ++ begin 2 ∷ update 2 5 (codes "z") ∷ commit 2 ∷ inserts 2 7
    ++ insert 1 9 (codes "z") ∷ commit 1 ∷ [])
    (answer.At 0 ∷ answer.Rows [] ∷ answer.Rows [] ∷ answer.Found None ∷ answer.Found None
    ∷ inserted 0 1 ++ answer.At 1 ∷ answer.Accepted ∷ answer.Committed (Some 2) ∷ inserted 2 3
    ++ answer.Accepted ∷ answer.Stale (read.Key 0 (pos 5)) 2 ∷ [])

abbrev pub TableBeforeRange : Type 0
TableBeforeRange = Answers
    (begin_checked 1 ∷ range 1 0 9 ∷ asks 1 (act.Scan 1) ∷ scan 1 ∷ get 1 9 ∷ inserts 2 5
    ++ begin 2 ∷ asks 2 (act.Insert 1 (row_of 5 (codes "y"))) ∷ commit 2
    ∷ insert 1 8 (codes "z") ∷ commit 1 ∷ [])
    (answer.At 0 ∷ answer.Rows [] ∷ answer.Rows [] ∷ answer.Rows [] ∷ answer.Found None
    ∷ inserted 0 1 ++ answer.At 1 ∷ answer.Accepted ∷ answer.Committed (Some 2)
    ∷ answer.Accepted ∷ answer.Stale (read.Table 0) 1 ∷ [])

-- of ranges the one that was read first
abbrev pub FirstRangeFirst : Type 0
FirstRangeFirst = Answers
    (begin_checked 1 ∷ range 1 4 9 ∷ range 1 0 9 ∷ inserts 2 5 ++ insert 1 8 (codes "z")
    ∷ commit 1 ∷ [])
    (answer.At 0 ∷ answer.Rows [] ∷ answer.Rows [] ∷ inserted 0 1 ++ answer.Accepted
    ∷ answer.Stale (read.Range 0 (pos 4) (pos 9)) 1 ∷ [])

-- A transaction that wrote nothing commits, whatever it read; its own write is no later commit; and
-- a key of another table is another.
abbrev pub OthersCommit : Type 0
OthersCommit = Answers
    (begin_checked 1 ∷ scan 1 ∷ begin_checked 3 ∷ insert 3 8 (codes "x") ∷ get 3 8
    ∷ asks 3 (act.Get 1 (pos 5)) ∷ inserts 2 5 ++ commit 1 ∷ commit 3 ∷ [])
    (answer.At 0 ∷ answer.Rows [] ∷ answer.At 0 ∷ answer.Accepted
    ∷ answer.Found (Some (row_of 8 (codes "x"))) ∷ answer.Found None ∷ inserted 0 1
    ++ answer.Committed None ∷ answer.Committed (Some 2) ∷ [])

-- A refused commit is refused again, and a second begin leaves what was read.
abbrev pub StaleIsFinal : Type 0
StaleIsFinal = Answers
    (begin_checked 1 ∷ get 1 5 ∷ insert 1 8 (codes "x") ∷ inserts 2 5
    ++ commit 1 ∷ begin_checked 1 ∷ begin 1 ∷ commit 1 ∷ [])
    (answer.At 0 ∷ answer.Found None ∷ answer.Accepted ∷ inserted 0 1
    ++ answer.Stale (read.Key 0 (pos 5)) 1 ∷ answer.InTransaction ∷ answer.InTransaction
    ∷ answer.Stale (read.Key 0 (pos 5)) 1 ∷ [])

-- A transaction begins with nothing read, behind an abort and behind a commit, and a second begin
-- makes no plain one checked.
abbrev pub ReadsEnd : Type 0
ReadsEnd = Answers
    (begin_checked 1 ∷ get 1 5 ∷ abort 1 ∷ begin_checked 1 ∷ get 1 5 ∷ commit 1
    ∷ begin_checked 1 ∷ begin 3 ∷ begin_checked 3 ∷ get 3 5 ∷ inserts 2 5
    ++ insert 1 8 (codes "x") ∷ commit 1 ∷ insert 3 9 (codes "x") ∷ commit 3 ∷ [])
    (answer.At 0 ∷ answer.Found None ∷ answer.Aborted ∷ answer.At 0 ∷ answer.Found None
    ∷ answer.Committed None ∷ answer.At 0 ∷ answer.At 0 ∷ answer.InTransaction
    ∷ answer.Found None ∷ inserted 0 1 ++ answer.Accepted ∷ answer.Committed (Some 2)
    ∷ answer.Accepted ∷ answer.Committed (Some 3) ∷ [])

-- A range has the rows with keys from its low key to its high one, own writes laid over them.
abbrev pub RangeOfRows : Type 0
RangeOfRows = Answers
    (inserts 1 2 ++ inserts 1 4 ++ begin 1 ∷ insert 1 3 (codes "x") ∷ delete 1 4 ∷ range 1 2 4
    ∷ range 1 3 9 ∷ range 1 4 3 ∷ asks 1 (act.Range 1 (pos 0) (pos 9)) ∷ abort 1 ∷ range 1 2 4
    ∷ total 1 0 2 4 ∷ [])
    (inserted 0 1 ++ inserted 1 2 ++ answer.At 2 ∷ answer.Accepted ∷ answer.Accepted
    ∷ answer.Rows (row_of 2 (codes "y") ∷ row_of 3 (codes "x") ∷ [])
    ∷ answer.Rows (row_of 3 (codes "x") ∷ []) ∷ answer.Rows [] ∷ answer.Rows []
    ∷ answer.Aborted ∷ answer.NoTransaction ∷ answer.NoTransaction ∷ [])

-- a row of a key and one cell
abbrev pub celled : ℕ → ℕ → Cell → Command
celled session key cell = asks session (act.Insert 0 (Num (pos key) ∷ cell ∷ []))

-- A total counts and adds the numbers of a column from its low number to its high one; a null, a
-- truth value, a text and bytes are no numbers, and there is no column behind the last.
abbrev pub TotalOfNumbers : Type 0
TotalOfNumbers = Answers
    (begin 1 ∷ celled 1 1 (Num (negsuc 2)) ∷ celled 1 2 Null ∷ celled 1 3 (Num (pos 9))
    ∷ celled 1 4 (Truth true) ∷ celled 1 5 (Num (pos 9)) ∷ celled 1 6 (Text (codes "0"))
    ∷ celled 1 7 (Blob []) ∷ celled 1 8 (Num (pos 10)) ∷ celled 1 9 (Num (negsuc 3))
    ∷ asks 1 (act.Total 0 1 (negsuc 2) (pos 9)) ∷ total 1 0 2 4 ∷ total 1 1 10 9 ∷ total 1 2 0 9
    ∷ asks 1 (act.Total 1 1 (negsuc 2) (pos 9)) ∷ [])
    (answer.At 0 ∷ answer.Accepted ∷ answer.Accepted ∷ answer.Accepted ∷ answer.Accepted
    ∷ answer.Accepted ∷ answer.Accepted ∷ answer.Accepted ∷ answer.Accepted ∷ answer.Accepted
    ∷ answer.Totalled 3 (pos 15) ∷ answer.Totalled 3 (pos 9) ∷ answer.Totalled 0 (pos 0)
    ∷ answer.Totalled 0 (pos 0) ∷ answer.Totalled 0 (pos 0) ∷ [])

-- A total reads its table.
abbrev pub TotalIsARead : Type 0
TotalIsARead = Answers
    (begin_checked 1 ∷ total 1 0 1 2 ∷ insert 1 3 (codes "x") ∷ inserts 2 4 ++ commit 1 ∷ [])
    (answer.At 0 ∷ answer.Totalled 0 (pos 0) ∷ answer.Accepted ∷ inserted 0 1
    ++ answer.Stale (read.Table 0) 1 ∷ [])
