-- Worked examples of the machine, as facts.
use Rattle.std.specs.Prelude.{◌≡◌, ℕ, List, [], ◌∷◌, pos, None, Some, codes, false}
use Rattle.cell_model.specs.declared.cell.Cell.{Cell}
use Rattle.cell_model.specs.declared.cell.Cell.TheVariants.{Num, Text}
use Rattle.isolation_spec.specs.Machine.{IsolationMachine, opening, step, answers_from}
use Rattle.isolation_spec.specs.Store.{Allows, Freezing, Full, Memory}
use Rattle.isolation_spec.specs.declared.command.Command.{Command}
use Rattle.isolation_spec.specs.declared.command.Act.{Act}
use Rattle.isolation_spec.specs.declared.command.Act.TheVariants as act
use Rattle.isolation_spec.specs.declared.command.Answer.{Answer}
use Rattle.isolation_spec.specs.declared.command.Answer.TheVariants as answer

-- a session asks
abbrev pub asks : ℕ → Act → Command
asks session act = record { session = session; act = act }

-- the row of a key and a text
abbrev pub row_of : ℕ → List ℕ → List Cell
row_of key text = Num (pos key) ∷ Text text ∷ []

abbrev pub insert : ℕ → ℕ → List ℕ → Command
insert session key text = asks session (act.Insert 0 (row_of key text))

abbrev pub update : ℕ → ℕ → List ℕ → Command
update session key text = asks session (act.Update 0 (row_of key text))

abbrev pub delete : ℕ → ℕ → Command
delete session key = asks session (act.Delete 0 (pos key))

abbrev pub scan : ℕ → Command
scan session = asks session (act.Scan 0)

abbrev pub get : ℕ → ℕ → Command
get session key = asks session (act.Get 0 (pos key))

abbrev pub begin : ℕ → Command
begin session = asks session (act.Begin false)

abbrev pub commit : ℕ → Command
commit session = asks session act.Commit

abbrev pub abort : ℕ → Command
abort session = asks session act.Abort

-- the commands are answered so by a machine where nothing has happened
abbrev pub Answers : List Command → List Answer → Type 0
Answers commands answers = answers_from opening commands ≡ answers

abbrev pub OlderSnapshot : Type 0
OlderSnapshot = Answers
    (begin 1 ∷ begin 2 ∷ insert 2 5 (codes "x") ∷ commit 2 ∷ get 1 5 ∷ [])
    (answer.At 0 ∷ answer.At 0 ∷ answer.Accepted ∷ answer.Committed (Some 1) ∷ answer.Found None
    ∷ [])

abbrev pub OpenRival : Type 0
OpenRival = Answers
    (begin 1 ∷ insert 1 7 (codes "x") ∷ begin 2 ∷ insert 2 7 (codes "y") ∷ abort 1 ∷ insert 2 7
    (codes "y") ∷ [])
    (answer.At 0 ∷ answer.Accepted ∷ answer.At 0 ∷ answer.ConflictSession 1 ∷ answer.Aborted
    ∷ answer.Accepted ∷ [])

-- although the key is missing at the snapshot
abbrev pub LaterCommit : Type 0
LaterCommit = Answers
    (begin 1 ∷ begin 2 ∷ insert 2 5 (codes "x") ∷ commit 2 ∷ update 1 5 (codes "z") ∷ [])
    (answer.At 0 ∷ answer.At 0 ∷ answer.Accepted ∷ answer.Committed (Some 1) ∷ answer.ConflictCommit
    1 ∷ [])

abbrev pub LastCommit : Type 0
LastCommit = Answers
    (begin 1 ∷ begin 2 ∷ insert 2 5 (codes "x") ∷ commit 2 ∷ begin 2 ∷ delete 2 5 ∷ commit 2 ∷ begin
    2 ∷ insert 2 6 (codes "x") ∷ commit 2 ∷ insert 1 5 (codes "z") ∷ [])
    (answer.At 0 ∷ answer.At 0 ∷ answer.Accepted ∷ answer.Committed (Some 1) ∷ answer.At 1
    ∷ answer.Accepted ∷ answer.Committed (Some 2) ∷ answer.At 2 ∷ answer.Accepted
    ∷ answer.Committed (Some 3) ∷ answer.ConflictCommit 2 ∷ [])

abbrev pub SessionFirst : Type 0
SessionFirst = Answers
    (begin 1 ∷ begin 2 ∷ insert 2 5 (codes "x") ∷ commit 2 ∷ begin 3 ∷ update 3 5 (codes "y")
    ∷ update 1 5 (codes "z") ∷ [])
    (answer.At 0 ∷ answer.At 0 ∷ answer.Accepted ∷ answer.Committed (Some 1) ∷ answer.At 1
    ∷ answer.Accepted ∷ answer.ConflictSession 3 ∷ [])

abbrev pub GoneIsAWrite : Type 0
GoneIsAWrite = Answers
    (begin 1 ∷ insert 1 7 (codes "x") ∷ delete 1 7 ∷ begin 2 ∷ insert 2 7 (codes "y") ∷ commit 1
    ∷ insert 2 7 (codes "y") ∷ [])
    (answer.At 0 ∷ answer.Accepted ∷ answer.Accepted ∷ answer.At 0 ∷ answer.ConflictSession 1
    ∷ answer.Committed (Some 1) ∷ answer.ConflictCommit 1 ∷ [])

abbrev pub OneKeyThrice : Type 0
OneKeyThrice = Answers
    (begin 1 ∷ insert 1 3 (codes "x") ∷ insert 1 3 (codes "w") ∷ delete 1 3 ∷ delete 1 3 ∷ insert 1
    3 (codes "y") ∷ commit 1 ∷ begin 1 ∷ get 1 3 ∷ [])
    (answer.At 0 ∷ answer.Accepted ∷ answer.Exists ∷ answer.Accepted ∷ answer.Missing
    ∷ answer.Accepted ∷ answer.Committed (Some 1) ∷ answer.At 1 ∷ answer.Found
    (Some (row_of 3 (codes "y"))) ∷ [])

abbrev pub OwnWrites : Type 0
OwnWrites = Answers
    (begin 1 ∷ insert 1 2 (codes "x") ∷ insert 1 1 (codes "y") ∷ commit 1 ∷ begin 1 ∷ delete 1 2
    ∷ insert 1 3 (codes "z") ∷ scan 1 ∷ abort 1 ∷ begin 1 ∷ scan 1 ∷ [])
    (answer.At 0 ∷ answer.Accepted ∷ answer.Accepted ∷ answer.Committed (Some 1) ∷ answer.At 1
    ∷ answer.Accepted ∷ answer.Accepted
    ∷ answer.Rows (row_of 1 (codes "y") ∷ row_of 3 (codes "z") ∷ []) ∷ answer.Aborted ∷ answer.At 1
    ∷ answer.Rows (row_of 1 (codes "y") ∷ row_of 2 (codes "x") ∷ []) ∷ [])

abbrev pub NoTransaction : Type 0
NoTransaction = Answers
    (get 1 1 ∷ begin 1 ∷ begin 1 ∷ commit 1 ∷ begin 1 ∷ abort 1 ∷ commit 1 ∷ [])
    (answer.NoTransaction ∷ answer.At 0 ∷ answer.InTransaction ∷ answer.Committed None ∷ answer.At 0
    ∷ answer.Aborted ∷ answer.NoTransaction ∷ [])

-- an update stands until it is committed, and an older snapshot scans the row as it was
abbrev pub OlderScan : Type 0
OlderScan = Answers
    (begin 1 ∷ insert 1 5 (codes "x") ∷ commit 1 ∷ begin 1 ∷ begin 2 ∷ update 2 5 (codes "y") ∷ get
    2 5 ∷ commit 2 ∷ scan 1 ∷ commit 1 ∷ begin 1 ∷ get 1 5 ∷ [])
    (answer.At 0 ∷ answer.Accepted ∷ answer.Committed (Some 1) ∷ answer.At 1 ∷ answer.At 1
    ∷ answer.Accepted ∷ answer.Found (Some (row_of 5 (codes "y")))
    ∷ answer.Committed (Some 2) ∷ answer.Rows (row_of 5 (codes "x") ∷ []) ∷ answer.Committed None
    ∷ answer.At 2 ∷ answer.Found (Some (row_of 5 (codes "y"))) ∷ [])

-- although the key has a row at the snapshot
abbrev pub ConflictBeforeExists : Type 0
ConflictBeforeExists = Answers
    (begin 1 ∷ insert 1 5 (codes "x") ∷ commit 1 ∷ begin 1 ∷ begin 2 ∷ update 2 5 (codes "y")
    ∷ insert 1 5 (codes "z") ∷ [])
    (answer.At 0 ∷ answer.Accepted ∷ answer.Committed (Some 1) ∷ answer.At 1 ∷ answer.At 1
    ∷ answer.Accepted ∷ answer.ConflictSession 2 ∷ [])

-- one key in two tables
abbrev pub TwoTables : Type 0
TwoTables = Answers
    (begin 1 ∷ insert 1 5 (codes "x") ∷ asks 1 (act.Insert 1 (row_of 5 (codes "y"))) ∷ commit 1
    ∷ begin 1 ∷ scan 1 ∷ asks 1 (act.Scan 1) ∷ asks 1 (act.Delete 1 (pos 5)) ∷ scan 1 ∷ asks 1
    (act.Scan 1) ∷ [])
    (answer.At 0 ∷ answer.Accepted ∷ answer.Accepted ∷ answer.Committed (Some 1) ∷ answer.At 1
    ∷ answer.Rows (row_of 5 (codes "x") ∷ []) ∷ answer.Rows (row_of 5 (codes "y") ∷ [])
    ∷ answer.Accepted ∷ answer.Rows (row_of 5 (codes "x") ∷ []) ∷ answer.Rows [] ∷ [])

-- the machine after a command
abbrev pub after : Command → IsolationMachine → IsolationMachine
after command machine = (step machine command).1

-- a store that has answered `begin` may be full, or refuse memory to an insert, and nothing changes
abbrev pub FullIsAllowed : Type 0
FullIsAllowed = Allows (after (begin 1) opening) None (insert 1 5 (codes "x")) Full
    (after (begin 1) opening)

abbrev pub MemoryIsAllowed : Type 0
MemoryIsAllowed = Allows (after (begin 1) opening) None (get 1 5) Memory (after (begin 1) opening)

-- the machine where session 1 has inserted the key 5
abbrev pub holding : IsolationMachine
holding = after (insert 1 5 (codes "x")) (after (begin 1) opening)

-- a row that stands may be freezing
abbrev pub FreezingIsAllowed : Type 0
FreezingIsAllowed = Allows holding None (update 1 5 (codes "y")) Freezing holding

-- without a transaction there is no want of memory, and none at a commit; an insert is not refused
-- as freezing, and what is missing not; only an insert that would be accepted is refused as full;
-- and nothing changes
abbrev pub OthersAreNot : Type 0
OthersAreNot =
    ¬ Allows opening None (get 1 5) Memory opening
    × ¬ Allows holding None (commit 1) Memory holding
    × ¬ Allows holding None (get 1 5) Memory opening
    × ¬ Allows (after (begin 1) opening) None (insert 1 5 (codes "x")) Freezing
    (after (begin 1) opening)
    × ¬ Allows (after (begin 1) opening) None (update 1 5 (codes "x")) Freezing
    (after (begin 1) opening)
    × ¬ Allows holding None (update 1 5 (codes "y")) Freezing opening
    × ¬ Allows holding None (update 1 5 (codes "y")) Full holding
    × ¬ Allows holding None (insert 1 5 (codes "y")) Full holding
    × ¬ Allows holding None (insert 1 6 (codes "y")) Full opening
