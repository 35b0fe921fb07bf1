-- Worked examples of commits with which a machine begins, as facts.
use Rattle.std.specs.Prelude.{◌≡◌, ◌^◌, ◌-◌, ℕ, ℤ, pos, negsuc, List, [], ◌∷◌, ◌++◌, Option, None, Some, codes}
use Rattle.cell_model.specs.declared.cell.Cell.{Cell}
use Rattle.cell_model.specs.declared.cell.Cell.TheVariants.{Num}
use Rattle.cell_model.specs.declared.table.TableDecl.{TableDecl}
use Rattle.cell_model.specs.Examples.{counted}
use Rattle.isolation_spec.specs.Commits.{IsWriteOf, IsCommitOf, AreCommitsOf}
use Rattle.isolation_spec.specs.Contents.{History, WriteSet, place_at, rows_left}
use Rattle.isolation_spec.specs.declared.command.Act.TheVariants as act
use Rattle.isolation_spec.specs.declared.command.Answer.TheVariants as answer
use Rattle.isolation_spec.specs.declared.command.Command.{Command}
use Rattle.isolation_spec.specs.declared.place.Place.{Place}
use Rattle.isolation_spec.specs.Examples.{asks, begin, commit, delete, get}
use Rattle.isolation_spec.specs.Machine.{opening_from, answers_from}

-- a table of keys and numbers below 256
abbrev pub tables : List TableDecl
tables = record { name = codes "t"; schema = counted; slots = 8; blocks = 1 } ∷ []

abbrev pub row_of : ℕ → ℕ → List Cell
row_of key number = Num (pos key) ∷ Num (pos number) ∷ []

-- a session inserts such a row, and changes it
abbrev pub insert : ℕ → ℕ → ℕ → Command
insert session key number = asks session (act.Insert 0 (row_of key number))

abbrev pub update : ℕ → ℕ → ℕ → Command
update session key number = asks session (act.Update 0 (row_of key number))

-- a write that leaves a row at its key in table 0, and one that leaves none
abbrev pub row_at : ℕ → ℕ → Place × Option (List Cell)
row_at key number = (place_at 0 (pos key), Some (row_of key number))

abbrev pub gone_at : ℤ → Place × Option (List Cell)
gone_at key = (place_at 0 key, None)

-- the first commit inserts two rows, and the second deletes one of them
abbrev pub two_commits : History
two_commits = (row_at 1 5 ∷ row_at 2 6 ∷ []) ∷ (gone_at (pos 2) ∷ []) ∷ []

-- A machine that begins with two commits: its first snapshot sees both, and the next commit is the
-- third.
abbrev pub BeginsWithCommits : Type 0
BeginsWithCommits = answers_from (opening_from two_commits)
    (get 1 1 ∷ begin 1 ∷ get 1 1 ∷ get 1 2 ∷ insert 1 2 7 ∷ insert 1 1 7
    ∷ begin 2 ∷ commit 1 ∷ update 2 1 8 ∷ delete 2 2 ∷ commit 2 ∷ [])
    ≡ answer.NoTransaction ∷ answer.At 2 ∷ answer.Found (Some (row_of 1 5))
    ∷ answer.Found None ∷ answer.Accepted ∷ answer.Exists
    ∷ answer.At 2 ∷ answer.Committed (Some 3) ∷ answer.Accepted ∷ answer.ConflictCommit 3
    ∷ answer.Committed (Some 4) ∷ []

-- These are commits of the table; a key is a number of 64 bits.
abbrev pub CommitsOfATable : Type 0
CommitsOfATable =
    AreCommitsOf tables two_commits
    × IsWriteOf tables (gone_at (negsuc (2 ^ 63 - 1)))
    × IsWriteOf tables (gone_at (pos (2 ^ 63 - 1)))

abbrev pub IsNoWrite : Place × Option (List Cell) → Type 0
IsNoWrite write = IsWriteOf tables write → ⊥

abbrev pub IsNoCommit : WriteSet → Type 0
IsNoCommit writes = IsCommitOf tables writes → ⊥

-- Others are not: no write at all, places out of order or twice, a table that there is not, a key
-- that is too wide, a row of another key, and one that does not fit.
abbrev pub OthersAreNoCommits : Type 0
OthersAreNoCommits =
    IsNoCommit []
    × IsNoCommit (gone_at (pos 2) ∷ gone_at (pos 1) ∷ [])
    × IsNoCommit (gone_at (pos 2) ∷ gone_at (pos 2) ∷ [])
    × IsNoWrite (place_at 1 (pos 1), None)
    × IsNoWrite (gone_at (pos (2 ^ 63)))
    × IsNoWrite (gone_at (negsuc (2 ^ 63)))
    × IsNoWrite (place_at 0 (pos 1), Some (row_of 2 5))
    × IsNoWrite (place_at 0 (pos 1), Some (row_of 1 256))

-- Of two commits the rows are left that the last write of each place left.
abbrev pub RowsAreLeft : Type 0
RowsAreLeft =
    (rows_left two_commits 0 ≡ row_of 1 5 ∷ [])
    × (rows_left two_commits 1 ≡ [])
    × (rows_left (two_commits ++ (row_at 0 9 ∷ row_at 1 8 ∷ []) ∷ []) 0
    ≡ row_of 0 9 ∷ row_of 1 8 ∷ [])
