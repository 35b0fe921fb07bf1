-- The oldest stamp at which an open transaction may still read.
use Rattle.std.specs.Prelude.{ℕ, ◌-◌, ◌≤◌, List, [], ◌∷◌, Option, None, length, fold, min}
use Rattle.std.specs.Prelude.{option_map, slice_index_or}
use Rattle.std.specs.List.{filter_map}
use Rattle.txn_desk.specs.declared.Snapshot.{Snapshot}
use Rattle.txn_desk.specs.Desk.{DeskState}

-- A pass is one of those that the desk was made for, which count from 1.
abbrev pub HasPass : DeskState → ℕ → Type 0
HasPass desk pass = (1 ≤ pass) × (pass ≤ length desk.open_snapshots)

-- The snapshot of a pass's transaction, none where the pass has no transaction.
abbrev pub snapshot_of : DeskState → ℕ → Option Snapshot
snapshot_of desk pass = slice_index_or desk.open_snapshots (pass - 1) None

-- The stamps at which the open transactions began.
abbrev pub open_starts : List (Option Snapshot) → List ℕ
open_starts snapshots = filter_map (option_map (λ snapshot. snapshot.stamp)) snapshots

-- The least of some numbers, or another number where there are none.
abbrev pub least_or : List ℕ → ℕ → ℕ
least_or [] other = other
least_or (x ∷ xs) other = fold min x xs

-- The least stamp at which an open transaction began, or the newest stamp where none is open.
abbrev pub oldest_of : DeskState → ℕ
oldest_of desk = least_or (open_starts desk.open_snapshots) desk.newest
