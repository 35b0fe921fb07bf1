-- What a desk knows, and what always holds of it.
use Rattle.std.specs.Prelude.{ℕ, ◌+◌, ◌<◌, ◌≤◌, ◌^◌, Bool, List, Option, All, IfSome, length, map}
use Rattle.std.specs.Prelude.{slice_index_or, if◌then◌else◌}
use Rattle.std.specs.List.{range_with_len}
use Rattle.txn_desk.specs.declared.Snapshot.{Snapshot}

-- What a desk knows: the newest stamp given out, the commits numbered, what each pass has open,
-- pass 1 first, and of each of 16 tables the number of the last commit that wrote it, 0 where none
-- did.
pub record DeskState : Type 0 where
  pub newest : ℕ
  pub commits : ℕ
  pub open_snapshots : List (Option Snapshot)
  pub wrote : List ℕ

-- the number of the last commit that wrote a table
abbrev pub wrote_table : DeskState → ℕ → ℕ
wrote_table desk table = slice_index_or desk.wrote table 0

-- The last writers of the tables after a commit with this number wrote some of them.
unfoldable pub marked : ℕ → (ℕ → Bool) → List ℕ → List ℕ
marked number writes wrote = map
    (λ table. if writes table then number else slice_index_or wrote table 0)
    (range_with_len 0 16)

-- No open transaction began after the newest stamp, each commit took a stamp but for those that the
-- desk began with, which are at most 2 ^ 63, and the numbers fit.
pub record IsInOrder (newest commits : ℕ) (open_snapshots : List (Option Snapshot)) : Type 0 where
  pub begun : All (λ o. IfSome o (λ snapshot. snapshot.stamp ≤ newest)) open_snapshots
  pub numbered : commits ≤ newest + 2 ^ 63
  pub stamps : newest < 2 ^ 63
  pub passes : length open_snapshots < 2 ^ 32
