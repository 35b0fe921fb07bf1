-- What the reads of all blocks of a table tell together.
use Rattle.std.specs.Prelude.{◌≡◌, ℕ, ℤ, List, Some, length}
use Rattle.std.specs.List.{flat_map}
use Rattle.std.specs.List.Sorted.{IsPermutation, IsSortedByKey}
use Rattle.std.specs.Ordering.{int_cmp}
use Rattle.block_spec.specs.Slots.{Row}
use Rattle.core_laws.specs.Events.Named.{FollowsMachine}
use Rattle.event_spec.specs.declared.own.OwnTransaction.{OwnTransaction}
use Rattle.event_spec.specs.Lawful.{OwnsAll}
use Rattle.event_spec.specs.Parts.{Parts, Shape, below, blocks_of}
use Rattle.event_spec.specs.Replies.{rows_read}
use Rattle.event_spec.specs.Sound.{IsShape, Sound}
use Rattle.isolation_spec.specs.Contents.{contents_of, key_of, numbers_between}
use Rattle.isolation_spec.specs.Machine.{IsolationMachine, Transaction, seen_rows, transaction_of}
use Rattle.run_spec.specs.Told.{in_key_order, total_told}

-- the rows that the session reads in all blocks of a table, block by block
abbrev pub all_read : Shape → Parts → OwnTransaction → ℕ → List Row
all_read shape parts own table =
    flat_map (rows_read shape parts own table) (below (blocks_of shape table))

-- In the order of their keys they are the rows of the table that the machine's transaction sees,
-- and
-- each of these is read once.
pub record IsTheScan
    (shape : Shape) (parts : Parts) (own : OwnTransaction) (table : ℕ)
    (machine : IsolationMachine) (open' : Transaction)
    : Type 0 where
  pub rows : in_key_order table (all_read shape parts own table)
      ≡ contents_of table (seen_rows machine open')
  pub count : length (all_read shape parts own table)
      ≡ length (contents_of table (seen_rows machine open'))

abbrev pub ReadsAreTheScan : Type 0
ReadsAreTheScan = (shape : Shape) (parts : Parts) (own : OwnTransaction) (table : ℕ)
    (machine : IsolationMachine) (open' : Transaction)
    → IsShape shape → Sound shape parts → OwnsAll shape own parts
    → FollowsMachine shape parts machine
    → transaction_of own.session machine ≡ Some open'
    → IsTheScan shape parts own table machine open'

-- ---- rows in another order

-- Each of these rows of a table has a key of its own: they are as many as in the order of their
-- keys, where of those with one key only the last is left.
abbrev pub HaveOwnKeys : ℕ → List Row → Type 0
HaveOwnKeys table rows = length rows ≡ length (in_key_order table rows)

-- Rows with keys of their own are the same rows in the order of their keys.
abbrev pub OrderedRowsAreTheRows : Type 0
OrderedRowsAreTheRows = (table : ℕ) (rows : List Row)
    → HaveOwnKeys table rows
    → IsPermutation rows (in_key_order table rows)

-- Sorted by their keys they are these rows in key order.
abbrev pub SortedRowsAreInKeyOrder : Type 0
SortedRowsAreInKeyOrder = (table : ℕ) (rows sorted : List Row)
    → HaveOwnKeys table rows
    → IsPermutation rows sorted
    → IsSortedByKey key_of int_cmp sorted
    → sorted ≡ in_key_order table rows

-- How many numbers between two a column has, and their sum, goes by the rows alone, whatever their
-- order.
abbrev pub TotalsGoByTheRows : Type 0
TotalsGoByTheRows = (column : ℕ) (low high : ℤ) (rows others : List Row)
    → IsPermutation rows others
    → total_told (numbers_between column low high rows)
    ≡ total_told (numbers_between column low high others)
