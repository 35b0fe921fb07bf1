-- What a session has open, to one who embeds the store: the commits that its transaction sees, and
-- what it wrote itself.
use Rattle.std.specs.Prelude.{◌≡◌, ℕ, ℤ, true, List, [], Option, None, Some, Result, Ok, Err, IfOk}
use Rattle.std.specs.Prelude.{is_some, length}
use Rattle.std.specs.BTreeMap.{insert_entry}
use Rattle.block_spec.specs.Slots.{Row}
use Rattle.isolation_spec.specs.Contents.{History, WriteSet, at_place, contents_between}
use Rattle.isolation_spec.specs.Contents.{contents_of, numbers_between, place_at, place_cmp}
use Rattle.isolation_spec.specs.declared.place.Place.{Place}
use Rattle.isolation_spec.specs.Machine.{IsolationMachine}
use Rattle.lane_filter.specs.Totals.{IsTotalOf}
use Rattle.lane_filter.specs.declared.total.Total.{Total}
use Rattle.store_laws.specs.Machines.{AddsCommit, HasMore, HasOpenIn, commits_in, machine_after}
use Rattle.store_laws.specs.Machines.{rows_seen, stale_since}
use Rattle.shared_store.specs.Store.{StoreView, own_of, reads_of, seen, shape_in}
use Rattle.shared_store.specs.declared.faults.Stale.{Stale}
use Rattle.shared_store.specs.declared.session.Session.{Session}

-- the snapshot-isolation machine behind all that the session has seen of the log
abbrev pub machine_of : StoreView → Session → IsolationMachine
machine_of store s = machine_after (shape_in store) (seen s)

-- the write sets of all commits that it has seen, the first commit first
abbrev pub commits_seen : StoreView → Session → History
commits_seen store s = commits_in (shape_in store) (seen s)

-- The session has a transaction open that sees these commits, and wrote this itself.
pub record IsOpen (store : StoreView) (s : Session) (commits : History) (own : WriteSet)
    : Type 0 where
  pub busy : is_some (own_of s) ≡ true
  pub has : HasOpenIn s.session (machine_of store s) commits own

-- The session has nothing open.
abbrev pub IsAtRest : Session → Type 0
IsAtRest s = own_of s ≡ None

-- What is open stays so.
abbrev pub StaysOpen : StoreView → Session → Session → Type 0
StaysOpen store old new = (commits : History) (own : WriteSet)
    → IsOpen store old commits own → IsOpen store new commits own

-- Whatever is open stays so, where nothing is open nothing is, and of the commits that were seen
-- none is lost.
pub record LeavesOpen (store : StoreView) (old new : Session) : Type 0 where
  pub is_open : StaysOpen store old new
  pub rests : IsAtRest old → IsAtRest new
  pub commits : HasMore (commits_seen store old) (commits_seen store new)

-- A transaction was opened that sees all commits which its session has seen by then. It tells how
-- many they are.
pub record Opens (store : StoreView) (old new : Session) (number : ℕ) : Type 0 where
  pub began : IsAtRest old
  pub is_open : IsOpen store new (commits_seen store new) []
  pub counts : number ≡ length (commits_seen store new)
  pub goes_on : HasMore (commits_seen store old) (commits_seen store new)

-- One was open already, and nothing happened.
pub record IsRefused (old new : Session) : Type 0 where
  pub busy : is_some (own_of old) ≡ true
  pub stays : new ≡ old

abbrev pub Begins : {E : Type 0} → StoreView → Session → Session → Result ℕ E → Type 0
Begins store old new (Ok number) = Opens store old new number
Begins store old new (Err busy) = IsRefused old new

-- The row of a place was found, as the transaction sees it, and what is open stays so.
pub record Finds
    {E : Type 0} (store : StoreView) (new : Session) (commits : History) (own : WriteSet)
    (place : Place) (found : Result (Option Row) E)
    : Type 0 where
  pub is_open : IsOpen store new commits own
  pub row : IfOk found (λ row. row ≡ at_place (rows_seen commits own) place)

abbrev pub FindsRow
    : {E : Type 0} → StoreView → Session → Session → ℕ → ℤ → Result (Option Row) E → Type 0
FindsRow store old new table key found = (commits : History) (own : WriteSet)
    → IsOpen store old commits own → Finds store new commits own (place_at table key) found

-- The rows of a table were found, as the transaction sees them, in the order of their keys, and
-- what is open stays so.
pub record FindsAll
    {E : Type 0} (store : StoreView) (new : Session) (commits : History) (own : WriteSet)
    (table : ℕ) (found : Result (List Row) E)
    : Type 0 where
  pub is_open : IsOpen store new commits own
  pub rows : IfOk found (λ rows. rows ≡ contents_of table (rows_seen commits own))

abbrev pub FindsRows
    : {E : Type 0} → StoreView → Session → Session → ℕ → Result (List Row) E → Type 0
FindsRows store old new table found = (commits : History) (own : WriteSet)
    → IsOpen store old commits own → FindsAll store new commits own table found

-- The rows of a table's keys between two, both counted, were found, as the transaction sees them, in
-- the order of their keys, and what is open stays so.
pub record FindsRange
    {E : Type 0} (store : StoreView) (new : Session) (commits : History) (own : WriteSet)
    (table : ℕ) (low high : ℤ) (found : Result (List Row) E)
    : Type 0 where
  pub is_open : IsOpen store new commits own
  pub rows : IfOk found (λ rows. rows ≡ contents_between table low high (rows_seen commits own))

abbrev pub FindsBetween
    : {E : Type 0} → StoreView → Session → Session → ℕ → ℤ → ℤ → Result (List Row) E → Type 0
FindsBetween store old new table low high found = (commits : History) (own : WriteSet)
    → IsOpen store old commits own → FindsRange store new commits own table low high found

-- The numbers of a column that lie between two, both counted, in the rows of a table as the
-- transaction sees them, were counted and summed, and what is open stays so.
pub record FindsSum
    {E : Type 0} (store : StoreView) (new : Session) (commits : History) (own : WriteSet)
    (table column : ℕ) (low high : ℤ) (found : Result Total E)
    : Type 0 where
  pub is_open : IsOpen store new commits own
  pub total : IfOk found (IsTotalOf
      (numbers_between column low high (contents_of table (rows_seen commits own))))

abbrev pub FindsTotal
    : {E : Type 0} → StoreView → Session → Session → ℕ → ℕ → ℤ → ℤ → Result Total E → Type 0
FindsTotal store old new table column low high found = (commits : History) (own : WriteSet)
    → IsOpen store old commits own
    → FindsSum store new commits own table column low high found

-- A write that was accepted is the transaction's own from then on; a refused one changes nothing.
abbrev pub WritesRow
    : {X E : Type 0} → StoreView → Session → Session → Place → Option Row → Result X E → Type 0
WritesRow store old new place change (Ok done) = (commits : History) (own : WriteSet)
    → IsOpen store old commits own
    → IsOpen store new commits (insert_entry place_cmp own place change)
WritesRow store old new place change (Err refused) = StaysOpen store old new

-- What the transaction wrote stands behind all commits before it, at the number that is told. Where
-- it is checked and wrote something, none of these commits that it does not see wrote into what it
-- read.
pub record Adds
    (store : StoreView) (old new : Session) (commits : History) (own : WriteSet) (number : Option ℕ)
    : Type 0 where
  pub before : History
  pub goes_on : HasMore (commits_seen store old) before
  pub adds : AddsCommit before (commits_seen store new) own number
  pub stands : stale_since before commits own (reads_of old) ≡ None

-- The transaction stays open, and what it read stays what it was. Of its reads the one that is told
-- is the first into which commits wrote that it does not see, the last of them at this number.
pub record IsStale (store : StoreView) (old new : Session) (stale : Stale) : Type 0 where
  pub opened : own_of new ≡ own_of old
  pub reads : reads_of new ≡ reads_of old
  pub is_open : StaysOpen store old new
  pub wrote : (commits : History) (own : WriteSet) → IsOpen store old commits own
      → stale_since (commits_seen store new) commits own (reads_of old)
      ≡ Some (stale.read, stale.number)

abbrev pub Commits : StoreView → Session → Session → Result (Option ℕ) Stale → Type 0
Commits store old new (Ok number) = (commits : History) (own : WriteSet)
    → IsOpen store old commits own → Adds store old new commits own number
Commits store old new (Err stale) = IsStale store old new stale
