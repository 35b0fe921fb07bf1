-- What a session's reads of all blocks of a table tell, each made at a moment of its own.
use Rattle.std.specs.Prelude.{◌≡◌, ℕ, ℤ, Bool, true, false, List, ◌++◌, Some, All, fold, length, map}
use Rattle.std.specs.Prelude.{take}
use Rattle.std.specs.List.{flat_map, list_any}
use Rattle.block_spec.specs.Slots.{Row}
use Rattle.core_laws.specs.Events.Named.{FollowsMachine}
use Rattle.event_spec.specs.declared.event.Event.TheVariants as event
use Rattle.event_spec.specs.declared.own.OwnTransaction.{OwnTransaction}
use Rattle.event_spec.specs.Effects.{CoreEvent, range_found}
use Rattle.event_spec.specs.Lawful.{OwnsAll, session_of}
use Rattle.event_spec.specs.Parts.{Parts, Shape, below, blocks_of}
use Rattle.event_spec.specs.Replay.{IsLawfulLog, Made, after, replay}
use Rattle.event_spec.specs.Replies.{reply_to}
use Rattle.event_spec.specs.Sound.{IsShape}
use Rattle.isolation_spec.specs.Contents.{History, WriteSet, contents_of}
use Rattle.isolation_spec.specs.Machine.{IsolationMachine, Transaction, seen_rows, transaction_of}
use Rattle.run_spec.specs.Calls.{is_refused}
use Rattle.run_spec.specs.Handed.{GoesOn, own_in}
use Rattle.run_spec.specs.Occurrences.{Logged, Occurrence, events_in, replies_in}
use Rattle.run_spec.specs.Told.{in_key_order, rows_told}
use Rattle.store_laws.specs.Logs.{made_in}
use Rattle.store_laws.specs.Machines.{HasOpenIn, machine_after, rows_seen}
use Rattle.store_laws.specs.Own.{StandsUnder, parts_after}
use Rattle.store_laws.specs.Scans.{HaveOwnKeys}

-- a get, a read or a range, which changes nothing
abbrev pub is_look : CoreEvent → Bool
is_look (event.Begin session) = false
is_look (event.Get own table key) = true
is_look (event.Insert own table row) = false
is_look (event.Update own table row) = false
is_look (event.Delete own table key) = false
is_look (event.Read own table block) = true
is_look (event.Range own table low high) = true
is_look (event.Commit own reads) = false
is_look (event.Abort own) = false
is_look event.Oldest = false
is_look (event.Observe table block) = false
is_look (event.Prune table block oldest) = false
is_look (event.Look table block) = false
is_look (event.Move table moves) = false
is_look (event.Seal table block) = false
is_look (event.Image table block image) = false
is_look (event.Thaw table block) = false

-- The session's own events among these are gets, reads and ranges; those of others may be any.
abbrev pub LooksAlone : ℕ → List Made → Type 0
LooksAlone session log =
    All (λ (made : Made). session_of made.event ≡ Some session → is_look made.event ≡ true) log

-- the parts behind so many of these events
abbrev pub behind : Shape → Parts → List Made → ℕ → Parts
behind shape parts log count = fold (after shape) parts (take count log)

-- the rows that reads of all blocks of a table tell, the read of each block made behind as many of
-- these events as its moment says
abbrev pub told_throughout : Shape → Parts → List Made → (ℕ → ℕ) → OwnTransaction → ℕ → List Row
told_throughout shape parts log moment own table =
    flat_map (λ block. rows_told
    (reply_to shape (behind shape parts log (moment block)) (event.Read own table block)))
    (below (blocks_of shape table))

-- In the order of their keys they are the rows of the table that the machine's transaction sees,
-- and each of these is told once.
pub record AreTheScan (rows : List Row) (table : ℕ) (machine : IsolationMachine) (open' : Transaction) : Type 0 where
  pub ordered : in_key_order table rows ≡ contents_of table (seen_rows machine open')
  pub count : length rows ≡ length (contents_of table (seen_rows machine open'))

-- So it is of an open session's reads of all blocks, whenever each was made between two of the
-- session's writes.
abbrev pub ReadsAreTheScanThroughout : Type 0
ReadsAreTheScanThroughout = (shape : Shape) (front log : List Made) (moment : ℕ → ℕ)
    (own : OwnTransaction) (table : ℕ) (machine : IsolationMachine) (open' : Transaction)
    → IsShape shape → IsLawfulLog shape (front ++ log)
    → OwnsAll shape own (replay shape front) → LooksAlone own.session log
    → FollowsMachine shape (replay shape front) machine
    → transaction_of own.session machine ≡ Some open'
    → AreTheScan (told_throughout shape (replay shape front) log moment own table) table machine
    open'

-- Rows that are these contents of a table in the order of their keys, each of them once.
pub record TellEach (table : ℕ) (rows contents : List Row) : Type 0 where
  pub ordered : in_key_order table rows ≡ contents
  pub count : length rows ≡ length contents

-- So a session that made nothing else from one log to a later one was told each row that its
-- transaction sees.
abbrev pub ReadsTellTheRows : Type 0
ReadsTellTheRows = (shape : Shape) (earlier later : List Logged) (made : List Occurrence)
    (own : OwnTransaction) (table : ℕ) (commits : History) (writes : WriteSet)
    → IsShape shape → IsLawfulLog shape (made_in later) → GoesOn earlier later
    → StandsUnder own.session later → OwnsAll shape own (parts_after shape earlier)
    → HasOpenIn own.session (machine_after shape earlier) commits writes
    → own_in shape own.session later ≡ own_in shape own.session earlier ++ made
    → events_in made ≡ map (event.Read own table) (below (blocks_of shape table))
    → list_any is_refused made ≡ false
    → TellEach
    table
    (flat_map rows_told (replies_in made))
    (contents_of table (rows_seen commits writes))

-- So it was told no two rows of one key, whatever its transaction sees.
abbrev pub ReadsTellEachOnce : Type 0
ReadsTellEachOnce = (shape : Shape) (earlier later : List Logged) (made : List Occurrence)
    (own : OwnTransaction) (table : ℕ)
    → IsShape shape → IsLawfulLog shape (made_in later) → GoesOn earlier later
    → StandsUnder own.session later → OwnsAll shape own (parts_after shape earlier)
    → own_in shape own.session later ≡ own_in shape own.session earlier ++ made
    → events_in made ≡ map (event.Read own table) (below (blocks_of shape table))
    → list_any is_refused made ≡ false
    → HaveOwnKeys table (flat_map rows_told (replies_in made))

-- Nor does a range tell two rows of one key that its session makes behind a log.
abbrev pub RangesTellEachOnce : Type 0
RangesTellEachOnce = (shape : Shape) (log : List Logged) (own : OwnTransaction) (table : ℕ)
    (low high : ℤ)
    → IsShape shape → IsLawfulLog shape (made_in log)
    → OwnsAll shape own (parts_after shape log)
    → HaveOwnKeys table (range_found shape (parts_after shape log) own table low high)
