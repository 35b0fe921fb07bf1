-- What came of two rows that one session inserted, of which it changed the one and deleted the
-- other, and what another session found.
use Rattle.std.specs.Prelude.{◌≡◌, ℕ, ◌+◌, false, [], None, Some, length}
use Rattle.block_spec.specs.Slots.{Row}
use Rattle.isolation_spec.specs.Contents.{History, State, at_place, contents_of, is_place, state_at}
use Rattle.isolation_spec.specs.declared.place.Place.{Place}
use Rattle.store_laws.specs.Machines.{HasMore}
use Rattle.shared_store.specs.Open.{IsOpen, commits_seen}
use Rattle.shared_store.specs.Store.{StoreView}
use Rattle.shared_store.specs.declared.session.Session.{Session}
use Rattle.embedded.specs.declared.changing.Changed.{Changed}

-- The one place has this row and the other has none. Everywhere else is what was before.
pub record AreChanged (before rows : State) (kept dropped : Place) (row : Row) : Type 0 where
  pub has : at_place rows kept ≡ Some row
  pub lacks : at_place rows dropped ≡ None
  pub others : (place : Place) → is_place place kept ≡ false → is_place place dropped ≡ false
      → at_place rows place ≡ at_place before place

-- The transaction that changed the rows found them changed in the commits that it sees. The other
-- session's transaction is open, sees all commits that either session had seen, and found what these
-- left: the same rows, where no commit but that of the changes came behind those.
pub record FindsChanges
    (store : StoreView) (one two reader : Session) (table : ℕ) (kept dropped : Place) (row : Row)
    (changed : Changed)
    : Type 0 where
  pub before : History
  pub rows : State
  pub behind : HasMore (commits_seen store one) before
  pub began : changed.began ≡ length before
  pub are_changed : AreChanged (state_at before (length before)) rows kept dropped row
  pub own : changed.own ≡ contents_of table rows
  pub seen : History
  pub is_open : IsOpen store reader seen []
  pub keeps_one : HasMore before seen
  pub keeps_two : HasMore (commits_seen store two) seen
  pub sees : changed.sees ≡ length seen
  pub other : changed.other ≡ contents_of table (state_at seen changed.sees)
  pub same : changed.sees ≡ changed.began + 1 → changed.other ≡ changed.own
