-- What came of a row that one session inserted and another session read.
use Rattle.std.specs.Prelude.{◌≡◌, ◌+◌, [], Some, length}
use Rattle.block_spec.specs.Slots.{Row}
use Rattle.isolation_spec.specs.Contents.{History, at_place, state_at}
use Rattle.isolation_spec.specs.declared.place.Place.{Place}
use Rattle.store_laws.specs.Machines.{HasMore}
use Rattle.shared_store.specs.Open.{IsOpen, commits_seen}
use Rattle.shared_store.specs.Store.{StoreView}
use Rattle.shared_store.specs.declared.session.Session.{Session}
use Rattle.embedded.specs.Commits.{IsUnwritten, commits_around}
use Rattle.embedded.specs.declared.Handed.{Handed}

-- The session has a transaction open that has written nothing.
abbrev pub HasWrittenNothing : StoreView → Session → Type 0
HasWrittenNothing store s = (commits : History) × IsOpen store s commits []

-- The transaction that inserted the row read it. It committed the row and nothing else, behind all
-- commits that its session had seen, at the number that is told. The other session's transaction is
-- open, and sees that commit and these later ones, and all that the session had seen. It read what
-- they left at the row's place, which is the row itself where no later one wrote the place.
pub record HandsOver
    (store : StoreView) (one two reader : Session) (place : Place) (row : Row) (handed : Handed)
    : Type 0 where
  pub before : History
  pub later : History
  pub own : handed.own ≡ Some row
  pub behind : HasMore (commits_seen store one) before
  pub committed : handed.committed ≡ length before + 1
  pub is_open : IsOpen store reader (commits_around before place row later) []
  pub keeps : HasMore (commits_seen store two) (commits_around before place row later)
  pub sees : handed.sees ≡ handed.committed + length later
  pub other : handed.other ≡ at_place
      (state_at (commits_around before place row later) handed.sees)
      place
  pub unwritten : IsUnwritten place later → handed.other ≡ Some row
