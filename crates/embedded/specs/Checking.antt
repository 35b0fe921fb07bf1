-- What came of a row that a session inserted where a watched place had none.
use Rattle.std.specs.Prelude.{◌≡◌, ⊤, ℕ, ◌+◌, Bool, true, false, List, [], ◌∷◌, ◌++◌, None, Some}
use Rattle.std.specs.Prelude.{Result, Ok, Err, is_some, length}
use Rattle.std.specs.List.{list_any}
use Rattle.block_spec.specs.Slots.{Row}
use Rattle.isolation_spec.specs.Contents.{History, at_place, state_at}
use Rattle.isolation_spec.specs.Machine.{writes_place}
use Rattle.isolation_spec.specs.declared.place.Place.{Place}
use Rattle.store_laws.specs.Machines.{HasMore}
use Rattle.shared_store.specs.Open.{commits_seen}
use Rattle.workload_spec.specs.declared.command.Command.{Command}
use Rattle.workload_spec.specs.declared.reply.Said.{Said}
use Rattle.workload_spec.specs.declared.reply.Said.TheVariants as said
use Rattle.shared_store.specs.Store.{Answers, StoreView}
use Rattle.shared_store.specs.declared.session.Session.{Session}
use Rattle.embedded.specs.declared.NotHanded.{NotHanded}
use Rattle.embedded.specs.declared.checking.Tried.{Tried}
use Rattle.embedded.specs.declared.checking.Tried.TheVariants as tried

-- A commit of this number wrote the row and nothing else, behind all commits that the session had
-- seen before the call. In the state right before it, which all commits before it left, the watched
-- place has no row.
pub record IsInserted
    (store : StoreView) (old new : Session) (watched place : Place) (row : Row) (told : ℕ)
    : Type 0 where
  pub before : History
  pub behind : HasMore (commits_seen store old) before
  pub stands : HasMore (before ++ ((place, Some row) ∷ []) ∷ []) (commits_seen store new)
  pub number : told ≡ length before + 1
  pub lacks : at_place (state_at before (length before)) watched ≡ None

-- In the state that these commits left the watched place has this row. They are all that the
-- session had seen before the call, and maybe later ones.
pub record IsFound (store : StoreView) (old new : Session) (watched : Place) (row : Row)
    : Type 0 where
  pub commits : History
  pub behind : HasMore (commits_seen store old) commits
  pub stands : HasMore commits (commits_seen store new)
  pub has : at_place (state_at commits (length commits)) watched ≡ Some row

-- The watched place had no row in the state that these commits left, and a commit behind them wrote
-- it.
pub record IsOvertaken (store : StoreView) (old new : Session) (watched : Place) : Type 0 where
  pub commits : History
  pub later : History
  pub behind : HasMore (commits_seen store old) commits
  pub stands : HasMore (commits ++ later) (commits_seen store new)
  pub lacks : at_place (state_at commits (length commits)) watched ≡ None
  pub wrote : list_any (writes_place watched) later ≡ true

-- What the answer means. Of several tries it is the last one's.
abbrev pub IsTried : StoreView → Session → Session → Place → Place → Row → Tried → Type 0
IsTried store old new watched place row (tried.Inserted number) =
    IsInserted store old new watched place row number
IsTried store old new watched place row (tried.Found found) = IsFound store old new watched found
IsTried store old new watched place row tried.Overtaken = IsOvertaken store old new watched

-- ---- what was not written

-- A line tells of a commit that wrote.
abbrev pub is_commit : Said → Bool
is_commit (said.Committed number) = is_some number
is_commit _ = false

-- The session made these calls, one behind the other, and each was told its line.
abbrev pub MakesCalls : StoreView → Session → List (Command × Said) → Session → Type 0
MakesCalls store old [] new = new ≡ old
MakesCalls store old (call ∷ calls) new = (next : Session)
    × Answers store old next call.0 call.1
    × MakesCalls store next calls new

-- No call that the session made committed anything.
pub record CommitsNothing (store : StoreView) (old new : Session) : Type 0 where
  pub calls : List (Command × Said)
  pub makes : MakesCalls store old calls new
  pub none : list_any (λ call. is_commit call.1) calls ≡ false

-- Whatever is answered but that the row was inserted, nothing was committed.
abbrev pub IsInsertedOrUnwritten : StoreView → Session → Session → Result Tried NotHanded → Type 0
IsInsertedOrUnwritten store old new (Ok (tried.Inserted number)) = ⊤
IsInsertedOrUnwritten store old new (Ok (tried.Found found)) = CommitsNothing store old new
IsInsertedOrUnwritten store old new (Ok tried.Overtaken) = CommitsNothing store old new
IsInsertedOrUnwritten store old new (Err why) = CommitsNothing store old new
