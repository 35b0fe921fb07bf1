-- What a session keeps of its commits, by its events.
use Rattle.std.specs.Prelude.{◌≡◌, true, List, [], Option, Result, Ok, fold, is_some}
use Rattle.std.specs.Prelude.{option_map}
use Rattle.block_spec.specs.Slots.{Row}
use Rattle.event_spec.specs.Effects.{CoreEvent}
use Rattle.event_spec.specs.Replies.{CoreReply}
use Rattle.isolation_spec.specs.Contents.{WriteSet}
use Rattle.isolation_spec.specs.declared.place.Place.{Place}
use Rattle.shared_store.specs.KeptCommits.{with_change}
pub use Rattle.shared_store.specs.KeptCommits.{commits_in, kept_first, with_commit, without_commits}
pub use Rattle.shared_store.specs.KeptCommits.{without_first, without_own}
use Rattle.outcome_spec.specs.Entries.{is_accepted}
use Rattle.run_spec.specs.Commits.{SessionWrites, commit_by, entered, own_written, says, writes_behind}
use Rattle.run_spec.specs.Occurrences.{Occurrence}

-- What a session wrote behind these events more of its own, where it keeps it.
abbrev pub written_behind : List Occurrence → Option SessionWrites → Option SessionWrites
written_behind made wrote = option_map (λ writes. fold writes_behind writes made) wrote

-- these events write nothing
abbrev pub WritesNothing : List Occurrence → Type 0
WritesNothing made = (writes : SessionWrites) → fold writes_behind writes made ≡ writes

-- ---- a write

-- Where the event of a write is accepted it leaves this at the place; it ends no transaction.
pub record LeavesRow (place : Place) (change : Option Row) (write : CoreEvent) : Type 0 where
  pub own : (own : WriteSet) (told : CoreReply)
      → own_written own write told ≡ entered place change told own
  pub none : (own : WriteSet) (told : CoreReply) → commit_by own write told ≡ []

-- the same of one who may keep nothing
abbrev pub MayLeaveRow : Option SessionWrites → Place → CoreEvent → Option Row → Type 0
MayLeaveRow wrote place write change = is_some wrote ≡ true → LeavesRow place change write

-- A write of which a copy could be made is kept where it was accepted.
pub record KeepsChange
    {E : Type 0} (place : Place) (copy : Result (Option Row) E) (before now : Option SessionWrites)
    (told : CoreReply)
    : Type 0 where
  pub change : Option Row
  pub copied : copy ≡ Ok change
  pub kept : now ≡ option_map (with_change place change (says is_accepted told)) before
