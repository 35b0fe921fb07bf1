-- The commits of a session and of a log, each with what it wrote.
use Rattle.std.specs.Prelude.{Bool, false, List, [], ◌∷◌, ◌++◌, map, fold, Option, None, Some}
use Rattle.std.specs.Prelude.{option_map, option_and_then, option_to_list, if◌then◌else◌}
use Rattle.std.specs.BTreeMap.{insert_entry}
use Rattle.std.specs.Option.{option_map_or}
use Rattle.block_spec.specs.Slots.{Row}
use Rattle.event_spec.specs.declared.event.Event.TheVariants as event
use Rattle.event_spec.specs.Effects.{CoreEvent}
use Rattle.event_spec.specs.Replies.{CoreReply}
use Rattle.isolation_spec.specs.Contents.{History, WriteSet, place_at, place_cmp, place_of}
use Rattle.isolation_spec.specs.declared.place.Place.{Place}
use Rattle.outcome_spec.specs.Entries.{commit_in, is_accepted, is_commit}
use Rattle.workload_spec.specs.declared.reply.Said.{Said}
use Rattle.run_spec.specs.declared.commit.Commit.{Commit}
use Rattle.run_spec.specs.Occurrences.{Occurrence, under}
use Rattle.run_spec.specs.Told.{told_by}

-- ---- a session's commits, by its own events alone

-- the line of a reply to a write, a commit or an abort, and whether it says this
abbrev pub line_by : CoreReply → Option Said
line_by told = told_by 0 0 told

abbrev pub says : (Said → Bool) → CoreReply → Bool
says test told = option_map_or test (line_by told) false

-- a write that was accepted leaves the row, or none, at its place
abbrev pub entered : Place → Option Row → CoreReply → WriteSet → WriteSet
entered place change told own =
    if says is_accepted told then insert_entry place_cmp own place change else own

-- What a session's open transaction wrote, behind one more of the session's events: its accepted
-- writes, until it commits or is aborted.
abbrev pub own_written : WriteSet → CoreEvent → CoreReply → WriteSet
own_written own (event.Begin session) told = own
own_written own (event.Get handed table key) told = own
own_written own (event.Insert handed table row) told =
    entered (place_of table row) (Some row) told own
own_written own (event.Update handed table row) told =
    entered (place_of table row) (Some row) told own
own_written own (event.Delete handed table key) told = entered (place_at table key) None told own
own_written own (event.Read handed table block) told = own
own_written own (event.Range handed table low high) told = own
own_written own (event.Commit handed reads) told = if says is_commit told then [] else own
own_written own (event.Abort handed) told = []
own_written own event.Oldest told = own
own_written own (event.Observe table block) told = own
own_written own (event.Prune table block oldest) told = own
own_written own (event.Look table block) told = own
own_written own (event.Move table moves) told = own
own_written own (event.Seal table block) told = own
own_written own (event.Image table block image) told = own
own_written own (event.Thaw table block) told = own

-- the commit of a transaction that wrote this, where the reply tells its number; one that wrote
-- nothing has none
abbrev pub commit_told : WriteSet → CoreReply → List Commit
commit_told [] told = []
commit_told (first ∷ rest) told = option_to_list
    (option_map
    (λ number. record { number = number; writes = first ∷ rest })
    (option_and_then commit_in (line_by told)))

-- The commit that an event makes of what its session's open transaction wrote, if it makes one.
abbrev pub commit_by : WriteSet → CoreEvent → CoreReply → List Commit
commit_by own (event.Commit handed reads) told = commit_told own told
commit_by own (event.Begin session) told = []
commit_by own (event.Get handed table key) told = []
commit_by own (event.Insert handed table row) told = []
commit_by own (event.Update handed table row) told = []
commit_by own (event.Delete handed table key) told = []
commit_by own (event.Read handed table block) told = []
commit_by own (event.Range handed table low high) told = []
commit_by own (event.Abort handed) told = []
commit_by own event.Oldest told = []
commit_by own (event.Observe table block) told = []
commit_by own (event.Prune table block oldest) told = []
commit_by own (event.Look table block) told = []
commit_by own (event.Move table moves) told = []
commit_by own (event.Seal table block) told = []
commit_by own (event.Image table block image) told = []
commit_by own (event.Thaw table block) told = []

-- What a session wrote: in its open transaction, nothing without one, and in its commits that have
-- a number, in their order.
pub record SessionWrites : Type 0 where
  pub own : WriteSet
  pub commits : List Commit

abbrev pub writes_behind : SessionWrites → Occurrence → SessionWrites
writes_behind before made = record {
  own = own_written before.own made.event made.reply;
  commits = before.commits ++ commit_by before.own made.event made.reply;
}

-- What a session wrote by these events of its own.
abbrev pub writes_of : List Occurrence → SessionWrites
writes_of own = fold writes_behind (record { own = []; commits = [] }) own

-- The commits of a session by these events of its own.
abbrev pub commits_of : List Occurrence → List Commit
commits_of own = (writes_of own).commits

-- ---- the commits of a log

-- The commits of a log that goes on behind these events, in its order: each is what its session
-- wrote by its own events.
abbrev pub commits_along : List Occurrence → List Occurrence → List Commit
commits_along front [] = []
commits_along front (next ∷ rest) =
    commit_by (writes_of (under next.session front)).own next.event next.reply
    ++ commits_along (front ++ next ∷ []) rest

abbrev pub write_sets : List Commit → History
write_sets commits = map (λ commit. commit.writes) commits

-- The history behind these events of a store that began with commits: those, and behind them those
-- of the events.
abbrev pub history_behind : History → List Occurrence → History
history_behind first made = first ++ write_sets (commits_along [] made)
