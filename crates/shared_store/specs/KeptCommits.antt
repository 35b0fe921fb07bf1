-- What a session keeps of its commits until they are taken.
use Rattle.std.specs.Prelude.{◌<◌, ◌≤◌, ℕ, ◌++◌, Bool, List, [], Option, None, Some, drop}
use Rattle.std.specs.Prelude.{if◌then◌else◌}
use Rattle.std.specs.BTreeMap.{insert_entry}
use Rattle.cell_model.specs.declared.cell.Cell.{Cell}
use Rattle.event_spec.specs.declared.reply.Reply.TheVariants as reply
use Rattle.isolation_spec.specs.Contents.{place_cmp}
use Rattle.isolation_spec.specs.declared.place.Place.{Place}
use Rattle.run_spec.specs.Commits.{SessionWrites, commit_told}
use Rattle.run_spec.specs.declared.commit.Commit.{Commit}

-- what a session wrote, and a row of it
abbrev pub WritesView : Type 0
WritesView = SessionWrites

abbrev pub RowView : Type 0
RowView = List Cell

-- nothing was written
abbrev pub nothing_written : SessionWrites
nothing_written = record { own = []; commits = [] }

-- what is kept at first, by one who keeps commits or by one who keeps none
abbrev pub kept_first : Bool → Option SessionWrites
kept_first keeps = if keeps then Some nothing_written else None

-- the open transaction wrote besides what an accepted write leaves at a place
abbrev pub with_change : Place → Option RowView → Bool → SessionWrites → SessionWrites
with_change place change accepted writes = if accepted
    then record writes { own = insert_entry place_cmp writes.own place change }
    else writes

-- the open transaction committed, with this number where it wrote something
abbrev pub with_commit : Option ℕ → SessionWrites → SessionWrites
with_commit number writes = record {
  own = [];
  commits = writes.commits ++ commit_told writes.own (reply.Committed number);
}

-- the open transaction was dropped
abbrev pub without_own : SessionWrites → SessionWrites
without_own writes = record writes { own = [] }

-- the commits were taken
abbrev pub without_commits : SessionWrites → SessionWrites
without_commits writes = record writes { commits = [] }

-- the first so many commits were taken
abbrev pub without_first : ℕ → SessionWrites → SessionWrites
without_first taken writes = record writes { commits = drop taken writes.commits }

-- the commits that are kept
abbrev pub commits_in : Option SessionWrites → List Commit
commits_in None = []
commits_in (Some writes) = writes.commits

-- There is room for so many writes. Where there are some, there is room for their commit behind the
-- others, and also once those are taken.
pub record HasRoom (written room commits commits_room next_room : ℕ) : Type 0 where
  pub writes : written ≤ room
  pub commit : 0 < written → commits < commits_room
  pub next : 0 < written → 0 < commits → 0 < next_room
