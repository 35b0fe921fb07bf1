-- What a transaction sees at a place of the output.
use Rattle.std.specs.Prelude.{◌≡◌, ℕ, List, take, map, slice_get, Option, option_and_then}
use Rattle.std.specs.List.{range_with_len}
use Rattle.std.specs.Option.{option_map_or}
use Rattle.isolation_spec.specs.Contents.{State, History, state_at}
use Rattle.outcome_spec.specs.Entries.{Entry, snapshot_in}
use Rattle.outcome_spec.specs.Runs.{committed_writes, transactions_of, commit_count}
use Rattle.order_laws.specs.Opened.{OpensOutside}
use Rattle.order_laws.specs.Places.{Rises}
use Rattle.outcome_counts.specs.Openings.{AreOpenings, openings_in}
use Rattle.outcome_judge.specs.Commits.{AreCommits}
use Rattle.outcome_judge.specs.declared.sights.Sights.{Sights}
use Rattle.outcome_judge.specs.Timed.{TimedWrite, after_writes, up_to}
use Rattle.outcome_judge.specs.HistoryKept.{AreKept}
use Rattle.outcome_judge.specs.Own.{own_writes}
use Rattle.outcome_judge.specs.declared.writes.Writes.{Writes}

-- the history of the replies
abbrev pub history_of : List Entry → History
history_of entries = map (committed_writes entries (transactions_of entries))
    (range_with_len 1 (commit_count entries))

-- the snapshot that the reply at a place shows
abbrev pub snapshot_at : List Entry → ℕ → ℕ
snapshot_at entries place = option_map_or (λ number. number)
    (option_and_then (λ entry. snapshot_in entry.reply.said) (slice_get entries place)) 0

-- the rows at the snapshot of the transaction that is opened at a place
abbrev pub base_at : List Entry → ℕ → State
base_at entries owner = state_at (history_of entries) (snapshot_at entries owner)

-- what it sees at a place among the first so many replies
abbrev pub seen_up_to : List (Option ℕ) → List Entry → ℕ → ℕ → ℕ → State
seen_up_to openings entries taken owner place = after_writes (base_at entries owner)
    (up_to place (own_writes owner 0 (take taken openings) (take taken entries)))

-- What is kept are the writes of each transaction among the first so many replies, laid over the
-- rows at its snapshot.
pub record AreOwn (openings : List (Option ℕ)) (entries : List Entry) (taken : ℕ) (writes : Writes) : Type 0 where
  pub written : ℕ → List TimedWrite
  pub kept : AreKept (base_at entries) written writes
  pub own : (owner : ℕ) → written owner
      ≡ own_writes owner 0 (take taken openings) (take taken entries)

-- The replies are of an output in the order of their lines, in which transactions are opened
-- outside others, and the openings are theirs.
pub record IsOutput (openings : List (Option ℕ)) (entries : List Entry) : Type 0 where
  pub rises : Rises entries
  pub outside : OpensOutside entries
  pub each : openings ≡ openings_in entries
  pub own : AreOpenings entries openings

-- What is kept are the commits of the replies, and each transaction's writes among the first so
-- many.
pub record AreSights (openings : List (Option ℕ)) (entries : List Entry) (taken : ℕ) (sights : Sights) : Type 0 where
  pub commits : AreCommits openings entries (commit_count entries) sights.committed.writes
  pub own : AreOwn openings entries taken sights.own

-- the same, of some replies
pub record AreSomeSights (openings : List (Option ℕ)) (entries : List Entry) (sights : Sights) : Type 0 where
  pub taken : ℕ
  pub these : AreSights openings entries taken sights
