-- The replies of an output, and which of them stand before which.
use Rattle.std.specs.Prelude.{ℕ, Bool, true, false, ◌&&◌, ◌||◌, not, ◌==◌, nat_lt, List, filter}
use Rattle.std.specs.Prelude.{filter_map, Option, None, Some}
use Rattle.workload_spec.specs.declared.command.Command.{Command}
use Rattle.workload_spec.specs.declared.reply.ReplyLine.{ReplyLine}
use Rattle.workload_spec.specs.declared.reply.Who.{Who}
use Rattle.workload_spec.specs.declared.reply.Who.TheVariants.{Session, Worker}
use Rattle.workload_spec.specs.declared.reply.Said.{Said}
use Rattle.workload_spec.specs.declared.reply.Said.TheVariants as said

-- A reply in an output: what stands in its lines, the command that it answers, and the number of
-- its first line, counted from 1, by which a line that fails is named. A worker's line doesn't tell
-- which step of its turn it answers, so here each of them has the same one, the first.
pub record Entry : Type 0 where
  pub number : ℕ
  pub command : Command
  pub reply : ReplyLine

-- the two are one session, or one worker
abbrev pub is_same : Who → Who → Bool
is_same (Session a) (Session b) = a == b
is_same (Session a) (Worker b) = false
is_same (Worker a) (Session b) = false
is_same (Worker a) (Worker b) = a == b

-- The replies to one session or worker.
abbrev pub thread : Who → List Entry → List Entry
thread who entries = filter (λ entry. is_same entry.reply.who who) entries

-- The two are one reply: they have the same round, session or worker, and index.
abbrev pub is_reply : Entry → Entry → Bool
is_reply a b = a.reply.round == b.reply.round && is_same a.reply.who b.reply.who
    && a.reply.index == b.reply.index

-- A reply is before another in an earlier round, or in the same round, of the same session or
-- worker, with a smaller index.
abbrev pub is_before : Entry → Entry → Bool
is_before a b =
    nat_lt a.reply.round b.reply.round
    || a.reply.round == b.reply.round && is_same a.reply.who b.reply.who
    && nat_lt a.reply.index b.reply.index

-- A reply is not after another where the other isn't before it.
abbrev pub is_not_after : Entry → Entry → Bool
is_not_after a b = not (is_before b a)

-- the replies before this one, those after it, and those not after it
abbrev pub before : List Entry → Entry → List Entry
before entries entry = filter (λ other. is_before other entry) entries

abbrev pub after : List Entry → Entry → List Entry
after entries entry = filter (λ other. is_before entry other) entries

abbrev pub not_after : List Entry → Entry → List Entry
not_after entries entry = filter (λ other. is_not_after other entry) entries

-- the numbers of one kind that these replies show
abbrev pub shown_in : (Said → Option ℕ) → List Entry → List ℕ
shown_in shown entries = filter_map (λ entry. shown entry.reply.said) entries

-- the snapshot that a reply shows as it opens a transaction
abbrev pub snapshot_in : Said → Option ℕ
snapshot_in (said.At number) = Some number
snapshot_in _ = None

-- the number that a reply shows as it commits writes
abbrev pub commit_in : Said → Option ℕ
commit_in (said.Committed number) = number
commit_in _ = None

-- the reply commits; it ends a transaction; it accepts a write
abbrev pub is_commit : Said → Bool
is_commit (said.Committed number) = true
is_commit _ = false

abbrev pub is_end : Said → Bool
is_end (said.Committed number) = true
is_end said.Aborted = true
is_end (said.At number) = false
is_end (said.Stale read number) = false
is_end (said.Totalled count sum) = false
is_end said.InTransaction = false
is_end said.NoTransaction = false
is_end (said.Found row) = false
is_end said.Absent = false
is_end (said.Scanned rows) = false
is_end said.Accepted = false
is_end (said.ConflictSession session) = false
is_end (said.ConflictCommit number) = false
is_end said.Exists = false
is_end said.Missing = false
is_end said.Full = false
is_end (said.Freezing table block stamp) = false
is_end (said.Cooling count) = false
is_end (said.Pruned count) = false
is_end (said.Moved count) = false
is_end (said.Sealed table block stamp) = false
is_end (said.NotSealed cause) = false
is_end (said.Frozen table block rows) = false
is_end said.NotFrozen = false
is_end (said.Exported number rows batches frozen) = false
is_end (said.Dirty key) = false
is_end said.Memory = false

abbrev pub is_accepted : Said → Bool
is_accepted said.Accepted = true
is_accepted _ = false
