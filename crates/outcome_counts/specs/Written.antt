-- What transactions wrote, counted.
use Rattle.std.specs.Prelude.{◌≡◌, ℕ, Bool, List, count_by, is_some, if◌then◌else◌, Option, None}
use Rattle.std.specs.Prelude.{Some}
use Rattle.std.specs.Ordering.{nat_cmp}
use Rattle.workload_spec.specs.declared.reply.Who.{Who}
use Rattle.workload_spec.specs.declared.reply.Who.TheVariants.{Session, Worker}
use Rattle.outcome_spec.specs.Entries.{Entry}
use Rattle.outcome_spec.specs.Runs.{Span, accepted_write}
use Rattle.mark_index.specs.Lists.{marks_at}
use Rattle.mark_index.specs.Marks.{AreCounted}
use Rattle.outcome_counts.specs.Keys.{is_keyed}
use Rattle.outcome_counts.specs.Ends.{AreEnds}
use Rattle.outcome_counts.specs.Openings.{AreOpenings, openings_in}
use Rattle.outcome_counts.specs.declared.spans.Spans.{Spans}

-- the session that is answered
abbrev pub session_of : Who → Option ℕ
session_of (Session number) = Some number
session_of (Worker number) = None

-- the session whose write the reply accepts
abbrev pub is_write : Entry → Bool
is_write entry = is_some (accepted_write entry)

abbrev pub writer_of : Entry → Option ℕ
writer_of entry = if is_write entry then session_of entry.reply.who else None

abbrev pub is_write_by : ℕ → Entry → Bool
is_write_by session entry = is_keyed nat_cmp session (writer_of entry)

-- how many accepted writes a transaction has
abbrev pub writes_of : Span → ℕ
writes_of t = count_by is_write t.replies

-- Where each reply's transaction is opened and ended, and where each session's writes are.
pub record AreSpans (entries : List Entry) (taken : ℕ) (spans : Spans) : Type 0 where
  pub openings : AreOpenings entries spans.openings.items
  pub each : spans.openings.items ≡ openings_in entries
  pub ends : AreEnds entries taken spans.ends.backs.items
  pub writes : (session : ℕ) → AreCounted (is_write_by session) entries taken
      (marks_at nat_cmp spans.writes session)
