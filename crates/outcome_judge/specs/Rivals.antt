-- Who writes a place, and for how long: what tells whether another session's transaction is in the
-- way.
use Rattle.std.specs.Prelude.{◌≡◌, ℕ, Bool, ◌&&◌, List, if◌then◌else◌}
use Rattle.std.specs.Ordering.{int_cmp, nat_cmp, ordering_then}
use Rattle.std.specs.declared.cmp.Ordering.{Ordering}
use Rattle.isolation_spec.specs.declared.place.Place.{Place}
use Rattle.workload_spec.specs.declared.reply.Who.TheVariants.{Session}
use Rattle.outcome_spec.specs.Entries.{Entry, is_same}
use Rattle.mark_index.specs.Lists.{marks_at, with_mark}
use Rattle.mark_index.specs.Marks.{ArePeaks, next_peak}
use Rattle.outcome_judge.specs.Held.{Held, held_in}
use Rattle.outcome_judge.specs.Leads.{AreLeads, AreFollowed}
use Rattle.outcome_judge.specs.Written.{writes_to}
use Rattle.outcome_judge.specs.HistoryKept.{key_cmp, place_in}
use Rattle.outcome_judge.specs.declared.rivals.Rivals.{Rivals}
use Rattle.outcome_judge.specs.declared.rivals.Writer.{Writer}
use Rattle.outcome_judge.specs.declared.keys.RowKey.{RowKey}

-- writers go by table, by session, and then by key
abbrev pub writer_cmp : Writer → Writer → Ordering
writer_cmp a b = ordering_then (nat_cmp a.table b.table)
    (ordering_then (nat_cmp a.session b.session) (int_cmp a.key b.key))

-- the row that one writes, and the writer of a session
abbrev pub row_of : Writer → RowKey
row_of writer = record { table = writer.table; key = writer.key }

abbrev pub writer_at : RowKey → ℕ → Writer
writer_at of session = record { table = of.table; session = session; key = of.key }

-- the writer accepts a write of its place in the reply
abbrev pub is_writer : Writer → Entry → Bool
is_writer writer entry = is_same entry.reply.who (Session writer.session)
    && writes_to (place_in (row_of writer)) entry

-- up to when the reply holds the place, and as one session's
abbrev pub holds_until : Place → Held → ℕ
holds_until place held = if writes_to place held.entry then held.until else 0

abbrev pub writer_until : Writer → Held → ℕ
writer_until writer held = if is_writer writer held.entry then held.until else 0

-- The marks are those of the first so many replies.
pub record AreRivals (entries : List Entry) (taken : ℕ) (rivals : Rivals) : Type 0 where
  pub writers : (writer : Writer)
      → ArePeaks (writer_until writer) (λ place. place) (held_in entries) taken
      (marks_at writer_cmp rivals.writers writer)
  pub leads : (of : RowKey) → AreLeads (λ held. held.entry.reply.who) (holds_until (place_in of))
      (held_in entries) taken (marks_at key_cmp rivals.leads of)

-- What a reply at a place holds is marked.
pub record IsMarked (held : Held) (place : ℕ) (before now : Rivals) : Type 0 where
  pub writers : (writer : Writer) → marks_at writer_cmp now.writers writer
      ≡ with_mark (is_writer writer held.entry)
      (next_peak (marks_at writer_cmp before.writers writer) place place held.until)
      (marks_at writer_cmp before.writers writer)
  pub leads : (of : RowKey) → AreFollowed (writes_to (place_in of) held.entry) place
      held.entry.reply.who held.until (marks_at key_cmp before.leads of)
      (marks_at key_cmp now.leads of)
