-- The entries of all slots, by the replies to writes, commits, moves and prunings.
use Rattle.std.specs.Prelude.{◌≡◌, ℕ, ◌+◌, ◌*◌, ◌≤◌, ◌==◌, Bool, None, is_some, sum_by, count_by}
use Rattle.std.specs.Prelude.{if◌then◌else◌}
use Rattle.block_spec.specs.Bodies.{Body}
use Rattle.block_spec.specs.declared.change.Before.{Before}
use Rattle.event_spec.specs.declared.event.Event.TheVariants as event
use Rattle.event_spec.specs.declared.reply.Reply.TheVariants as reply
use Rattle.event_spec.specs.Effects.{CoreEvent}
use Rattle.event_spec.specs.Lawful.{IsLawful}
use Rattle.event_spec.specs.Parts.{Parts, Shape, below, blocks_of, body_at, desk_at, tables_of}
use Rattle.event_spec.specs.Replay.{Made, after, opening, reply_after}
use Rattle.event_spec.specs.Replies.{CoreReply}
use Rattle.event_spec.specs.Sound.{IsShape, Sound}
use Rattle.txn_desk.specs.Oldest.{snapshot_of}
use Rattle.undo_chain.specs.declared.undo.Undo.{Undo}
use Rattle.undo_chain.specs.Entry.{is_own}
use Rattle.store_laws.specs.Room.{writes_told}

-- how many entries of a body pass a test
abbrev pub entries_in : (Undo Before → Bool) → Body → ℕ
entries_in test body = sum_by (λ slot. count_by test slot.entries) body.slots

-- a count of each block, over all blocks of all tables
abbrev pub total : Shape → (ℕ → ℕ → ℕ) → ℕ
total shape count =
    sum_by (λ table. sum_by (count table) (below (blocks_of shape table))) (tables_of shape)

abbrev pub entries_at : Shape → (Undo Before → Bool) → Parts → ℕ → ℕ → ℕ
entries_at shape test parts table block = entries_in test (body_at shape parts table block)

abbrev pub is_stamped : Undo Before → Bool
is_stamped undo = is_some undo.stamp

abbrev pub is_of : ℕ → Undo Before → Bool
is_of session undo = is_own undo session

-- the entries with a stamp, and a session's own, which have none
abbrev pub stamped_entries : Shape → Parts → ℕ
stamped_entries shape parts = total shape (entries_at shape is_stamped parts)

abbrev pub own_entries : Shape → Parts → ℕ → ℕ
own_entries shape parts session = total shape (entries_at shape (is_of session) parts)

-- 1 for a write of the session that was granted
abbrev pub written_by : ℕ → CoreEvent → CoreReply → ℕ
written_by session (event.Begin of) told = 0
written_by session (event.Get own table key) told = 0
written_by session (event.Insert own table row) told =
    if own.session == session then writes_told told else 0
written_by session (event.Update own table row) told =
    if own.session == session then writes_told told else 0
written_by session (event.Delete own table key) told =
    if own.session == session then writes_told told else 0
written_by session (event.Read own table block) told = 0
written_by session (event.Range own table low high) told = 0
written_by session (event.Commit own reads) told = 0
written_by session (event.Abort own) told = 0
written_by session event.Oldest told = 0
written_by session (event.Observe table block) told = 0
written_by session (event.Prune table block oldest) told = 0
written_by session (event.Look table block) told = 0
written_by session (event.Move table moves) told = 0
written_by session (event.Seal table block) told = 0
written_by session (event.Image table block image) told = 0
written_by session (event.Thaw table block) told = 0

abbrev pub commits_told : CoreReply → ℕ → ℕ
commits_told (reply.Committed number) count = count
commits_told _ count = 0

abbrev pub moves_told : CoreReply → ℕ
moves_told (reply.Moved count) = count
moves_told _ = 0

abbrev pub drops_told : CoreReply → ℕ
drops_told (reply.Dropped count) = count
drops_told _ = 0

-- the entries to which the event gives a stamp: all its session's own at a commit, two for each row
-- at a move
abbrev pub stamped_by : Shape → Parts → CoreEvent → CoreReply → ℕ
stamped_by shape parts (event.Begin of) told = 0
stamped_by shape parts (event.Get own table key) told = 0
stamped_by shape parts (event.Insert own table row) told = 0
stamped_by shape parts (event.Update own table row) told = 0
stamped_by shape parts (event.Delete own table key) told = 0
stamped_by shape parts (event.Read own table block) told = 0
stamped_by shape parts (event.Range own table low high) told = 0
stamped_by shape parts (event.Commit own reads) told = commits_told told
    (own_entries shape parts own.session)
stamped_by shape parts (event.Abort own) told = 0
stamped_by shape parts event.Oldest told = 0
stamped_by shape parts (event.Observe table block) told = 0
stamped_by shape parts (event.Prune table block oldest) told = 0
stamped_by shape parts (event.Look table block) told = 0
stamped_by shape parts (event.Move table moves) told = 2 * moves_told told
stamped_by shape parts (event.Seal table block) told = 0
stamped_by shape parts (event.Image table block image) told = 0
stamped_by shape parts (event.Thaw table block) told = 0

-- the entries that the event drops, all of which have a stamp
abbrev pub dropped_by : CoreEvent → CoreReply → ℕ
dropped_by (event.Begin of) told = 0
dropped_by (event.Get own table key) told = 0
dropped_by (event.Insert own table row) told = 0
dropped_by (event.Update own table row) told = 0
dropped_by (event.Delete own table key) told = 0
dropped_by (event.Read own table block) told = 0
dropped_by (event.Range own table low high) told = 0
dropped_by (event.Commit own reads) told = 0
dropped_by (event.Abort own) told = 0
dropped_by event.Oldest told = 0
dropped_by (event.Observe table block) told = 0
dropped_by (event.Prune table block oldest) told = drops_told told
dropped_by (event.Look table block) told = 0
dropped_by (event.Move table moves) told = 0
dropped_by (event.Seal table block) told = 0
dropped_by (event.Image table block image) told = 0
dropped_by (event.Thaw table block) told = 0

-- In the opening core there is no entry.
abbrev pub OpensWithout : Type 0
OpensWithout = (shape : Shape) → IsShape shape → stamped_entries shape (opening shape) ≡ 0

-- What is dropped and what has a stamp are no more than what had one and what the event stamps; a
-- session's own entries are more by its write at most.
pub record CountsVersions (shape : Shape) (parts : Parts) (made : Made) : Type 0 where
  pub stamped : stamped_entries shape (after shape parts made)
      + dropped_by made.event (reply_after shape parts made)
      ≤ stamped_entries shape parts
      + stamped_by shape parts made.event (reply_after shape parts made)
  pub own : (session : ℕ) → own_entries shape (after shape parts made) session
      ≤ own_entries shape parts session
      + written_by session made.event (reply_after shape parts made)

abbrev pub VersionsAreCounted : Type 0
VersionsAreCounted = (shape : Shape) (parts : Parts) (made : Made)
    → Sound shape parts → IsLawful shape made.event parts
    → CountsVersions shape parts made

-- A session without a transaction has no entry.
abbrev pub IdleOwnNone : Type 0
IdleOwnNone = (shape : Shape) (parts : Parts) (session : ℕ)
    → IsShape shape → Sound shape parts
    → 1 ≤ session → snapshot_of (desk_at shape parts) session ≡ None
    → own_entries shape parts session ≡ 0
