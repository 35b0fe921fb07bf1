-- What is read of a block, and blocks read one after another.
use Rattle.std.specs.Prelude.{◌≡◌, ◌⊎◌, ℕ, ◌+◌, ◌*◌, ◌≤◌, false, List, [], ◌∷◌, All, Some, Result}
use Rattle.std.specs.Prelude.{Ok, Err}
use Rattle.std.specs.Prelude.{count_by, length}
use Rattle.block_spec.specs.Slots.{Row}
use Rattle.cell_model.specs.Rows.{Fits}
use Rattle.event_spec.specs.declared.event.Event.TheVariants as event
use Rattle.event_spec.specs.declared.own.OwnTransaction.{OwnTransaction}
use Rattle.event_spec.specs.declared.reply.Reply.TheVariants as reply
use Rattle.event_spec.specs.Effects.{CoreEvent}
use Rattle.event_spec.specs.Lawful.{HasBlock}
use Rattle.event_spec.specs.Parts.{Parts, Shape, slots_of}
use Rattle.event_spec.specs.Replay.{columns_in}
use Rattle.event_spec.specs.Replies.{CoreReply}
use Rattle.event_spec.specs.Touched.{touching}
use Rattle.hall_rule.specs.Hands.{Covers}
use Rattle.hall_steps.specs.Hall.{first_of}
use Rattle.run_spec.specs.Handed.{Stretch}
use Rattle.run_spec.specs.Occurrences.{Occurrence}
use Rattle.run_spec.specs.Told.{rows_told}
use Rattle.store_laws.specs.Own.{occurrence_at}
use Rattle.store_laws.specs.Stretches.{is_event}
use Rattle.shared_store.specs.Commits.{WritesNothing}
use Rattle.shared_store.specs.Lending.{EndsLend, ImagedIs, IsLendOf}
use Rattle.shared_store.specs.Making.{IsFew, MakesHeld}
use Rattle.shared_store.specs.Store.{EndsWithLast, HandsView, IsFree, IsSession, IsWithin}
use Rattle.shared_store.specs.Store.{KeepsLend, SeatView, StoreView, TookPartsOf, events_made}
use Rattle.shared_store.specs.Store.{own_of, notes_of, seen, shape_in, taken_by, view_of}
use Rattle.shared_store.specs.declared.reading.SeenBlock.{SeenBlock}
use Rattle.shared_store.specs.declared.reading.SeenBlock.TheVariants as block
use Rattle.shared_store.specs.declared.session.Session.{Session}

-- the reply that an answer is
abbrev pub reply_of : {E : Type 0} → Result SeenBlock E → CoreReply
reply_of (Ok (block.Rows rows)) = reply.Rows rows
reply_of (Ok (block.Lent lend)) = reply.Shared lend.rows
reply_of (Err memory) = reply.Memory

-- the rows that it has
abbrev pub rows_in : SeenBlock → List Row
rows_in (block.Rows rows) = rows
rows_in (block.Lent lend) = lend.rows

-- How many rows may have been looked at: none of a block that is lent.
abbrev pub most_seen : {E : Type 0} → Shape → ℕ → Result SeenBlock E → ℕ
most_seen shape table (Ok (block.Rows rows)) = slots_of shape table
most_seen shape table (Ok (block.Lent lend)) = 0
most_seen shape table (Err memory) = slots_of shape table

-- ---- a pass that holds the block's body

-- It may read the block, which is not imaged, for its session, which has this open.
pub record MayReadHeld
    (store : StoreView) (seat : SeatView) (hands : HandsView) (own : OwnTransaction) (table at : ℕ)
    : Type 0 where
  pub session : ℕ
  pub within : IsWithin store session seat hands (Some own)
  pub has : HasBlock (shape_in store) table at
  pub covers : Covers (touching (shape_in store) (event.Read own table at)) (first_of hands)
  pub loose : ImagedIs (shape_in store) seat.me.0 (Some own) table at false
  pub few : IsFew seat.me.0

-- the reply that its answer is
abbrev pub read_reply : {E : Type 0} → Result (List Row) E → CoreReply
read_reply (Ok rows) = reply.Rows rows
read_reply (Err memory) = reply.Memory

abbrev pub ReadsAnyHeld
    : {E : Type 0} → StoreView → SeatView → HandsView → SeatView → HandsView → OwnTransaction
    → ℕ → ℕ → Result (List Row) E → Type 0
ReadsAnyHeld store old hands new later own table at result = (session : ℕ)
    → IsWithin store session old hands (Some own)
    → MakesHeld store session old new hands later (Some own) (event.Read own table at)
    (read_reply result)

-- ---- a session

-- What was made for the read of a block: that read alone, which was told this; or nothing, where
-- there was no memory to lend the block.
abbrev pub IsReadOf : ℕ → OwnTransaction → ℕ → ℕ → CoreReply → List Occurrence → Type 0
IsReadOf session own table at told made =
    ((parts : Parts) × (made ≡ occurrence_at session parts (event.Read own table at) told ∷ []))
    ⊎ ((told ≡ reply.Memory) × (made ≡ []))

-- The session read the block: it lent it, which is no event, or made this event alone. It took the
-- block's body and no other part, and has open what it had. The rows that it was told fit the
-- table, and are no more than a block has slots.
pub record ReadsBlock
    (store : StoreView) (old new : Session) (own : OwnTransaction) (table at : ℕ) (told : CoreReply)
    : Type 0 where
  pub session : IsSession store new
  pub same : new.session ≡ old.session
  pub opened : own_of new ≡ own_of old
  pub kept : notes_of new ≡ notes_of old
  pub made : List Occurrence
  pub is_read : IsReadOf old.session own table at told made
  pub stretch : Stretch (shape_in store) old.session (seen old) (seen new) made
  pub count : events_made new ≡ events_made old + count_by is_event made
  pub ends : EndsWithLast made (seen new)
  pub took : TookPartsOf
      (shape_in store)
      (event.Read own table at ∷ [])
      (seen old)
      (seen new)
      (taken_by old)
      (taken_by new)
  pub fits : All (Fits (columns_in (shape_in store) table)) (rows_told told)
  pub few : length (rows_told told) ≤ slots_of (shape_in store) table

-- The session holds the lend that it was told, and else none.
abbrev pub HoldsSeen : StoreView → Session → SeenBlock → Type 0
HoldsSeen store s (block.Lent lend) = IsLendOf store s lend
HoldsSeen store s (block.Rows rows) = IsFree s

abbrev pub HoldsLend : {E : Type 0} → StoreView → Session → Result SeenBlock E → Type 0
HoldsLend store s (Ok seen) = HoldsSeen store s seen
HoldsLend store s (Err memory) = IsFree s

-- What was lent was given back.
abbrev pub GivesBack : StoreView → Session → Session → SeenBlock → Type 0
GivesBack store old new (block.Lent lend) = EndsLend store old new lend
GivesBack store old new (block.Rows rows) = new ≡ old

-- The session saw the block: lent, as long as it is not given back, or read by an event, which
-- looked at each slot at most once.
pub record SeesBlock
    {E : Type 0} (store : StoreView) (old new : Session) (own : OwnTransaction) (table at : ℕ)
    (spent steps : ℕ) (result : Result SeenBlock E)
    : Type 0 where
  pub reads : ReadsBlock store old new own table at (reply_of result)
  pub holds : HoldsLend store new result
  pub looked : steps ≤ spent + slots_of (shape_in store) table * count_by is_event reads.made

-- The session made these events, which are among those of a command, one after another, and has
-- open what it had, and lent what it had lent.
pub record Went
    (store : StoreView) (old new : Session) (events : List CoreEvent) (made : List Occurrence)
    : Type 0 where
  pub session : IsSession store new
  pub same : new.session ≡ old.session
  pub opened : own_of new ≡ own_of old
  pub kept : notes_of new ≡ notes_of old
  pub unwritten : WritesNothing made
  pub stretch : Stretch (shape_in store) old.session (seen old) (seen new) made
  pub count : events_made new ≡ events_made old + count_by is_event made
  pub ends : EndsWithLast made (seen new)
  pub took : TookPartsOf (shape_in store) events (seen old) (seen new) (taken_by old) (taken_by new)
  pub reads : KeepsLend (view_of old) (view_of new)
