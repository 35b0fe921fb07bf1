-- What a range finds, what is kept of it, and how many rows are looked at for it.
use Rattle.std.specs.Prelude.{◌≡◌, ◌⊎◌, ℕ, ℤ, ◌+◌, ◌≤◌, List, Option, Result, Ok, Err, IfOk, IsErr}
use Rattle.std.specs.Prelude.{sum_by}
use Rattle.block_spec.specs.Slots.{Row}
use Rattle.engine_core.specs.Costs.{cost_of}
use Rattle.event_spec.specs.declared.event.Event.TheVariants as event
use Rattle.event_spec.specs.declared.own.OwnTransaction.{OwnTransaction}
use Rattle.event_spec.specs.declared.reply.Reply.TheVariants as reply
use Rattle.event_spec.specs.Effects.{CoreEvent}
use Rattle.event_spec.specs.Parts.{Shape}
use Rattle.event_spec.specs.Replies.{CoreReply}
use Rattle.isolation_spec.specs.Reads.{ReadSet}
use Rattle.isolation_spec.specs.declared.read.KeyRange.{KeyRange}
use Rattle.isolation_spec.specs.declared.read.Read.TheVariants as read
use Rattle.run_spec.specs.Occurrences.{Occurrence}
use Rattle.run_spec.specs.Told.{in_key_order}
use Rattle.workload_spec.specs.declared.command.Command.TheVariants as command
use Rattle.workload_spec.specs.declared.reply.Said.{Said}
use Rattle.shared_store.specs.Making.{MakesAny, ReadsFew}
use Rattle.shared_store.specs.Reads.{with_one}
use Rattle.shared_store.specs.Store.{Answers, HandsView, SeatView, StoreView, shape_in}
use Rattle.shared_store.specs.declared.session.Session.{Session}

-- it is the event of a range of this table
abbrev pub IsRangeOf : ℕ → CoreEvent → Type 0
IsRangeOf table event' = (own : OwnTransaction) × (low : ℤ) × (high : ℤ)
    × (event' ≡ event.Range own table low high)

-- A range that was answered with its rows was read, also with none.
abbrev pub range_read : {E : Type 0} → KeyRange → Result (List Row) E → Option ReadSet
    → Option ReadSet
range_read range (Ok rows) reads = with_one (read.Range range.table range.low range.high) reads
range_read range (Err memory) reads = reads

-- A pass that held no part made the event. The rows that it answers are those that it was told, in
-- the order of their keys.
pub record MakesRange
    {E : Type 0} (store : StoreView) (old : SeatView) (hands : HandsView) (new : SeatView)
    (later : HandsView) (table : ℕ) (event : CoreEvent) (spent steps : ℕ)
    (found : Result (List Row) E)
    : Type 0 where
  pub told : CoreReply
  pub made : MakesAny store old hands new later event told
  pub rows : IfOk found (λ rows. (listed : List Row) × (told ≡ reply.Rows listed)
      × (rows ≡ in_key_order table listed))
  pub few : ReadsFew (shape_in store) new.me.0 event told spent steps

-- The event was made; or there was no memory to keep that the range was read: then none was, and
-- the pass is as it was (`stays`).
abbrev pub MayFindRange
    : {E : Type 0} → StoreView → SeatView → HandsView → SeatView → HandsView → ℕ → CoreEvent → ℕ
    → ℕ → Type 0 → Result (List Row) E → Type 0
MayFindRange store old hands new later table event spent steps stays found =
    MakesRange store old hands new later table event spent steps found
    ⊎ (IsErr found × stays × (steps ≡ spent))

-- How many rows the events of a call may look at, each at the parts before it.
abbrev pub cost_in : Shape → List Occurrence → ℕ
cost_in shape made = sum_by (λ occurrence. cost_of shape occurrence.event occurrence.before) made

-- The session read the range, and took no more steps than the index has places of its keys at the
-- event.
pub record ReadsRange
    (store : StoreView) (old new : Session) (table : ℕ) (low high : ℤ) (told : Said)
    (spent steps : ℕ)
    : Type 0 where
  pub answers : Answers store old new (command.Range table low high) told
  pub few : steps ≤ spent + cost_in (shape_in store) answers.made
