-- What a compaction makes: a look at each block of a table, and one move of the rows that these
-- give.
use Rattle.std.specs.Prelude.{◌≡◌, ℕ, List, [], ◌∷◌, ◌++◌, IfOk, OnOk, Result, Ok, Err, map, sum_by}
use Rattle.block_spec.specs.Looks.{Look}
use Rattle.compact_plan.specs.Laws.{IsFitting, IsLookAt}
use Rattle.event_spec.specs.declared.event.Event.TheVariants as event
use Rattle.event_spec.specs.declared.event.MovePair.{MovePair}
use Rattle.event_spec.specs.declared.reply.Reply.TheVariants as reply
use Rattle.event_spec.specs.Effects.{CoreEvent}
use Rattle.event_spec.specs.Parts.{Shape, below, blocks_of}
use Rattle.event_spec.specs.Plans.{BlockLook, plan_of}
use Rattle.event_spec.specs.Replies.{CoreReply}
use Rattle.run_spec.specs.Asked.{at_blocks, looks_in}
use Rattle.run_spec.specs.Occurrences.{Occurrence, replies_in}
use Rattle.run_spec.specs.Told.{moved_told}
use Rattle.workload_spec.specs.declared.command.Command.TheVariants as command
use Rattle.workload_spec.specs.declared.reply.Said.TheVariants as said
use Rattle.shared_store.specs.Store.{Answers, StoreView, shape_in}
use Rattle.shared_store.specs.Sweeping.{MakesAlone, Sweeps}
use Rattle.shared_store.specs.declared.session.Session.{Session}

-- ---- looks

-- the look at a block
abbrev pub looking : ℕ → ℕ → CoreEvent
looking table block = event.Look table block

-- what is seen of a block of a number
abbrev pub look_of : ℕ → Look → BlockLook
look_of block look = record { block = block; look = look }

-- the reply that a look's answer is
abbrev pub look_reply : {E : Type 0} → Result Look E → CoreReply
look_reply (Ok look) = reply.Looked look
look_reply (Err memory) = reply.Memory

-- A block was looked at, and with Ok this is seen of it.
pub record LooksAtBlock
    {E : Type 0} (store : StoreView) (old new : Session) (table block : ℕ) (result : Result Look E)
    : Type 0 where
  pub alone : MakesAlone store old new (looking table block) (look_reply result)
  pub seen : IfOk result (λ look. IsLookAt (shape_in store) table (look_of block look))

-- What the reply tells of the block was put behind what was seen before.
pub record AddsLook
    (shape : Shape) (table block : ℕ) (told : CoreReply) (before now : List BlockLook)
    : Type 0 where
  pub look : Look
  pub told_is : told ≡ reply.Looked look
  pub seen : IsLookAt shape table (look_of block look)
  pub now_is : now ≡ before ++ look_of block look ∷ []

-- A block was looked at, and with Ok what was seen was put behind what was seen before.
pub record LooksInto
    {T E : Type 0} (store : StoreView) (old new : Session) (table block : ℕ)
    (before now : List BlockLook) (result : Result T E)
    : Type 0 where
  pub told : CoreReply
  pub alone : MakesAlone store old new (looking table block) told
  pub added : OnOk result (AddsLook (shape_in store) table block told before now)

-- This was seen by the events, and they moved nothing.
pub record HaveLooked (looks : List BlockLook) (made : List Occurrence) : Type 0 where
  pub looks_are : looks ≡ looks_in made
  pub unmoved : sum_by moved_told (replies_in made) ≡ 0

-- So many blocks of the table were looked at, and this was seen.
abbrev pub Looks : StoreView → Session → Session → ℕ → ℕ → List BlockLook → Type 0
Looks store old new table count looks = Sweeps
    store
    (at_blocks (shape_in store) table (looking table))
    (HaveLooked looks)
    old
    new
    (map (looking table) (below count))

-- ---- moves

-- All blocks of the table were looked at, and these moves, which fit the table, are the plan of it.
pub record PlansMoves
    (store : StoreView) (old new : Session) (table : ℕ) (moves : List MovePair)
    : Type 0 where
  pub looks : List BlockLook
  pub looked : Looks store old new table (blocks_of (shape_in store) table) looks
  pub plan : moves ≡ plan_of looks
  pub fits : IsFitting (shape_in store) table moves

-- With Err the whole compaction found no memory.
abbrev pub PlansTable : {E : Type 0} → StoreView → Session → Session → ℕ → Result (List MovePair) E
    → Type 0
PlansTable store old new table (Ok moves) = PlansMoves store old new table moves
PlansTable store old new table (Err memory) = Answers store old new (command.Compact table)
    said.Memory

-- the reply that a move's answer is
abbrev pub move_reply : {E : Type 0} → Result ℕ E → CoreReply
move_reply (Ok count) = reply.Moved count
move_reply (Err memory) = reply.Memory

-- The rows were moved by one event; where there are none, by no event.
abbrev pub MovesRows
    : {E : Type 0} → StoreView → Session → Session → ℕ → List MovePair → Result ℕ E → Type 0
MovesRows store old new table [] result = (new ≡ old) × (result ≡ Ok 0)
MovesRows store old new table (pair ∷ pairs) result =
    MakesAlone store old new (event.Move table (pair ∷ pairs)) (move_reply result)
