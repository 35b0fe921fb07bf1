-- What holds of whole logs of events.
use Rattle.std.specs.Prelude.{◌≡◌, ◌↔◌, ⊤, ℕ, ◌≤◌, ℤ, true, List, [], ◌∷◌, None, Some}
use Rattle.block_layout.specs.Place.{block_of}
use Rattle.block_spec.specs.Bodies.{is_empty}
use Rattle.block_spec.specs.declared.phase.Phase.TheVariants.{Sealed}
use Rattle.block_spec.specs.Slots.{Row}
use Rattle.core_laws.specs.Events.Laws.{IsStep, command_in}
use Rattle.core_laws.specs.Events.Named.{FollowsMachine}
use Rattle.event_spec.specs.declared.event.Event.TheVariants as event
use Rattle.event_spec.specs.declared.own.OwnKey.{OwnKey}
use Rattle.event_spec.specs.declared.reply.Reply.TheVariants as reply
use Rattle.event_spec.specs.declared.reply.WriteFault.TheVariants as fault
use Rattle.event_spec.specs.Judged.{current_place}
use Rattle.event_spec.specs.Lawful.{HasBlock, IsLawful, reads_handed}
use Rattle.event_spec.specs.Parts.{Parts, Shape, body_at, head_at, places_at, slot_at, slots_of}
use Rattle.event_spec.specs.Replay.{IsLawfulLog, Made, after, opening, replay, reply_after}
use Rattle.event_spec.specs.Replies.{reply_to}
use Rattle.event_spec.specs.Sound.{IsShape, Sound}
use Rattle.core_laws.specs.Following.Laws.{command_of}
use Rattle.isolation_spec.specs.Contents.{key_of}
use Rattle.isolation_spec.specs.declared.command.Act.TheVariants as act
use Rattle.isolation_spec.specs.Machine.{IsolationMachine}
use Rattle.isolation_spec.specs.Machine as machine
use Rattle.isolation_spec.specs.Store.{IsAccepted}

-- The opening core is sound.
abbrev pub Opens : Type 0
Opens = (shape : Shape) → IsShape shape → Sound shape (opening shape)

-- So is each state that a lawful log reaches.
abbrev pub Reaches : Type 0
Reaches = (shape : Shape) (log : List Made) → IsShape shape → IsLawfulLog shape log
    → Sound shape (replay shape log)

-- The machine goes with a log: each command is answered as it may answer, and moves it on, and no
-- other event does.
abbrev pub IsAnsweredFrom : Shape → Parts → IsolationMachine → List Made → Type 0
IsAnsweredFrom shape parts before [] = ⊤
IsAnsweredFrom shape parts before (made ∷ log) = (next : IsolationMachine)
    × IsStep (command_in made.event) (reads_handed made.event) before
    (reply_after shape parts made) next
    × IsAnsweredFrom shape (after shape parts made) next log

-- The replies of a lawful log to its sessions' commands are the machine's, on the log without the
-- other events.
abbrev pub RepliesAsTheMachine : Type 0
RepliesAsTheMachine = (shape : Shape) (log : List Made) → IsShape shape → IsLawfulLog shape log
    → IsAnsweredFrom shape (opening shape) (machine.opening_from shape.first) log

-- ---- refusals of the core's own

-- The table has no room for a key that the session did not write: no slot of the head is unused,
-- and no other block is empty.
pub record HasNoRoom (shape : Shape) (parts : Parts) (own : OwnKey) (table : ℕ) : Type 0 where
  pub written : own.written ≡ None
  pub spent : slots_of shape table ≤ (head_at shape parts table).taken
  pub others : (block : ℕ) → HasBlock shape table block → is_empty (body_at shape parts table block)
      ≡ true
      → block ≡ (head_at shape parts table).block

-- An insert that the machine accepts is refused exactly where there is no room.
abbrev pub FullExactly : Type 0
FullExactly = (shape : Shape) (parts : Parts) (own : OwnKey) (table : ℕ) (row : Row)
    (machine : IsolationMachine) (inserts : ℕ)
    → IsShape shape → Sound shape parts → IsLawful shape (event.Insert own table row) parts
    → FollowsMachine shape parts machine
    → (reply_to shape parts (event.Insert own table row) ≡ reply.Refused (fault.Full inserts))
    ↔ (IsAccepted machine (command_of own.session (act.Insert table row))
    × HasNoRoom shape parts own table
    × (inserts ≡ (head_at shape parts table).inserts))

-- The key's current row lies in a sealed block.
pub record IsSealedIn (shape : Shape) (parts : Parts) (table : ℕ) (key : ℤ) (block stamp : ℕ) : Type 0 where
  pub place : ℕ
  pub current : current_place (slot_at shape parts table) (places_at shape parts table key)
      ≡ Some place
  pub block_is : block ≡ block_of place
  pub sealed : (body_at shape parts table block).phase ≡ Sealed stamp

-- An update or a delete that the machine accepts is refused exactly where its row's body is sealed.
abbrev pub FreezesExactly : Type 0
FreezesExactly = (shape : Shape) (parts : Parts) (own : OwnKey) (table : ℕ)
    (machine : IsolationMachine) (block stamp : ℕ)
    → IsShape shape → Sound shape parts → FollowsMachine shape parts machine
    → ((row : Row) → IsLawful shape (event.Update own table row) parts
    → (reply_to shape parts (event.Update own table row)
    ≡ reply.Refused (fault.Freezing block stamp))
    ↔ (IsAccepted machine (command_of own.session (act.Update table row))
    × IsSealedIn shape parts table (key_of row) block stamp))
    × ((key : ℤ) → IsLawful shape (event.Delete own table key) parts
    → (reply_to shape parts (event.Delete own table key)
    ≡ reply.Refused (fault.Freezing block stamp))
    ↔ (IsAccepted machine (command_of own.session (act.Delete table key))
    × IsSealedIn shape parts table key block stamp))
