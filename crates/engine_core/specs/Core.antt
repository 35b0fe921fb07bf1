-- The core as a hand that has every part.
use Rattle.std.specs.Prelude.{◌≡◌, ◌≤◌, ℕ, Bool, true, false, List, [], ◌∷◌, None, Some, All, length}
use Rattle.cell_model.specs.declared.table.TableDecl.{TableDecl}
use Rattle.core_parts.specs.Numbers.{IsOfSize}
use Rattle.event_spec.specs.declared.reply.Reply.TheVariants as reply
use Rattle.event_spec.specs.Replies.{CoreReply}
use Rattle.core_parts.specs.Hands.{Held}
use Rattle.event_spec.specs.Parts.{Parts, Shape}
use Rattle.event_spec.specs.Replay.{opening}
use Rattle.event_spec.specs.Sound.{IsShape}
use Rattle.core_laws.specs.Frames.Shards.{CoreHolds}
use Rattle.hall_rule.specs.Hands.{all_in}

-- the parts that lie in a hand, in order
abbrev pub parts_in : Held → Parts
parts_in [] = []
parts_in (None ∷ hand) = parts_in hand
parts_in (Some held ∷ hand) = held ∷ parts_in hand

-- A core as contracts see it: its shape, and its parts in order.
pub record CoreState : Type 0 where
  pub shape : Shape
  pub parts : Parts

-- Each place of the hand has its part, and the parts are those of a core that holds.
pub record IsWhole (shape : Shape) (hand : Held) : Type 0 where
  pub all : hand ≡ all_in (parts_in hand)
  pub holds : CoreHolds shape (parts_in hand)

-- What a core may be made of: at most 16 tables, each of which has a block, and a slot in it.
pub record MayOpen (tables : List TableDecl) (passes : ℕ) : Type 0 where
  pub size : IsOfSize tables passes
  pub few : length tables ≤ 16
  pub blocks : All (λ (table : TableDecl). 1 ≤ table.blocks) tables
  pub slots : All (λ (table : TableDecl). 1 ≤ table.slots) tables

-- No event was made on it.
pub record IsOpening (shape : Shape) (parts : Parts) : Type 0 where
  pub measures : IsShape shape
  pub parts_are : parts ≡ opening shape

-- the reply tells that memory was refused
abbrev pub is_memory : CoreReply → Bool
is_memory reply.Memory = true
is_memory (reply.Begun snapshot) = false
is_memory (reply.Found row) = false
is_memory (reply.Written place) = false
is_memory (reply.Refused fault) = false
is_memory (reply.Rows rows) = false
is_memory (reply.Shared rows) = false
is_memory (reply.Committed number) = false
is_memory (reply.Stale what number) = false
is_memory reply.Aborted = false
is_memory (reply.Oldest stamp) = false
is_memory (reply.Turned turned) = false
is_memory (reply.Dropped count) = false
is_memory (reply.Looked look) = false
is_memory (reply.Moved count) = false
is_memory (reply.Sealed stamp) = false
is_memory (reply.NotSealed fault) = false
is_memory (reply.Imaged rows) = false
is_memory reply.NoSeal = false
is_memory reply.Thawed = false
