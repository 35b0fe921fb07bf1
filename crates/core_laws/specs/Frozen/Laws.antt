-- Sealed and imaged blocks.
use Rattle.std.specs.Prelude.{◌≡◌, ◌≢◌, ℕ, ◌<◌, ◌≤◌, true, Option, None, Some}
use Rattle.block_spec.specs.Bodies.{is_dense, is_quiet}
use Rattle.block_spec.specs.declared.phase.Phase.{Phase}
use Rattle.block_spec.specs.declared.phase.Phase.TheVariants.{Loose, Sealed, Imaged}
use Rattle.event_spec.specs.declared.event.Event.TheVariants as event
use Rattle.event_spec.specs.declared.reply.Reply.TheVariants as reply
use Rattle.event_spec.specs.Effects.{CoreEvent, effect}
use Rattle.event_spec.specs.Lawful.{HasBlock, IsLawful}
use Rattle.event_spec.specs.Parts.{Parts, Shape, body_at, head_at}
use Rattle.event_spec.specs.Replies.{reply_to}
use Rattle.event_spec.specs.Sound.{IsShape, Sound}

-- the stamp of a body's seal, while it is sealed or imaged
abbrev pub stamp_of : Phase → Option ℕ
stamp_of Loose = None
stamp_of (Sealed stamp) = Some stamp
stamp_of (Imaged stamp) = Some stamp

-- A block that is sealed or imaged has no entry, its rows are a front of its slots, it is not the
-- head, and its stamp is its last.
pub record IsSettled (shape : Shape) (parts : Parts) (table block stamp : ℕ) : Type 0 where
  pub quiet : is_quiet (body_at shape parts table block) ≡ true
  pub dense : is_dense (body_at shape parts table block) ≡ true
  pub other : block ≢ (head_at shape parts table).block
  pub newest : stamp ≡ (body_at shape parts table block).last

abbrev pub FrozenIsSettled : Type 0
FrozenIsSettled = (shape : Shape) (parts : Parts) (table block stamp : ℕ) → Sound shape parts
    → HasBlock shape table block
    → stamp_of (body_at shape parts table block).phase ≡ Some stamp
    → IsSettled shape parts table block stamp

-- What a lawful event other than its thaw leaves of such a block: its slots and its stamp.
pub record StaysAsItWas (shape : Shape) (parts after : Parts) (table block : ℕ) : Type 0 where
  pub slots : (body_at shape after table block).slots ≡ (body_at shape parts table block).slots
  pub stamp : stamp_of (body_at shape after table block).phase
      ≡ stamp_of (body_at shape parts table block).phase

abbrev pub FrozenStays : Type 0
FrozenStays = (shape : Shape) (parts : Parts) (made : CoreEvent) (table block stamp : ℕ)
    → IsShape shape → Sound shape parts → IsLawful shape made parts → HasBlock shape table block
    → made ≢ event.Thaw table block → stamp_of (body_at shape parts table block).phase ≡ Some stamp
    → StaysAsItWas shape parts (effect shape parts made) table block

-- A block's last stamp never falls, and a seal has one above it: so each stamp of a block comes
-- once.
abbrev pub StampsRise : Type 0
StampsRise = (shape : Shape) (parts : Parts) (made : CoreEvent) (table block : ℕ)
    → IsShape shape → Sound shape parts → IsLawful shape made parts → HasBlock shape table block
    → (body_at shape parts table block).last
    ≤ (body_at shape (effect shape parts made) table block).last

abbrev pub SealsAreNew : Type 0
SealsAreNew = (shape : Shape) (parts : Parts) (table block stamp : ℕ)
    → IsShape shape → Sound shape parts → HasBlock shape table block
    → reply_to shape parts (event.Seal table block) ≡ reply.Sealed stamp
    → ((body_at shape parts table block).last < stamp)
    × ((body_at shape (effect shape parts (event.Seal table block)) table block).last ≡ stamp)
