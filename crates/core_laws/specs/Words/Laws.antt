-- How the words of parts begin, and what events make of them.
use Rattle.std.specs.Prelude.{◌≡◌, ◌↔◌, ℕ, ◌+◌, ◌*◌, ◌^◌, ◌<◌, true, false, Some, slice_get}
use Rattle.block_spec.specs.Bodies.{is_imaged}
use Rattle.block_spec.specs.declared.phase.Phase.TheVariants.{Imaged}
use Rattle.core_laws.specs.Words.Words.{thawed_part, turns_words, word_of}
use Rattle.event_spec.specs.declared.event.Event.TheVariants as event
use Rattle.event_spec.specs.Effects.{CoreEvent, effect}
use Rattle.event_spec.specs.Lawful.{IsLawful}
use Rattle.event_spec.specs.Parts.{CorePart, Parts, Shape, BodyOf, body_at, names}
use Rattle.event_spec.specs.Replay.{opening}
use Rattle.event_spec.specs.Sound.{IsShape, Sound}
use Rattle.hall_rule.specs.Heads.{IsFrozen, Turns, head_of}

-- In the opening core each word is hot, without a stamp.
abbrev pub WordsOpen : Type 0
WordsOpen = (shape : Shape) (number : ℕ) (part : CorePart)
    → slice_get (opening shape) number ≡ Some part → head_of (word_of part) ≡ 0

-- State and stamp of a sound part have their room in a word.
abbrev pub WordsHaveRoom : Type 0
WordsHaveRoom = (shape : Shape) (parts : Parts) (number : ℕ) (part : CorePart) → Sound shape parts
    → slice_get parts number ≡ Some part → head_of (word_of part) < 2 ^ 32

-- A lawful event leaves the word of each part, or turns it; exactly where it thaws the part it makes
-- a frozen word hot.
abbrev pub WordsTurn : Type 0
WordsTurn = (shape : Shape) (made : CoreEvent) (parts : Parts) (number : ℕ) (old new : CorePart)
    → IsShape shape → Sound shape parts → IsLawful shape made parts
    → slice_get parts number ≡ Some old → slice_get (effect shape parts made) number ≡ Some new
    → Turns (thawed_part shape made ≡ Some number) (head_of (word_of old)) (head_of (word_of new))

-- One that turns no word leaves it for every part.
abbrev pub WordsStay : Type 0
WordsStay = (shape : Shape) (made : CoreEvent) (parts : Parts) (number : ℕ) (old new : CorePart)
    → Sound shape parts → turns_words made ≡ false
    → slice_get parts number ≡ Some old → slice_get (effect shape parts made) number ≡ Some new
    → head_of (word_of new) ≡ head_of (word_of old)

-- The thaw of a block thaws the block's body.
abbrev pub ThawsItsBody : Type 0
ThawsItsBody = (shape : Shape) (table block number : ℕ)
    → slice_get (names shape) number ≡ Some (BodyOf table block)
    → thawed_part shape (event.Thaw table block) ≡ Some number

-- What the word of a block's body tells of its image: it is frozen exactly where the body is imaged,
-- with the stamp of its seal.
pub record TellsImage (shape : Shape) (parts : Parts) (table block : ℕ) (part : CorePart) : Type 0 where
  pub frozen : (is_imaged (body_at shape parts table block).phase ≡ true)
      ↔ IsFrozen (head_of (word_of part))
  pub stamp : (stamp : ℕ) → (body_at shape parts table block).phase ≡ Imaged stamp
      → head_of (word_of part) ≡ 3 * 2 ^ 30 + stamp

abbrev pub WordsTellImages : Type 0
WordsTellImages = (shape : Shape) (parts : Parts) (table block number : ℕ) (part : CorePart)
    → Sound shape parts → slice_get (names shape) number ≡ Some (BodyOf table block)
    → slice_get parts number ≡ Some part → TellsImage shape parts table block part
