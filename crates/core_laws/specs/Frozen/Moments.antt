-- Sealed and imaged blocks from moment to moment of a log.
use Rattle.std.specs.Prelude.{◌≡◌, ℕ, ◌<◌, false, List, ◌∷◌, ◌++◌, Option, Some, fold}
use Rattle.block_spec.specs.Bodies.{rows_of}
use Rattle.block_spec.specs.declared.phase.Phase.TheVariants.{Imaged}
use Rattle.core_laws.specs.Frozen.Laws.{StaysAsItWas, stamp_of}
use Rattle.event_spec.specs.declared.event.Event.TheVariants as event
use Rattle.event_spec.specs.declared.own.OwnTransaction.{OwnTransaction}
use Rattle.event_spec.specs.declared.reply.Reply.TheVariants as reply
use Rattle.event_spec.specs.Lawful.{HasBlock, OwnsAll}
use Rattle.event_spec.specs.Parts.{Parts, Shape, body_at}
use Rattle.event_spec.specs.Replay.{IsLawfulFrom, Made, after}
use Rattle.event_spec.specs.Replies.{reply_to, rows_read}
use Rattle.event_spec.specs.Sound.{IsShape, Sound}

-- the parts that a log of events leaves of others
abbrev pub parts_behind : Shape → Parts → List Made → Parts
parts_behind shape parts log = fold (after shape) parts log

-- the stamp of a block's seal, while the block is sealed or imaged
abbrev pub stamp_in : Shape → Parts → ℕ → ℕ → Option ℕ
stamp_in shape parts table block = stamp_of (body_at shape parts table block).phase

-- The moments at which a block is frozen with one stamp follow one another: between two of them it
-- is frozen with it at each, and its slots stay.
abbrev pub StampsStandTogether : Type 0
StampsStandTogether = (shape : Shape) (parts : Parts) (middle back : List Made)
    (table block stamp : ℕ)
    → IsShape shape → Sound shape parts → IsLawfulFrom shape parts (middle ++ back)
    → HasBlock shape table block
    → stamp_in shape parts table block ≡ Some stamp
    → stamp_in shape (parts_behind shape parts (middle ++ back)) table block ≡ Some stamp
    → StaysAsItWas shape parts (parts_behind shape parts middle) table block

-- a seal of a block, which takes no memory
abbrev pub sealing : ℕ → ℕ → Made
sealing table block = record { event = event.Seal table block; refused = false }

-- Of two seals of a block in one log that are granted the later has the greater stamp.
abbrev pub SealsRise : Type 0
SealsRise = (shape : Shape) (parts : Parts) (middle : List Made) (table block stamp later : ℕ)
    → IsShape shape → Sound shape parts
    → IsLawfulFrom shape parts (sealing table block ∷ middle) → HasBlock shape table block
    → reply_to shape parts (event.Seal table block) ≡ reply.Sealed stamp
    → reply_to shape (parts_behind shape parts (sealing table block ∷ middle))
    (event.Seal table block) ≡ reply.Sealed later
    → stamp < later

-- The block is imaged with the stamp, and has the columns and the rows that it had in other parts,
-- so that its image is the same. Whatever transaction is open sees just these rows in it.
pub record IsStillImaged (shape : Shape) (parts now : Parts) (table block stamp : ℕ) : Type 0 where
  pub imaged : (body_at shape now table block).phase ≡ Imaged stamp
  pub columns : (body_at shape now table block).columns ≡ (body_at shape parts table block).columns
  pub rows : rows_of (body_at shape now table block) ≡ rows_of (body_at shape parts table block)
  pub seen : (own : OwnTransaction) → OwnsAll shape own now
      → rows_read shape now own table block ≡ rows_of (body_at shape parts table block)

-- Between two moments at which a block is imaged with one stamp its image stays.
abbrev pub ImagedRowsStay : Type 0
ImagedRowsStay = (shape : Shape) (parts : Parts) (middle back : List Made) (table block stamp : ℕ)
    → IsShape shape → Sound shape parts → IsLawfulFrom shape parts (middle ++ back)
    → HasBlock shape table block
    → (body_at shape parts table block).phase ≡ Imaged stamp
    → (body_at shape (parts_behind shape parts (middle ++ back)) table block).phase ≡ Imaged stamp
    → IsStillImaged shape parts (parts_behind shape parts middle) table block stamp
