-- A block's stamps, by the replies to seals and images.
use Rattle.std.specs.Prelude.{◌≡◌, ◌⊎◌, ℕ, ◌+◌, ◌≤◌, ◌==◌, ◌&&◌, true, false, List, Option}
use Rattle.std.specs.Prelude.{if◌then◌else◌}
use Rattle.block_spec.specs.Bodies.{Body, is_loose, is_sealed}
use Rattle.block_spec.specs.Slots.{Row}
use Rattle.event_spec.specs.declared.event.Event.TheVariants as event
use Rattle.event_spec.specs.declared.reply.Reply.TheVariants as reply
use Rattle.event_spec.specs.Effects.{CoreEvent}
use Rattle.event_spec.specs.Lawful.{HasBlock, IsLawful}
use Rattle.event_spec.specs.Parts.{Parts, Shape, body_at, slots_of}
use Rattle.event_spec.specs.Replay.{Made, after, opening, reply_after}
use Rattle.event_spec.specs.Replies.{CoreReply, reply_to}
use Rattle.event_spec.specs.Sound.{IsShape, Sound}

-- 1 while the body is sealed, and not imaged
abbrev pub sealed_now : Body → ℕ
sealed_now body = if is_sealed body.phase then 1 else 0

abbrev pub seals_told : CoreReply → ℕ
seals_told (reply.Sealed stamp) = 1
seals_told _ = 0

abbrev pub images_told : CoreReply → ℕ
images_told (reply.Imaged rows) = 1
images_told _ = 0

-- 1 for a seal of this block that was granted
abbrev pub sealed_by : ℕ → ℕ → CoreEvent → CoreReply → ℕ
sealed_by table block (event.Begin session) told = 0
sealed_by table block (event.Get own at key) told = 0
sealed_by table block (event.Insert own at row) told = 0
sealed_by table block (event.Update own at row) told = 0
sealed_by table block (event.Delete own at key) told = 0
sealed_by table block (event.Read own at of) told = 0
sealed_by table block (event.Range own at low high) told = 0
sealed_by table block (event.Commit own reads) told = 0
sealed_by table block (event.Abort own) told = 0
sealed_by table block event.Oldest told = 0
sealed_by table block (event.Observe at of) told = 0
sealed_by table block (event.Prune at of oldest) told = 0
sealed_by table block (event.Look at of) told = 0
sealed_by table block (event.Move at moves) told = 0
sealed_by table block (event.Seal at of) told =
    if (table == at) && (block == of) then seals_told told else 0
sealed_by table block (event.Image at of image) told = 0
sealed_by table block (event.Thaw at of) told = 0

-- 1 for an image of this block that was granted
abbrev pub imaged_by : ℕ → ℕ → CoreEvent → CoreReply → ℕ
imaged_by table block (event.Begin session) told = 0
imaged_by table block (event.Get own at key) told = 0
imaged_by table block (event.Insert own at row) told = 0
imaged_by table block (event.Update own at row) told = 0
imaged_by table block (event.Delete own at key) told = 0
imaged_by table block (event.Read own at of) told = 0
imaged_by table block (event.Range own at low high) told = 0
imaged_by table block (event.Commit own reads) told = 0
imaged_by table block (event.Abort own) told = 0
imaged_by table block event.Oldest told = 0
imaged_by table block (event.Observe at of) told = 0
imaged_by table block (event.Prune at of oldest) told = 0
imaged_by table block (event.Look at of) told = 0
imaged_by table block (event.Move at moves) told = 0
imaged_by table block (event.Seal at of) told = 0
imaged_by table block (event.Image at of image) told =
    if (table == at) && (block == of) then images_told told else 0
imaged_by table block (event.Thaw at of) told = 0

-- In the opening core no block has a stamp.
abbrev pub OpensLoose : Type 0
OpensLoose = (shape : Shape) (table block : ℕ) → IsShape shape → HasBlock shape table block
    → ((body_at shape (opening shape) table block).last ≡ 0)
    × (sealed_now (body_at shape (opening shape) table block) ≡ 0)
    × (is_loose (body_at shape (opening shape) table block).phase ≡ true)

-- An event moves a block's last stamp on by its seals, and a seal or an image begins or ends that
-- it is
-- sealed.
pub record CountsStamps (shape : Shape) (parts : Parts) (made : Made) (table block : ℕ)
    : Type 0 where
  pub last : (body_at shape (after shape parts made) table block).last
      ≡ (body_at shape parts table block).last
      + sealed_by table block made.event (reply_after shape parts made)
  pub phase : sealed_now (body_at shape (after shape parts made) table block)
      + imaged_by table block made.event (reply_after shape parts made)
      ≡ sealed_now (body_at shape parts table block)
      + sealed_by table block made.event (reply_after shape parts made)
  -- it is sealed or imaged only behind a seal
  pub frozen : is_loose (body_at shape (after shape parts made) table block).phase ≡ false
      → (is_loose (body_at shape parts table block).phase ≡ false)
      ⊎ (1 ≤ (body_at shape (after shape parts made) table block).last)

abbrev pub StampsAreCounted : Type 0
StampsAreCounted = (shape : Shape) (parts : Parts) (made : Made) (table block : ℕ)
    → IsShape shape → Sound shape parts → IsLawful shape made.event parts
    → HasBlock shape table block
    → CountsStamps shape parts made table block

-- A seal that is granted has the next stamp, and its block was not sealed.
abbrev pub SealsAreTold : Type 0
SealsAreTold = (shape : Shape) (parts : Parts) (table block stamp : ℕ)
    → reply_to shape parts (event.Seal table block) ≡ reply.Sealed stamp
    → (stamp ≡ (body_at shape parts table block).last + 1)
    × (sealed_now (body_at shape parts table block) ≡ 0)

-- An image is granted where the block is sealed, and is of 1 to as many rows as it has slots.
pub record TellsImages (shape : Shape) (parts : Parts) (table block : ℕ) (image : Option (List Row))
    : Type 0 where
  pub granted : (rows : ℕ)
      → reply_to shape parts (event.Image table block image) ≡ reply.Imaged rows
      → (sealed_now (body_at shape parts table block) ≡ 1)
      × (1 ≤ rows)
      × (rows ≤ slots_of shape table)
  pub none : reply_to shape parts (event.Image table block image) ≡ reply.NoSeal
      → sealed_now (body_at shape parts table block) ≡ 0

abbrev pub ImagesAreTold : Type 0
ImagesAreTold = (shape : Shape) (parts : Parts) (table block : ℕ) (image : Option (List Row))
    → Sound shape parts → HasBlock shape table block
    → TellsImages shape parts table block image
