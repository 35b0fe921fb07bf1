-- What gathering a block asks of a session's pass, and what it tells: the block's image is made of
-- the parts that the pass holds, and laid into the block by one event.
use Rattle.std.specs.Prelude.{◌≡◌, ℕ, List, [], ◌∷◌, Option, None, Some}
use Rattle.block_spec.specs.Slots.{Row}
use Rattle.event_spec.specs.declared.event.Event.TheVariants as event
use Rattle.event_spec.specs.declared.own.OwnTransaction.{OwnTransaction}
use Rattle.event_spec.specs.Effects.{CoreEvent}
use Rattle.event_spec.specs.Lawful.{HasBlock}
use Rattle.event_spec.specs.Parts.{Parts, Shape, body_at}
use Rattle.event_spec.specs.Replies.{CoreReply}
use Rattle.event_spec.specs.Touched.{touching}
use Rattle.hall_rule.specs.Hands.{Covers}
use Rattle.hall_steps.specs.Hall.{first_of}
use Rattle.run_spec.specs.Asked.{rows_sealed}
use Rattle.store_laws.specs.Laws.{SeesOn}
use Rattle.store_laws.specs.Logs.{log_of}
use Rattle.store_laws.specs.Own.{parts_after}
use Rattle.shared_store.specs.Making.{IsFew, Makes, MakesHeld}
use Rattle.shared_store.specs.Store.{HandsView, IsAt, IsWithin, SeatView, StoreView, TookPartsOf}
use Rattle.shared_store.specs.Store.{shape_in}

-- the event that lays an image, if there is one, into a block
abbrev pub imaging : ℕ → ℕ → Option (List Row) → CoreEvent
imaging table block image = event.Image table block image

-- A pass that holds the block's body may image it.
pub record MayImageHeld (store : StoreView) (seat : SeatView) (hands : HandsView) (table block : ℕ)
    : Type 0 where
  pub session : ℕ
  pub own : Option OwnTransaction
  pub within : IsWithin store session seat hands own
  pub has : HasBlock (shape_in store) table block
  pub covers : Covers (touching (shape_in store) (imaging table block None)) (first_of hands)
  pub few : IsFew seat.me.0

-- So may one that holds no part.
pub record MayImage (store : StoreView) (seat : SeatView) (hands : HandsView) (table block : ℕ)
    : Type 0 where
  pub session : ℕ
  pub own : Option OwnTransaction
  pub at' : IsAt store session seat hands own
  pub has : HasBlock (shape_in store) table block
  pub few : IsFew seat.me.0

-- The image is that of the block's rows where it is sealed, and none else.
abbrev pub IsImageThere : Shape → Parts → ℕ → ℕ → Option (List Row) → Type 0
IsImageThere shape parts table block image = image ≡ rows_sealed (body_at shape parts table block)

-- The event was made on the parts held, with the image of the block as it was before.
pub record ImagesHeld
    (store : StoreView) (session : ℕ) (old new : SeatView) (hands later : HandsView)
    (own : Option OwnTransaction) (table block : ℕ) (told : CoreReply)
    : Type 0 where
  pub image : Option (List Row)
  pub makes : MakesHeld store session old new hands later own (imaging table block image) told
  pub there : IsImageThere
      (shape_in store)
      (parts_after (shape_in store) makes.makes.before)
      table
      block
      image

-- There was no memory for the image: nothing happened.
pub record StaysHeld (old new : SeatView) (hands later : HandsView) : Type 0 where
  pub same_seat : new ≡ old
  pub same_hands : later ≡ hands

abbrev pub ImagedHeld
    : StoreView → ℕ → SeatView → SeatView → HandsView → HandsView → Option OwnTransaction → ℕ → ℕ
    → Option CoreReply → Type 0
ImagedHeld store session old new hands later own table block (Some told) =
    ImagesHeld store session old new hands later own table block told
ImagedHeld store session old new hands later own table block None = StaysHeld old new hands later

abbrev pub ImagesAnyHeld
    : StoreView → SeatView → HandsView → SeatView → HandsView → ℕ → ℕ → Option CoreReply → Type 0
ImagesAnyHeld store old hands new later table block told = (session : ℕ)
    (own : Option OwnTransaction)
    → IsWithin store session old hands own
    → ImagedHeld store session old new hands later own table block told

-- The session made the event, with the image of the block as it was before.
pub record Images
    (store : StoreView) (session : ℕ) (old new : SeatView) (later : HandsView)
    (own : Option OwnTransaction) (table block : ℕ) (told : CoreReply)
    : Type 0 where
  pub image : Option (List Row)
  pub makes : Makes store session old new later own (imaging table block image) told
  pub there : IsImageThere
      (shape_in store)
      (parts_after (shape_in store) makes.makes.before)
      table
      block
      image

-- It made no event, for want of memory, and took the event's parts alone.
pub record MakesNone
    (store : StoreView) (session : ℕ) (old new : SeatView) (later : HandsView)
    (own : Option OwnTransaction) (table block : ℕ)
    : Type 0 where
  pub stands : IsAt store session new later own
  pub sees : SeesOn (shape_in store) session old.me.0 new.me.0 own
  pub mine : new.me.0.mine ≡ old.me.0.mine
  pub took : TookPartsOf
      (shape_in store)
      (imaging table block None ∷ [])
      (log_of old.me.0.log)
      (log_of new.me.0.log)
      old.me.0.taken
      new.me.0.taken

abbrev pub Imaged
    : StoreView → ℕ → SeatView → SeatView → HandsView → Option OwnTransaction → ℕ → ℕ
    → Option CoreReply → Type 0
Imaged store session old new later own table block (Some told) =
    Images store session old new later own table block told
Imaged store session old new later own table block None =
    MakesNone store session old new later own table block

abbrev pub ImagesAny
    : StoreView → SeatView → HandsView → SeatView → HandsView → ℕ → ℕ → Option CoreReply → Type 0
ImagesAny store old hands new later table block told = (session : ℕ) (own : Option OwnTransaction)
    → IsAt store session old hands own → Imaged store session old new later own table block told
