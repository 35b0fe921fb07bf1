-- Of which parts an event makes what it makes.
use Rattle.std.specs.Prelude.{◌≡◌, ℕ, ◌<◌, List, Option, slice_get}
use Rattle.event_spec.specs.Effects.{CoreEvent, effect}
use Rattle.event_spec.specs.Lawful.{FitsIn, IsLawful}
use Rattle.event_spec.specs.Parts.{CorePart, Parts, Shape}
use Rattle.event_spec.specs.Replay.{opening}
use Rattle.event_spec.specs.Replies.{reply_to}
use Rattle.event_spec.specs.Sound.{IsShape, Sound}
use Rattle.event_spec.specs.Touched.{touching}
use Rattle.core_laws.specs.Frames.Shards.{CoreHolds, ShardsHold}
use Rattle.hall_rule.specs.Hands.{Agrees, Covers, Holds, OnlyHeld}

-- Whether an event touches a part the parts before it tell.
abbrev pub Ascends : Type 0
Ascends = (shape : Shape) (event : CoreEvent) (one other : List (Option CorePart)) (part : ℕ)
    → ((before : ℕ) → before < part → slice_get one before ≡ slice_get other before)
    → touching shape event one part ≡ touching shape event other part

-- A lawful event changes only parts in a hand that has each part that it touches.
abbrev pub Frame : Type 0
Frame = (shape : Shape) (event : CoreEvent) (hand : List (Option CorePart)) (parts : Parts)
    → IsShape shape → Sound shape parts → ShardsHold shape parts
    → Covers (touching shape event) hand → Agrees hand parts → IsLawful shape event parts
    → OnlyHeld hand parts (effect shape parts event)

-- What an event asks of its parts depends on those that it touches alone.
abbrev pub Local : Type 0
Local = (shape : Shape) (event : CoreEvent) (hand : List (Option CorePart)) (parts others : Parts)
    → Covers (touching shape event) hand → Agrees hand parts → Agrees hand others
    → FitsIn shape event parts → FitsIn shape event others

-- What an event replies depends on the parts that it touches alone.
abbrev pub Replies : Type 0
Replies = (shape : Shape) (event : CoreEvent) (hand : List (Option CorePart)) (parts others : Parts)
    → IsShape shape → Sound shape parts → FitsIn shape event parts
    → Agrees hand parts → Agrees hand others → Covers (touching shape event) hand
    → reply_to shape others event ≡ reply_to shape parts event

-- And so does what it makes of each part in the hand.
abbrev pub Makes : Type 0
Makes = (shape : Shape) (event : CoreEvent) (hand : List (Option CorePart)) (parts others : Parts)
    → IsShape shape → Sound shape parts → Sound shape others
    → ShardsHold shape parts
    → IsLawful shape event parts → IsLawful shape event others
    → Agrees hand parts → Agrees hand others → Covers (touching shape event) hand
    → (part : ℕ) → Holds hand part
    → slice_get (effect shape others event) part ≡ slice_get (effect shape parts event) part

-- In the opening core each shard has entries of its own keys alone, and no empty one.
abbrev pub ShardsOpen : Type 0
ShardsOpen = (shape : Shape) → ShardsHold shape (opening shape)

-- And so it has after every event.
abbrev pub ShardsKept : Type 0
ShardsKept = (shape : Shape) (event : CoreEvent) (parts : Parts)
    → ShardsHold shape parts → ShardsHold shape (effect shape parts event)

-- The opening core holds, and every lawful event leaves one that holds.
abbrev pub CoreOpens : Type 0
CoreOpens = (shape : Shape) → IsShape shape → CoreHolds shape (opening shape)

abbrev pub CoreKept : Type 0
CoreKept = (shape : Shape) (event : CoreEvent) (parts : Parts)
    → CoreHolds shape parts → IsLawful shape event parts
    → CoreHolds shape (effect shape parts event)
