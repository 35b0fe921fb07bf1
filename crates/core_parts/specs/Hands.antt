-- Parts in a hand, by name, and what an event makes of them.
use Rattle.std.specs.Prelude.{◌≡◌, List, [], ◌∷◌, Option, None, Some, if◌then◌else◌}
use Rattle.event_spec.specs.Effects.{CoreEvent, changes_of}
use Rattle.event_spec.specs.Lawful.{IsLawful}
use Rattle.event_spec.specs.Parts.{Changes, CorePart, Parts, Shape, Name, changed, held_named}
use Rattle.event_spec.specs.Parts.{names, same_name}
use Rattle.event_spec.specs.Replies.{CoreReply, reply_to}
use Rattle.event_spec.specs.Sound.{IsOfKind}
use Rattle.event_spec.specs.Touched.{touching}
use Rattle.core_laws.specs.Frames.Shards.{CoreHolds}
use Rattle.hall_rule.specs.Hands.{Agrees, Covers}

-- a place for each part, in which the part lies or not
abbrev pub Held : Type 0
Held = List (Option CorePart)

-- the part of a name, if it is in the hand
abbrev pub in_hand : Shape → Held → Name → Option CorePart
in_hand shape hand name = held_named (names shape) hand name

-- The part of a name is in the hand.
abbrev pub Has : Shape → Held → Name → Type 0
Has shape hand name = IsOfKind name (in_hand shape hand name)

-- the hand with something in the place of a name
abbrev pub laid_at : List Name → Name → Option CorePart → Held → Held
laid_at [] name new hand = hand
laid_at (n ∷ ns) name new [] = []
laid_at (n ∷ ns) name new (place ∷ hand) = if same_name n name then new ∷ hand
    else place ∷ laid_at ns name new hand

abbrev pub laid : Shape → Name → Option CorePart → Held → Held
laid shape name new hand = laid_at (names shape) name new hand

-- a place after changes: what lies there is changed by its name
abbrev pub place_changed : Changes → Name → Option CorePart → Option CorePart
place_changed changes name None = None
place_changed changes name (Some held) = Some (changed changes name held)

abbrev pub hand_changed : Changes → List Name → Held → Held
hand_changed changes [] hand = hand
hand_changed changes (n ∷ ns) [] = []
hand_changed changes (n ∷ ns) (place ∷ hand) = place_changed changes n place ∷ hand_changed changes
    ns hand

-- the hand after changes of the parts in it
abbrev pub after : Shape → Changes → Held → Held
after shape changes hand = hand_changed changes (names shape) hand

-- An event may run on a hand: the hand has each part that it touches, and these parts are those of
-- a core that holds and in which the event is lawful.
pub record MayRun (shape : Shape) (event : CoreEvent) (hand : Held) : Type 0 where
  pub covers : Covers (touching shape event) hand
  pub parts : Parts
  pub holds : CoreHolds shape parts
  pub agrees : Agrees hand parts
  pub lawful : IsLawful shape event parts

-- What an event makes of a hand and what it replies are the same for every core that holds, has
-- these parts and in which the event is lawful: the core's own.
abbrev pub Makes : Shape → CoreEvent → Held → Held → CoreReply → Type 0
Makes shape event old new said = (parts : Parts) → CoreHolds shape parts → Agrees old parts
    → IsLawful shape event parts
    → (new ≡ after shape (changes_of shape parts event) old) × (said ≡ reply_to shape parts event)
