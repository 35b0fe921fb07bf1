-- What the word of a part follows, and which part an event thaws.
use Rattle.std.specs.Prelude.{ℕ, ◌+◌, Bool, true, false, List, [], ◌∷◌, Option, None, Some, option_map}
use Rattle.std.specs.Prelude.{if◌then◌else◌}
use Rattle.block_spec.specs.declared.phase.Phase.{Phase}
use Rattle.block_spec.specs.declared.phase.Phase.TheVariants.{Loose, Sealed, Imaged}
use Rattle.event_spec.specs.declared.event.Event.TheVariants as event
use Rattle.event_spec.specs.declared.part.Part.TheVariants as part
use Rattle.event_spec.specs.Effects.{CoreEvent}
use Rattle.event_spec.specs.Parts.{CorePart, Shape, Name, BodyOf, names, same_name}
use Rattle.hall_rule.specs.declared.head.Head.{Head}

-- The state of a block's word, by its phase and whether it is cooling: hot or cooling while the body
-- is loose, freezing while it is sealed, and frozen while it is imaged.
abbrev pub state_of : Phase → Bool → ℕ
state_of Loose false = 0
state_of Loose true = 1
state_of (Sealed stamp) cooling = 2
state_of (Imaged stamp) cooling = 3

-- The state and the stamp that the word of a part follows: those of a body, and none of any other
-- part.
abbrev pub word_of : CorePart → Option Head
word_of (part.Head head) = None
word_of (part.Shard places) = None
word_of (part.Body body) = Some
    (record { state = state_of body.phase body.cooling; stamp = body.last })
word_of (part.Desk desk) = None

-- the place of a name among names, if it stands there
abbrev pub number_among : List Name → Name → Option ℕ
number_among [] name = None
number_among (n ∷ ns) name = if same_name n name then Some 0
    else option_map (λ k. k + 1) (number_among ns name)

-- The number of the part that an event thaws, if it thaws one.
abbrev pub thawed_part : Shape → CoreEvent → Option ℕ
thawed_part shape (event.Begin session) = None
thawed_part shape (event.Get own table key) = None
thawed_part shape (event.Insert own table row) = None
thawed_part shape (event.Update own table row) = None
thawed_part shape (event.Delete own table key) = None
thawed_part shape (event.Read own table block) = None
thawed_part shape (event.Range own table low high) = None
thawed_part shape (event.Commit own reads) = None
thawed_part shape (event.Abort own) = None
thawed_part shape event.Oldest = None
thawed_part shape (event.Observe table block) = None
thawed_part shape (event.Prune table block oldest) = None
thawed_part shape (event.Look table block) = None
thawed_part shape (event.Move table moves) = None
thawed_part shape (event.Seal table block) = None
thawed_part shape (event.Image table block image) = None
thawed_part shape (event.Thaw table block) = number_among (names shape) (BodyOf table block)

-- Whether an event may turn the word of a part.
abbrev pub turns_words : CoreEvent → Bool
turns_words (event.Begin session) = false
turns_words (event.Get own table key) = false
turns_words (event.Insert own table row) = true
turns_words (event.Update own table row) = true
turns_words (event.Delete own table key) = true
turns_words (event.Read own table block) = false
turns_words (event.Range own table low high) = false
turns_words (event.Commit own reads) = false
turns_words (event.Abort own) = true
turns_words event.Oldest = false
turns_words (event.Observe table block) = true
turns_words (event.Prune table block oldest) = false
turns_words (event.Look table block) = false
turns_words (event.Move table moves) = true
turns_words (event.Seal table block) = true
turns_words (event.Image table block image) = true
turns_words (event.Thaw table block) = true
