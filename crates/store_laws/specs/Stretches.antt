-- What one made from a log to a later one, with one's lends at their points.
use Rattle.std.specs.Prelude.{◌≡◌, ℕ, Bool, true, false, not, List, [], ◌++◌}
use Rattle.std.specs.List.{list_all}
use Rattle.event_spec.specs.declared.event.Event.TheVariants as event
use Rattle.event_spec.specs.Effects.{CoreEvent}
use Rattle.event_spec.specs.Parts.{Shape}
use Rattle.run_spec.specs.Handed.{GoesOn, Stretch, own_in}
use Rattle.run_spec.specs.Occurrences.{Logged, Occurrence}
use Rattle.run_spec.specs.Opened.{own_after}
use Rattle.run_spec.specs.Told.{is_shared}

-- whether an event reads a block
abbrev pub reads_block : CoreEvent → Bool
reads_block (event.Begin session) = false
reads_block (event.Get own table key) = false
reads_block (event.Insert own table row) = false
reads_block (event.Update own table row) = false
reads_block (event.Delete own table key) = false
reads_block (event.Read own table block) = true
reads_block (event.Range own table low high) = false
reads_block (event.Commit own reads) = false
reads_block (event.Abort own) = false
reads_block event.Oldest = false
reads_block (event.Observe table block) = false
reads_block (event.Prune table block oldest) = false
reads_block (event.Look table block) = false
reads_block (event.Move table moves) = false
reads_block (event.Seal table block) = false
reads_block (event.Image table block image) = false
reads_block (event.Thaw table block) = false

-- It was an event: of an image a lend alone tells.
abbrev pub is_event : Occurrence → Bool
is_event occurrence = not (is_shared occurrence.reply)

-- The events that one has more in a later log are a stretch, where none tells an image.
abbrev pub EventsAreAStretch : Type 0
EventsAreAStretch = (shape : Shape) (session : ℕ) (old new : List Logged) (made : List Occurrence)
    → GoesOn old new
    → own_in shape session new ≡ own_in shape session old ++ made
    → list_all is_event made ≡ true
    → Stretch shape session old new made

-- One who has no more in a later log made nothing, whatever the others did.
abbrev pub NothingIsAStretch : Type 0
NothingIsAStretch = (shape : Shape) (session : ℕ) (old new : List Logged)
    → GoesOn old new
    → own_in shape session new ≡ own_in shape session old
    → Stretch shape session old new []

-- Stretches one behind the other are one.
abbrev pub StretchesJoin : Type 0
StretchesJoin = (shape : Shape) (session : ℕ) (old mid new : List Logged)
    (made more : List Occurrence)
    → Stretch shape session old mid made
    → Stretch shape session mid new more
    → Stretch shape session old new (made ++ more)

-- Behind a stretch one has open what its events tell: a lend opens and ends nothing.
abbrev pub StretchesLeaveOpen : Type 0
StretchesLeaveOpen = (shape : Shape) (session : ℕ) (old new : List Logged)
    (made : List Occurrence)
    → Stretch shape session old new made
    → own_after (own_in shape session new) ≡ own_after (own_in shape session old ++ made)
