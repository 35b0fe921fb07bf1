-- What an event asks besides its parts, and what lasts.
use Rattle.std.specs.Prelude.{◌≡◌, ◌≢◌, ℕ, None, Some}
use Rattle.event_spec.specs.Effects.{CoreEvent, effect}
use Rattle.event_spec.specs.Lawful.{IsLawful, IsOldest, Stands, Teaches, session_of, transaction}
use Rattle.event_spec.specs.Parts.{Parts, Shape}
use Rattle.event_spec.specs.Replay.{opening}
use Rattle.event_spec.specs.Replies.{reply_to}
use Rattle.event_spec.specs.Sound.{IsShape, Sound}

-- No session has a transaction in the opening core.
abbrev pub Rests : Type 0
Rests = (shape : Shape) (session : ℕ) → IsShape shape → transaction shape (opening shape) session
    ≡ None

-- What an event asks of its session and of lasting facts depends on its session's transaction and
-- on these alone.
abbrev pub Depends : Type 0
Depends = (shape : Shape) (event : CoreEvent) (parts others : Parts)
    → ((session : ℕ) → session_of event ≡ Some session → transaction shape others session
    ≡ transaction shape parts session)
    → ((oldest : ℕ) → IsOldest shape oldest parts → IsOldest shape oldest others)
    → Stands shape event parts → Stands shape event others

-- A stamp that no live snapshot is below stays one after each lawful event.
abbrev pub Outlives : Type 0
Outlives = (shape : Shape) (event : CoreEvent) (oldest : ℕ) (parts : Parts) → Sound shape parts
    → IsLawful shape event parts
    → IsOldest shape oldest parts → IsOldest shape oldest (effect shape parts event)

-- The reply to an `oldest` is one.
abbrev pub Learns : Type 0
Learns = (shape : Shape) (event : CoreEvent) (oldest : ℕ) (parts : Parts)
    → Teaches event (reply_to shape parts event) oldest
    → IsOldest shape oldest (effect shape parts event)

-- A lawful event leaves the transaction of every session but its own.
abbrev pub Leaves : Type 0
Leaves = (shape : Shape) (event : CoreEvent) (parts : Parts) (session : ℕ) → IsShape shape
    → Sound shape parts
    → IsLawful shape event parts → session_of event ≢ Some session
    → transaction shape (effect shape parts event) session ≡ transaction shape parts session
