-- What an event makes of a hand, or that it found no memory.
use Rattle.std.specs.Prelude.{◌≡◌, true, MatchBool}
use Rattle.core_parts.specs.Hands.{Held, Makes}
use Rattle.engine_core.specs.Core.{is_memory}
use Rattle.event_spec.specs.Effects.{CoreEvent}
use Rattle.event_spec.specs.Lawful.{takes_memory}
use Rattle.event_spec.specs.Parts.{Shape}
use Rattle.event_spec.specs.Replies.{CoreReply}

-- Where memory is refused the hand stays as it was, and the event is one that takes memory. Else
-- the hand and the reply are the event's.
abbrev pub Runs : Shape → CoreEvent → Held → Held → CoreReply → Type 0
Runs shape event old new said =
    MatchBool (is_memory said) ((new ≡ old) × (takes_memory event ≡ true))
    (Makes shape event old new said)
