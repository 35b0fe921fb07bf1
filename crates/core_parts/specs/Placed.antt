-- The places of a hand before the first event.
use Rattle.std.specs.Prelude.{List, Some, map}
use Rattle.core_parts.specs.Hands.{Held}
use Rattle.event_spec.specs.Parts.{Name, Shape}
use Rattle.event_spec.specs.Replay.{opening_part}

-- the places of the parts of these names
abbrev pub placed : Shape → List Name → Held
placed shape named = map (λ name. Some (opening_part shape name)) named
