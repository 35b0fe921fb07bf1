-- What a lawful event keeps.
use Rattle.event_spec.specs.Effects.{CoreEvent, effect}
use Rattle.event_spec.specs.Lawful.{IsLawful}
use Rattle.event_spec.specs.Parts.{Parts, Shape}
use Rattle.event_spec.specs.Sound.{Sound, IsShape}

-- A lawful event keeps the invariant.
abbrev pub Keeps : Type 0
Keeps = (shape : Shape) (parts : Parts) (event : CoreEvent) → IsShape shape → Sound shape parts
    → IsLawful shape event parts
    → Sound shape (effect shape parts event)
