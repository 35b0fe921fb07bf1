-- What a pass that holds no part takes and gives back for an event that touches the body of a block
-- alone.
use Rattle.std.specs.Prelude.{◌≡◌, ℕ, false, List, Option}
use Rattle.event_spec.specs.Effects.{CoreEvent}
use Rattle.event_spec.specs.Parts.{CorePart, Shape}
use Rattle.hall_rule.specs.Hands.{Holds}
use Rattle.shared_store.specs.Keeping.{IsOnBlock}
use Rattle.shared_store.specs.Making.{TakesAny}
use Rattle.shared_store.specs.Store.{HandsView, SeatView, StoreView, shape_in}

-- Whatever is held, the event touches the body of this block and no other part.
abbrev pub IsOnBody : Shape → ℕ → ℕ → CoreEvent → Type 0
IsOnBody shape table block event = IsOnBlock shape (λ name. false) table block event

-- The part is in the hand, and no other.
pub record HoldsAlone (hand : List (Option CorePart)) (part : ℕ) : Type 0 where
  pub holds : Holds hand part
  pub only : (k : ℕ) → Holds hand k → k ≡ part

-- A pass that held no part took the body of this block: the parts of any event on it alone.
abbrev pub TakesBody : StoreView → SeatView → HandsView → SeatView → HandsView → ℕ → ℕ → Type 0
TakesBody store old hands new later table block = (event : CoreEvent)
    → IsOnBody (shape_in store) table block event → TakesAny store old hands new later event
