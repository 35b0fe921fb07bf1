-- Taking the parts of a commit or a range, which are marked before they are taken.
use Rattle.std.specs.Prelude.{◌≡◌, ⊤, ℕ, ◌<◌, ◌≤◌, Bool, true, false, ◌||◌, List, Option, Some}
use Rattle.std.specs.Prelude.{length, slice_get, unwrap_or, slice_set}
use Rattle.std.specs.List.{list_any}
use Rattle.event_spec.specs.declared.event.Event.TheVariants as event
use Rattle.event_spec.specs.Effects.{CoreEvent}
use Rattle.event_spec.specs.Parts.{CorePart, Name, Shape, names, same_name}
use Rattle.event_spec.specs.Touched.{passes_test, touching}
use Rattle.hall_rule.specs.Hands.{Holds}
use Rattle.hall_rule.specs.declared.view.View.{View}
use Rattle.hall_steps.specs.Hall.{IsPass, IsSameSeat, SeesMore, TookParts, first_of}
use Rattle.store_laws.specs.Logs.{store_meaning}
use Rattle.shared_store.specs.Store.{HandsView, SeatView, StoreView, shape_in}

-- The parts of a commit and of a range are marked, since there may be many.
abbrev pub IsMarked : CoreEvent → Type 0
IsMarked (event.Begin session) = ⊥
IsMarked (event.Get own table key) = ⊥
IsMarked (event.Insert own table row) = ⊥
IsMarked (event.Update own table row) = ⊥
IsMarked (event.Delete own table key) = ⊥
IsMarked (event.Read own table block) = ⊥
IsMarked (event.Range own table low high) = ⊤
IsMarked (event.Commit own reads) = ⊤
IsMarked (event.Abort own) = ⊥
IsMarked event.Oldest = ⊥
IsMarked (event.Observe table block) = ⊥
IsMarked (event.Prune table block oldest) = ⊥
IsMarked (event.Look table block) = ⊥
IsMarked (event.Move table moves) = ⊥
IsMarked (event.Seal table block) = ⊥
IsMarked (event.Image table block image) = ⊥
IsMarked (event.Thaw table block) = ⊥

-- whether the part of a number has one of these names
abbrev pub has_one : Shape → List Name → ℕ → Bool
has_one shape ws k = list_any (λ w. passes_test (same_name w) (slice_get (names shape) k)) ws

abbrev pub is_marked : List Bool → ℕ → Bool
is_marked marks k = unwrap_or (slice_get marks k) false

-- The parts of these names are marked besides those that were.
pub record Marked (shape : Shape) (ws : List Name) (old new : List Bool) : Type 0 where
  pub room : length new ≡ length old
  pub marks : (k : ℕ) → k < length old → is_marked new k ≡ (is_marked old k || has_one shape ws k)

-- From one number on and below another the marked parts are those that an event touches.
abbrev pub Tells
    : Shape → CoreEvent → List Bool → ℕ → ℕ → List (Option CorePart) → Type 0
Tells shape event marks from to hand = (k : ℕ) → from ≤ k → k < to
    → is_marked marks k ≡ touching shape event hand k

-- Which of these parts an event touches is told alike when one of them was taken.
abbrev pub StaysTold : Shape → CoreEvent → ℕ → ℕ → Type 0
StaysTold shape event from to = (hand : List (Option CorePart)) (n : ℕ) (p : CorePart) (k : ℕ)
    → from ≤ n → n < to → from ≤ k → k < to
    → touching shape event (slice_set hand n (Some p)) k ≡ touching shape event hand k

-- Of the parts below a number those in the hand are those that the event touches, and no other part
-- is in it.
pub record IsTaken (shape : Shape) (event : CoreEvent) (from : ℕ) (hand : List (Option CorePart))
    : Type 0 where
  pub below : (k : ℕ) → Holds hand k → k < from
  pub only : (k : ℕ) → Holds hand k → touching shape event hand k ≡ true
  pub covered : (k : ℕ) → k < from → touching shape event hand k ≡ true → Holds hand k

-- The marked parts from `from` on and below `at'` were taken: those that an event touches where the
-- marks tell of those from `from` on and below `to`.
pub record TakesMarked
    (store : StoreView) (old new : SeatView) (hands later : HandsView) (marks : List Bool)
    (from at' to : ℕ)
    : Type 0 where
  pub pass : IsPass (store_meaning (shape_in store)) store.id new later
  pub same : IsSameSeat old new
  pub below : (k : ℕ) → Holds (first_of later) k → k < at'
  pub sees : (v : View CoreEvent) → SeesMore (store_meaning (shape_in store)) v old.me.0
      → SeesMore (store_meaning (shape_in store)) v new.me.0
  pub took : (v : View CoreEvent) → TookParts (first_of hands) v old.me.0
      → TookParts (first_of later) v new.me.0
  pub taken : (event : CoreEvent) → StaysTold (shape_in store) event from to
      → Tells (shape_in store) event marks from to (first_of hands)
      → IsTaken (shape_in store) event from (first_of hands)
      → Tells (shape_in store) event marks at' to (first_of later)
      × IsTaken (shape_in store) event at' (first_of later)
