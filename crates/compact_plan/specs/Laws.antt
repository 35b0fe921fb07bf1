-- What is planned over looks at blocks of a table.
use Rattle.std.specs.Prelude.{◌≡◌, ℕ, ◌<◌, ◌≤◌, ◌^◌, List, All, AllPairs, length, map}
use Rattle.block_spec.specs.Bodies.{Body}
use Rattle.block_spec.specs.Looks.{looked}
use Rattle.event_spec.specs.declared.event.MovePair.{MovePair}
use Rattle.event_spec.specs.Lawful.{HasPlace, HasTable, NoPlaceTwice}
use Rattle.event_spec.specs.Parts.{Shape, blocks_of, slots_of}
use Rattle.event_spec.specs.Plans.{BlockLook, plan_of}
use Rattle.compact_plan.specs.Looks.{HasPlaces}

-- A look at a block of the table: its block is one of the table's, and it is that at some body with
-- the table's slots.
pub record IsLookAt (shape : Shape) (table : ℕ) (seen : BlockLook) : Type 0 where
  pub block : seen.block < blocks_of shape table
  pub body : Body
  pub look : seen.look ≡ looked body
  pub slots : length body.slots ≡ slots_of shape table

abbrev pub AreAscending : List BlockLook → Type 0
AreAscending looks = AllPairs (λ one other. one < other)
    (map (λ (seen : BlockLook). seen.block) looks)

-- What an event asks of the pairs that it moves: each leaves a slot of the table and comes to one,
-- and no slot stands in them twice. And they are at most 64.
pub record IsFitting (shape : Shape) (table : ℕ) (moves : List MovePair) : Type 0 where
  pub places : All (λ (pair : MovePair). HasPlace shape table pair.source
      × HasPlace shape table pair.target) moves
  pub apart : NoPlaceTwice moves
  pub few : length moves ≤ 64

abbrev pub PlansFit : Type 0
PlansFit = (shape : Shape) (table : ℕ) (looks : List BlockLook)
    → HasTable shape table → slots_of shape table ≤ 2 ^ 15
    → All (IsLookAt shape table) looks → AreAscending looks
    → IsFitting shape table (plan_of looks)

-- The looks at blocks of a table are ones that can be planned over.
abbrev pub LooksHavePlaces : Type 0
LooksHavePlaces = (shape : Shape) (table : ℕ) (looks : List BlockLook)
    → slots_of shape table ≤ 2 ^ 15 → All (IsLookAt shape table) looks → All HasPlaces looks
