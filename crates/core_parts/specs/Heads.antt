-- A head that learns of its empty blocks one by one.
use Rattle.std.specs.Prelude.{◌≡◌, ⊤, ℕ, ◌+◌, ◌^◌, ◌<◌, ◌≤◌, Bool, true, not, ◌&&◌, ◌==◌, List, []}
use Rattle.std.specs.Prelude.{◌∷◌, filter, nat_lt, if◌then◌else◌}
use Rattle.event_spec.specs.declared.part.Head.{Head}
use Rattle.event_spec.specs.Parts.{below}

-- an ascending list with a block in its place, once
abbrev pub with_block : ℕ → List ℕ → List ℕ
with_block block [] = block ∷ []
with_block block (first ∷ rest) =
    if nat_lt block first then block ∷ first ∷ rest
    else if block == first then first ∷ rest
    else first ∷ with_block block rest

-- The head after a block became empty: all its slots are unused again.
abbrev pub gained : ℕ → Head → Head
gained block head =
    if block == head.block then record head { taken = 0 }
    else record head { empty = with_block block head.empty }

-- the numbers rise from the first of two on, and are below the other
abbrev pub Rises : ℕ → ℕ → List ℕ → Type 0
Rises least limit [] = ⊤
Rises least limit (block ∷ blocks) = (least ≤ block) × (block < limit)
    × Rises (block + 1) limit blocks

-- What holds of a head's list at any time: it is ascending, and there is room for each block that a
-- table may have.
pub record HasRoom (blocks : List ℕ) (capacity : ℕ) : Type 0 where
  pub rises : Rises 0 (2 ^ 10) blocks
  pub room : 2 ^ 10 ≤ capacity

-- A head knows which of a table's blocks are empty: its list has these but for its own, and where
-- its own is, no slot is taken.
pub record Knows (blocks : ℕ) (empty : ℕ → Bool) (head : Head) : Type 0 where
  pub others : head.empty ≡ filter (λ block. empty block && not (block == head.block))
      (below blocks)
  pub own : empty head.block ≡ true → head.taken ≡ 0
