-- What a compaction moves, by its looks at a table's blocks.
use Rattle.std.specs.Prelude.{ℕ, ◌&&◌, Bool, List, reverse, map, filter}
use Rattle.std.specs.List.{flat_map, zip}
use Rattle.block_layout.specs.Place.{place_of}
use Rattle.block_spec.specs.declared.look.MovableRow.{MovableRow}
use Rattle.block_spec.specs.Bodies.{is_loose}
use Rattle.block_spec.specs.Looks.{Look}
use Rattle.cold_plan.specs.Plan.{moves_of}
use Rattle.event_spec.specs.declared.event.MovePair.{MovePair}

-- a look at the block of a number
pub record BlockLook : Type 0 where
  pub block : ℕ
  pub look : Look

-- The block is of the group: it is loose and cooling. Then it has a row and is not the head.
abbrev pub is_in_group : BlockLook → Bool
is_in_group seen = is_loose seen.look.phase && seen.look.cooling

-- the group's movable rows, each with its place, and its gaps, both ascending
abbrev pub row_places : BlockLook → List (ℕ × MovableRow)
row_places seen = map (λ (row : MovableRow). (place_of seen.block row.slot, row)) seen.look.rows

abbrev pub gap_places : BlockLook → List ℕ
gap_places seen = map (place_of seen.block) seen.look.gaps

abbrev pub pair_of : (ℕ × MovableRow) × (ℕ × ℕ) → MovePair
pair_of entry = record { key = entry.0.1.key; source = entry.1.0; target = entry.1.1 }

-- The pairs of some rows, with their places falling, and gaps, rising: the i-th row goes to the
-- i-th gap while that lies below the row, and at most 64 move.
abbrev pub pairs_of : List (ℕ × MovableRow) → List ℕ → List MovePair
pairs_of rows gaps = map pair_of
    (zip rows (moves_of (map (λ (row : ℕ × MovableRow). row.0) rows) gaps))

-- What a compaction moves that looked at these blocks, in ascending order.
abbrev pub plan_of : List BlockLook → List MovePair
plan_of looks = pairs_of
    (reverse (flat_map row_places (filter is_in_group looks)))
    (flat_map gap_places (filter is_in_group looks))
