-- What one column adds to the differences of two rows.
use Rattle.std.specs.Prelude.{ℕ, [], ◌∷◌, slice_get, if◌then◌else◌}
use Rattle.std.specs.Option.{option_map_or}
use Rattle.block_spec.specs.Slots.{Patch, Row}
use Rattle.cell_model.specs.declared.cell.Cell.{Cell}
use Rattle.event_spec.specs.Judged.{same_cell}

-- the attribute of a new row's cell, where another value stands in its column of the old row
abbrev pub difference_at : Row → ℕ → Cell → Patch
difference_at old column cell = option_map_or
    (λ standing. if same_cell standing cell then []
    else record { column = column; cell = cell } ∷ [])
    (slice_get old column)
    []
