-- The message that a block's rows make in a stream.
use Rattle.std.specs.Prelude.{ℕ, List, [], ◌∷◌}
use Rattle.arrow_spec.specs.Streams.{batch_message}
use Rattle.block_spec.specs.Slots.{Row}
use Rattle.cell_model.specs.declared.column.Column.{Column}

-- the batch of these rows, and nothing where there is none
abbrev pub group_message : List Column → List Row → List ℕ
group_message columns [] = []
group_message columns (row ∷ rows) = batch_message columns (row ∷ rows)
