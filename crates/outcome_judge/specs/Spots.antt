-- The place of an owner's row.
use Rattle.std.specs.Prelude.{ℕ}
use Rattle.outcome_judge.specs.declared.keys.RowKey.{RowKey}
use Rattle.outcome_judge.specs.declared.keys.Spot.{Spot}

abbrev pub spot_at : ℕ → RowKey → Spot
spot_at owner of = record { key = of.key; table = of.table; owner = owner }

-- the row of such a place
abbrev pub row_at : Spot → RowKey
row_at spot = record { table = spot.table; key = spot.key }
