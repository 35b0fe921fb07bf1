-- What the columns of a batch by dictionaries tell.
use Rattle.std.specs.Prelude.{◌≡◌, ℕ, List, [], length, Option, slice_index_or}
use Rattle.arrow_array.specs.Batches.{AreFew}
use Rattle.arrow_spec.specs.Batches.{Array}
use Rattle.arrow_spec.specs.DictBatches.{Dictionary}

-- there is a dictionary or none for each column, and few columns
pub record AreEach (dictionaries : List (Option Dictionary)) (arrays : List Array) : Type 0 where
  pub each : length dictionaries ≡ length arrays
  pub few : AreFew arrays

-- no column
abbrev pub no_array : Array
no_array = record { nulls = 0; buffers = [] }

-- how many slots of the column at a place are null
abbrev pub nulls_at : List Array → ℕ → ℕ
nulls_at arrays at = (slice_index_or arrays at no_array).nulls

-- the buffers of the column at a place
abbrev pub buffers_at : List Array → ℕ → List (List ℕ)
buffers_at arrays at = (slice_index_or arrays at no_array).buffers
