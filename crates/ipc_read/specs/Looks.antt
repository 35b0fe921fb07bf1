-- What a reader finds in the bytes that have come.
use Rattle.std.specs.Prelude.{◌≡◌, ◌≤◌, ℕ, ◌+◌, List, [], ◌++◌, length, drop, Option, None, Some}
use Rattle.cell_model.specs.declared.cell.Cell.{Cell}
use Rattle.stream_pieces.specs.declared.stand.Stand.{Stand}
use Rattle.stream_spec.specs.Streams.{Known, behind}
use Rattle.stream_pieces.specs.Pieces.{IsWaiting, Standing, read_from, rows_of, still_read}

abbrev pub stands : Option Known → ℕ → List ℕ → Stand → Standing
stands known place begun stand = record {
  known = known;
  place = place;
  begun = begun;
  stand = stand;
}

-- what is known now, where this was known before and that was found
abbrev pub newest : Option Known → Option Known → Option Known
newest before None = before
newest before (Some known) = Some known

-- what is known now behind a schema
abbrev pub newest_of : Known → Option Known → Known
newest_of before None = before
newest_of before (Some known) = known

-- In front of what is still read stand batches, of whose rows this is so, and so many bytes are
-- done with.
pub record Looks
    (Took : List (List Cell) → Type 0) (before : Option Known) (place : ℕ) (bytes : List ℕ)
    (found : Option Known) (count : ℕ) (stand : Stand)
    : Type 0 where
  pub batches : List (List (List Cell))
  pub taken : Took (rows_of batches)
  pub within : count ≤ length bytes
  pub goes_on : (more : List ℕ) → read_from before place (bytes ++ more)
      ≡ behind batches
      (still_read (stands (newest before found) (place + count) (drop count bytes) stand) more)
  pub waits : IsWaiting (stands (newest before found) (place + count) (drop count bytes) stand)

-- The same behind a schema that was read before.
abbrev pub TakesWhole
    : (List (List Cell) → Type 0) → Known → ℕ → List ℕ → Option Known → ℕ → Stand → Type 0
TakesWhole Took known place bytes newer count stand =
    Looks Took (Some known) place bytes newer count stand

-- There are no rows.
abbrev pub NoRows : List (List Cell) → Type 0
NoRows rows = rows ≡ []
