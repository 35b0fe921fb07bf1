-- The plan of a compaction: which rows go to which gaps.
use Rattle.std.specs.Prelude.{◌≢◌, ℕ, ◌++◌, List, map, take, nat_lt, AllPairs}
use Rattle.std.specs.List.{zip, take_while}

-- Pairs of a row's place and a gap's, as long as the gap lies below the row.
abbrev pub downwards : List (ℕ × ℕ) → List (ℕ × ℕ)
downwards pairs = take_while (λ pair. nat_lt pair.1 pair.0) pairs

-- The moves of a plan: the i-th row goes to the i-th gap, as long as that lies below it, and at
-- most 64 rows move.
abbrev pub moves_of : List ℕ → List ℕ → List (ℕ × ℕ)
moves_of rows gaps = downwards (take 64 (zip rows gaps))

-- No place stands in a plan twice, be it left or filled.
abbrev pub NoPlaceTwice : List (ℕ × ℕ) → Type 0
NoPlaceTwice moves = AllPairs (λ x y. x ≢ y)
    (map (λ move. move.0) moves ++ map (λ move. move.1) moves)
