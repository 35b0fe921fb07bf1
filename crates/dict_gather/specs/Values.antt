-- Values as the buffers of a column in which none is null.
use Rattle.std.specs.Prelude.{ℕ, ◌+◌, List, [], ◌∷◌, length, flat_map}
use Rattle.std.specs.Int.{w32, to_le_bytes}

-- the first value begins at `from`, each other where the one before ends, and one more offset tells
-- where the last ends
abbrev pub starts_from : ℕ → List (List ℕ) → List ℕ
starts_from from [] = from ∷ []
starts_from from (value ∷ values) = from ∷ starts_from (from + length value) values

-- an empty validity, the offsets of 32 bits, and the values one after another
abbrev pub value_buffers_of : List (List ℕ) → List (List ℕ)
value_buffers_of values = [] ∷ flat_map (to_le_bytes w32) (starts_from 0 values)
    ∷ flat_map (λ value. value) values ∷ []
