-- What the calls of a disk do to the bytes of its file.
use Rattle.std.specs.Prelude.{◌≡◌, ℕ, ◌+◌, ◌-◌, ◌≤◌, min, max, List, ◌++◌, length, take, drop}
use Rattle.std.specs.Prelude.{Option, None, Some, Result, Ok, Err, MatchResult}

-- A piece was laid at a place, and the other bytes stay. A gap before it holds any bytes.
pub record Lays (at : ℕ) (piece old new : List ℕ) : Type 0 where
  pub gap : List ℕ
  pub size : length gap ≡ at - length old
  pub is : new ≡ take at old ++ (gap ++ (piece ++ drop (at + length piece) old))

-- A range of so many bytes from a place on holds any bytes, and so does what stands past the old
-- end; the other bytes stay.
pub record Tears (at count : ℕ) (old new : List ℕ) : Type 0 where
  pub any : List ℕ
  pub past : List ℕ
  pub size : length any ≡ min count (length old - at)
  pub is : new ≡ take at old ++ (any ++ (drop (at + count) old ++ past))

-- The same, and nothing stands past both the old end and the range.
pub record TearsWithin (at count : ℕ) (old new : List ℕ) : Type 0 where
  pub tears : Tears at count old new
  pub within : length new ≤ max (length old) (at + count)

-- a step from one file to another, where the bytes of both are told; they are told of both or of
-- none
abbrev pub OnFiles : (List ℕ → List ℕ → Type 0) → Option (List ℕ) → Option (List ℕ) → Type 0
OnFiles Step None None = Unit {0}
OnFiles Step None (Some new) = ⊥
OnFiles Step (Some old) None = ⊥
OnFiles Step (Some old) (Some new) = Step old new

-- a piece was laid at Ok; at Err its range and a gap before it may hold any bytes
abbrev pub Writes : {T E : Type 0} → Option (List ℕ) → Option (List ℕ) → Result T E → ℕ → List ℕ
    → Type 0
Writes before now result at piece = MatchResult result
    (λ _. OnFiles (Lays at piece) before now)
    (λ _. OnFiles (TearsWithin at (length piece)) before now)

-- The front of a buffer holds the bytes of the file from a place on, as many as were answered: none
-- exactly at its end.
pub record ReadsFrom (file : List ℕ) (at count : ℕ) (buf : List ℕ) : Type 0 where
  pub within : count ≤ length buf
  pub bytes : take count buf ≡ take count (drop at file)
  pub at_end : count ≡ 0 → length file ≤ at

-- at Ok the bytes of the file were read, where they are told
abbrev pub Reads : {E : Type 0} → Option (List ℕ) → Result ℕ E → ℕ → List ℕ → Type 0
Reads None (Ok count) at buf = count ≤ length buf
Reads (Some file) (Ok count) at buf = ReadsFrom file at count buf
Reads told (Err fault) at buf = Unit {0}
