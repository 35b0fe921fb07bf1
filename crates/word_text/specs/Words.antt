-- Words in a row.
use Rattle.std.specs.Prelude.{ℕ, List, [], ◌∷◌, ◌++◌}
use Rattle.workload_spec.specs.Words.{space}

-- words, each behind a space
abbrev pub behind_spaces : List (List ℕ) → List ℕ
behind_spaces [] = []
behind_spaces (word ∷ words) = space ∷ (word ++ behind_spaces words)
