-- A workload and the output behind it.
use Rattle.std.specs.Prelude.{◌≡◌, ℕ, ◌+◌, List, [], ◌∷◌, ◌++◌, take, drop, Some}
use Rattle.std.specs.List.{join_with_byte}
use Rattle.workload_spec.specs.Words.{line_feed}
use Rattle.workload_spec.specs.Reading.{parts}
use Rattle.workload_spec.specs.Grammar.{place_of_parting}

-- The lines are those of a workload, a line `====` and those of an output.
pub record IsParted (all : List (List ℕ)) (workload output : List ℕ) : Type 0 where
  pub place : ℕ
  pub found : place_of_parting all ≡ Some place
  pub before : parts line_feed workload ≡ take place all ++ [] ∷ []
  pub behind : output ≡ join_with_byte line_feed (drop (place + 1) all)
