-- A shard that loses its candidates one by one.
use Rattle.std.specs.Prelude.{ℕ, ℤ, not, ◌==◌, filter}
use Rattle.key_index.specs.Candidates.{Places, candidates_of, with_candidates}

-- A place is no candidate of a key any more.
abbrev pub without_place : ℤ → ℕ → Places → Places
without_place key place places =
    with_candidates places key (filter (λ other. not (other == place)) (candidates_of places key))
