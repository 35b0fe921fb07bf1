-- How the candidates of one key are kept: one in place, or several in memory of their own.
use Rattle.std.specs.Prelude.{ℕ, List, [], ◌∷◌}
use Rattle.key_index.specs.declared.candidates.Kept.{Kept}
use Rattle.key_index.specs.declared.candidates.Kept.TheVariants.{One, Many}

-- the places, in the order in which they were added
abbrev pub places_of : Kept → List ℕ
places_of (One place) = place ∷ []
places_of (Many places) = places
