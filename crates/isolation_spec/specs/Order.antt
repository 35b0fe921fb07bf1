-- Maps whose entries stand in the order of their places.
use Rattle.std.specs.Prelude.{◌≡◌, [], ◌∷◌, All}
use Rattle.std.specs.Map.{keys_of}
use Rattle.std.specs.declared.cmp.Ordering.TheVariants.{Less}
use Rattle.isolation_spec.specs.Contents.{place_cmp, PlaceMap}

-- the entries of a map stand in the order of their places
abbrev pub InOrder : {X : Type 0} → PlaceMap X → Type 0
InOrder [] = Unit {0}
InOrder (entry ∷ entries) = All (λ place. place_cmp entry.0 place ≡ Less) (keys_of entries)
    × InOrder entries
