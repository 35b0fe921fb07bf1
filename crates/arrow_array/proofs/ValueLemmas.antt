-- Values that are added to a column's data.
use Rattle.std.proofs.Common.{◌≡◌, ℕ, ◌+◌, ◌<◌, List, [], ◌∷◌, ◌++◌, length, take, get_or, sym, ap, ◌∙◌}
use Rattle.std.specs.Prelude.{flat_map}
use Rattle.std.proofs.lemmas.List.{take_more, flat_map_more}

-- the piece of one more element was added
pub piece-added : {X : Type 0} (f : X → List ℕ) (xs : List X) (item : X) (i : ℕ) (bytes grown : List ℕ)
    → i < length xs → item ≡ get_or xs i item
    → bytes ≡ flat_map f (take i xs) → grown ≡ bytes ++ f item → grown ≡ flat_map f (take (i + 1) xs)
piece-added {X = X} f xs item i bytes grown inside is before added =
    added
    ∙ ap (λ (all : List ℕ). all ++ f item) before
    ∙ flat_map_more f [] (take i xs) item
    ∙ ap (λ (x : X). flat_map f (take i xs ++ x ∷ [])) is
    ∙ ap (flat_map f) (sym (take_more xs i item inside))
