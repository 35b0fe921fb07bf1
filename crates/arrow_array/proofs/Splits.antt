-- Lists that are gone through from the front.
use Rattle.std.proofs.Common.{◌≡◌, ℕ, ◌+◌, ◌<◌, List, [], ◌∷◌, ◌++◌, length, take, drop, get_or, sym, ap, ◌∙◌, drop-cons, add-one}
use Rattle.std.proofs.lemmas.List.{take_more}

-- a list from an index on begins with the element there
pub split-at : {X : Type 0} (xs : List X) (item : X) (i : ℕ) → i < length xs → item ≡ get_or xs i item → drop i xs ≡ item ∷ drop (i + 1) xs
split-at {X = X} xs item i inside is =
    drop-cons xs i item inside
    ∙ ap (λ (n : ℕ). get_or xs i item ∷ drop n xs) (sym (add-one i))
    ∙ ap (λ (x : X). x ∷ drop (i + 1) xs) (sym is)

-- the element at an index was added to those before it
pub take-added : {X : Type 0} (all before after : List X) (i : ℕ) (item : X) → before ≡ take i all → i < length all → item ≡ get_or all i item
    → after ≡ before ++ item ∷ [] → after ≡ take (i + 1) all
take-added {X = X} all before after i item is inside here added =
    added ∙ ap (λ (xs : List X). xs ++ item ∷ []) is ∙ ap (λ (x : X). take i all ++ x ∷ []) here ∙ sym (take_more all i item inside)
