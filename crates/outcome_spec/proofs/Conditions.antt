-- Each reply meets each condition where no reply is found that fails one.
use Rattle.std.proofs.Common.{◌≡◌, ℕ, Bool, true, false, cond, ◌&&◌, not, List, [], ◌∷◌, Option, None, Some, option_map, find, refl}
use Rattle.std.specs.List.{list_all}

-- the first element passes, and so do the others where none of them is found to fail
first_passes : {X : Type 0} (n : X → ℕ) (x : X) (found : Option X) (others b : Bool)
    → (option_map n found ≡ None → others ≡ true) → option_map n (cond (not b) (Some x) found) ≡ None → (b && others) ≡ true
first_passes n x found others true rest none = rest none
first_passes n x found others false rest none = cc

-- where none is found to fail, all pass
pub all-of_none : {X : Type 0} (n : X → ℕ) (p : X → Bool) (xs : List X) → option_map n (find (λ x. not (p x)) xs) ≡ None → list_all p xs ≡ true
all-of_none n p [] none = refl
all-of_none n p (x ∷ xs) none = first_passes n x (find (λ y. not (p y)) xs) (list_all p xs) (p x) (all-of_none n p xs) none

-- the first is not found, nor another where the others pass
not_found : {X : Type 0} (n : X → ℕ) (x : X) (found : Option X) (others b : Bool)
    → (others ≡ true → option_map n found ≡ None) → (b && others) ≡ true → option_map n (cond (not b) (Some x) found) ≡ None
not_found n x found others true rest all = rest all
not_found n x found others false rest all = cc

-- where all pass, none is found to fail
pub none-of_all : {X : Type 0} (n : X → ℕ) (p : X → Bool) (xs : List X) → list_all p xs ≡ true → option_map n (find (λ x. not (p x)) xs) ≡ None
none-of_all n p [] all = refl
none-of_all n p (x ∷ xs) all = not_found n x (find (λ y. not (p y)) xs) (list_all p xs) (p x) (none-of_all n p xs) all

-- what is true of both parts is true of each
pub both-left : (a b : Bool) → (a && b) ≡ true → a ≡ true
both-left true b h = refl
both-left false b h = h

-- where both hold the second does
pub both-right : (a b : Bool) → (a && b) ≡ true → b ≡ true
both-right true b h = h
both-right false b h = cc
