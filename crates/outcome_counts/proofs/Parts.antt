-- Lists that a test parts, through an image.
use Rattle.std.proofs.Common.{◌≡◌, ℕ, ◌+◌, ◌<◌, zero, suc, Bool, true, false, cond, ◌&&◌, not, List, [], ◌∷◌, map, length, get_or, refl, sym, ap, ◌∙◌, arith}
use Rattle.std.specs.List.{list_all, count_by}
use Rattle.std.specs.List.Sorted.{IsPartitionedBy}
use Rattle.std.proofs.lemmas.Bool.{not-true}
use Rattle.order_laws.proofs.Pieces.{Parted, count-cons}
use Rattle.mark_index.proofs.Noted.{all-get}

-- where one behind passes, the first does
pub first-passes : {X : Type 0} (p : X → Bool) (x : X) (xs : List X) (j : ℕ) (d : X) (b : Bool) → p x ≡ b → (p x ≡ false → list_all (λ y. not (p y)) xs ≡ true) → j < length xs → p (get_or xs j d) ≡ true → p x ≡ true
first-passes p x xs j d true is stops within h = is
first-passes p x xs j d false is stops within h =
    let e : p (get_or xs j d) ≡ false = not-true (p (get_or xs j d)) (all-get (λ y. not (p y)) xs j d within (stops is)) in
    absurd (let never : true ≡ false = sym h ∙ e in let impossible : ⊥ = cc in impossible)

-- of a list that is parted, all in front of one that passes pass
pub parted-at : {X : Type 0} (p : X → Bool) (xs : List X) → Parted p xs → IsPartitionedBy p xs
parted-at p [] h i j d low within is = absurd (omega (arith, within))
parted-at p (x ∷ xs) h zero zero d low within is = is
parted-at p (x ∷ xs) h zero (suc j) d low within is = first-passes p x xs j d (p x) refl h.0 (omega (arith, within)) is
parted-at p (x ∷ xs) h (suc i) zero d low within is = absurd (omega (arith, low))
parted-at p (x ∷ xs) h (suc i) (suc j) d low within is = parted-at p xs h.1 i j d (omega (arith, low)) (omega (arith, within)) is

-- All images pass exactly where all elements pass by their images.
all-map : {X Y : Type 0} (f : X → Y) (p : Y → Bool) (xs : List X) → list_all p (map f xs) ≡ list_all (λ x. p (f x)) xs
all-map f p [] = refl
all-map f p (x ∷ xs) = ap (λ (b : Bool). p (f x) && b) (all-map f p xs)

-- a list is parted where its images are
pub parted-map : {X Y : Type 0} (f : X → Y) (p : Y → Bool) (xs : List X) → Parted p (map f xs) → Parted (λ x. p (f x)) xs
parted-map f p [] h = tt
parted-map f p (x ∷ xs) h = (λ fails. sym (all-map f (λ y. not (p y)) xs) ∙ h.0 fails, parted-map f p xs h.1)

-- as many images pass as elements whose image does
pub count-map : {X Y : Type 0} (f : X → Y) (p : Y → Bool) (xs : List X) → count_by p (map f xs) ≡ count_by (λ x. p (f x)) xs
count-map f p [] = refl
count-map f p (x ∷ xs) = count-cons p (f x) (map f xs) ∙ ap (λ (n : ℕ). cond (p (f x)) 1 0 + n) (count-map f p xs) ∙ sym (count-cons (λ y. p (f y)) x xs)
