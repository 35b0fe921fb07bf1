-- Lists of the values of cells.
use Rattle.std.proofs.Common.{rules}
use lib.Signed.{mag}
use mir.Val.{to_z, of_z}
use mir.Syntax.{w128}
use Rattle.std.proofs.lemmas.Int.{to_z-of_z}
use Rattle.std.proofs.Common.{◌≡◌, ℤ, ◌<◌, ◌^◌, ◌+◌, ℕ, suc, zero, Bool, cond, List, [], ◌∷◌, ◌++◌, replicate, map, refl, sym, ap, ◌∙◌}
use Rattle.std.specs.Prelude.{slice_set, Result, Ok, Err, OnErr}
use Rattle.std.specs.List.{count_by}
use Rattle.std.proofs.lemmas.List.{map-set, map-append}
use Rattle.std.proofs.lemmas.List.Sums.{sum_by-cons}
use Rattle.cell_model.specs.declared.cell.Cell.{Cell}
use Rattle.cell_model.specs.declared.cell.Cell.TheVariants.{Null}

-- a value is put where a cell is
pub values-set : {X Y : Type 0} (f : X → Y) (ys : List Y) (xs : List X) (at : ℕ) (x : X) (y : Y) → y ≡ f x → ys ≡ map f xs → slice_set ys at y ≡ map f (slice_set xs at x)
values-set f ys xs at x y is same = ap (λ z. slice_set ys at z) is ∙ ap (λ (l : List _). slice_set l at (f x)) same ∙ sym (map-set f xs at x)

-- one element many times, mapped
pub map-replicate : {X Y : Type 0} (f : X → Y) (n : ℕ) (x : X) → map f (replicate n x) ≡ replicate n (f x)
map-replicate f zero x = refl
map-replicate f (suc n) x = ap (λ (l : List _). f x ∷ l) (map-replicate f n x)

-- the values of nulls are added where nulls are
pub values-extend : {Y : Type 0} (f : Cell → Y) (ys : List Y) (xs : List Cell) (n : ℕ) → ys ≡ map f xs → ys ++ replicate n (f Null) ≡ map f (xs ++ replicate n Null)
values-extend f ys xs n same =
    ap (λ (l : List _). l ++ replicate n (f Null)) same ∙ ap (λ (l : List _). map f xs ++ l) (sym (map-replicate f n Null)) ∙ sym (map-append f xs (replicate n Null))

-- a number in range is written and read back
pub fits_back : (z : ℤ) → mag z < 2 ^ 127 → to_z w128 (of_z w128 z) ≡ z
fits_back z fits = to_z-of_z w128 z (search rules)

-- what holds anyway holds where a result failed
pub on_err : {T E P : Type 0} (r : Result T E) → P → OnErr r P
on_err (Ok x) p = tt
on_err (Err e) p = p

-- what a test holds for is counted by its answers
pub count-map : {X : Type 0} (p : X → Bool) (xs : List X) → count_by (λ bit. bit) (map p xs) ≡ count_by p xs
count-map p [] = refl
count-map p (x ∷ xs) =
    sum_by-cons (λ (bit : Bool). cond bit 1 0) (p x) (map p xs) ∙ ap (λ n. cond (p x) 1 0 + n) (count-map p xs)
    ∙ sym (sum_by-cons (λ y. cond (p y) 1 0) x xs)
