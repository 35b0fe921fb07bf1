-- How many slots have a row, where one may get or lose it.
use Rattle.std.proofs.Common.{◌≡◌, ℕ, ◌+◌, ◌<◌, ◌≤◌, Bool, true, false, cond, List, Option, None, Some, length, get_or, refl, arith}
use Rattle.std.specs.Prelude.{◌↔◌, IsTrue, IsSome, slice_set, is_some, count_by}
use Rattle.std.proofs.Math.ListN.{length-set}
use Rattle.std.proofs.lemmas.List.Sums.{sum_by-set, count_by-le-length}

-- how many slots have a row after one of them was set, against how many had before
pub count-set : {X : Type 0} (rows : List (Option X)) (j : ℕ) (row : Option X) → j < length rows →
    count_by is_some (slice_set rows j row) + cond (is_some (get_or rows j None)) 1 0 ≡ count_by is_some rows + cond (is_some row) 1 0
count-set rows j row lt = sum_by-set (λ r. cond (is_some r) 1 0) rows j row None lt

-- what one slot's change leaves is no more than there are slots
pub count-within : {X : Type 0} (rows : List (Option X)) (j : ℕ) (row : Option X) → j < length rows →
    count_by is_some rows + cond (is_some row) 1 0 ≤ length rows + cond (is_some (get_or rows j None)) 1 0
count-within rows j row lt =
    let all : count_by is_some (slice_set rows j row) ≤ length (slice_set rows j row) = count_by-le-length is_some (slice_set rows j row) in
    let long : length (slice_set rows j row) ≡ length rows = length-set rows j row in
    let more : count_by is_some (slice_set rows j row) + cond (is_some (get_or rows j None)) 1 0 ≡ count_by is_some rows + cond (is_some row) 1 0 = count-set rows j row lt in
    omega arith

-- a test that tells whether there is one
pub one_if : {X : Type 0} (o : Option X) (b : Bool) → IsTrue b ↔ IsSome o → ◌≡◌ {A = ℕ} (cond (is_some o) 1 0) (cond b 1 0)
one_if None true tells = let no : false ≡ true = tells.0 refl in cc
one_if None false tells = refl
one_if (Some x) true tells = refl
one_if (Some x) false tells = let no : false ≡ true = tells.1 refl in cc
