-- The attributes in which two rows differ: put into the old row they give the new one, and the old
-- ones give it back.
use Rattle.std.proofs.Common.{[], ◌≡◌, ℕ, suc, ◌+◌, ℤ, Bool, true, false, cond, List, ◌∷◌, ◌++◌, length, refl, sym, ap, ◌∙◌, arith, int_eq}
use Rattle.std.specs.Prelude.{slice_set, slice_index_or}
use Rattle.std.specs.Str.{bytes_eq}
use Rattle.std.proofs.lemmas.List.{set_at, get_or_at, append_assoc, length_push}
use Rattle.std.proofs.lemmas.Bool.Decides.{Decides-int_eq}
use Rattle.std.proofs.lemmas.Slice.Eq.{bytes_eq-Decides}
use Rattle.cell_model.specs.declared.cell.Cell.{Cell}
use Rattle.cell_model.specs.declared.cell.Cell.TheVariants.{Null, Num, Truth, Text, Blob}
use Rattle.block_spec.specs.declared.patch.Assignment.{Assignment}
use Rattle.block_spec.specs.Slots.{Row, patched, columns_before}
use Rattle.event_spec.specs.Judged.{same_cell, same_truth, differences}

-- Numbers that test equal are equal.
int_eq_is : (m n : ℤ) → int_eq m n ≡ true → m ≡ n
int_eq_is m n e = (Decides-int_eq m n).0 e

-- Bytes that are tested as the same are the same.
bytes_is : (s t : List ℕ) → bytes_eq s t ≡ true → s ≡ t
bytes_is s t e = (bytes_eq-Decides s t).0 e

-- Truth values that are tested as the same are the same.
truth_is : (a b : Bool) → same_truth a b ≡ true → a ≡ b
truth_is true true e = refl
truth_is true false e = cc
truth_is false true e = cc
truth_is false false e = refl

-- cells that are tested as the same are one
pub cell_is : (x y : Cell) → same_cell x y ≡ true → x ≡ y
cell_is Null Null e = refl
cell_is Null (Num n) e = cc
cell_is Null (Truth b) e = cc
cell_is Null (Text t) e = cc
cell_is Null (Blob t) e = cc
cell_is (Num m) Null e = cc
cell_is (Num m) (Num n) e = ap Num (int_eq_is m n e)
cell_is (Num m) (Truth b) e = cc
cell_is (Num m) (Text t) e = cc
cell_is (Num m) (Blob t) e = cc
cell_is (Truth a) Null e = cc
cell_is (Truth a) (Num n) e = cc
cell_is (Truth a) (Truth b) e = ap Truth (truth_is a b e)
cell_is (Truth a) (Text t) e = cc
cell_is (Truth a) (Blob t) e = cc
cell_is (Text s) Null e = cc
cell_is (Text s) (Num n) e = cc
cell_is (Text s) (Truth b) e = cc
cell_is (Text s) (Text t) e = ap Text (bytes_is s t e)
cell_is (Text s) (Blob t) e = cc
cell_is (Blob s) Null e = cc
cell_is (Blob s) (Num n) e = cc
cell_is (Blob s) (Truth b) e = cc
cell_is (Blob s) (Text t) e = cc
cell_is (Blob s) (Blob t) e = ap Blob (bytes_is s t e)

-- a column's new cell
abbrev assigned : ℕ → Cell → Assignment
assigned column cell = record { column = column; cell = cell }

-- A cell at the end of a front is the first behind it.
push_front : (front : Row) (x : Cell) (xs : Row) → (front ++ x ∷ []) ++ xs ≡ front ++ x ∷ xs
push_front front x xs = append_assoc front (x ∷ []) xs

-- the new cells put into the old row, from a column on
new_from : (front xs ys : Row) → length xs ≡ length ys → patched (front ++ xs) (differences (length front) xs ys) ≡ front ++ ys
new_from front [] [] len = refl
new_from front [] (y ∷ ys) len = let l : 0 ≡ suc (length ys) = len in absurd (omega (arith, l))
new_from front (x ∷ xs) [] len = let l : suc (length xs) ≡ 0 = len in absurd (omega (arith, l))
new_from front (x ∷ xs) (y ∷ ys) len = go (same_cell x y) refl
    (new_from (front ++ x ∷ []) xs ys (let l : suc (length xs) ≡ suc (length ys) = len in omega (arith, l)))
    (new_from (front ++ y ∷ []) xs ys (let l : suc (length xs) ≡ suc (length ys) = len in omega (arith, l)))
  where
    more : (z : Cell) → length (front ++ z ∷ []) ≡ length front + 1
    more z = length_push front z

    go : (b : Bool) → same_cell x y ≡ b
        → patched ((front ++ x ∷ []) ++ xs) (differences (length (front ++ x ∷ [])) xs ys) ≡ (front ++ x ∷ []) ++ ys
        → patched ((front ++ y ∷ []) ++ xs) (differences (length (front ++ y ∷ [])) xs ys) ≡ (front ++ y ∷ []) ++ ys
        → patched (front ++ x ∷ xs) (cond (same_cell x y) (differences (length front + 1) xs ys) (assigned (length front) y ∷ differences (length front + 1) xs ys)) ≡ front ++ y ∷ ys
    go true is same other =
        ap (λ b. patched (front ++ x ∷ xs) (cond b (differences (length front + 1) xs ys) (assigned (length front) y ∷ differences (length front + 1) xs ys))) is
        ∙ ap (λ r. patched r (differences (length front + 1) xs ys)) (sym (push_front front x xs))
        ∙ ap (λ n. patched ((front ++ x ∷ []) ++ xs) (differences n xs ys)) (sym (more x))
        ∙ same ∙ push_front front x ys ∙ ap (λ z. front ++ z ∷ ys) (cell_is x y is)
    go false is same other =
        ap (λ b. patched (front ++ x ∷ xs) (cond b (differences (length front + 1) xs ys) (assigned (length front) y ∷ differences (length front + 1) xs ys))) is
        ∙ ap (λ r. patched r (differences (length front + 1) xs ys)) (set_at front x xs y (length front) refl ∙ sym (push_front front y xs))
        ∙ ap (λ n. patched ((front ++ y ∷ []) ++ xs) (differences n xs ys)) (sym (more y))
        ∙ other ∙ push_front front y ys

-- the differences put into the old row give the new one
pub patched_new : (old new : Row) → length old ≡ length new → patched old (differences 0 old new) ≡ new
patched_new old new len = new_from [] old new len

-- the old cells put back, from a column on
old_from : (old front xs ys : Row) → old ≡ front ++ xs → length xs ≡ length ys → patched (front ++ ys) (columns_before old (differences (length front) xs ys)) ≡ front ++ xs
old_from old front [] [] is len = refl
old_from old front [] (y ∷ ys) is len = let l : 0 ≡ suc (length ys) = len in absurd (omega (arith, l))
old_from old front (x ∷ xs) [] is len = let l : suc (length xs) ≡ 0 = len in absurd (omega (arith, l))
old_from old front (x ∷ xs) (y ∷ ys) is len = go (same_cell x y) refl
    (old_from old (front ++ x ∷ []) xs ys (is ∙ sym (push_front front x xs)) (let l : suc (length xs) ≡ suc (length ys) = len in omega (arith, l)))
  where
    more : length (front ++ x ∷ []) ≡ length front + 1
    more = length_push front x

    rest : Row → Row
    rest r = patched r (columns_before old (differences (length front + 1) xs ys))

    step : patched ((front ++ x ∷ []) ++ ys) (columns_before old (differences (length (front ++ x ∷ [])) xs ys)) ≡ (front ++ x ∷ []) ++ xs
        → patched (front ++ x ∷ ys) (columns_before old (differences (length front + 1) xs ys)) ≡ front ++ x ∷ xs
    step before =
        ap (λ r. patched r (columns_before old (differences (length front + 1) xs ys))) (sym (push_front front x ys))
        ∙ ap (λ n. patched ((front ++ x ∷ []) ++ ys) (columns_before old (differences n xs ys))) (sym more)
        ∙ before ∙ push_front front x xs

    go : (b : Bool) → same_cell x y ≡ b
        → patched ((front ++ x ∷ []) ++ ys) (columns_before old (differences (length (front ++ x ∷ [])) xs ys)) ≡ (front ++ x ∷ []) ++ xs
        → patched (front ++ y ∷ ys) (columns_before old (cond (same_cell x y) (differences (length front + 1) xs ys) (assigned (length front) y ∷ differences (length front + 1) xs ys))) ≡ front ++ x ∷ xs
    go true c before =
        ap (λ b. patched (front ++ y ∷ ys) (columns_before old (cond b (differences (length front + 1) xs ys) (assigned (length front) y ∷ differences (length front + 1) xs ys)))) c
        ∙ ap (λ z. patched (front ++ z ∷ ys) (columns_before old (differences (length front + 1) xs ys))) (sym (cell_is x y c))
        ∙ step before
    go false c before =
        ap (λ b. patched (front ++ y ∷ ys) (columns_before old (cond b (differences (length front + 1) xs ys) (assigned (length front) y ∷ differences (length front + 1) xs ys)))) c
        ∙ ap (λ z. patched (slice_set (front ++ y ∷ ys) (length front) z) (columns_before old (differences (length front + 1) xs ys))) (ap (λ o. slice_index_or o (length front) Null) is ∙ get_or_at front x xs Null (length front) refl)
        ∙ ap (λ r. patched r (columns_before old (differences (length front + 1) xs ys))) (set_at front y ys x (length front) refl)
        ∙ step before

-- the cells that the differences replaced, put into the new row, give the old one back
pub patched_old : (old new : Row) → length old ≡ length new → patched new (columns_before old (differences 0 old new)) ≡ old
patched_old old new len = old_from old [] old new refl len
