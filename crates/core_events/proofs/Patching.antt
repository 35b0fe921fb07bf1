-- The differences of two rows, column by column.
use Rattle.std.proofs.Common.{◌≡◌, ◌≢◌, ℕ, zero, suc, ◌+◌, Bool, true, false, cond, List, [], ◌∷◌, ◌++◌, drop, length, Option, None, Some, unwrap_or, refl, sym, ap, ◌∙◌, arith}
use Rattle.std.specs.Prelude.{slice_get, IsTrue, IsSome, IsSomeAnd, ◌↔◌}
use Rattle.std.proofs.lemmas.Bool.Decides.{Decides-int_eq}
use Rattle.std.proofs.lemmas.Slice.Eq.{bytes_eq-Decides}
use Rattle.std.specs.Option.{option_map_or}
use Rattle.block_spec.specs.declared.patch.Assignment.{Assignment}
use Rattle.block_spec.specs.Slots.{Patch}
use Rattle.cell_model.specs.declared.cell.Cell.{Cell}
use Rattle.cell_model.specs.declared.cell.Cell.TheVariants.{Null, Num, Truth, Text, Blob}
use Rattle.event_spec.specs.Judged.{differences, same_cell}
use Rattle.core_laws.proofs.Slots.Patches.{cell_is}
use Rattle.core_events.specs.Patches.{difference_at}

-- An assignment at the end of a patch is the first of those behind it.
append_one : (xs : Patch) (y : Assignment) (ys : Patch) → (xs ++ y ∷ []) ++ ys ≡ xs ++ y ∷ ys
append_one [] y ys = refl
append_one (x ∷ xs) y ys = ap (λ zs. x ∷ zs) (append_one xs y ys)

-- A patch with nothing behind it is itself.
append_none : (xs : Patch) → xs ++ [] ≡ xs
append_none [] = refl
append_none (x ∷ xs) = ap (λ zs. x ∷ zs) (append_none xs)

-- Where no cell is at an index, none is left from there on.
none_got : (xs : List Cell) (i : ℕ) → slice_get xs i ≡ None → drop i xs ≡ []
none_got [] zero e = refl
none_got [] (suc i) e = refl
none_got (y ∷ xs) zero e = cc
none_got (y ∷ xs) (suc i) e = none_got xs i e

-- From an index on the cells are the one there and those behind it.
one_got : (xs : List Cell) (i : ℕ) (x : Cell) → slice_get xs i ≡ Some x → drop i xs ≡ x ∷ drop (i + 1) xs
one_got [] zero x e = cc
one_got [] (suc i) x e = cc
one_got (y ∷ xs) zero x e = ap (λ z. z ∷ xs) (some_is y x e)
  where
    some_is : (a b : Cell) → Some a ≡ Some b → a ≡ b
    some_is a b e = ap (λ o. unwrap_or o a) e
one_got (y ∷ xs) (suc i) x e = one_got xs i x e ∙ ap (λ k. x ∷ drop k (y ∷ xs)) (let e : suc (i + 1) ≡ suc i + 1 = omega arith in e)

-- Where no cell is left from an index on, none is left from the next.
none_beyond : (xs : List Cell) (i : ℕ) → drop i xs ≡ [] → drop (i + 1) xs ≡ []
none_beyond [] zero e = refl
none_beyond [] (suc i) e = ap (λ k. drop k []) (let e : suc i + 1 ≡ suc (i + 1) = omega arith in e)
none_beyond (y ∷ xs) zero e = cc
none_beyond (y ∷ xs) (suc i) e = ap (λ k. drop k (y ∷ xs)) (let e : suc i + 1 ≡ suc (i + 1) = omega arith in e) ∙ none_beyond xs i e

-- One cell more of the new row: the others are still to come.
pub one_more : (old rest : List Cell) (i : ℕ) (made all : Patch) (y : Cell) → made ++ differences i (drop i old) (y ∷ rest) ≡ all
    → (made ++ difference_at old i y) ++ differences (i + 1) (drop (i + 1) old) rest ≡ all
one_more old rest i made all y kept = go (slice_get old i) refl
  where
    ended : List Cell → Patch
    ended xs = differences (i + 1) xs rest

    there : Option Cell → Patch
    there o = option_map_or (λ x. cond (same_cell x y) [] (record { column = i; cell = y } ∷ [])) o []

    some_on : (x : Cell) (b : Bool) → same_cell x y ≡ b → drop i old ≡ x ∷ drop (i + 1) old
        → (made ++ cond b [] (record { column = i; cell = y } ∷ [])) ++ ended (drop (i + 1) old) ≡ all
    some_on x true is next =
        ap (λ zs. zs ++ ended (drop (i + 1) old)) (append_none made)
        ∙ sym (ap (λ xs. made ++ differences i xs (y ∷ rest)) next
        ∙ ap (λ b. made ++ cond b (ended (drop (i + 1) old)) (record { column = i; cell = y } ∷ ended (drop (i + 1) old))) is) ∙ kept
    some_on x false is next =
        append_one made (record { column = i; cell = y }) (ended (drop (i + 1) old))
        ∙ sym (ap (λ xs. made ++ differences i xs (y ∷ rest)) next
        ∙ ap (λ b. made ++ cond b (ended (drop (i + 1) old)) (record { column = i; cell = y } ∷ ended (drop (i + 1) old))) is) ∙ kept

    go : (o : Option Cell) → slice_get old i ≡ o → (made ++ difference_at old i y) ++ ended (drop (i + 1) old) ≡ all
    go None is =
        let gone = none_got old i is in
        ap (λ o. (made ++ there o) ++ ended (drop (i + 1) old)) is
        ∙ ap (λ zs. zs ++ ended (drop (i + 1) old)) (append_none made)
        ∙ ap (λ xs. made ++ ended xs) (none_beyond old i gone) ∙ sym (ap (λ xs. made ++ differences i xs (y ∷ rest)) gone) ∙ kept
    go (Some x) is =
        ap (λ o. (made ++ there o) ++ ended (drop (i + 1) old)) is
        ∙ ap (λ b. (made ++ cond b [] (record { column = i; cell = y } ∷ [])) ++ ended (drop (i + 1) old)) refl
        ∙ some_on x (same_cell x y) refl (one_got old i x is)

-- a cell is the same as itself
same_itself : (x : Cell) → same_cell x x ≡ true
same_itself Null = refl
same_itself (Num n) = (Decides-int_eq n n).1 refl
same_itself (Truth true) = refl
same_itself (Truth false) = refl
same_itself (Text t) = (bytes_eq-Decides t t).1 refl
same_itself (Blob t) = (bytes_eq-Decides t t).1 refl

-- what a column adds, by what stands there
abbrev added : Option Cell → ℕ → Cell → Patch
added standing i y = option_map_or (λ x. cond (same_cell x y) [] (record { column = i; cell = y } ∷ [])) standing []

-- nothing where no other cell stands there
none_added : (standing : Option Cell) (i : ℕ) (y : Cell) → (IsSomeAnd standing (λ x. x ≢ y) → ⊥) → added standing i y ≡ []
none_added None i y none = refl
none_added (Some x) i y none = go (same_cell x y) refl
  where
    go : (b : Bool) → same_cell x y ≡ b → added (Some x) i y ≡ []
    go true is = ap (λ b. cond b [] (record { column = i; cell = y } ∷ [])) is
    go false is = absurd (none (λ same. let never : true ≡ false = sym (same_itself y) ∙ ap (λ z. same_cell z y) (sym same) ∙ is in cc))

-- the new cell where another one stands there
one_added : (standing : Option Cell) (i : ℕ) (y : Cell) → IsSomeAnd standing (λ x. x ≢ y) → added standing i y ≡ record { column = i; cell = y } ∷ []
one_added None i y other = absurd other
one_added (Some x) i y other = go (same_cell x y) refl
  where
    go : (b : Bool) → same_cell x y ≡ b → added (Some x) i y ≡ record { column = i; cell = y } ∷ []
    go true is = absurd (other (cell_is x y is))
    go false is = ap (λ b. cond b [] (record { column = i; cell = y } ∷ [])) is

-- what is added where a test tells whether another cell stands there
module _ (old : List Cell) (i : ℕ) (y : Cell) (differs : Bool) (tells : IsTrue differs ↔ IsSomeAnd (slice_get old i) (λ standing. standing ≢ y)) (made : Patch) where
  -- nothing where it does not
  pub adds_nothing : differs ≡ false → made ≡ made ++ difference_at old i y
  adds_nothing same = sym (ap (λ zs. made ++ zs) (none_added (slice_get old i) i y (λ other. let told : differs ≡ true = tells.1 other in cc)) ∙ append_none made)

  -- the new cell where it does
  pub adds_other : differs ≡ true → made ++ record { column = i; cell = y } ∷ [] ≡ made ++ difference_at old i y
  adds_other other = sym (ap (λ zs. made ++ zs) (one_added (slice_get old i) i y (tells.0 other)))

-- from a row that is not there nothing differs
pub none_differs : (row : Option (List Cell)) (new : List Cell) (has : Bool) → IsTrue has ↔ IsSome row → has ≡ false → [] ≡ differences 0 (unwrap_or row []) new
none_differs None new has tells none = refl
none_differs (Some r) new has tells none = let there : has ≡ true = tells.1 refl in cc

-- A row without cells differs in none.
none_left : (at : ℕ) (xs : List Cell) → differences at xs [] ≡ []
none_left at [] = refl
none_left at (x ∷ xs) = refl

-- behind the last cell of the new row all differences are there
pub all_made : (old rest : List Cell) (i : ℕ) (made all : Patch) → length rest ≡ 0 → made ++ differences i (drop i old) rest ≡ all → made ≡ all
all_made old [] i made all end kept = sym (append_none made) ∙ ap (λ ds. made ++ ds) (sym (none_left i (drop i old))) ∙ kept
all_made old (y ∷ rest) i made all end kept = let e : suc (length rest) ≡ 0 = end in absurd (omega (arith, e))
