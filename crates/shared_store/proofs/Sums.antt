-- Totals, row by row: how many numbers there are so far, and their sum.
use Rattle.std.proofs.Common.{◌≡◌, ℕ, ◌+◌, ◌*◌, ◌-◌, ◌^◌, ◌<◌, ◌≤◌, Bool, true, false, cond, List, [], ◌∷◌, ◌++◌, length, take, get_or, fold, Option, None, Some, ℤ, pos, negsuc, ◌+ℤ◌, ◌≤ℤ◌, refl, sym, ap, ◌∙◌, subst, arith, append-nil, suc}
use Rattle.std.specs.Prelude.{int_le, option_and_then, slice_get}
use Rattle.std.specs.List.{cons_option, filter_map}
use Rattle.std.proofs.lemmas.Bool.{and_parts}
use Rattle.std.proofs.lemmas.Int.{ints}
use Rattle.std.proofs.lemmas.List.{append_assoc, length_push}
use Rattle.std.specs.Int.RustNames.{FitsSigned}
use mir.Syntax.{w128}
use Rattle.std.proofs.lemmas.List.Elements.{filter_map-append}
use Rattle.std.proofs.lemmas.List.Sums.{fold_push}
use Rattle.std.proofs.Math.Seq.{take-suc}
use Rattle.cell_model.specs.Values.{is_between}
use Rattle.cell_model.specs.declared.cell.Cell.{Cell}
use Rattle.cell_model.specs.declared.cell.Cell.TheVariants.{Null, Num, Truth, Text, Blob}
use Rattle.isolation_spec.specs.Contents.{number_between, numbers_between, sum_of}
use Rattle.shared_store.specs.Totalling.{is_small}

-- the numbers so far are counted and summed up, and each of them has at most 64 bits
pub record Summed (count : ℕ) (sum : ℤ) (index : ℕ) (numbers : List ℤ) : Type 0 where
  pub count_is : count ≡ length numbers
  pub sum_is : sum ≡ sum_of numbers
  pub most : count ≤ index
  pub below : sum ≤ℤ pos (2 ^ 64 * count)
  pub above : pos 0 ≤ℤ (sum +ℤ pos (2 ^ 64 * count))

-- a row without such a number
pub summed-none : (count index : ℕ) (sum : ℤ) (numbers : List ℤ) → Summed count sum index numbers → Summed count sum (index + 1) numbers
summed-none count index sum numbers h = record { count_is = h.count_is; sum_is = h.sum_is; most = omega (arith, h.most); below = h.below; above = h.above }

-- a row with one
pub summed-one : (count index : ℕ) (sum : ℤ) (numbers : List ℤ) (number : ℤ) → is_small number ≡ true → Summed count sum index numbers → Summed (count + 1) (sum +ℤ number) (index + 1) (numbers ++ number ∷ [])
summed-one count index sum numbers number small h =
    let bounds = and_parts (int_le (negsuc (2 ^ 63 - 1)) number) (int_le number (pos (2 ^ 64 - 1))) small in
    let least : negsuc (2 ^ 63 - 1) ≤ℤ number = grind (arith, ints, bounds.0) in
    let greatest : number ≤ℤ pos (2 ^ 64 - 1) = grind (arith, ints, bounds.1) in
    record {
      count_is = omega (arith, h.count_is, length_push numbers number);
      sum_is = ap (λ (s : ℤ). s +ℤ number) h.sum_is ∙ sym (fold_push ◌+ℤ◌ (pos 0) numbers number);
      most = omega (arith, h.most);
      below = omega (arith, ints, h.below, greatest);
      above = omega (arith, ints, h.above, least);
    }

-- What lies between two numbers of at most 64 bits has at most 64 bits.
pub between-small : (low high number : ℤ) → is_small low ≡ true → is_small high ≡ true → is_between low high number ≡ true → is_small number ≡ true
between-small low high number low_small high_small h = grind (arith, ints, low_small, high_small, h)

-- A number that is found is one between the two.
pub found-between : (low high number : ℤ) (o : Option Cell) → option_and_then (number_between low high) o ≡ Some number → is_between low high number ≡ true
found-between low high number None is = absurd (let never : ⊥ = cc in never)
found-between low high number (Some (Num found)) is = by (is_between low high found) refl is
  where
    by : (b : Bool) → is_between low high found ≡ b → cond b (Some found) None ≡ Some number → is_between low high number ≡ true
    by true h e = let same : found ≡ number = cc in subst (λ (n : ℤ). is_between low high n ≡ true) same h
    by false h e = absurd (let never : ⊥ = cc in never)
found-between low high number (Some Null) is = absurd (let never : ⊥ = cc in never)
found-between low high number (Some (Truth truth)) is = absurd (let never : ⊥ = cc in never)
found-between low high number (Some (Text text)) is = absurd (let never : ⊥ = cc in never)
found-between low high number (Some (Blob blob)) is = absurd (let never : ⊥ = cc in never)

module _ (column : ℕ) (low high : ℤ) where
  -- the number in a row's column
  abbrev pub number_of : List Cell → Option ℤ
  number_of row = option_and_then (number_between low high) (slice_get row column)

  -- the numbers of one more row
  numbers-more : (rows : List (List Cell)) (i : ℕ) (row : List Cell) → i < length rows → row ≡ get_or rows i row
      → numbers_between column low high (take (i + 1) rows) ≡ numbers_between column low high (take i rows) ++ cons_option (number_of row) []
  numbers-more rows i row within is =
      ap (λ (rs : List (List Cell)). filter_map number_of rs) (let e : i + 1 ≡ suc i = omega arith in ap (λ (n : ℕ). take n rows) e ∙ take-suc rows i row within)
      ∙ filter_map-append number_of (take i rows) (get_or rows i row ∷ [])
      ∙ ap (λ (r : List Cell). filter_map number_of (take i rows) ++ cons_option (number_of r) []) (sym is)

  -- A row more without such a number leaves the total.
  pub row-none : (rows : List (List Cell)) (i count : ℕ) (sum : ℤ) (row : List Cell) → i < length rows → row ≡ get_or rows i row → number_of row ≡ None
      → Summed count sum i (numbers_between column low high (take i rows)) → Summed count sum (i + 1) (numbers_between column low high (take (i + 1) rows))
  row-none rows i count sum row within is none h =
      subst (Summed count sum (i + 1)) (sym (numbers-more rows i row within is ∙ ap (λ (o : Option ℤ). numbers_between column low high (take i rows) ++ cons_option o []) none ∙ append-nil (numbers_between column low high (take i rows))))
      (summed-none count i sum (numbers_between column low high (take i rows)) h)

  -- One with such a number adds it.
  pub row-one : (rows : List (List Cell)) (i count : ℕ) (sum : ℤ) (row : List Cell) (number : ℤ) → i < length rows → row ≡ get_or rows i row → is_small low ≡ true → is_small high ≡ true
      → number_of row ≡ Some number → Summed count sum i (numbers_between column low high (take i rows)) → Summed (count + 1) (sum +ℤ number) (i + 1) (numbers_between column low high (take (i + 1) rows))
  row-one rows i count sum row number within is low_small high_small found h =
      subst (Summed (count + 1) (sum +ℤ number) (i + 1)) (sym (numbers-more rows i row within is ∙ ap (λ (o : Option ℤ). numbers_between column low high (take i rows) ++ cons_option o []) found))
      (summed-one count i sum (numbers_between column low high (take i rows)) number
      (between-small low high number low_small high_small (found-between low high number (slice_get row column) found)) h)

-- A sum of at most 2 ^ 47 numbers of 64 bits has less than 128 bits.
in_128 : (count : ℕ) (sum : ℤ) → count ≤ 2 ^ 47 → sum ≤ℤ pos (2 ^ 64 * count) → pos 0 ≤ℤ (sum +ℤ pos (2 ^ 64 * count)) → FitsSigned w128 sum
in_128 count (pos n) few below above = record { sfits = omega (arith, ints, few, below) }
in_128 count (negsuc n) few below above = record { sfits = omega (arith, ints, few, above) }

-- The same with other names for what it counts.
summed-as : (count count' index index' : ℕ) (sum : ℤ) (numbers numbers' : List ℤ) → count ≡ count' → index ≡ index' → numbers ≡ numbers' → Summed count sum index numbers → Summed count' sum index' numbers'
summed-as count count' index index' sum numbers numbers' a b c h =
    subst (λ n. Summed n sum index' numbers') a (subst (λ i. Summed count sum i numbers') b (subst (Summed count sum index) c h))

module _ (column : ℕ) (low high : ℤ) (small : (is_small low ≡ true) × (is_small high ≡ true)) where
  -- rows behind those that are summed up
  summed-behind : (rows : List (List Cell)) (count index : ℕ) (sum : ℤ) (numbers : List ℤ) → Summed count sum index numbers
      → Summed (count + length (numbers_between column low high rows)) (fold ◌+ℤ◌ sum (numbers_between column low high rows)) (index + length rows) (numbers ++ numbers_between column low high rows)
  summed-behind [] count index sum numbers h = summed-as count (count + 0) index (index + 0) sum numbers (numbers ++ []) (omega arith) (omega arith) (sym (append-nil numbers)) h
  summed-behind (row ∷ rows) count index sum numbers h = go (number_of column low high row) refl (summed-behind rows)
    where
      go : (o : Option ℤ) → number_of column low high row ≡ o
          → ((count index : ℕ) (sum : ℤ) (numbers : List ℤ) → Summed count sum index numbers
          → Summed (count + length (numbers_between column low high rows)) (fold ◌+ℤ◌ sum (numbers_between column low high rows)) (index + length rows) (numbers ++ numbers_between column low high rows))
          → Summed (count + length (cons_option o (numbers_between column low high rows))) (fold ◌+ℤ◌ sum (cons_option o (numbers_between column low high rows))) (index + suc (length rows)) (numbers ++ cons_option o (numbers_between column low high rows))
      go None none behind =
          let rest = behind count (index + 1) sum numbers (summed-none count index sum numbers h) in
          summed-as _ _ _ _ _ _ _ refl (omega arith) refl rest
      go (Some number) found behind =
          let rest = behind (count + 1) (index + 1) (sum +ℤ number) (numbers ++ number ∷ []) (summed-one count index sum numbers number
          (between-small low high number small.0 small.1 (found-between low high number (slice_get row column) found)) h) in
          summed-as _ _ _ _ _ _ _ (omega arith) (omega arith) (append_assoc numbers (number ∷ []) (numbers_between column low high rows)) rest

  -- All numbers of rows, counted and summed up.
  pub rows_summed : (rows : List (List Cell)) → Summed (length (numbers_between column low high rows)) (sum_of (numbers_between column low high rows)) (length rows) (numbers_between column low high rows)
  rows_summed rows = summed-as _ _ _ _ _ _ _ (omega arith) (omega arith) refl (summed-behind rows 0 0 (pos 0) [] (record { count_is = refl; sum_is = refl; most = omega arith; below = omega (arith, ints); above = omega (arith, ints) }))

  -- Of rows that are no more than 2 ^ 47 the numbers are no more, and their sum has less than 128 bits.
  pub sum_fits : (rows : List (List Cell)) → length rows ≤ 2 ^ 47
      → (length (numbers_between column low high rows) ≤ 2 ^ 47) × FitsSigned w128 (sum_of (numbers_between column low high rows))
  sum_fits rows few =
      let all = rows_summed rows in (
        omega (arith, all.most, few),
        in_128 (length (numbers_between column low high rows)) (sum_of (numbers_between column low high rows)) (omega (arith, all.most, few)) all.below all.above,
      )
