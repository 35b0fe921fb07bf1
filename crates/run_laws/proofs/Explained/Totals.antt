-- How large a total can be.
use Rattle.std.proofs.Common.{◌≡◌, ℕ, suc, ◌+◌, ◌*◌, ◌-◌, ◌^◌, ◌<◌, ◌≤◌, Bool, true, false, cond, ◌&&◌, List, [], ◌∷◌, Option, None, Some, fold, length, ℤ, pos, negsuc, ◌+ℤ◌, ◌≤ℤ◌, refl, subst, arith}
use Rattle.std.specs.Prelude.{int_le, option_and_then, slice_get}
use Rattle.std.specs.List.{cons_option, filter_map}
use Rattle.std.specs.Option.{option_map_or}
use Rattle.std.proofs.lemmas.Bool.{and_from, and_parts}
use Rattle.std.proofs.lemmas.Int.{ints}
use Rattle.block_spec.specs.Slots.{Row}
use Rattle.cell_model.specs.Kinds.{values_of}
use Rattle.cell_model.specs.Values.{is_between, is_integer_of}
use Rattle.cell_model.specs.declared.cell.Cell.{Cell}
use Rattle.cell_model.specs.declared.cell.Cell.TheVariants.{Null, Num, Truth, Text, Blob}
use Rattle.cell_model.specs.declared.column.Column.{Column}
use Rattle.cell_model.specs.declared.table.TableDecl.{TableDecl}
use Rattle.isolation_spec.specs.Contents.{number_between, numbers_between, sum_of}
use Rattle.workload_laws.proofs.CellsBack.{small_of}
use Rattle.workload_laws.proofs.Numbers.{magnitude}
use Rattle.workload_spec.specs.Valid.{are_bounds_in, are_numbers, is_total}

-- a number of 64 bits
abbrev pub IsSmall : ℤ → Type 0
IsSmall number = (number ≤ℤ pos (2 ^ 64)) × (pos 0 ≤ℤ (number +ℤ pos (2 ^ 64)))

-- a magnitude below 2 ^ 64 is that of one
of_magnitude : (number : ℤ) → magnitude number < 2 ^ 64 → IsSmall number
of_magnitude (pos n) less = (omega (arith, ints, less), omega (arith, ints, less))
of_magnitude (negsuc n) less = (omega (arith, ints, less), omega (arith, ints, less))

-- bounds of a column's kind are such numbers
bounds_small : (its : Column) (low high : ℤ) → are_bounds_in its low high ≡ true → IsSmall low × IsSmall high
bounds_small its low high is =
    let both = and_parts (are_numbers (values_of its.kind) && is_integer_of its.kind low) (is_integer_of its.kind high) is in
    let first = and_parts (are_numbers (values_of its.kind)) (is_integer_of its.kind low) both.0 in
    (of_magnitude low (small_of (values_of its.kind) low first.1), of_magnitude high (small_of (values_of its.kind) high both.1))

-- so are those of a total that a workload asks for
pub total_small : (tables : List TableDecl) (table column : ℕ) (low high : ℤ) → is_total tables table column low high ≡ true → IsSmall low × IsSmall high
total_small tables table column low high is = at (slice_get tables table) is
  where
    its : (o : Option Column) → option_map_or (λ its. are_bounds_in its low high) o false ≡ true → IsSmall low × IsSmall high
    its None is = absurd (let never : ⊥ = cc is in never)
    its (Some column) is = bounds_small column low high is

    at : (o : Option TableDecl) → option_map_or (λ (decl : TableDecl). option_map_or (λ its. are_bounds_in its low high) (slice_get decl.schema column) false) o false ≡ true → IsSmall low × IsSmall high
    at None is = absurd (let never : ⊥ = cc is in never)
    at (Some decl) is = its (slice_get decl.schema column) is

-- what is kept of some elements is no more than they are
pub kept_few : {X Y : Type 0} (keep : X → Option Y) (xs : List X) → length (filter_map keep xs) ≤ length xs
kept_few keep [] = omega arith
kept_few {Y = Y} keep (x ∷ xs) = go (keep x) (kept_few keep xs)
  where
    go : (o : Option Y) → length (filter_map keep xs) ≤ length xs → length (cons_option o (filter_map keep xs)) ≤ suc (length xs)
    go None less = omega (arith, less)
    go (Some y) less = omega (arith, less)

-- a sum of at most so many numbers of 64 bits
record IsSum (count : ℕ) (sum : ℤ) : Type 0 where
  below : sum ≤ℤ pos (2 ^ 64 * count)
  above : pos 0 ≤ℤ (sum +ℤ pos (2 ^ 64 * count))

module _ (column : ℕ) (low high : ℤ) (small : IsSmall low × IsSmall high) where
  abbrev number : Row → Option ℤ
  number row = option_and_then (number_between low high) (slice_get row column)

  -- A number that is found is one between the two.
  found : (o : Option Cell) (n : ℤ) → option_and_then (number_between low high) o ≡ Some n → IsSmall n
  found None n is = absurd (let never : ⊥ = cc is in never)
  found (Some (Num m)) n is = by (is_between low high m) refl is
    where
      by : (b : Bool) → is_between low high m ≡ b → cond b (Some m) None ≡ Some n → IsSmall n
      by false h e = absurd (let never : ⊥ = cc e in never)
      by true h e =
          let same : m ≡ n = cc e in
          let parts = and_parts (int_le low m) (int_le m high) h in
          let least : low ≤ℤ m = grind (arith, ints, parts.0) in
          let greatest : m ≤ℤ high = grind (arith, ints, parts.1) in
          let one = small.0 in
          let other = small.1 in
          subst IsSmall same (omega (arith, ints, greatest, other), omega (arith, ints, least, one))
  found (Some Null) n is = absurd (let never : ⊥ = cc is in never)
  found (Some (Truth truth)) n is = absurd (let never : ⊥ = cc is in never)
  found (Some (Text text)) n is = absurd (let never : ⊥ = cc is in never)
  found (Some (Blob bytes)) n is = absurd (let never : ⊥ = cc is in never)

  -- The numbers are at most as many as the rows.
  pub numbers_few : (rows : List Row) → length (numbers_between column low high rows) ≤ length rows
  numbers_few rows = kept_few number rows

  -- rows behind a sum
  summed : (rows : List Row) (count : ℕ) (from : ℤ) → IsSum count from → IsSum (count + length rows) (fold ◌+ℤ◌ from (numbers_between column low high rows))
  summed [] count from is = record { below = omega (arith, ints, is.below); above = omega (arith, ints, is.above) }
  summed (row ∷ rows) count from is = go (number row) refl (λ from is. summed rows (count + 1) from is)
    where
      longer : (sum : ℤ) → IsSum (count + 1 + length rows) sum → IsSum (count + suc (length rows)) sum
      longer sum is = record { below = omega (arith, ints, is.below); above = omega (arith, ints, is.above) }

      go : (o : Option ℤ) → number row ≡ o
          → ((from : ℤ) → IsSum (count + 1) from → IsSum (count + 1 + length rows) (fold ◌+ℤ◌ from (numbers_between column low high rows)))
          → IsSum (count + suc (length rows)) (fold ◌+ℤ◌ from (cons_option o (numbers_between column low high rows)))
      go None e rest = longer _ (rest from (record { below = omega (arith, ints, is.below); above = omega (arith, ints, is.above) }))
      go (Some n) e rest =
          let one = found (slice_get row column) n e in
          longer _ (rest (from +ℤ n) (record { below = omega (arith, ints, is.below, one); above = omega (arith, ints, is.above, one) }))

  -- The sum of numbers in at most 2 ^ 47 rows is a number of 128 bits.
  pub sum_small : (rows : List Row) → length rows ≤ 2 ^ 47
      → is_between (negsuc (2 ^ 127 - 1)) (pos (2 ^ 127 - 1)) (sum_of (numbers_between column low high rows)) ≡ true
  sum_small rows few =
      let all = summed rows 0 (pos 0) (record { below = omega (arith, ints); above = omega (arith, ints) }) in
      let sum : ℤ = sum_of (numbers_between column low high rows) in
      let least : negsuc (2 ^ 127 - 1) ≤ℤ sum = omega (arith, ints, all.above, few) in
      let greatest : sum ≤ℤ pos (2 ^ 127 - 1) = omega (arith, ints, all.below, few) in
      and_from (int_le (negsuc (2 ^ 127 - 1)) sum) (int_le sum (pos (2 ^ 127 - 1))) (grind (arith, ints, least)) (grind (arith, ints, greatest))
