-- What goes by the elements of a list alone, whatever their order: the numbers of a column.
use Rattle.std.proofs.Common.{◌≡◌, ℕ, zero, suc, ◌<◌, ℤ, ◌+ℤ◌, List, [], ◌∷◌, Option, None, Some, fold, length, refl, ap, ◌∙◌, arith}
use Rattle.std.specs.List.{cons_option, filter_map}
use Rattle.std.specs.List.Sorted.{IsPermutation}
use Rattle.std.specs.Prelude.{get_or, option_and_then, set, slice_get, swap}
use Rattle.std.proofs.lemmas.Int.{ints}
use Rattle.std.proofs.lemmas.List.Sorted.{IsPermutation-keeps}
use Rattle.block_spec.specs.Slots.{Row}
use Rattle.isolation_spec.specs.Contents.{number_between, numbers_between, sum_of}
use Rattle.workload_spec.specs.declared.reply.Said.TheVariants as said
use Rattle.store_laws.specs.Scans.{TotalsGoByTheRows}

-- A relation that goes under a first element, over an exchange of the two first ones and from one
-- list to the next holds along each permutation.
module _ {X : Type 0} (R : List X → List X → Type 0) (same : (xs : List X) → R xs xs)
    (under : (x : X) (xs ys : List X) → R xs ys → R (x ∷ xs) (x ∷ ys))
    (turned : (x y : X) (xs : List X) → R (x ∷ y ∷ xs) (y ∷ x ∷ xs))
    (chain : (xs ys zs : List X) → R xs ys → R ys zs → R xs zs) where
  -- the first element exchanged with a later one
  to_front : (xs : List X) (j : ℕ) (x d : X) → j < length xs → R (x ∷ xs) (get_or xs j d ∷ set xs j x)
  to_front [] j x d h = absurd (omega arith)
  to_front (y ∷ xs) zero x d h = turned x y xs
  to_front (y ∷ xs) (suc j) x d h =
      chain _ _ _ (turned x y xs) (chain _ _ _ (under y _ _ (to_front xs j x d (omega arith))) (turned y (get_or xs j d) (set xs j x)))

  -- two elements exchanged
  exchanged : (xs : List X) (i j : ℕ) (d : X) → i < length xs → j < length xs → R xs (set (set xs i (get_or xs j d)) j (get_or xs i d))
  exchanged [] i j d p q = absurd (omega arith)
  exchanged (x ∷ xs) zero zero d p q = same (x ∷ xs)
  exchanged (x ∷ xs) zero (suc j) d p q = to_front xs j x d (omega arith)
  exchanged (x ∷ xs) (suc i) zero d p q = to_front xs i x d (omega arith)
  exchanged (x ∷ xs) (suc i) (suc j) d p q = under x _ _ (exchanged xs i j d (omega arith) (omega arith))

  swapped : (xs : List X) (i j : ℕ) → i < length xs → j < length xs → R xs (swap xs i j)
  swapped [] i j p q = same []
  swapped (x ∷ xs) i j p q = exchanged (x ∷ xs) i j x p q

  along_permutation : (xs ys : List X) → IsPermutation xs ys → R xs ys
  along_permutation xs = IsPermutation-keeps xs (R xs) (same xs) (λ ys i j p q h. chain xs ys _ h (swapped ys i j p q))

-- what a sum comes to, and how many numbers there are, with more numbers in front
pub record Alike (ns ms : List ℤ) : Type 0 where
  pub sum : (from : ℤ) → fold ◌+ℤ◌ from ns ≡ fold ◌+ℤ◌ from ms
  pub count : length ns ≡ length ms

module _ (column : ℕ) (low high : ℤ) where
  abbrev number : Row → Option ℤ
  number row = option_and_then (number_between low high) (slice_get row column)

  -- the same total
  abbrev Same : List Row → List Row → Type 0
  Same rows others = Alike (filter_map number rows) (filter_map number others)

  one_more : (o : Option ℤ) (ns ms : List ℤ) → Alike ns ms → Alike (cons_option o ns) (cons_option o ms)
  one_more None ns ms is = is
  one_more (Some n) ns ms is = record { sum = λ from. is.sum (from +ℤ n); count = ap suc is.count }

  two_turned : (o p : Option ℤ) (ns : List ℤ) → Alike (cons_option o (cons_option p ns)) (cons_option p (cons_option o ns))
  two_turned None p ns = record { sum = λ from. refl; count = refl }
  two_turned (Some n) None ns = record { sum = λ from. refl; count = refl }
  two_turned (Some n) (Some m) ns = record {
    sum = λ from. let turn : (from +ℤ n) +ℤ m ≡ (from +ℤ m) +ℤ n = omega (arith, ints) in ap (λ first. fold ◌+ℤ◌ first ns) turn;
    count = refl;
  }

  rows_alike : (rows others : List Row) → IsPermutation rows others → Same rows others
  rows_alike = along_permutation Same (λ rows. record { sum = λ from. refl; count = refl })
      (λ row rows others is. one_more (number row) (filter_map number rows) (filter_map number others) is)
      (λ row other rows. two_turned (number row) (number other) (filter_map number rows))
      (λ one two three first second. record { sum = λ from. first.sum from ∙ second.sum from; count = first.count ∙ second.count })

-- the total of a column goes by the rows alone
pub totals_go_by_the_rows : TotalsGoByTheRows
totals_go_by_the_rows column low high rows others moved =
    let is = rows_alike column low high rows others moved in
    ap (λ count. said.Totalled count (sum_of (numbers_between column low high rows))) is.count
    ∙ ap (said.Totalled (length (numbers_between column low high others))) (is.sum (Rattle.std.specs.Prelude.pos 0))
