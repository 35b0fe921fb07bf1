-- What is seen at keys, one after the other.
use Rattle.std.proofs.Common.{◌≡◌, ℕ, ◌+◌, ◌<◌, ℤ, true, List, [], ◌∷◌, ◌++◌, length, take, get_or, Option, None, Some, refl, ap, ◌∙◌, append-nil}
use Rattle.std.specs.List.{cons_option, filter_map, slice_get}
use Rattle.std.specs.Prelude.{option_and_then}
use Rattle.std.proofs.lemmas.List.{get_or_default}
use Rattle.std.proofs.lemmas.List.Elements.{filter_map-append}
use Rattle.cell_model.specs.declared.cell.Cell.{Cell}
use Rattle.cell_model.specs.Values.{is_between}
use Rattle.isolation_spec.specs.Contents.{State, at_place, number_between, numbers_between}
use Rattle.si_machine.specs.Kept.{is_number}
use Rattle.si_machine.proofs.Sums.{between-small, found-between}
use Rattle.outcome_judge.specs.HistoryKept.{place_in}
use Rattle.outcome_judge.specs.KeyLists.{rows_at}
use Rattle.outcome_judge.specs.declared.keys.RowKey.{RowKey}
use Rattle.outcome_judge.proofs.CommitsMade.{take-next-one}

module _ (seen : State) (keys : List RowKey) (column : ℕ) (low high : ℤ) where
  -- the number in a row's column, where it lies between the two
  abbrev pub number_of : List Cell → Option ℤ
  number_of row = option_and_then (number_between low high) (slice_get row column)

  -- the number in the row at a key
  abbrev pub number_at : RowKey → Option ℤ
  number_at of = option_and_then number_of (at_place seen (place_in of))

  -- the numbers at the first so many keys
  abbrev pub numbers_up_to : ℕ → List ℤ
  numbers_up_to i = numbers_between column low high (rows_at seen (take i keys))

  -- the numbers of one more key
  pub number-more : (i : ℕ) (d : RowKey) → i < length keys → numbers_up_to (i + 1) ≡ numbers_up_to i ++ cons_option (number_at (get_or keys i d)) []
  number-more i d within =
      let of : RowKey = get_or keys i d in
      ap (λ (ks : List RowKey). numbers_between column low high (rows_at seen ks)) (take-next-one keys i of within (get_or_default keys i d of within))
      ∙ ap (numbers_between column low high) (filter_map-append (λ (key : RowKey). at_place seen (place_in key)) (take i keys) (of ∷ []))
      ∙ filter_map-append number_of (rows_at seen (take i keys)) (cons_option (at_place seen (place_in of)) [])
      ∙ ap (λ (ns : List ℤ). numbers_up_to i ++ ns) (by (at_place seen (place_in of)))
    where
      by : (o : Option (List Cell)) → filter_map number_of (cons_option o []) ≡ cons_option (option_and_then number_of o) []
      by None = refl
      by (Some row) = refl

  -- where a key has no number, they stay
  pub number-none : (i : ℕ) (d : RowKey) → i < length keys → number_at (get_or keys i d) ≡ None → numbers_up_to (i + 1) ≡ numbers_up_to i
  number-none i d within none = number-more i d within ∙ ap (λ (o : Option ℤ). numbers_up_to i ++ cons_option o []) none ∙ append-nil (numbers_up_to i)

  -- where it has one, that stands behind them
  pub number-one : (i : ℕ) (d : RowKey) (number : ℤ) → i < length keys → number_at (get_or keys i d) ≡ Some number → numbers_up_to (i + 1) ≡ numbers_up_to i ++ number ∷ []
  number-one i d number within one = number-more i d within ∙ ap (λ (o : Option ℤ). numbers_up_to i ++ cons_option o []) one

  -- The number at a key lies between the two.
  between-two : (of : RowKey) (number : ℤ) → number_at of ≡ Some number → is_between low high number ≡ true
  between-two of number one = by (at_place seen (place_in of)) one
    where
      by : (o : Option (List Cell)) → option_and_then number_of o ≡ Some number → is_between low high number ≡ true
      by None h = absurd (let never : ⊥ = cc in never)
      by (Some row) h = found-between low high number (slice_get row column) h

  -- and so is one as columns have them, where they are
  pub number-small : (of : RowKey) (number : ℤ) → is_number low ≡ true → is_number high ≡ true → number_at of ≡ Some number → is_number number ≡ true
  number-small of number low_small high_small one = between-small low high number low_small high_small (between-two of number one)
