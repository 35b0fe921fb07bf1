use Rattle.std.proofs.Common.{◌≡◌, ◌∙◌, List, ℕ, length, map, ap, sym, subst, arith, Bor, Some}
use Rattle.std.specs.Prelude.{flat_map, IsPermutation}
use Rattle.std.proofs.lemmas.List.{length-map}
use Rattle.std.proofs.lemmas.List.Folds.{flat_map-map}
use Rattle.cell_model.specs.Kinds.{values_of}
use Rattle.cell_model.specs.declared.cell.Cell.{Cell}
use Rattle.arrow_spec.specs.DictBatches.{dictionary_with}
use Rattle.arrow_spec.specs.Dictionaries.{dictionary_of, value_cell}
use Rattle.dict_gather.specs.Places.{PlacedValue, placed_from}
use Rattle.dict_gather.proofs.EncodeLemmas.{dictionary-few, dictionary-short}
use Rattle.dict_gather.proofs.encode.by_dictionary.Goals as goal

-- the values behind references
abbrev values_of_all : List (Bor (List ℕ)) → List (List ℕ)
values_of_all = map (λ value. value.now)

-- what was sorted are the values of the cells
permuted : (cells : List Cell) (before after seen : List PlacedValue) → before ≡ placed_from 0 cells → IsPermutation before after → seen ≡ after
    → IsPermutation (placed_from 0 cells) seen
permuted cells before after seen is moved same =
    subst (λ (xs : List PlacedValue). IsPermutation xs seen) is (subst (IsPermutation before) (sym same) moved)

pub dictionary-requires-clause-count : goal.dictionary-requires-clause-count
dictionary-requires-clause-count c =
    let cells : List Cell = c.requires.0 in
    let has = c.requires.1 in
    let moved = permuted cells c.in_ok-placed.placed.items c.sort_unstable.new.self.items c.as_slice.result.now (c.in_ok-placed.ensures cells has)
    c.sort_unstable.ensures.permutation c.as_slice.ensures.value in
    let values : values_of_all c.as_slice-2.result.now ≡ dictionary_of cells =
    ap values_of_all c.as_slice-2.ensures.value ∙ c.in_ok-walked.ensures.values cells has.rows_are moved in
    let size : length (values_of_all c.as_slice-2.result.now) ≡ length c.as_slice-2.result.now =
    length-map c.as_slice-2.result.now (λ (value : Bor (List ℕ)). value.now) in
    omega (arith, ap length values, dictionary-few cells, has.rows_are, c.type_inv.column)

pub dictionary-requires-clause-few : goal.dictionary-requires-clause-few
dictionary-requires-clause-few c =
    let cells : List Cell = c.requires.0 in
    let has = c.requires.1 in
    let moved = permuted cells c.in_ok-placed.placed.items c.sort_unstable.new.self.items c.as_slice.result.now (c.in_ok-placed.ensures cells has)
    c.sort_unstable.ensures.permutation c.as_slice.ensures.value in
    let values : values_of_all c.as_slice-2.result.now ≡ dictionary_of cells =
    ap values_of_all c.as_slice-2.ensures.value ∙ c.in_ok-walked.ensures.values cells has.rows_are moved in
    let bytes : flat_map (λ (value : List ℕ). value) (values_of_all c.as_slice-2.result.now)
    ≡ flat_map (λ (value : Bor (List ℕ)). value.now) c.as_slice-2.result.now =
    flat_map-map (λ (value : List ℕ). value) (λ (value : Bor (List ℕ)). value.now) c.as_slice-2.result.now in
    let same : length (flat_map (λ (value : Bor (List ℕ)). value.now) c.as_slice-2.result.now)
    ≡ length (flat_map (λ (value : List ℕ). value) (dictionary_of cells)) =
    ap length (sym bytes ∙ ap (flat_map (λ (value : List ℕ). value)) values) in
    omega (arith, dictionary-short cells, ap length has.values_are)

pub returns-clause-dictionary : goal.returns-clause-dictionary
returns-clause-dictionary c = λ kind cells is has.
    let moved = permuted cells c.in_ok-placed.placed.items c.sort_unstable.new.self.items c.as_slice.result.now (c.in_ok-placed.ensures cells has)
    c.sort_unstable.ensures.permutation c.as_slice.ensures.value in
    let values : values_of_all c.as_slice-2.result.now ≡ dictionary_of cells =
    ap values_of_all c.as_slice-2.ensures.value ∙ c.in_ok-walked.ensures.values cells has.rows_are moved in
    ap Some (c.in_ok-dictionary.ensures kind is
    ∙ ap (λ (all : List (List ℕ)). dictionary_with kind (map (value_cell (values_of kind)) all)) values)

pub returns-clause-array : goal.returns-clause-array
returns-clause-array c = λ cells has.
    let moved = permuted cells c.in_ok-placed.placed.items c.sort_unstable.new.self.items c.as_slice.result.now (c.in_ok-placed.ensures cells has)
    c.sort_unstable.ensures.permutation c.as_slice.ensures.value in
    c.in_ok-array.ensures cells has (c.as_slice-3.ensures.value ∙ c.in_ok-walked.ensures.indices cells has.rows_are moved)
