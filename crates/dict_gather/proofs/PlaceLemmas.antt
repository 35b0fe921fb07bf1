-- The values of cells with their slots, and what a walk over them finds.
use Rattle.std.proofs.Common.{◌≡◌, inl, inr, ℕ, zero, suc, ◌+◌, ◌<◌, ◌≤◌, Bool, true, false, List, [], ◌∷◌, length, get_or, refl, sym, ap, ◌∙◌, subst, arith}
use Rattle.std.specs.Prelude.{if◌then◌else◌, IsPermutation, All, Contains}
use Rattle.std.specs.List.{AllByRecursion}
use Rattle.std.proofs.lemmas.Bool.{true≢false}
use Rattle.std.proofs.lemmas.List.{ext_get_or, get_or-map, length-map}
use Rattle.std.proofs.lemmas.List.Elements.{All-from_recursion}
use Rattle.std.proofs.lemmas.List.Sorted.{All-permutation, Contains-permutation, length_permutation}
use Rattle.arrow_spec.specs.Arrays.{value_of}
use Rattle.cell_model.specs.Values.{is_null}
use Rattle.cell_model.specs.declared.cell.Cell.{Cell}
use Rattle.cell_model.specs.declared.cell.Cell.TheVariants.{Null}
use Rattle.arrow_spec.specs.Dictionaries.{dictionary_of, place_in}
use Rattle.arrow_spec.proofs.Among.{Among, AmongCells}
use Rattle.arrow_spec.proofs.Rising.{dictionary-is}
use Rattle.dict_gather.specs.Places.{PlacedValue, indices_of, placed_from}
use Rattle.dict_gather.proofs.WalkLemmas.{IsPassed, Tells}

-- the place is that of a cell which is not null, counted from a slot on
pub record IsPlaced (from : ℕ) (cells : List Cell) (place : PlacedValue) : Type 0 where
  pub at : ℕ
  pub slot_is : place.slot ≡ from + at
  pub inside : at < length cells
  pub valid : is_null (get_or cells at Null) ≡ false
  pub value_is : value_of (get_or cells at Null) ≡ place.value

behind : (from : ℕ) (cell : Cell) (cells : List Cell) (place : PlacedValue) → IsPlaced (from + 1) cells place → IsPlaced from (cell ∷ cells) place
behind from cell cells place is = record {
  at = suc is.at;
  slot_is = is.slot_is ∙ omega arith;
  inside = omega (arith, is.inside);
  valid = is.valid;
  value_is = is.value_is;
}

behind-all : (from : ℕ) (cell : Cell) (cells : List Cell) (places : List PlacedValue) → AllByRecursion (IsPlaced (from + 1) cells) places
    → AllByRecursion (IsPlaced from (cell ∷ cells)) places
behind-all from cell cells [] all = tt
behind-all from cell cells (place ∷ places) all = (behind from cell cells place all.0, behind-all from cell cells places all.1)

with-first : (null : Bool) (from : ℕ) (cell : Cell) (cells : List Cell) (rest : List PlacedValue) → is_null cell ≡ null
    → AllByRecursion (IsPlaced from (cell ∷ cells)) rest
    → AllByRecursion (IsPlaced from (cell ∷ cells)) (if null then rest else record { value = value_of cell; slot = from } ∷ rest)
with-first true from cell cells rest is all = all
with-first false from cell cells rest is all = (
  record { at = 0; slot_is = omega arith; inside = omega arith; valid = is; value_is = refl },
  all,
)

all-placed : (from : ℕ) (cells : List Cell) → AllByRecursion (IsPlaced from cells) (placed_from from cells)
all-placed from [] = tt
all-placed from (cell ∷ cells) =
    with-first (is_null cell) from cell cells (placed_from (from + 1) cells) refl
    (behind-all from cell cells (placed_from (from + 1) cells) (all-placed (from + 1) cells))

contains-behind : {X : Type 0} (first : X) (xs : List X) (x : X) → Contains xs x → Contains (first ∷ xs) x
contains-behind first xs x has = (suc has.0, omega (arith, has.1), has.2)

has-behind : (null : Bool) (first : PlacedValue) (rest : List PlacedValue) (place : PlacedValue) → Contains rest place
    → Contains (if null then rest else first ∷ rest) place
has-behind true first rest place has = has
has-behind false first rest place has = contains-behind first rest place has

has-first : (null : Bool) (first : PlacedValue) (rest : List PlacedValue) → null ≡ false → Contains (if null then rest else first ∷ rest) first
has-first true first rest is = absurd (true≢false is)
has-first false first rest is = (0, omega arith, refl)

-- each cell that is not null has a place
placed-has : (from : ℕ) (cells : List Cell) (i : ℕ) → i < length cells → is_null (get_or cells i Null) ≡ false
    → Contains (placed_from from cells) (record { value = value_of (get_or cells i Null); slot = from + i })
placed-has from [] i inside valid = absurd (omega arith)
placed-has from (cell ∷ cells) zero inside valid =
    let same : from + 0 ≡ from = omega arith in
    let all : List PlacedValue = placed_from from (cell ∷ cells) in
    subst (λ (slot : ℕ). Contains all (record { value = value_of cell; slot = slot })) (sym same)
    (has-first (is_null cell) (record { value = value_of cell; slot = from }) (placed_from (from + 1) cells) valid)
placed-has from (cell ∷ cells) (suc i) inside valid =
    let same : from + 1 + i ≡ from + suc i = omega arith in
    let all : List PlacedValue = placed_from from (cell ∷ cells) in
    subst (λ (slot : ℕ). Contains all (record { value = value_of (get_or cells i Null); slot = slot })) same
    (has-behind (is_null cell) (record { value = value_of cell; slot = from }) (placed_from (from + 1) cells)
    (record { value = value_of (get_or cells i Null); slot = from + 1 + i })
    (placed-has (from + 1) cells i (omega arith) valid))

few-by : (null : Bool) (first : PlacedValue) (rest : List PlacedValue) (count : ℕ) → length rest ≤ count
    → length (if null then rest else first ∷ rest) ≤ suc count
few-by true first rest count few = omega arith
few-by false first rest count few = omega arith

placed-few : (from : ℕ) (cells : List Cell) → length (placed_from from cells) ≤ length cells
placed-few from [] = omega arith
placed-few from (cell ∷ cells) =
    few-by (is_null cell) (record { value = value_of cell; slot = from }) (placed_from (from + 1) cells) (length cells) (placed-few (from + 1) cells)

cells-among : (cells : List Cell) (i : ℕ) → i < length cells → is_null (get_or cells i Null) ≡ false → AmongCells (value_of (get_or cells i Null)) cells
cells-among [] i inside valid = absurd (omega arith)
cells-among (cell ∷ cells) zero inside valid = inl (valid, refl)
cells-among (cell ∷ cells) (suc i) inside valid = inr (cells-among cells i (omega arith) valid)

-- where a value stands among cells
pub record StandsAt (value : List ℕ) (cells : List Cell) : Type 0 where
  pub at : ℕ
  pub inside : at < length cells
  pub valid : is_null (get_or cells at Null) ≡ false
  pub value_is : value_of (get_or cells at Null) ≡ value

among-at : (value : List ℕ) (cells : List Cell) → AmongCells value cells → StandsAt value cells
among-at value [] among = absurd among
among-at value (cell ∷ cells) (inl here) = record { at = 0; inside = omega arith; valid = here.0; value_is = here.1 }
among-at value (cell ∷ cells) (inr there) =
    let rest = among-at value cells there in
    record { at = suc rest.at; inside = omega (arith, rest.inside); valid = rest.valid; value_is = rest.value_is }

-- the value of a slot
abbrev pub value_in_slot : List Cell → ℕ → List ℕ
value_in_slot cells slot = value_of (get_or cells slot Null)

module _ (cells : List Cell) (placed : List PlacedValue) (same : IsPermutation (placed_from 0 cells) placed) where
  pub each-placed : All (IsPlaced 0 cells) placed
  each-placed =
      All-permutation (IsPlaced 0 cells) (placed_from 0 cells) placed same
      (All-from_recursion (IsPlaced 0 cells) (placed_from 0 cells) (all-placed 0 cells))

  pub count-placed : length placed ≤ length cells
  count-placed = omega (arith, length_permutation (placed_from 0 cells) placed same, placed-few 0 cells)

  pub slot-inside : (i : ℕ) (d : PlacedValue) → i < length placed → (get_or placed i d).slot < length cells
  slot-inside i d below =
      let is = each-placed i d below in
      omega (arith, is.slot_is, is.inside)

  pub slots-tell : Tells (value_in_slot cells) placed
  slots-tell i d below =
      let is = each-placed i d below in
      let slot : is.at ≡ (get_or placed i d).slot = omega (arith, is.slot_is) in
      sym is.value_is ∙ ap (value_in_slot cells) slot

  -- a cell that is not null has a place among them
  pub place-of : (i : ℕ) → i < length cells → is_null (get_or cells i Null) ≡ false
      → Contains placed (record { value = value_of (get_or cells i Null); slot = 0 + i })
  place-of i inside valid =
      Contains-permutation (placed_from 0 cells) placed (record { value = value_of (get_or cells i Null); slot = 0 + i }) same
      (placed-has 0 cells i inside valid)

-- a walk over all values finds the dictionary
pub values-found : (cells : List Cell) (placed : List PlacedValue) (rows : ℕ) (values : List (List ℕ)) (indices : List ℕ)
    → IsPermutation (placed_from 0 cells) placed → IsPassed placed rows (length placed) values indices → values ≡ dictionary_of cells
values-found cells placed rows values indices same passed =
    sym (dictionary-is values cells passed.rises
    (λ (value : List ℕ) (among : Among value values).
    let found = passed.only value among in
    let d : PlacedValue = record { value = []; slot = 0 } in
    let is = each-placed cells placed same found.0 d found.1.0 in
    subst (λ (v : List ℕ). AmongCells v cells) (is.value_is ∙ found.1.1 d) (cells-among cells is.at is.inside is.valid))
    (λ (value : List ℕ) (among : AmongCells value cells).
    let stands = among-at value cells among in
    let has = place-of cells placed same stands.at stands.inside stands.valid in
    let place : PlacedValue = record { value = value_of (get_or cells stands.at Null); slot = 0 + stands.at } in
    subst (λ (v : List ℕ). Among v values) (ap (λ (p : PlacedValue). p.value) has.2 ∙ stands.value_is)
    (passed.all has.0 place has.1)))

index-by : (null : Bool) (cells : List Cell) (placed : List PlacedValue) (rows : ℕ) (values : List (List ℕ)) (indices : List ℕ)
    → IsPermutation (placed_from 0 cells) placed → IsPassed placed rows (length placed) values indices → values ≡ dictionary_of cells
    → (slot : ℕ) → slot < length cells → is_null (get_or cells slot Null) ≡ null
    → get_or indices slot 0 ≡ (if null then 0 else place_in (dictionary_of cells) (value_of (get_or cells slot Null)))
index-by true cells placed rows values indices same passed all slot inside null =
    passed.zero_at slot (λ i d below is.
    let placed_there = each-placed cells placed same i d below in
    let at : placed_there.at ≡ slot = omega (arith, placed_there.slot_is, is) in
    true≢false (sym (ap (λ (s : ℕ). is_null (get_or cells s Null)) at ∙ null) ∙ placed_there.valid))
index-by false cells placed rows values indices same passed all slot inside valid =
    let has = place-of cells placed same slot inside valid in
    let place : PlacedValue = record { value = value_of (get_or cells slot Null); slot = 0 + slot } in
    let at : (get_or placed has.0 place).slot ≡ slot = ap (λ (p : PlacedValue). p.slot) has.2 ∙ omega arith in
    ap (λ (s : ℕ). get_or indices s 0) (sym at)
    ∙ passed.index has.0 place has.1
    ∙ ap (λ (p : PlacedValue). place_in values p.value) has.2
    ∙ ap (λ (v : List (List ℕ)). place_in v (value_of (get_or cells slot Null))) all

-- and the index of each cell
pub indices-found : (cells : List Cell) (placed : List PlacedValue) (rows : ℕ) (values : List (List ℕ)) (indices : List ℕ) → length cells ≡ rows
    → IsPermutation (placed_from 0 cells) placed → IsPassed placed rows (length placed) values indices → indices ≡ indices_of cells
indices-found cells placed rows values indices count same passed =
    let all : values ≡ dictionary_of cells = values-found cells placed rows values indices same passed in
    let number : Cell → ℕ = λ cell. if is_null cell then 0 else place_in (dictionary_of cells) (value_of cell) in
    let size : length (indices_of cells) ≡ length cells = length-map cells number in
    ext_get_or 0 indices (indices_of cells) (passed.long ∙ sym count ∙ sym size)
    (λ slot below.
    let inside : slot < length cells = omega (arith, passed.long, count) in
    index-by (is_null (get_or cells slot Null)) cells placed rows values indices same passed all slot inside refl
    ∙ sym (get_or-map number cells slot Null 0 inside))
