-- Which values a dictionary has, and at which place.
use Rattle.std.proofs.Common.{◌≡◌, ◌⊎◌, inl, inr, ℕ, zero, suc, Bool, true, false, List, [], ◌∷◌}
use Rattle.std.proofs.Common.{refl, sym, ap, subst, ◌∙◌, Some}
use Rattle.std.specs.Prelude.{bytes_eq, slice_get, if◌then◌else◌}
use Rattle.std.specs.BTreeSet.{insert_key}
use Rattle.std.specs.Cmp.Lexicographic.{slice_cmp}
use Rattle.std.specs.FinMap.{slice_cmp-IsAntisymmetric, nat_cmp-IsAntisymmetric}
use Rattle.std.specs.Ordering.{nat_cmp, match_ordering}
use Rattle.std.specs.declared.cmp.Ordering.{Ordering}
use Rattle.std.specs.declared.cmp.Ordering.TheVariants.{Less, Equal, Greater}
use Rattle.std.proofs.lemmas.Bool.{true≢false}
use Rattle.std.proofs.lemmas.Slice.Eq.{bytes_eq-Decides}
use Rattle.arrow_spec.specs.Arrays.{value_of}
use Rattle.cell_model.specs.Values.{is_null}
use Rattle.cell_model.specs.declared.cell.Cell.{Cell}
use Rattle.arrow_spec.specs.Dictionaries.{dictionary_of, place_in, with_cell}

-- the value is one of these
abbrev pub Among : List ℕ → List (List ℕ) → Type 0
Among value [] = ⊥
Among value (first ∷ rest) = (first ≡ value) ⊎ Among value rest

-- the value is that of one of these cells which is not null
abbrev pub AmongCells : List ℕ → List Cell → Type 0
AmongCells value [] = ⊥
AmongCells value (cell ∷ cells) = ((is_null cell ≡ false) × (value_of cell ≡ value))
    ⊎ AmongCells value cells

-- two values of which neither is before the other are equal
pub equal : (one two : List ℕ) → slice_cmp nat_cmp one two ≡ Equal → one ≡ two
equal = slice_cmp-IsAntisymmetric nat_cmp-IsAntisymmetric

laid : (order : Ordering) (value first : List ℕ) (rest longer : List (List ℕ))
    → (order ≡ Equal → value ≡ first) → Among value longer
    → Among value (match_ordering order (value ∷ first ∷ rest) (first ∷ rest) (first ∷ longer))
laid Less value first rest longer same among = inl refl
laid Equal value first rest longer same among = inl (sym (same refl))
laid Greater value first rest longer same among = inr among

pub insert-among : (value : List ℕ) (values : List (List ℕ))
    → Among value (insert_key (slice_cmp nat_cmp) values value)
insert-among value [] = inl refl
insert-among value (first ∷ rest) =
    laid (slice_cmp nat_cmp value first) value first rest
    (insert_key (slice_cmp nat_cmp) rest value) (equal value first) (insert-among value rest)

kept : (order : Ordering) (value new first : List ℕ) (rest longer : List (List ℕ))
    → (first ≡ value) ⊎ Among value rest → (Among value rest → Among value longer)
    → Among value (match_ordering order (new ∷ first ∷ rest) (first ∷ rest) (first ∷ longer))
kept Less value new first rest longer among more = inr among
kept Equal value new first rest longer among more = among
kept Greater value new first rest longer (inl is) more = inl is
kept Greater value new first rest longer (inr there) more = inr (more there)

pub insert-keeps : (value new : List ℕ) (values : List (List ℕ)) → Among value values
    → Among value (insert_key (slice_cmp nat_cmp) values new)
insert-keeps value new [] among = absurd among
insert-keeps value new (first ∷ rest) among =
    kept (slice_cmp nat_cmp new first) value new first rest
    (insert_key (slice_cmp nat_cmp) rest new) among (insert-keeps value new rest)

parted : (order : Ordering) (value new first : List ℕ) (rest longer : List (List ℕ))
    → Among value (match_ordering order (new ∷ first ∷ rest) (first ∷ rest) (first ∷ longer))
    → (Among value longer → (new ≡ value) ⊎ Among value rest)
    → (new ≡ value) ⊎ ((first ≡ value) ⊎ Among value rest)
parted Less value new first rest longer (inl is) back = inl is
parted Less value new first rest longer (inr among) back = inr among
parted Equal value new first rest longer among back = inr among
parted Greater value new first rest longer (inl is) back = inr (inl is)
parted Greater value new first rest longer (inr among) back = elim (back among) [
  | inl is ↦ inl is
  | inr there ↦ inr (inr there)
]

-- what is among the values with one more is that one or was there
pub insert-back : (value new : List ℕ) (values : List (List ℕ))
    → Among value (insert_key (slice_cmp nat_cmp) values new) → (new ≡ value) ⊎ Among value values
insert-back value new [] (inl is) = inl is
insert-back value new [] (inr none) = absurd none
insert-back value new (first ∷ rest) among =
    parted (slice_cmp nat_cmp new first) value new first rest
    (insert_key (slice_cmp nat_cmp) rest new) among (insert-back value new rest)

cell-keeps : (null : Bool) (value new : List ℕ) (values : List (List ℕ)) → Among value values
    → Among value (if null then values else insert_key (slice_cmp nat_cmp) values new)
cell-keeps true value new values among = among
cell-keeps false value new values among = insert-keeps value new values among

cell-among : (null : Bool) (value : List ℕ) (values : List (List ℕ)) → null ≡ false
    → Among value (if null then values else insert_key (slice_cmp nat_cmp) values value)
cell-among true value values is = absurd (true≢false is)
cell-among false value values is = insert-among value values

cell-back : (null : Bool) (value new : List ℕ) (values : List (List ℕ))
    → Among value (if null then values else insert_key (slice_cmp nat_cmp) values new)
    → ((null ≡ false) × (new ≡ value)) ⊎ Among value values
cell-back true value new values among = inr among
cell-back false value new values among = elim (insert-back value new values among) [
  | inl is ↦ inl (refl, is)
  | inr there ↦ inr there
]

-- the dictionary has each value of the cells
pub dictionary-among : (value : List ℕ) (cells : List Cell) → AmongCells value cells
    → Among value (dictionary_of cells)
dictionary-among value [] among = absurd among
dictionary-among value (cell ∷ cells) (inl here) =
    subst (λ (v : List ℕ). Among v (with_cell cell (dictionary_of cells))) here.1
    (cell-among (is_null cell) (value_of cell) (dictionary_of cells) here.0)
dictionary-among value (cell ∷ cells) (inr there) =
    cell-keeps (is_null cell) value (value_of cell) (dictionary_of cells)
    (dictionary-among value cells there)

-- and no other
pub dictionary-back : (value : List ℕ) (cells : List Cell) → Among value (dictionary_of cells)
    → AmongCells value cells
dictionary-back value [] among = absurd among
dictionary-back value (cell ∷ cells) among =
    elim (cell-back (is_null cell) value (value_of cell) (dictionary_of cells) among) [
      | inl here ↦ inl here
      | inr there ↦ inr (dictionary-back value cells there)
    ]

cell-at : (cells : List Cell) (i : ℕ) (cell : Cell) → slice_get cells i ≡ Some cell
    → is_null cell ≡ false → AmongCells (value_of cell) cells
cell-at [] i cell is there = absurd (cc)
cell-at (first ∷ rest) zero cell is there =
    let same : first ≡ cell = cc in
    inl (ap is_null same ∙ there, ap value_of same)
cell-at (first ∷ rest) (suc i) cell is there = inr (cell-at rest i cell is there)

found-by : (same : Bool) (value first : List ℕ) (rest : List (List ℕ))
    → (same ≡ true → first ≡ value)
    → (same ≡ false → slice_get rest (place_in rest value) ≡ Some value)
    → slice_get (first ∷ rest) (if same then 0 else suc (place_in rest value)) ≡ Some value
found-by true value first rest is more = ap (λ (v : List ℕ). Some v) (is refl)
found-by false value first rest is more = more refl

-- a value that is there stands at its place
pub found : (value : List ℕ) (values : List (List ℕ)) → Among value values
    → slice_get values (place_in values value) ≡ Some value
found value [] among = absurd among
found value (first ∷ rest) among =
    found-by (bytes_eq first value) value first rest (bytes_eq-Decides first value).0
    (λ other. elim among [
      | inl is ↦ absurd (true≢false (sym ((bytes_eq-Decides first value).1 is) ∙ other))
      | inr there ↦ found value rest there
    ])

pub values-found : (cells : List Cell) (i : ℕ) (cell : Cell) → slice_get cells i ≡ Some cell
    → is_null cell ≡ false
    → slice_get (dictionary_of cells) (place_in (dictionary_of cells) (value_of cell))
    ≡ Some (value_of cell)
values-found cells i cell is there =
    found (value_of cell) (dictionary_of cells)
    (dictionary-among (value_of cell) cells (cell-at cells i cell is there))
