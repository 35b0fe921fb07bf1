-- A dictionary rises, and a list that rises and has its values is the dictionary.
use Rattle.std.proofs.Common.{◌≡◌, ◌⊎◌, inl, inr, ℕ, Bool, true, false, List, [], ◌∷◌, refl, sym, ap}
use Rattle.std.proofs.Common.{subst, ◌∙◌}
use Rattle.std.specs.Prelude.{if◌then◌else◌}
use Rattle.std.specs.BTreeSet.{insert_key}
use Rattle.std.specs.Cmp.Lexicographic.{slice_cmp}
use Rattle.std.specs.List.{AllByRecursion}
use Rattle.std.specs.List.Sorted.{IsStrictlySortedBy}
use Rattle.std.specs.Ordering.{nat_cmp, match_ordering, ordering_reverse}
use Rattle.std.specs.declared.cmp.Ordering.{Ordering}
use Rattle.std.specs.declared.cmp.Ordering.TheVariants.{Less, Equal, Greater}
use Rattle.std.proofs.lemmas.Cmp.{nat_list_cmp_total, tied_itself}
use Rattle.arrow_spec.specs.Arrays.{value_of}
use Rattle.cell_model.specs.Values.{is_null}
use Rattle.cell_model.specs.declared.cell.Cell.{Cell}
use Rattle.arrow_spec.specs.Dictionaries.{dictionary_of}
use Rattle.arrow_spec.proofs.Among.{Among, AmongCells, dictionary-among, dictionary-back}

-- each value is before the next
abbrev pub Rises : List (List ℕ) → Type 0
Rises values = IsStrictlySortedBy (slice_cmp nat_cmp) values

-- the value is before each of these
abbrev pub IsBefore : List ℕ → List (List ℕ) → Type 0
IsBefore value values = AllByRecursion (λ other. slice_cmp nat_cmp value other ≡ Less) values

pub rises-nil : Rises []
unfolding IsStrictlySortedBy
rises-nil = tt

pub rises-cons : (value : List ℕ) (values : List (List ℕ)) → IsBefore value values → Rises values
    → Rises (value ∷ values)
unfolding IsStrictlySortedBy
rises-cons value values before rises = (before, rises)

pub rises-head : (value : List ℕ) (values : List (List ℕ)) → Rises (value ∷ values)
    → IsBefore value values
unfolding IsStrictlySortedBy
rises-head value values rises = rises.0

pub rises-tail : (value : List ℕ) (values : List (List ℕ)) → Rises (value ∷ values) → Rises values
unfolding IsStrictlySortedBy
rises-tail value values rises = rises.1

-- what is before all values is before one of them
pub before-one : (value other : List ℕ) (values : List (List ℕ)) → IsBefore value values
    → Among other values → slice_cmp nat_cmp value other ≡ Less
before-one value other [] before among = absurd among
before-one value other (first ∷ rest) before (inl is) =
    subst (λ (v : List ℕ). slice_cmp nat_cmp value v ≡ Less) is before.0
before-one value other (first ∷ rest) before (inr there) =
    before-one value other rest before.1 there

-- what is before one that is before all is before all
before-further : (value first : List ℕ) (values : List (List ℕ))
    → slice_cmp nat_cmp value first ≡ Less → IsBefore first values → IsBefore value values
before-further value first [] less before = tt
before-further value first (next ∷ rest) less before = (
  nat_list_cmp_total.trans value first next less before.0,
  before-further value first rest less before.1,
)

inserted-before : (order : Ordering) (value new first : List ℕ) (rest longer : List (List ℕ))
    → slice_cmp nat_cmp value new ≡ Less → IsBefore value (first ∷ rest) → IsBefore value longer
    → IsBefore value (match_ordering order (new ∷ first ∷ rest) (first ∷ rest) (first ∷ longer))
inserted-before Less value new first rest longer less before more = (less, before)
inserted-before Equal value new first rest longer less before more = before
inserted-before Greater value new first rest longer less before more = (before.0, more)

insert-before : (value new : List ℕ) (values : List (List ℕ)) → slice_cmp nat_cmp value new ≡ Less
    → IsBefore value values → IsBefore value (insert_key (slice_cmp nat_cmp) values new)
insert-before value new [] less before = (less, tt)
insert-before value new (first ∷ rest) less before =
    inserted-before (slice_cmp nat_cmp new first) value new first rest
    (insert_key (slice_cmp nat_cmp) rest new) less before
    (insert-before value new rest less before.1)

-- the other way round
pub greater-back : (one two : List ℕ) → slice_cmp nat_cmp one two ≡ Greater
    → slice_cmp nat_cmp two one ≡ Less
greater-back one two is = nat_list_cmp_total.antisymm two one ∙ ap ordering_reverse is

inserted-rises : (order : Ordering) (new first : List ℕ) (rest longer : List (List ℕ))
    → slice_cmp nat_cmp new first ≡ order → Rises (first ∷ rest)
    → Rises longer → (slice_cmp nat_cmp first new ≡ Less → IsBefore first longer)
    → Rises (match_ordering order (new ∷ first ∷ rest) (first ∷ rest) (first ∷ longer))
inserted-rises Less new first rest longer is rises more before =
    rises-cons new (first ∷ rest)
    (is, before-further new first rest is (rises-head first rest rises)) rises
inserted-rises Equal new first rest longer is rises more before = rises
inserted-rises Greater new first rest longer is rises more before =
    rises-cons first longer (before (greater-back new first is)) more

pub insert-rises : (new : List ℕ) (values : List (List ℕ)) → Rises values
    → Rises (insert_key (slice_cmp nat_cmp) values new)
insert-rises new [] rises = rises-cons new [] tt rises-nil
insert-rises new (first ∷ rest) rises =
    inserted-rises (slice_cmp nat_cmp new first) new first rest
    (insert_key (slice_cmp nat_cmp) rest new) refl rises
    (insert-rises new rest (rises-tail first rest rises))
    (λ less. insert-before first new rest less (rises-head first rest rises))

cell-rises : (null : Bool) (value : List ℕ) (values : List (List ℕ)) → Rises values
    → Rises (if null then values else insert_key (slice_cmp nat_cmp) values value)
cell-rises true value values rises = rises
cell-rises false value values rises = insert-rises value values rises

pub dictionary-rises : (cells : List Cell) → Rises (dictionary_of cells)
dictionary-rises [] = rises-nil
dictionary-rises (cell ∷ cells) =
    cell-rises (is_null cell) (value_of cell) (dictionary_of cells) (dictionary-rises cells)

-- no value is before itself
never : (value : List ℕ) → slice_cmp nat_cmp value value ≡ Less → ⊥
never value less = let same : slice_cmp nat_cmp value value ≡ Equal =
    tied_itself nat_list_cmp_total value in cc

-- of two values one alone is before the other
never-both : (one two : List ℕ) → slice_cmp nat_cmp one two ≡ Less
    → slice_cmp nat_cmp two one ≡ Less → ⊥
never-both one two forth back = never one (nat_list_cmp_total.trans one two one forth back)

heads : (one two : List ℕ) (ones twos : List (List ℕ)) → IsBefore one ones → IsBefore two twos
    → (one ≡ two) ⊎ Among two ones → (two ≡ one) ⊎ Among one twos → one ≡ two
heads one two ones twos first second (inl is) there = is
heads one two ones twos first second (inr among) (inl is) = sym is
heads one two ones twos first second (inr among) (inr there) =
    absurd (never-both one two (before-one one two ones first among)
    (before-one two one twos second there))

others : (one two value : List ℕ) (ones twos : List (List ℕ)) → one ≡ two → IsBefore one ones
    → Among value ones → (two ≡ value) ⊎ Among value twos → Among value twos
others one two value ones twos same before among (inl is) =
    absurd (never one (subst (λ (v : List ℕ). slice_cmp nat_cmp one v ≡ Less) (sym (same ∙ is))
    (before-one one value ones before among)))
others one two value ones twos same before among (inr there) = there

-- two lists that rise and have the same values are equal
pub same-values : (ones twos : List (List ℕ)) → Rises ones → Rises twos
    → ((value : List ℕ) → Among value ones → Among value twos)
    → ((value : List ℕ) → Among value twos → Among value ones) → ones ≡ twos
same-values [] [] rise up forth back = refl
same-values [] (two ∷ twos) rise up forth back = absurd (back two (inl refl))
same-values (one ∷ ones) [] rise up forth back = absurd (forth one (inl refl))
same-values (one ∷ ones) (two ∷ twos) rise up forth back =
    let first : IsBefore one ones = rises-head one ones rise in
    let second : IsBefore two twos = rises-head two twos up in
    let same : one ≡ two = heads one two ones twos first second
    (back two (inl refl)) (forth one (inl refl)) in
    let rest : ones ≡ twos = same-values ones twos (rises-tail one ones rise)
    (rises-tail two twos up)
    (λ (value : List ℕ) (among : Among value ones).
    others one two value ones twos same first among (forth value (inr among)))
    (λ (value : List ℕ) (among : Among value twos).
    others two one value twos ones (sym same) second among (back value (inr among))) in
    cc

-- a list that rises and has the values of the cells is their dictionary
pub dictionary-is : (values : List (List ℕ)) (cells : List Cell) → Rises values
    → ((value : List ℕ) → Among value values → AmongCells value cells)
    → ((value : List ℕ) → AmongCells value cells → Among value values)
    → dictionary_of cells ≡ values
dictionary-is values cells rises forth back =
    same-values (dictionary_of cells) values (dictionary-rises cells) rises
    (λ (value : List ℕ) (among : Among value (dictionary_of cells)).
    back value (dictionary-back value cells among))
    (λ (value : List ℕ) (among : Among value values).
    dictionary-among value cells (forth value among))
