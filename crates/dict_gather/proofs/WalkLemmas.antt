-- A walk over sorted values: which values are new, and the index of each slot.
use Rattle.std.proofs.Common.{◌≡◌, ◌⊎◌, inl, inr, ℕ, zero, suc, ◌+◌, ◌-◌, ◌<◌, ◌≤◌, Bool, true, false, List, [], ◌∷◌, ◌++◌, length, get_or, set, replicate, refl, sym, ap, ◌∙◌, subst, arith, length-append}
use Rattle.std.specs.Prelude.{bytes_eq, if◌then◌else◌, IsSorted}
use Rattle.std.specs.Cmp.Lexicographic.{slice_cmp}
use Rattle.std.specs.Ordering.{is_eq, is_lt, nat_cmp, ordering_reverse}
use Rattle.std.specs.declared.cmp.Ordering.{Ordering}
use Rattle.std.specs.declared.cmp.Ordering.TheVariants.{Less, Equal, Greater}
use Rattle.std.proofs.lemmas.Bool.{true≢false, cases_lt, cases_eq}
use Rattle.std.proofs.lemmas.Cmp.{nat_list_cmp_total, tied_itself}
use Rattle.std.proofs.lemmas.List.{get_or-set_same, get_or-set_other, get_or_default, length-set, length-replicate}
use Rattle.std.proofs.lemmas.Slice.Eq.{bytes_eq-Decides}
use Rattle.arrow_spec.specs.Dictionaries.{place_in}
use Rattle.arrow_spec.proofs.Among.{Among, equal}
use Rattle.arrow_spec.proofs.Rising.{IsBefore, Rises, before-one, rises-cons, rises-head, rises-nil, rises-tail}
use Rattle.dict_gather.specs.Places.{PlacedValue, place_cmp}
use Rattle.dict_gather.specs.Walks.{AddsIfNew, IsNew}

-- ---- a value behind others

pub among-left : (value : List ℕ) (values more : List (List ℕ)) → Among value values → Among value (values ++ more)
among-left value [] more among = absurd among
among-left value (first ∷ rest) more (inl is) = inl is
among-left value (first ∷ rest) more (inr there) = inr (among-left value rest more there)

pub among-end : (value : List ℕ) (values : List (List ℕ)) → Among value (values ++ value ∷ [])
among-end value [] = inl refl
among-end value (first ∷ rest) = inr (among-end value rest)

pub among-back : (value last : List ℕ) (values : List (List ℕ)) → Among value (values ++ last ∷ []) → Among value values ⊎ (last ≡ value)
among-back value last [] (inl is) = inr is
among-back value last [] (inr none) = absurd none
among-back value last (first ∷ rest) (inl is) = inl (inl is)
among-back value last (first ∷ rest) (inr there) = elim (among-back value last rest there) [
  | inl among ↦ inl (inr among)
  | inr is ↦ inr is
]

left-by : (same : Bool) (value first : List ℕ) (rest more : List (List ℕ)) → (first ≡ value → same ≡ true) → (first ≡ value) ⊎ Among value rest
    → (Among value rest → place_in (rest ++ more) value ≡ place_in rest value)
    → (if same then 0 else suc (place_in (rest ++ more) value)) ≡ (if same then 0 else suc (place_in rest value))
left-by true value first rest more told here on = refl
left-by false value first rest more told (inl is) on = absurd (true≢false (sym (told is)))
left-by false value first rest more told (inr there) on = ap suc (on there)

-- further values leave the place of one that is there
pub place-left : (value : List ℕ) (values more : List (List ℕ)) → Among value values → place_in (values ++ more) value ≡ place_in values value
place-left value [] more among = absurd among
place-left value (first ∷ rest) more among =
    left-by (bytes_eq first value) value first rest more (bytes_eq-Decides first value).1 among (place-left value rest more)

end-by : (same : Bool) (value first : List ℕ) (rest : List (List ℕ)) → (same ≡ true → first ≡ value) → (Among value (first ∷ rest) → ⊥)
    → ((Among value rest → ⊥) → place_in (rest ++ value ∷ []) value ≡ length rest)
    → (if same then 0 else suc (place_in (rest ++ value ∷ []) value)) ≡ suc (length rest)
end-by true value first rest told lacks on = absurd (lacks (inl (told refl)))
end-by false value first rest told lacks on = ap suc (on (λ there. lacks (inr there)))

-- a value that was not there stands behind all
pub place-end : (value : List ℕ) (values : List (List ℕ)) → (Among value values → ⊥) → place_in (values ++ value ∷ []) value ≡ length values
place-end value [] lacks =
    ap (λ (same : Bool). if same then 0 else 1) ((bytes_eq-Decides value value).1 refl)
place-end value (first ∷ rest) lacks =
    end-by (bytes_eq first value) value first rest (bytes_eq-Decides first value).0 lacks (place-end value rest)

-- ---- lists that rise

-- values end with this one
abbrev pub Ends : List (List ℕ) → List ℕ → Type 0
Ends values value = (front : List (List ℕ)) × (values ≡ front ++ value ∷ [])

front-before : (value last : List ℕ) (front : List (List ℕ)) → Rises (front ++ last ∷ []) → Among value front → slice_cmp nat_cmp value last ≡ Less
front-before value last [] rises among = absurd among
front-before value last (first ∷ front) rises (inl is) =
    subst (λ (v : List ℕ). slice_cmp nat_cmp v last ≡ Less) is
    (before-one first last (front ++ last ∷ []) (rises-head first (front ++ last ∷ []) rises) (among-end last front))
front-before value last (first ∷ front) rises (inr there) = front-before value last front (rises-tail first (front ++ last ∷ []) rises) there

-- the last of values that rise stands once
last-once : (last : List ℕ) (front : List (List ℕ)) → Rises (front ++ last ∷ []) → Among last front → ⊥
last-once last front rises among =
    let less : slice_cmp nat_cmp last last ≡ Less = front-before last last front rises among in
    let same : slice_cmp nat_cmp last last ≡ Equal = tied_itself nat_list_cmp_total last in
    cc

before-push : (value new : List ℕ) (values : List (List ℕ)) → IsBefore value values → slice_cmp nat_cmp value new ≡ Less → IsBefore value (values ++ new ∷ [])
before-push value new [] before less = (less, tt)
before-push value new (first ∷ rest) before less = (before.0, before-push value new rest before.1 less)

-- values that rise to one go on with one behind it
pub rises-push : (front : List (List ℕ)) (last new : List ℕ) → Rises (front ++ last ∷ []) → slice_cmp nat_cmp last new ≡ Less
    → Rises ((front ++ last ∷ []) ++ new ∷ [])
rises-push [] last new rises less = rises-cons last (new ∷ []) (less, tt) (rises-cons new [] tt rises-nil)
rises-push (first ∷ front) last new rises less =
    let head : IsBefore first (front ++ last ∷ []) = rises-head first (front ++ last ∷ []) rises in
    rises-cons first ((front ++ last ∷ []) ++ new ∷ [])
    (before-push first new (front ++ last ∷ []) head
    (nat_list_cmp_total.trans first last new (before-one first last (front ++ last ∷ []) head (among-end last front)) less))
    (rises-push front last new (rises-tail first (front ++ last ∷ []) rises) less)

-- one value rises
pub rises-one : (value : List ℕ) → Rises ([] ++ value ∷ [])
rises-one value = rises-cons value [] tt rises-nil

-- ---- what holds of the walk so far

-- of each placed value the slot tells the value
abbrev pub Tells : (ℕ → List ℕ) → List PlacedValue → Type 0
Tells value_in placed = (i : ℕ) (d : PlacedValue) → i < length placed → (get_or placed i d).value ≡ value_in (get_or placed i d).slot

-- The first `n` placed values were passed: the values are theirs, each once and ascending, and each
-- passed slot has the index of its value, each other slot 0.
pub record IsPassed (placed : List PlacedValue) (rows n : ℕ) (values : List (List ℕ)) (indices : List ℕ) : Type 0 where
  pub rises : Rises values
  pub all : (i : ℕ) (d : PlacedValue) → i < n → Among (get_or placed i d).value values
  pub only : (value : List ℕ) → Among value values → (i : ℕ) × ((i < n) × ((d : PlacedValue) → (get_or placed i d).value ≡ value))
  pub last : (d : PlacedValue) → 0 < n → Ends values (get_or placed (n - 1) d).value
  pub few : length values ≤ n
  pub long : length indices ≡ rows
  pub index : (i : ℕ) (d : PlacedValue) → i < n → get_or indices (get_or placed i d).slot 0 ≡ place_in values (get_or placed i d).value
  pub zero_at : (slot : ℕ) → ((i : ℕ) (d : PlacedValue) → i < n → (get_or placed i d).slot ≡ slot → ⊥) → get_or indices slot 0 ≡ 0

zeros : (rows slot : ℕ) → ◌≡◌ {A = ℕ} (get_or (replicate rows 0) slot 0) 0
zeros zero slot = refl
zeros (suc rows) zero = refl
zeros (suc rows) (suc slot) = zeros rows slot

pub passed-none : (placed : List PlacedValue) (rows : ℕ) → IsPassed placed rows 0 [] (replicate rows 0)
passed-none placed rows = record {
  rises = rises-nil;
  all = λ i d below. absurd (omega arith);
  only = λ value among. absurd among;
  last = λ d some. absurd (omega arith);
  few = omega arith;
  long = length-replicate rows 0;
  index = λ i d below. absurd (omega arith);
  zero_at = λ slot none. zeros rows slot;
}

-- how the values go on from some to others, which end with the value of this place
pub record GoesOn (old new : List (List ℕ)) (value : List ℕ) : Type 0 where
  pub rises : Rises new
  pub ends : Ends new value
  pub forth : (other : List ℕ) → Among other old → Among other new
  pub back : (other : List ℕ) → Among other new → Among other old ⊎ (value ≡ other)
  pub kept : (other : List ℕ) → Among other old → place_in new other ≡ place_in old other
  pub few : length new ≤ length old + 1

-- a value that is the last stays
pub goes-same : (values : List (List ℕ)) (value : List ℕ) → Rises values → Ends values value → GoesOn values values value
goes-same values value rises ends = record {
  rises = rises;
  ends = ends;
  forth = λ other among. among;
  back = λ other among. inl among;
  kept = λ other among. refl;
  few = omega arith;
}

-- a new value stands behind the others
pub goes-new : (values : List (List ℕ)) (value : List ℕ) → Rises (values ++ value ∷ []) → GoesOn values (values ++ value ∷ []) value
goes-new values value rises = record {
  rises = rises;
  ends = (values, refl);
  forth = λ other among. among-left other values (value ∷ []) among;
  back = λ other among. among-back other value values among;
  kept = λ other among. place-left other values (value ∷ []) among;
  few = omega (arith, length-append values (value ∷ []));
}

-- the last of values that rise has the last place
last-place : (values : List (List ℕ)) (value : List ℕ) → Rises values → Ends values value → place_in values value ≡ length values - 1
last-place values value rises ends =
    let front : List (List ℕ) = ends.0 in
    let up : Rises (front ++ value ∷ []) = subst Rises ends.1 rises in
    let size = length-append front (value ∷ []) in
    ap (λ (all : List (List ℕ)). place_in all value) ends.1
    ∙ place-end value front (last-once value front up)
    ∙ omega (arith, ap length ends.1)

module _ (placed : List PlacedValue) (rows n : ℕ) (old new : List (List ℕ)) (indices : List ℕ) (place : PlacedValue) (value_in : ℕ → List ℕ)
    (passed : IsPassed placed rows n old indices) (inside : n < length placed) (here : place ≡ get_or placed n place) (slot : place.slot < rows)
    (tells : Tells value_in placed) (goes : GoesOn old new place.value) where
  -- the place under any default
  there : (d : PlacedValue) → get_or placed n d ≡ place
  there d = get_or_default placed n d place inside ∙ sym here

  written : List ℕ
  written = set indices place.slot (length new - 1)

  all-on : (i : ℕ) (d : PlacedValue) → i < n + 1 → Among (get_or placed i d).value new
  all-on i d below = elim (cases_lt i n) [
    | inl less ↦ goes.forth (get_or placed i d).value (passed.all i d less)
    | inr most ↦
        let is : i ≡ n = omega arith in
        subst (λ (v : List ℕ). Among v new)
        (sym (ap (λ (p : PlacedValue). p.value) (ap (λ (k : ℕ). get_or placed k d) is ∙ there d)))
        (subst (λ (all : List (List ℕ)). Among place.value all) (sym goes.ends.1) (among-end place.value goes.ends.0))
  ]

  only-on : (value : List ℕ) → Among value new → (i : ℕ) × ((i < n + 1) × ((d : PlacedValue) → (get_or placed i d).value ≡ value))
  only-on value among = elim (goes.back value among) [
    | inl old_one ↦ let found = passed.only value old_one in
        let below = found.1.0 in
        (found.0, (omega arith, found.1.1))
    | inr is ↦ (n, (omega arith, λ d. ap (λ (p : PlacedValue). p.value) (there d) ∙ is))
  ]

  value-of-slot : (i : ℕ) (d : PlacedValue) → i < length placed → (get_or placed i d).slot ≡ place.slot → (get_or placed i d).value ≡ place.value
  value-of-slot i d below same =
      tells i d below ∙ ap value_in same
      ∙ sym (ap (λ (p : PlacedValue). value_in p.slot) (there d))
      ∙ sym (tells n d inside)
      ∙ ap (λ (p : PlacedValue). p.value) (there d)

module _ (placed : List PlacedValue) (rows n : ℕ) (old new : List (List ℕ)) (indices : List ℕ) (place : PlacedValue) (value_in : ℕ → List ℕ)
    (passed : IsPassed placed rows n old indices) (inside : n < length placed) (here : place ≡ get_or placed n place) (slot : place.slot < rows)
    (tells : Tells value_in placed) (goes : GoesOn old new place.value) where
  number : (placed' : PlacedValue) → get_or (set indices place.slot (length new - 1)) place.slot 0 ≡ place_in new place.value
  number placed' =
      let room : place.slot < length indices = omega (arith, passed.long) in
      get_or-set_same indices place.slot (length new - 1) 0 room ∙ sym (last-place new place.value goes.rises goes.ends)

  index-on : (i : ℕ) (d : PlacedValue) → i < n + 1
      → get_or (set indices place.slot (length new - 1)) (get_or placed i d).slot 0 ≡ place_in new (get_or placed i d).value
  index-on i d below = elim (cases_eq (get_or placed i d).slot place.slot) [
    | inl same ↦
        let value = value-of-slot placed rows n old new indices place value_in passed inside here slot tells goes i d (omega arith) same in
        ap (λ (s : ℕ). get_or (set indices place.slot (length new - 1)) s 0) same
        ∙ number place ∙ ap (place_in new) (sym value)
    | inr other ↦ elim (cases_lt i n) [
      | inl less ↦
          get_or-set_other indices place.slot (get_or placed i d).slot (length new - 1) 0 other
          ∙ passed.index i d less
          ∙ sym (goes.kept (get_or placed i d).value (passed.all i d less))
      | inr most ↦
          let is : i ≡ n = omega arith in
          absurd (other (ap (λ (p : PlacedValue). p.slot)
          (ap (λ (k : ℕ). get_or placed k d) is ∙ there placed rows n old new indices place value_in passed inside here slot tells goes d)))
    ]
  ]

  zero-on : (slot' : ℕ) → ((i : ℕ) (d : PlacedValue) → i < n + 1 → (get_or placed i d).slot ≡ slot' → ⊥)
      → get_or (set indices place.slot (length new - 1)) slot' 0 ≡ 0
  zero-on slot' none =
      get_or-set_other indices place.slot slot' (length new - 1) 0
      (λ is. none n place (omega arith) (ap (λ (p : PlacedValue). p.slot) (sym here) ∙ sym is))
      ∙ passed.zero_at slot' (λ i d less. none i d (omega arith))

-- one more place was passed
pub passed-on : (placed : List PlacedValue) (rows n : ℕ) (old new : List (List ℕ)) (indices : List ℕ) (place : PlacedValue) (value_in : ℕ → List ℕ)
    → IsPassed placed rows n old indices → n < length placed → place ≡ get_or placed n place → place.slot < rows → Tells value_in placed
    → GoesOn old new place.value → IsPassed placed rows (n + 1) new (set indices place.slot (length new - 1))
passed-on placed rows n old new indices place value_in passed inside here slot tells goes = record {
  rises = goes.rises;
  all = all-on placed rows n old new indices place value_in passed inside here slot tells goes;
  only = only-on placed rows n old new indices place value_in passed inside here slot tells goes;
  last = λ d some.
      let same : n + 1 - 1 ≡ n = omega arith in
      subst (Ends new)
      (sym (ap (λ (p : PlacedValue). p.value)
      (ap (λ (k : ℕ). get_or placed k d) same ∙ there placed rows n old new indices place value_in passed inside here slot tells goes d)))
      goes.ends;
  few = omega (arith, goes.few, passed.few);
  long = length-set indices place.slot (length new - 1) ∙ passed.long;
  index = index-on placed rows n old new indices place value_in passed inside here slot tells goes;
  zero_at = zero-on placed rows n old new indices place value_in passed inside here slot tells goes;
}

-- ---- how a walk goes on

not-greater : (order back : Ordering) → back ≡ ordering_reverse order → is_eq order ≡ false → is_lt back ≡ false → order ≡ Less
not-greater Less back is apart above = refl
not-greater Equal back is apart above = absurd (true≢false apart)
not-greater Greater back is apart above = absurd (true≢false (sym (ap is_lt is) ∙ above))

equal-told : (order : Ordering) → is_eq order ≡ true → order ≡ Equal
equal-told Less is = absurd (true≢false (sym is))
equal-told Equal is = refl
equal-told Greater is = absurd (true≢false (sym is))

no-values : (values : List (List ℕ)) → length values ≤ 0 → values ≡ []
no-values [] few = refl
no-values (value ∷ values) few = absurd (omega arith)

module _ (placed : List PlacedValue) (rows n : ℕ) (values : List (List ℕ)) (indices : List ℕ) (place : PlacedValue)
    (passed : IsPassed placed rows n values indices) (sorted : IsSorted place_cmp placed) (inside : n < length placed)
    (here : place ≡ get_or placed n place) where
  abbrev before : PlacedValue
  before = get_or placed (n - 1) place

  above : 0 < n → is_lt (slice_cmp nat_cmp place.value before.value) ≡ false
  above some =
      let next : n - 1 + 1 ≡ n = omega arith in
      ap (λ (p : PlacedValue). is_lt (slice_cmp nat_cmp p.value before.value)) (here ∙ ap (λ (k : ℕ). get_or placed k place) (sym next))
      ∙ sorted (n - 1) place (omega arith) (omega arith)

  compared : (is_eq (place_cmp before (get_or placed n place))) ≡ is_eq (slice_cmp nat_cmp before.value place.value)
  compared = ap (λ (p : PlacedValue). is_eq (slice_cmp nat_cmp before.value p.value)) (sym here)

-- a value that is another than the one before is behind all values
pub new-goes : (placed : List PlacedValue) (rows n : ℕ) (values : List (List ℕ)) (indices : List ℕ) (place : PlacedValue)
    → IsPassed placed rows n values indices → IsSorted place_cmp placed → n < length placed → place ≡ get_or placed n place → IsNew placed n true
    → GoesOn values (values ++ place.value ∷ []) place.value
new-goes placed rows n values indices place passed sorted inside here (inl none) =
    let empty : values ≡ [] = no-values values (omega (arith, passed.few)) in
    goes-new values place.value (subst (λ (all : List (List ℕ)). Rises (all ++ place.value ∷ [])) (sym empty) (rises-one place.value))
new-goes placed rows zero values indices place passed sorted inside here (inr apart) =
    let empty : values ≡ [] = no-values values passed.few in
    goes-new values place.value (subst (λ (all : List (List ℕ)). Rises (all ++ place.value ∷ [])) (sym empty) (rises-one place.value))
new-goes placed rows (suc n) values indices place passed sorted inside here (inr apart) =
    let some : 0 < suc n = omega arith in
    let ends = passed.last place some in
    let last : List ℕ = (before placed rows (suc n) values indices place passed sorted inside here).value in
    let differ : is_eq (slice_cmp nat_cmp last place.value) ≡ false =
    sym (compared placed rows (suc n) values indices place passed sorted inside here) ∙ apart place in
    let less : slice_cmp nat_cmp last place.value ≡ Less =
    not-greater (slice_cmp nat_cmp last place.value) (slice_cmp nat_cmp place.value last) (nat_list_cmp_total.antisymm place.value last) differ
    (above placed rows (suc n) values indices place passed sorted inside here some) in
    goes-new values place.value
    (subst (λ (all : List (List ℕ)). Rises (all ++ place.value ∷ [])) (sym ends.1)
    (rises-push ends.0 last place.value (subst Rises ends.1 passed.rises) less))

-- a value that is the one before is the last
pub same-goes : (placed : List PlacedValue) (rows n : ℕ) (values : List (List ℕ)) (indices : List ℕ) (place : PlacedValue)
    → IsPassed placed rows n values indices → IsSorted place_cmp placed → n < length placed → place ≡ get_or placed n place → IsNew placed n false
    → GoesOn values values place.value
same-goes placed rows n values indices place passed sorted inside here is =
    let last : List ℕ = (before placed rows n values indices place passed sorted inside here).value in
    let told : slice_cmp nat_cmp last place.value ≡ Equal =
    equal-told (slice_cmp nat_cmp last place.value)
    (sym (compared placed rows n values indices place passed sorted inside here) ∙ is.1 place) in
    goes-same values place.value passed.rises (subst (Ends values) (equal last place.value told) (passed.last place is.0))

-- values to which that of a place is added where it is new go on
pub adds-goes : (placed : List PlacedValue) (rows n : ℕ) (old new : List (List ℕ)) (indices : List ℕ) (place : PlacedValue)
    → IsPassed placed rows n old indices → IsSorted place_cmp placed → n < length placed → place ≡ get_or placed n place
    → AddsIfNew placed n place.value old new → GoesOn old new place.value
adds-goes placed rows n old new indices place passed sorted inside here (true, told, is) =
    subst (λ (all : List (List ℕ)). GoesOn old all place.value) (sym is) (new-goes placed rows n old indices place passed sorted inside here told)
adds-goes placed rows n old new indices place passed sorted inside here (false, told, is) =
    subst (λ (all : List (List ℕ)). GoesOn old all place.value) (sym is) (same-goes placed rows n old indices place passed sorted inside here told)

-- values that end with one are not none
pub some-values : (old new : List (List ℕ)) (value : List ℕ) → GoesOn old new value → 1 ≤ length new
some-values old new value goes = omega (arith, ap length goes.ends.1, length-append goes.ends.0 (value ∷ []))

-- a place has one value
pub value-there : (placed : List PlacedValue) (at : ℕ) (one two : PlacedValue) → at < length placed → one ≡ get_or placed at one → two ≡ get_or placed at two
    → one.value ≡ two.value
value-there placed at one two inside is same =
    ap (λ (p : PlacedValue). p.value) (is ∙ get_or_default placed at one two inside ∙ sym same)
