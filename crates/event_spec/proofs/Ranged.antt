-- The index of the examples of ranges: its keys between two, and the candidates of each.
use Rattle.std.proofs.Common.{◌≡◌, ℕ, ℤ, List, refl, sym, ap, ◌∙◌, pos, [], ◌∷◌, ◌++◌, None, filter, map, length, unwrap_or, arith}
use Rattle.std.specs.FinMap as finite
use Rattle.std.specs.FinMap.{entries-from_sorted, get-from_sorted, len-empty, len-entries}
use Rattle.std.specs.Ordering.{int_cmp}
use Rattle.cell_model.specs.Values.{is_between}
use Rattle.event_spec.specs.declared.own.OwnTransaction.{OwnTransaction}
use Rattle.event_spec.specs.Effects.{found, range_keys}
use Rattle.event_spec.specs.Examples.{shape}
use Rattle.event_spec.specs.Judged.{found_by, own_key}
use Rattle.event_spec.specs.Parts.{places_at, slot_at}
use Rattle.event_spec.specs.RangeExamples.{ranged}
use Rattle.event_spec.specs.Touched.{held_keys}

abbrev pub Entries : Type 0
Entries = List (ℤ × List ℕ)

abbrev pub eights : Entries
eights = (pos 8, 1 ∷ []) ∷ []

abbrev pub nines : Entries
nines = (pos 9, 2 ∷ []) ∷ []

abbrev pub fives : Entries
fives = (pos 5, 0 ∷ []) ∷ (pos 13, 3 ∷ []) ∷ []

pub in_zero : finite.entries (finite.from_sorted {R = int_cmp} eights) ≡ eights
in_zero = entries-from_sorted int_cmp eights tt

pub in_one : finite.entries (finite.from_sorted {R = int_cmp} nines) ≡ nines
in_one = entries-from_sorted int_cmp nines tt

pub in_five : finite.entries (finite.from_sorted {R = int_cmp} fives) ≡ fives
in_five = entries-from_sorted int_cmp fives tt

no_item : (es : Entries) → length es ≡ 0 → es ≡ []
no_item [] e = refl
no_item (x ∷ es) e = absurd (omega (arith, e))

pub in_none : finite.entries (finite.empty {X = List ℕ} {R = int_cmp}) ≡ []
in_none = no_item (finite.entries (finite.empty {X = List ℕ} {R = int_cmp}))
    (sym (len-entries (finite.empty {X = List ℕ} {R = int_cmp})) ∙ len-empty int_cmp (List ℕ))

abbrev pub within : ℤ → ℤ → Entries → List ℤ
within low high es = filter (is_between low high) (map (λ e. e.0) es)

pub keys_are : (low high : ℤ) → range_keys shape ranged 0 low high ≡ within low high eights ++ (within low high nines ++ (within low high fives ++ []))
keys_are low high i = within low high (in_zero i) ++ (within low high (in_one i) ++ (within low high (in_none i)
    ++ (within low high (in_none i) ++ (within low high (in_none i)
    ++ (within low high (in_five i) ++ (within low high (in_none i) ++ (within low high (in_none i) ++ [])))))))

pub no_keys : (low high : ℤ) → range_keys shape ranged 1 low high ≡ []
no_keys low high i = within low high (in_none i) ++ (within low high (in_none i) ++ (within low high (in_none i)
    ++ (within low high (in_none i) ++ (within low high (in_none i)
    ++ (within low high (in_none i) ++ (within low high (in_none i) ++ (within low high (in_none i) ++ [])))))))

-- where no part is held
pub none_held : (low high : ℤ) → held_keys shape (λ name. None) 0 low high ≡ []
none_held low high i = within low high (in_none i) ++ (within low high (in_none i) ++ (within low high (in_none i)
    ++ (within low high (in_none i) ++ (within low high (in_none i)
    ++ (within low high (in_none i) ++ (within low high (in_none i) ++ (within low high (in_none i) ++ [])))))))

pub at_eight : places_at shape ranged 0 (pos 8) ≡ 1 ∷ []
at_eight = ap (λ o. unwrap_or o []) (get-from_sorted int_cmp eights (pos 8) tt)

pub at_nine : places_at shape ranged 0 (pos 9) ≡ 2 ∷ []
at_nine = ap (λ o. unwrap_or o []) (get-from_sorted int_cmp nines (pos 9) tt)

pub at_five : places_at shape ranged 0 (pos 5) ≡ 0 ∷ []
at_five = ap (λ o. unwrap_or o []) (get-from_sorted int_cmp fives (pos 5) tt)

pub at_thirteen : places_at shape ranged 0 (pos 13) ≡ 3 ∷ []
at_thirteen = ap (λ o. unwrap_or o []) (get-from_sorted int_cmp fives (pos 13) tt)

-- what is found of a key whose candidates are these
pub found_of : (own : OwnTransaction) (key : ℤ) (places : List ℕ) → places_at shape ranged 0 key ≡ places
    → found shape ranged (own_key 0 key own) 0 key ≡ found_by (slot_at shape ranged 0) places (own_key 0 key own)
found_of own key places is = ap (λ ps. found_by (slot_at shape ranged 0) ps (own_key 0 key own)) is
