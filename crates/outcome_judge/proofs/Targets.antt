-- Rows and whole tables by which the numbers of commits are kept.
use Rattle.std.proofs.Common.{◌≡◌, ℕ, Bool, true, false, cond, ◌&&◌, ◌||◌, not, nat_lt, ℤ, List, [], ◌∷◌, length, Option, Some, refl, sym, ap, ◌∙◌, nat_cmp, int_cmp}
use Rattle.std.specs.List.{filter, list_all, range_with_len}
use Rattle.std.specs.FinMap.{nat_cmp-IsAntisymmetric, int_cmp-IsAntisymmetric}
use Rattle.std.specs.Ordering.{bool_cmp, is_eq, ordering_then}
use Rattle.std.specs.Prelude.{is_some, ◌==◌}
use Rattle.std.specs.declared.cmp.Ordering.{Ordering}
use Rattle.std.specs.declared.cmp.Ordering.TheVariants.{Less, Equal, Greater}
use Rattle.cell_model.specs.declared.cell.Cell.{Cell}
use Rattle.isolation_spec.specs.Contents.{WriteSet, at_place, is_place, place_at}
use Rattle.isolation_spec.specs.Machine.{later_commits, write_set_at, writes_place}
use Rattle.isolation_spec.specs.Reads.{meets}
use Rattle.isolation_spec.specs.declared.place.Place.{Place}
use Rattle.isolation_spec.specs.declared.read.Read.{Read}
use Rattle.isolation_spec.specs.declared.read.Read.TheVariants as read
use Rattle.timeline_laws.proofs.Tests.{or-false}
use Rattle.mark_index.specs.Lists.{is_last, with_mark}
use Rattle.outcome_spec.specs.Entries.{Entry}
use Rattle.outcome_counts.proofs.Keyed.{nat-same}
use Rattle.outcome_judge.specs.Targets.{covers, row_target, table_target, target_cmp, target_of, wrote}
use Rattle.outcome_judge.specs.Writers.{history_in, numbers_at, numbers_of}
use Rattle.outcome_judge.specs.declared.keys.Target.{Target}
use Rattle.outcome_judge.proofs.Noted.{symmetric}
use Rattle.outcome_judge.proofs.Numbering.{noted-step}

-- What comes before or behind by a second comparison is not the same.
less-not : (o : Ordering) → is_eq (ordering_then o Less) ≡ false
less-not Less = refl
less-not Equal = refl
less-not Greater = refl

greater-not : (o : Ordering) → is_eq (ordering_then o Greater) ≡ false
greater-not Less = refl
greater-not Equal = refl
greater-not Greater = refl

-- What is the same by a second comparison is the same where the first says so.
equal-by : (o : Ordering) → is_eq (ordering_then o Equal) ≡ is_eq o
equal-by Less = refl
equal-by Equal = refl
equal-by Greater = refl

-- a row has its place alone
pub row-covers : (place other : Place) → covers (row_target place) other ≡ is_place other place
row-covers place other =
    ap (λ (b : Bool). is_place other place || b) (greater-not (nat_cmp other.table place.table)) ∙ or-false (is_place other place)

-- A table has its places.
table-covers : (table : ℕ) (other : Place) → covers (table_target table) other ≡ (other.table == table)
table-covers table other =
    ap (λ (b : Bool). b || is_eq (target_cmp (table_target other.table) (table_target table))) (less-not (nat_cmp other.table table))
    ∙ equal-by (nat_cmp other.table table) ∙ nat-same other.table table

-- A write set has the row of a place exactly where it has the place.
pub row-wrote : (place : Place) (writes : WriteSet) → wrote (row_target place) writes ≡ writes_place place writes
row-wrote place [] = refl
row-wrote place (write ∷ writes) =
    ap (λ (b : Bool). b || wrote (row_target place) writes) (row-covers place write.0 ∙ symmetric write.0 place)
    ∙ ap (λ (b : Bool). is_place place write.0 || b) (row-wrote place writes)
    ∙ by (is_place place write.0) (at_place writes place)
  where
    by : (b : Bool) (o : Option (Option (List Cell))) → (b || is_some o) ≡ is_some (cond b (Some write.1) o)
    by true o = refl
    by false o = refl

-- A write set has a place of a read exactly where it meets it.
pub read-wrote : (what : Read) (of : Target) → target_of what ≡ Some of → (writes : WriteSet) → wrote of writes ≡ meets what writes
read-wrote (read.Key table key) of h writes =
    let is : row_target (place_at table key) ≡ of = cc in
    ap (λ (t : Target). wrote t writes) (sym is) ∙ row-wrote (place_at table key) writes
read-wrote (read.Table table) of h writes =
    let is : table_target table ≡ of = cc in
    ap (λ (t : Target). wrote t writes) (sym is) ∙ by writes
  where
    by : (writes : WriteSet) → wrote (table_target table) writes ≡ meets (read.Table table) writes
    by [] = refl
    by (write ∷ writes) =
        ap (λ (b : Bool). b || wrote (table_target table) writes) (table-covers table write.0) ∙ ap (λ (b : Bool). (write.0.table == table) || b) (by writes)
read-wrote (read.Range table low high) of h writes = absurd (let never : ⊥ = cc in never)

-- What passes one of two tests that agree passes the other.
filter-agree : {X : Type 0} (p q : X → Bool) → ((x : X) → p x ≡ q x) → (xs : List X) → filter p xs ≡ filter q xs
filter-agree p q h [] = refl
filter-agree {X = X} p q h (x ∷ xs) =
    ap (λ (b : Bool). cond b (x ∷ filter p xs) (filter p xs)) (h x) ∙ ap (λ (ys : List X). cond (q x) (x ∷ ys) ys) (filter-agree p q h xs)

-- The later commits that pass one of two tests that agree pass the other.
commits-agree : (entries : List Entry) (p q : WriteSet → Bool) → ((writes : WriteSet) → p writes ≡ q writes) → later_commits (history_in entries) 0 p ≡ later_commits (history_in entries) 0 q
commits-agree entries p q h =
    filter-agree (λ number. nat_lt 0 number && p (write_set_at (history_in entries) number)) (λ number. nat_lt 0 number && q (write_set_at (history_in entries) number))
    (λ number. ap (λ (b : Bool). nat_lt 0 number && b) (h (write_set_at (history_in entries) number))) (range_with_len 1 (length (history_in entries)))

-- the numbers that are kept for a row are those of its place
pub row-numbers : (entries : List Entry) (place : Place) → numbers_at entries (row_target place) ≡ numbers_of entries place
row-numbers entries place = commits-agree entries (wrote (row_target place)) (writes_place place) (row-wrote place)

-- the numbers that are kept for what a read asks are those of the commits that meet it
pub read-numbers : (entries : List Entry) (what : Read) (of : Target) → target_of what ≡ Some of → numbers_at entries of ≡ later_commits (history_in entries) 0 (meets what)
read-numbers entries what of h = commits-agree entries (wrote of) (meets what) (read-wrote what of h)

-- ---- marks of a row and of its table

-- Where comparisons in turn are equal, each of them is.
equal-parts : (a b c : Ordering) → is_eq (ordering_then a (ordering_then b c)) ≡ true → (a ≡ Equal) × (b ≡ Equal) × (c ≡ Equal)
equal-parts Equal Equal Equal h = (refl, refl, refl)
equal-parts Less b c h = absurd (let never : ⊥ = cc in never)
equal-parts Greater b c h = absurd (let never : ⊥ = cc in never)
equal-parts Equal Less c h = absurd (let never : ⊥ = cc in never)
equal-parts Equal Greater c h = absurd (let never : ⊥ = cc in never)
equal-parts Equal Equal Less h = absurd (let never : ⊥ = cc in never)
equal-parts Equal Equal Greater h = absurd (let never : ⊥ = cc in never)

-- Truths that compare as one are one.
bool-one : (a b : Bool) → bool_cmp a b ≡ Equal → a ≡ b
bool-one true true h = refl
bool-one false false h = refl
bool-one true false h = absurd (let never : ⊥ = cc in never)
bool-one false true h = absurd (let never : ⊥ = cc in never)

-- Targets that compare as one are one.
target-one : (a b : Target) → is_eq (target_cmp a b) ≡ true → a ≡ b
target-one a b h =
    let parts = equal-parts (nat_cmp a.table b.table) (bool_cmp a.whole b.whole) (int_cmp a.key b.key) h in
    let table : a.table ≡ b.table = nat_cmp-IsAntisymmetric a.table b.table parts.0 in
    let whole : a.whole ≡ b.whole = bool-one a.whole b.whole parts.1 in
    let key : a.key ≡ b.key = int_cmp-IsAntisymmetric a.key b.key parts.2 in
    ap (λ (n : ℕ). record { table = n; whole = a.whole; key = a.key }) table
    ∙ ap (λ (w : Bool). record { table = b.table; whole = w; key = a.key }) whole
    ∙ ap (λ (k : ℤ). record { table = b.table; whole = b.whole; key = k }) key

-- Alternatives may be grouped either way.
grouped : (a b c : Bool) → ((a || b) || c) ≡ (a || (b || c))
grouped true b c = refl
grouped false b c = refl

module _ {M : Type 0} (seen : M → Bool) (mk : List M → M) (place : Place) (base old mid now : Target → List M) (put : Target → Bool) (row table : Target)
    (is_row : row ≡ row_target place) (is_table : table ≡ table_target place.table)
    (sees : (of : Target) → seen (mk (base of)) ≡ true) (none : (of : Target) → list_all (λ m. not (seen m)) (base of) ≡ true)
    (marks : (of : Target) → old of ≡ with_mark (put of) (mk (base of)) (base of))
    (first : (of : Target) → mid of ≡ with_mark (is_eq (target_cmp row of) && not (is_last seen (old row))) (mk (old row)) (old of)) where
  -- with a mark behind those of the row
  pub row-noted : (of : Target) → mid of ≡ with_mark (put of || is_eq (target_cmp row of)) (mk (base of)) (base of)
  row-noted of = noted-step seen mk (base of) (old row) (old of) (mid of) (put of) (is_eq (target_cmp row of)) (sees of) (none of) (marks of) (λ same. ap old (target-one row of same)) (first of)

  -- and behind those of the table
  pub both-noted : ((of : Target) → now of ≡ with_mark (is_eq (target_cmp table of) && not (is_last seen (mid table))) (mk (mid table)) (mid of))
      → (of : Target) → now of ≡ with_mark (put of || covers of place) (mk (base of)) (base of)
  both-noted second of =
      noted-step seen mk (base of) (mid table) (mid of) (now of) (put of || is_eq (target_cmp row of)) (is_eq (target_cmp table of)) (sees of) (none of) (row-noted of) (λ same. ap mid (target-one table of same)) (second of)
      ∙ ap (λ (b : Bool). with_mark b (mk (base of)) (base of))
      (grouped (put of) (is_eq (target_cmp row of)) (is_eq (target_cmp table of))
      ∙ ap (λ (t : Target). put of || (is_eq (target_cmp t of) || is_eq (target_cmp table of))) is_row
      ∙ ap (λ (t : Target). put of || (is_eq (target_cmp (row_target place) of) || is_eq (target_cmp t of))) is_table)
