-- Keys that rise, and which of them a bound parts from the others.
use Rattle.std.proofs.Common.{◌≡◌, ℕ, ◌+◌, ◌<◌, ◌≤◌, zero, suc, nat_lt, nat_le, ℤ, Bool, true, false, cond, not, ◌&&◌, ◌||◌, List, [], ◌∷◌, ◌++◌, append-nil, length, take, drop, get_or, Option, Some, None, refl, sym, ap, ◌∙◌, subst, arith, nat_cmp}
use Rattle.std.specs.Prelude.{◌==◌, is_some, map, filter_map}
use Rattle.std.specs.Cmp.{IsEquivalence, IsTotalOrder, eq_by_cmp_equiv, signed_Decides}
use Rattle.std.specs.List.{AllByRecursion, cons_option, dedup, filter, list_any}
use Rattle.std.specs.List.Sorted.{IsPartitionPoint, IsPartitionedBy, IsPermutation, IsStrictlySortedBy}
use Rattle.std.specs.Ordering.{eq_by_cmp, int_eq, is_eq, is_le, is_lt, ordering_reverse}
use Rattle.std.specs.declared.cmp.Ordering.{Ordering}
use Rattle.std.specs.declared.cmp.Ordering.TheVariants.{Less, Equal, Greater}
use Rattle.std.proofs.lemmas.Bool.{and_from, and_parts, eq-eqb, eqb-true}
use Rattle.std.proofs.lemmas.Bool.Decides.{nat_tests}
use Rattle.std.proofs.lemmas.List.{map-append}
use Rattle.std.proofs.lemmas.List.Elements.{filter_map-append}
use Rattle.std.proofs.lemmas.List.Folds.{Any-from_list_any, list_any_at}
use Rattle.std.proofs.lemmas.List.Kept.{Contains-dedup, IsStrictlySortedBy-filter}
use Rattle.std.proofs.lemmas.List.Sorted.{list_any-IsPermutation}
use Rattle.std.proofs.lemmas.Map.Keys.{Less-from_sorted}
use Rattle.isolation_spec.specs.Contents.{State, at_place, contents_between, contents_of, is_in_range, is_place, place_at, place_cmp, PlaceMap}
use Rattle.isolation_spec.specs.declared.place.Place.{Place}
use Rattle.isolation_laws.proofs.Rows.{place_cmp-total}
use Rattle.si_machine.specs.Kept.{Below, Rises}
use Rattle.si_machine.proofs.Ranges.{in-range-by}
use Rattle.si_machine.proofs.Rising.{itself, same-place}
use Rattle.si_machine.proofs.Scanned.{merged}
use Rattle.outcome_counts.proofs.Shown.{both-ways}
use Rattle.output_read.specs.Kept.{entry_of}
use Rattle.output_read.specs.declared.kept.KeptReply.{KeptReply}
use Rattle.outcome_judge.specs.HistoryKept.{key_cmp, place_in}
use Rattle.outcome_judge.specs.KeyLists.{has_key, keys_between, keys_from, keys_from_table, keys_of_table, keys_up_to, keys_up_to_table, row_key, rows_at}
use Rattle.outcome_judge.specs.Written.{written_by}
use Rattle.outcome_judge.specs.declared.keys.RowKey.{RowKey}
use Rattle.outcome_judge.proofs.CommitsMade.{take-next-one}

-- ---- what stands in front of a bound

-- What is below by a comparison is below all that are above.
lower : (a b c : RowKey) (o : Ordering) → key_cmp b c ≡ o → key_cmp a b ≡ Less → is_lt o ≡ true → is_lt (key_cmp a c) ≡ true
lower a b c Less is less h = ap is_lt (place_cmp-total.trans (place_in a) (place_in b) (place_in c) less is)
lower a b c Equal is less h = absurd (let never : ⊥ = cc in never)
lower a b c Greater is less h = absurd (let never : ⊥ = cc in never)

-- What is below one that is not above another is not above it.
up-to : (a b c : RowKey) (o : Ordering) → key_cmp b c ≡ o → key_cmp a b ≡ Less → is_le o ≡ true → is_le (key_cmp a c) ≡ true
up-to a b c Less is less h = ap is_le (place_cmp-total.trans (place_in a) (place_in b) (place_in c) less is)
up-to a b c Equal is less h =
    let same : place_in b ≡ place_in c = same-place (place_in b) (place_in c) (ap is_eq is) in
    ap is_le (ap (place_cmp (place_in a)) (sym same) ∙ less)
up-to a b c Greater is less h = absurd (let never : ⊥ = cc in never)

-- The tables of keys that rise do not fall.
table-lower : (a b : RowKey) (o : Ordering) → nat_cmp a.table b.table ≡ o → key_cmp a b ≡ Less → a.table ≤ b.table
table-lower a b o is less = grind (arith, nat_tests, is, less)

-- A test that passes what is below what passes parts keys that rise.
parted : (p : RowKey → Bool) → ((a b : RowKey) → key_cmp a b ≡ Less → p b ≡ true → p a ≡ true) → (keys : List RowKey) → IsStrictlySortedBy key_cmp keys → IsPartitionedBy p keys
parted p falls keys sorted i j d most within passes = by (nat_lt i j) refl
  where
    by : (b : Bool) → nat_lt i j ≡ b → p (get_or keys i d) ≡ true
    by true is = falls (get_or keys i d) (get_or keys j d) (Less-from_sorted key_cmp keys i j d sorted (grind (arith, nat_tests, is)) within) passes
    by false is = let same : i ≡ j = grind (arith, nat_tests, is, most) in subst (λ (n : ℕ). p (get_or keys n d) ≡ true) (sym same) passes

pub parted-lower : (first : RowKey) (keys : List RowKey) → IsStrictlySortedBy key_cmp keys → IsPartitionedBy (λ of. is_lt (key_cmp of first)) keys
parted-lower first = parted (λ of. is_lt (key_cmp of first)) (λ a b less. lower a b first (key_cmp b first) refl less)

pub parted-up-to : (last : RowKey) (keys : List RowKey) → IsStrictlySortedBy key_cmp keys → IsPartitionedBy (λ of. is_le (key_cmp of last)) keys
parted-up-to last = parted (λ of. is_le (key_cmp of last)) (λ a b less. up-to a b last (key_cmp b last) refl less)

pub parted-table : (table : ℕ) (keys : List RowKey) → IsStrictlySortedBy key_cmp keys → IsPartitionedBy (λ of. nat_lt of.table table) keys
parted-table table = parted (λ of. nat_lt of.table table)
    (λ a b less passes. let most = table-lower a b (nat_cmp a.table b.table) refl less in grind (arith, nat_tests, most, passes))

pub parted-up-to-table : (table : ℕ) (keys : List RowKey) → IsStrictlySortedBy key_cmp keys → IsPartitionedBy (λ of. nat_le of.table table) keys
parted-up-to-table table = parted (λ of. nat_le of.table table)
    (λ a b less passes. let most = table-lower a b (nat_cmp a.table b.table) refl less in grind (arith, nat_tests, most, passes))

-- Where those in front of a place pass and the others fail, those from it on fail.
rest-fails : {X : Type 0} (p : X → Bool) (xs : List X) (i : ℕ) (d : X) → i ≤ length xs
    → ((k : ℕ) → k < i → p (get_or xs k d) ≡ true) → ((k : ℕ) → i ≤ k → k < length xs → p (get_or xs k d) ≡ false) → filter (λ x. not (p x)) xs ≡ drop i xs
rest-fails p [] zero d within pass fail = refl
rest-fails p [] (suc i) d within pass fail = refl
rest-fails p (x ∷ xs) zero d within pass fail =
    let first : p x ≡ false = fail zero (omega arith) (omega arith) in
    rw first (ap (λ (ys : List _). x ∷ ys) (rest-fails p xs zero d (omega arith) (λ k below. absurd (omega (arith, below))) (λ k from below. fail (suc k) (omega arith) (omega (arith, below)))))
rest-fails p (x ∷ xs) (suc i) d within pass fail =
    let first : p x ≡ true = pass zero (omega arith) in
    rw first (rest-fails p xs i d (omega (arith, within)) (λ k below. pass (suc k) (omega (arith, below))) (λ k from below. fail (suc k) (omega (arith, from)) (omega (arith, below))))

-- the elements that fail are those from the partition point on
pub failed-rest : {X : Type 0} (p : X → Bool) (xs : List X) (i : ℕ) → i ≤ length xs → IsPartitionPoint (λ x. p x ≡ true) (λ x. p x ≡ false) xs i → filter (λ x. not (p x)) xs ≡ drop i xs
failed-rest p [] zero within point = refl
failed-rest p [] (suc i) within point = refl
failed-rest p (x ∷ xs) i within point = rest-fails p (x ∷ xs) i x within (λ k below. point.0 k x (omega arith) below) (λ k from below. point.1 k x from below)

-- ---- those between two bounds

-- What passes two tests is kept by one and then by the other.
filter-both : {X : Type 0} (p q r : X → Bool) → ((x : X) → (p x && q x) ≡ r x) → (xs : List X) → filter q (filter p xs) ≡ filter r xs
filter-both p q r is [] = refl
filter-both p q r is (x ∷ xs) = by (p x) (q x) refl refl (filter-both p q r is xs)
  where
    by : (a b : Bool) → p x ≡ a → q x ≡ b → filter q (filter p xs) ≡ filter r xs → filter q (filter p (x ∷ xs)) ≡ filter r (x ∷ xs)
    by true true h k rest = let e : r x ≡ true = sym (is x) ∙ ap (λ (c : Bool). c && q x) h ∙ k in rw (e, h, k) (ap (λ (ys : List _). x ∷ ys) rest)
    by true false h k rest = let e : r x ≡ false = sym (is x) ∙ ap (λ (c : Bool). c && q x) h ∙ k in rw (e, h, k) rest
    by false b h k rest = let e : r x ≡ false = sym (is x) ∙ ap (λ (c : Bool). c && q x) h in rw (e, h) rest

-- One is not below another exactly where the other is not above it.
turned-le : (a b : Place) → not (is_lt (place_cmp a b)) ≡ is_le (place_cmp b a)
turned-le a b = by (place_cmp b a) (place_cmp-total.antisymm a b)
  where
    by : (o : Ordering) → place_cmp a b ≡ ordering_reverse o → not (is_lt (place_cmp a b)) ≡ is_le o
    by Less is = rw is refl
    by Equal is = rw is refl
    by Greater is = rw is refl

-- those that are not below a first key and not above a last one of a table are those between them
pub between-is : (table : ℕ) (low high : ℤ) (keys : List RowKey)
    → keys_up_to (row_key table high) (keys_from (row_key table low) keys) ≡ keys_between table low high keys
between-is table low high keys = filter-both _ _ _ (λ of.
    ap (λ (b : Bool). b && is_le (place_cmp (place_in of) (place_at table high))) (turned-le (place_in of) (place_at table low))
    ∙ ap (λ (b : Bool). is_le (place_cmp (place_at table low) (place_in of)) && b) (sym (turned-le (place_at table high) (place_in of)))
    ∙ in-range-by table low high (place_in of) (of.table == table) refl) keys

-- those whose tables are not below a table and not above it are those of it
pub of-table-is : (table : ℕ) (keys : List RowKey) → keys_up_to_table table (keys_from_table table keys) ≡ keys_of_table table keys
of-table-is table keys = filter-both _ _ _ (λ of. one of.table) keys
  where
    one : (n : ℕ) → (not (nat_lt n table) && nat_le n table) ≡ (n == table)
    one n = grind (arith, nat_tests)

-- those that are not below a key rise as all do
pub from-rises : (first : RowKey) (keys : List RowKey) → IsStrictlySortedBy key_cmp keys → IsStrictlySortedBy key_cmp (keys_from first keys)
from-rises first keys sorted = IsStrictlySortedBy-filter key_cmp (λ of. not (is_lt (key_cmp of first))) keys sorted

-- so do those whose tables are not below one
pub from-table-rises : (table : ℕ) (keys : List RowKey) → IsStrictlySortedBy key_cmp keys → IsStrictlySortedBy key_cmp (keys_from_table table keys)
from-table-rises table keys sorted = IsStrictlySortedBy-filter key_cmp (λ of. not (nat_lt of.table table)) keys sorted

-- ---- what is seen at keys

-- The keys as entries at their places.
abbrev pub entries_at : List RowKey → PlaceMap RowKey
entries_at keys = map (λ of. (place_in of, of)) keys

-- A place below keys is below their entries.
below-keys : (of : RowKey) (keys : List RowKey) → AllByRecursion (λ other. key_cmp of other ≡ Less) keys → Below (place_in of) (entries_at keys)
below-keys of [] h = tt
below-keys of (other ∷ keys) h = (h.0, below-keys of keys h.1)

-- Keys that rise have entries that rise.
entries-rise : (keys : List RowKey) → IsStrictlySortedBy key_cmp keys → Rises (entries_at keys)
unfolding IsStrictlySortedBy
entries-rise [] h = tt
entries-rise (of ∷ keys) h = (below-keys of keys h.0, entries-rise keys h.1)

-- Where one of the keys is that of a place, there is an entry.
has-entry : (keys : List RowKey) (place : Place) → has_key keys place ≡ is_some (at_place (entries_at keys) place)
has-entry [] place = refl
has-entry (of ∷ keys) place = by (is_place place (place_in of)) (has-entry keys place)
  where
    by : (b : Bool) → has_key keys place ≡ is_some (at_place (entries_at keys) place) → (b || has_key keys place) ≡ is_some (cond b (Some of) (at_place (entries_at keys) place))
    by true rest = refl
    by false rest = rest

-- What is found at the keys that pass a test is found at their entries.
found-at : (test : Place → Bool) (seen : State) (keys : List RowKey)
    → rows_at seen (filter (λ of. test (place_in of)) keys) ≡ filter_map (λ (entry : Place × RowKey). at_place seen entry.0) (filter (λ entry. test entry.0) (entries_at keys))
found-at test seen [] = refl
found-at test seen (of ∷ keys) = by (test (place_in of)) refl (found-at test seen keys)
  where
    by : (b : Bool) → test (place_in of) ≡ b → rows_at seen (filter (λ o. test (place_in o)) keys) ≡ filter_map (λ (entry : Place × RowKey). at_place seen entry.0) (filter (λ entry. test entry.0) (entries_at keys))
        → rows_at seen (filter (λ o. test (place_in o)) (of ∷ keys)) ≡ filter_map (λ (entry : Place × RowKey). at_place seen entry.0) (filter (λ entry. test entry.0) (entries_at (of ∷ keys)))
    by true is rest = rw is (ap (cons_option (at_place seen (place_in of))) rest)
    by false is rest = rw is rest

module _ (seen : State) (keys : List RowKey) (rises : Rises seen) (sorted : IsStrictlySortedBy key_cmp keys) (all : (place : Place) → is_some (at_place seen place) ≡ true → has_key keys place ≡ true) where
  -- the rows at keys between two are those that are seen between them, where all rows are at keys
  pub rows-between : (table : ℕ) (low high : ℤ) → rows_at seen (keys_between table low high keys) ≡ contents_between table low high seen
  rows-between table low high =
      found-at (is_in_range table low high) seen keys
      ∙ merged (is_in_range table low high) (entries_at keys) seen rises (entries-rise keys sorted) (λ place h. sym (has-entry keys place) ∙ all place h)

  -- and the rows at keys of a table are all that are seen of it
  pub rows-of-table : (table : ℕ) → rows_at seen (keys_of_table table keys) ≡ contents_of table seen
  rows-of-table table =
      found-at (λ place. place.table == table) seen keys
      ∙ merged (λ place. place.table == table) (entries_at keys) seen rises (entries-rise keys sorted) (λ place h. sym (has-entry keys place) ∙ all place h)

-- ---- the keys that are written

-- One of some keys is a place's exactly where one of their places is it.
pub among-places : (keys : List RowKey) (place : Place) → list_any (is_place place) (map place_in keys) ≡ has_key keys place
among-places [] place = refl
among-places (of ∷ keys) place = ap (λ (b : Bool). is_place place (place_in of) || b) (among-places keys place)

-- Keys that are tested to be one are one.
one-key : (a b : RowKey) → eq_by_cmp key_cmp a b ≡ true → a ≡ b
one-key a b h =
    let same : place_in a ≡ place_in b = same-place (place_in a) (place_in b) h in
    ap (λ (p : Place). record { table = p.table; key = p.key }) same

-- keys are in a total order
pub keys-total : IsTotalOrder key_cmp
keys-total = record {
  antisymm = λ a b. place_cmp-total.antisymm (place_in a) (place_in b);
  trans = λ a b c. place_cmp-total.trans (place_in a) (place_in b) (place_in c);
  congr = λ a b c. place_cmp-total.congr (place_in a) (place_in b) (place_in c);
}

-- keys are equal exactly where they compare as one
pub key-ties : (a b : RowKey) → (a.table == b.table && int_eq a.key b.key) ≡ eq_by_cmp key_cmp a b
key-ties a b = both-ways (a.table == b.table && int_eq a.key b.key) (eq_by_cmp key_cmp a b) there back
  where
    there : (a.table == b.table && int_eq a.key b.key) ≡ true → eq_by_cmp key_cmp a b ≡ true
    there h =
        let parts = and_parts (a.table == b.table) (int_eq a.key b.key) h in
        let table : a.table ≡ b.table = eqb-true a.table b.table parts.0 in
        let key : a.key ≡ b.key = (signed_Decides a.key b.key).0 parts.1 in
        ap (λ (n : ℕ). is_place (place_at n a.key) (place_in b)) table ∙ ap (λ (k : ℤ). is_place (place_at b.table k) (place_in b)) key ∙ itself (place_in b)

    back : eq_by_cmp key_cmp a b ≡ true → (a.table == b.table && int_eq a.key b.key) ≡ true
    back h =
        let same : place_in a ≡ place_in b = same-place (place_in a) (place_in b) h in
        and_from (a.table == b.table) (int_eq a.key b.key) (eq-eqb a.table b.table (ap (λ (p : Place). p.table) same)) ((signed_Decides a.key b.key).1 (ap (λ (p : Place). p.key) same))

-- put in order and each once, keys have each place that they had
pub kept-once : (E : RowKey → RowKey → Bool) → ((x y : RowKey) → E x y ≡ eq_by_cmp key_cmp x y) → (keys sorted : List RowKey) → IsPermutation keys sorted → (place : Place)
    → has_key keys place ≡ true → has_key (dedup E sorted) place ≡ true
kept-once E ties keys sorted moved place h =
    let p : RowKey → Bool = λ of. is_place place (place_in of) in
    let found = Any-from_list_any p sorted (sym (list_any-IsPermutation p keys sorted moved) ∙ h) in
    let kept = Contains-dedup equal (λ x y same. one-key x y (sym (ties x y) ∙ same)) sorted found.1 (found.0, found.2, found.3) in
    list_any_at p (dedup E sorted) kept.0 found.1 kept.1 (ap p kept.2 ∙ found.4)
  where
    equal : IsEquivalence E
    equal = record {
      refl = λ x. ties x x ∙ (eq_by_cmp_equiv keys-total).refl x;
      symm = λ x y. ties x y ∙ (eq_by_cmp_equiv keys-total).symm x y ∙ sym (ties y x);
      congr = λ x y z same. ties x z ∙ (eq_by_cmp_equiv keys-total).congr x y z (sym (ties x y) ∙ same) ∙ sym (ties y z);
    }

-- The places of a reply more.
written-more : (replies : List KeptReply) (i : ℕ) (reply : KeptReply) → i < length replies → reply ≡ get_or replies i reply
    → filter_map written_by (map entry_of (take (i + 1) replies)) ≡ filter_map written_by (map entry_of (take i replies)) ++ cons_option (written_by (entry_of reply)) []
written-more replies i reply within is =
    ap (λ (rs : List KeptReply). filter_map written_by (map entry_of rs)) (take-next-one replies i reply within is)
    ∙ ap (filter_map written_by) (map-append entry_of (take i replies) (reply ∷ []))
    ∙ filter_map-append written_by (map entry_of (take i replies)) (entry_of reply ∷ [])

-- with a reply more that accepts no write the keys are the same
pub written-none : (replies : List KeptReply) (i : ℕ) (reply : KeptReply) → i < length replies → reply ≡ get_or replies i reply → written_by (entry_of reply) ≡ None → (places : List Place)
    → places ≡ filter_map written_by (map entry_of (take i replies)) → places ≡ filter_map written_by (map entry_of (take (i + 1) replies))
written-none replies i reply within is none places h = h ∙ sym (written-more replies i reply within is ∙ ap (λ (o : Option Place). filter_map written_by (map entry_of (take i replies)) ++ cons_option o []) none ∙ append-nil (filter_map written_by (map entry_of (take i replies))))

-- with one that accepts a write they have its place too
pub written-one : (replies : List KeptReply) (i : ℕ) (reply : KeptReply) → i < length replies → reply ≡ get_or replies i reply → (keys : List RowKey) (of : RowKey) → Some (place_in of) ≡ written_by (entry_of reply)
    → map place_in keys ≡ filter_map written_by (map entry_of (take i replies)) → map place_in (keys ++ of ∷ []) ≡ filter_map written_by (map entry_of (take (i + 1) replies))
written-one replies i reply within is keys of one h =
    map-append place_in keys (of ∷ [])
    ∙ ap (λ (places : List Place). places ++ place_in of ∷ []) h
    ∙ ap (λ (o : Option Place). filter_map written_by (map entry_of (take i replies)) ++ cons_option o []) one
    ∙ sym (written-more replies i reply within is)
