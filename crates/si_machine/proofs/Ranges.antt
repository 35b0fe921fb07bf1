-- The places between two of a table are those of it with keys between theirs, and each place with a
-- row that is seen is kept.
use Rattle.std.proofs.Common.{◌≡◌, ◌∙◌, ◌<◌, ℕ, nat_le, ℤ, pos, negsuc, ◌-◌, ◌^◌, Bool, true, false, cond, not, ◌&&◌, List, [], ◌∷◌, length, Option, None, Some, refl, sym, ap, arith}
use Rattle.std.specs.Prelude.{◌==◌, eqb, int_lt, int_le, is_some, unwrap_or, take}
use Rattle.std.specs.BTreeMap.Range.{range_contains}
use Rattle.std.specs.Cmp.{nat_cmp_total, tied_itself}
use Rattle.std.specs.FinMap.{nat_cmp-IsAntisymmetric}
use Rattle.std.specs.List.{cons_option, filter, filter_map, last_or}
use Rattle.std.specs.List.Sorted.{IsStrictlySortedBy}
use Rattle.std.specs.Map.{keys_of}
use Rattle.std.specs.Option.{option_map_or}
use Rattle.std.specs.Ordering.{int_cmp, nat_cmp, is_le, is_lt, ordering_then}
use Rattle.std.specs.declared.cmp.Ordering.{Ordering}
use Rattle.std.specs.declared.cmp.Ordering.TheVariants.{Less, Equal, Greater}
use Rattle.std.specs.declared.ops.Bound.TheVariants.{Included}
use Rattle.std.proofs.lemmas.Bool.{eqb-true}
use Rattle.std.proofs.lemmas.Int.{ints}
use Rattle.cell_model.specs.declared.cell.Cell.{Cell}
use Rattle.cell_model.specs.Values.{is_between}
use Rattle.isolation_spec.specs.Contents.{at_place, contents_between, contents_of, is_in_range, is_place, place_at, place_cmp, PlaceMap, State, state_at}
use Rattle.isolation_spec.specs.declared.place.Place.{Place}
use Rattle.isolation_spec.specs.Machine.{Transaction, seen_rows, writes_place}
use Rattle.timeline_laws.proofs.Machine.{eqb-itself}
use Rattle.isolation_laws.proofs.Later.{last_writer}
use Rattle.si_machine.specs.declared.ledger.Ledger.{Ledger}
use Rattle.si_machine.specs.declared.ledger.OpenTransaction.{OpenTransaction}
use Rattle.si_machine.specs.declared.writers.Writers.{Writers}
use Rattle.si_machine.specs.Kept.{Belongs, Rises, has_place, is_key, machine_in, numbers_at, open_at}
use Rattle.si_machine.proofs.Rising.{itself, rises-fold, rises-laid, rises-sorted}
use Rattle.si_machine.proofs.Scanned.{merged, still}
use Rattle.si_machine.proofs.Steps.{kept-at, newest-is, seen-is, state-missed}

-- Where there is nothing at a place, it has no numbers.
no-numbers-by : {V : Type 0} (items : V → List ℕ) (o : Option V) → is_some o ≡ false → option_map_or items o [] ≡ []
no-numbers-by items None h = refl
no-numbers-by items (Some numbers) h = absurd (let never : ⊥ = cc in never)

-- A place that was not written has no numbers.
no-numbers : (writers : Writers) (place : Place) → has_place writers place ≡ false → numbers_at writers place ≡ []
no-numbers writers place h = no-numbers-by (λ numbers. numbers.items) (at_place writers.places.entries place) h

-- Of an option that is not there the default is taken.
unwritten-by : {X : Type 0} (o : Option X) (d : X) → (is_some o ≡ true → ⊥) → unwrap_or o d ≡ d
unwritten-by None d h = refl
unwritten-by (Some x) d h = absurd (h refl)

-- a place that was not written is without a row
nothing-seen : (ledger : Ledger) (t : Transaction) (place : Place) → Belongs (machine_in ledger) ledger.writers → Rises t.own
    → ((place : Place) → writes_place place t.own ≡ true → has_place ledger.writers place ≡ true) → has_place ledger.writers place ≡ false
    → at_place (seen_rows (machine_in ledger) t) place ≡ None
nothing-seen ledger t place h rises known missed =
    let machine = machine_in ledger in
    let none : None ≡ last_writer place 1 (take t.snapshot machine.history) =
    sym (ap (λ (ns : List ℕ). last_or None (filter (λ number. nat_le number t.snapshot) ns)) (no-numbers ledger.writers place missed)) ∙ newest-is machine ledger.writers place t.snapshot h in
    seen-is machine t place rises
    ∙ unwritten-by (at_place t.own place) (at_place (state_at machine.history t.snapshot) place)
    (λ written. let e : true ≡ false = sym (known place written) ∙ missed in let never : ⊥ = cc in never)
    ∙ state-missed place t.snapshot machine.history h.rise (sym none)

-- Where something is there only if a test holds, and it is there, the test holds.
covered-by : (b : Bool) (o : Option (List Cell)) → (b ≡ false → o ≡ None) → is_some o ≡ true → b ≡ true
covered-by true o h some = refl
covered-by false o h some = let e : false ≡ true = sym (ap is_some (h refl)) ∙ some in absurd (let never : ⊥ = cc in never)

-- ---- the range of a table

-- the least key, of 64 bits
abbrev pub least_key : ℤ
least_key = negsuc (2 ^ 63 - 1)

-- the greatest key, of 64 bits
abbrev pub greatest_key : ℤ
greatest_key = pos (2 ^ 63 - 1)

-- A comparison is less or equal exactly where one key is at most the other.
at-most-by : (less more : Bool) (a b : ℤ) → int_lt a b ≡ less → int_lt b a ≡ more → is_le (cond less Less (cond more Greater Equal)) ≡ int_le a b
at-most-by true more a b is_less is_more = grind (arith, ints)
at-most-by false true a b is_less is_more = grind (arith, ints)
at-most-by false false a b is_less is_more = grind (arith, ints)

-- It is not less exactly where the other is at most the one.
not-less-by : (less more : Bool) (a b : ℤ) → int_lt a b ≡ less → int_lt b a ≡ more → not (is_lt (cond less Less (cond more Greater Equal))) ≡ int_le b a
not-less-by true more a b is_less is_more = grind (arith, ints)
not-less-by false true a b is_less is_more = grind (arith, ints)
not-less-by false false a b is_less is_more = grind (arith, ints)

-- A place of another table is not in the table's range.
apart-by : (table : ℕ) (low high : ℤ) (q : Place) (o : Ordering) → nat_cmp table q.table ≡ o → (nat_cmp table q.table ≡ Equal → ⊥)
    → (is_le (ordering_then o (int_cmp low q.key)) && not (is_lt (ordering_then o (int_cmp high q.key)))) ≡ false
apart-by table low high q Less is apart = refl
apart-by table low high q Equal is apart = absurd (apart is)
apart-by table low high q Greater is apart = refl

-- a place is between two of a table exactly where it is of the table, with a key between theirs
pub in-range-by : (table : ℕ) (low high : ℤ) (q : Place) (b : Bool) → (q.table == table) ≡ b
    → (is_le (place_cmp (place_at table low) q) && not (is_lt (place_cmp (place_at table high) q))) ≡ (b && is_between low high q.key)
in-range-by table low high q true is =
    let same : q.table ≡ table = eqb-true q.table table is in
    let tied : nat_cmp table q.table ≡ Equal = ap (nat_cmp table) same ∙ tied_itself nat_cmp_total table in
    ap (λ (o : Ordering). is_le (ordering_then o (int_cmp low q.key)) && not (is_lt (ordering_then o (int_cmp high q.key)))) tied
    ∙ ap (λ (b : Bool). b && not (is_lt (int_cmp high q.key))) (at-most-by (int_lt low q.key) (int_lt q.key low) low q.key refl refl)
    ∙ ap (λ (b : Bool). int_le low q.key && b) (not-less-by (int_lt high q.key) (int_lt q.key high) high q.key refl refl)
in-range-by table low high q false is =
    apart-by table low high q (nat_cmp table q.table) refl
    (λ tied. let same : table ≡ q.table = nat_cmp-IsAntisymmetric table q.table tied in let e : true ≡ false = sym (eqb-itself table) ∙ ap (λ (n : ℕ). eqb n table) same ∙ is in let never : ⊥ = cc in never)

module _ {X : Type 0} (table : ℕ) (low high : ℤ) where
  -- the entry's place is between two of a table
  abbrev pub in_range : Place × X → Bool
  in_range entry = range_contains place_cmp (Included (place_at table low)) (Included (place_at table high)) entry.0

  -- the entries between two places of a table are those of it with keys between theirs
  pub table-range : (entries : PlaceMap X) → filter in_range entries ≡ filter (λ entry. is_in_range table low high entry.0) entries
  table-range [] = refl
  table-range (entry ∷ entries) =
      ap (λ (b : Bool). cond b (entry ∷ filter in_range entries) (filter in_range entries)) (in-range-by table low high entry.0 (entry.0.table == table) refl)
      ∙ ap (λ (es : List (Place × X)). cond (is_in_range table low high entry.0) (entry ∷ es) es) (table-range entries)

-- What is found between two places of a table are the rows that are seen of it there.
pub scanned : (ledger : Ledger) (at : ℕ) (none : OpenTransaction) (table : ℕ) (low high : ℤ) → Belongs (machine_in ledger) ledger.writers → at < length ledger.transactions.items
    → IsStrictlySortedBy place_cmp (keys_of ledger.writers.places.entries)
    → filter_map (λ entry. at_place (seen_rows (machine_in ledger) (open_at ledger at none)) entry.0) (filter (in_range table low high) ledger.writers.places.entries)
    ≡ contents_between table low high (seen_rows (machine_in ledger) (open_at ledger at none))
scanned ledger at none table low high h within sorted =
    let t = open_at ledger at none in
    let own = kept-at ledger at none within h in
    let seen : State = seen_rows (machine_in ledger) t in
    ap (filter_map (λ entry. at_place seen entry.0)) (table-range table low high ledger.writers.places.entries)
    ∙ merged (is_in_range table low high) ledger.writers.places.entries seen
    (rises-laid (state_at (machine_in ledger).history t.snapshot) t.own (rises-fold [] (take t.snapshot (machine_in ledger).history) tt))
    (rises-sorted ledger.writers.places.entries sorted)
    (λ place. covered-by (has_place ledger.writers place) (at_place seen place) (nothing-seen ledger t place h own.0 own.1))

-- ---- all keys, and none

-- Of keys that are turned none is between them.
turned-none : (low high key : ℤ) → int_lt high low ≡ true → is_between low high key ≡ false
turned-none low high key turned = grind (arith, ints)

-- between two keys that are turned there is no row
pub nothing-between : (table : ℕ) (low high : ℤ) (seen : State) → int_lt high low ≡ true → contents_between table low high seen ≡ []
nothing-between table low high [] turned = refl
nothing-between table low high (entry ∷ seen) turned =
    ap (λ (b : Bool). cons_option (cond (entry.0.table == table && b) (Some entry.1) None) (contents_between table low high seen)) (turned-none low high entry.0.key turned)
    ∙ ap (λ (b : Bool). cons_option (cond b (Some entry.1) None) (contents_between table low high seen)) (neither (entry.0.table == table))
    ∙ nothing-between table low high seen turned
  where
    neither : (b : Bool) → (b && false) ≡ false
    neither true = refl
    neither false = refl

-- the rows between the least and the greatest key are all of the table, where keys have 64 bits
all-between : (table : ℕ) (seen : State) → ((place : Place) → is_some (at_place seen place) ≡ true → is_key place ≡ true) → contents_between table least_key greatest_key seen ≡ contents_of table seen
all-between table [] keys = refl
all-between table (entry ∷ seen) keys =
    let key : is_between least_key greatest_key entry.0.key ≡ true = keys entry.0 (ap (λ (b : Bool). is_some (cond b (Some entry.1) (at_place seen entry.0))) (itself entry.0)) in
    ap (λ (b : Bool). cons_option (cond (entry.0.table == table && b) (Some entry.1) None) (contents_between table least_key greatest_key seen)) key
    ∙ ap (λ (b : Bool). cons_option (cond b (Some entry.1) None) (contents_between table least_key greatest_key seen)) (both (entry.0.table == table))
    ∙ ap (cons_option (cond (entry.0.table == table) (Some entry.1) None)) (all-between table seen (λ place h. keys place (still (is_place place entry.0) entry.1 (at_place seen place) h)))
  where
    both : (b : Bool) → (b && true) ≡ b
    both true = refl
    both false = refl

-- the rows that a transaction sees between the least and the greatest key are all of a table
pub whole : (ledger : Ledger) (at : ℕ) (none : OpenTransaction) (table : ℕ) → Belongs (machine_in ledger) ledger.writers → at < length ledger.transactions.items
    → contents_between table least_key greatest_key (seen_rows (machine_in ledger) (open_at ledger at none)) ≡ contents_of table (seen_rows (machine_in ledger) (open_at ledger at none))
whole ledger at none table h within =
    let t = open_at ledger at none in
    let own = kept-at ledger at none within h in
    let seen : State = seen_rows (machine_in ledger) t in
    all-between table seen
    (λ place some. h.keys place (covered-by (has_place ledger.writers place) (at_place seen place) (nothing-seen ledger t place h own.0 own.1) some))
