-- What a test leaves of lists, and whether something of what is left passes another test.
use Rattle.std.proofs.Common.{◌≡◌, ℕ, ◌+◌, ◌<◌, ◌≤◌, zero, suc, Bool, true, false, cond, ◌||◌, eqb, List, [], ◌∷◌, Option, None, Some, refl, sym, ap, ◌∙◌, subst, arith}
use Rattle.std.specs.Prelude.{fold}
use Rattle.std.specs.Option.{option_map_or}
use Rattle.std.specs.BTreeMap.{insert_entry}
use Rattle.std.specs.Cmp.{eq_by_cmp_equiv}
use Rattle.std.specs.List.{filter, filter_map, find, list_all, list_any, cons_option, range_with_len}
use Rattle.std.proofs.lemmas.Bool.Decides.{nat_tests}
use Rattle.std.proofs.lemmas.Bool.{eqb-true, or_right, and_from}
use Rattle.cell_model.specs.declared.cell.Cell.{Cell}
use Rattle.isolation_spec.specs.Contents.{place_cmp, is_place, WriteSet}
use Rattle.isolation_spec.specs.declared.place.Place.{Place}
use Rattle.isolation_spec.specs.Machine.{writes_place}
use Rattle.isolation_laws.proofs.Rows.{place_cmp-total}
use Rattle.workload_spec.specs.declared.reply.Who.{Who}
use Rattle.outcome_spec.specs.Entries.{Entry, is_same, shown_in, commit_in, is_end}
use Rattle.outcome_spec.specs.Runs.{Span, accepted_write, writes_in, commits_as}
use Rattle.outcome_spec.specs.Conflicts.{has_write}
use Rattle.timeline_spec.specs.Timeline.{Each}
use Rattle.timeline_laws.proofs.Tests.{or-left, or-right}
use Rattle.timeline_laws.proofs.Order.{same-is, same-itself}
use Rattle.timeline_laws.proofs.Spans.{EachSpan}
use Rattle.timeline_laws.proofs.Writers.{writes-more}

-- ---- numbers that pass a test

-- One more number that passes where it is kept keeps that all pass.
filter-all-step : (p : ℕ → Bool) (b : Bool) (x : ℕ) (kept : List ℕ) → (b ≡ true → p x ≡ true) → list_all p kept ≡ true → list_all p (cond b (x ∷ kept) kept) ≡ true
filter-all-step p true x kept h k = and_from (p x) (list_all p kept) (h refl) k
filter-all-step p false x kept h k = k

-- all that a test keeps pass one that it implies
pub filter-all : (p q : ℕ → Bool) → ((x : ℕ) → q x ≡ true → p x ≡ true) → (xs : List ℕ) → list_all p (filter q xs) ≡ true
filter-all p q h [] = refl
filter-all p q h (x ∷ xs) = filter-all-step p (q x) x (filter q xs) (h x) (filter-all p q h xs)

-- a number of a range that passes stands among those that do
filter-any-here : (k : ℕ) (b : Bool) (kept : List ℕ) → b ≡ true → list_any (λ x. eqb x k) (cond b (k ∷ kept) kept) ≡ true
filter-any-here k true kept h = let e : eqb k k ≡ true = grind (arith, nat_tests) in rw e refl
filter-any-here k false kept h = absurd (let never : ⊥ = cc in never)

-- A number among those kept is so with one more in front, kept or not.
filter-any-later : (k x : ℕ) (b : Bool) (kept : List ℕ) → list_any (λ y. eqb y k) kept ≡ true → list_any (λ y. eqb y k) (cond b (x ∷ kept) kept) ≡ true
filter-any-later k x true kept h = or_right (eqb x k) (list_any (λ y. eqb y k) kept) h
filter-any-later k x false kept h = h

-- A number that is no less than another, and not equal, is above it.
further : (a k : ℕ) → a ≤ k → eqb a k ≡ false → a + 1 ≤ k
further a k low apart = grind (arith, nat_tests, low)

-- A number that passes, first in a range or behind, is among those kept.
range-any-at : (q : ℕ → Bool) (k a : ℕ) (rest : List ℕ) → q k ≡ true → (b : Bool) → eqb a k ≡ b → (b ≡ false → list_any (λ x. eqb x k) (filter q rest) ≡ true)
    → list_any (λ x. eqb x k) (cond (q a) (a ∷ filter q rest) (filter q rest)) ≡ true
range-any-at q k a rest h true is more =
    let e : a ≡ k = eqb-true a k is in
    subst (λ (x : ℕ). list_any (λ y. eqb y k) (cond (q x) (x ∷ filter q rest) (filter q rest)) ≡ true) (sym e) (filter-any-here k (q k) (filter q rest) h)
range-any-at q k a rest h false is more = filter-any-later k a (q a) (filter q rest) (more refl)

-- a number of a range that passes is among those of it that pass
pub range-any : (q : ℕ → Bool) (k a n : ℕ) → a ≤ k → k < a + n → q k ≡ true → list_any (λ x. eqb x k) (filter q (range_with_len a n)) ≡ true
range-any q k a zero low high h = absurd (omega (arith, low, high))
range-any q k a (suc n) low high h =
    range-any-at q k a (range_with_len (a + 1) n) h (eqb a k) refl (λ (is : eqb a k ≡ false). range-any q k (a + 1) n (further a k low is) (omega (arith, high)) h)

-- ---- what a write set of replies has

-- an accepted write of the place
abbrev pub writes_it : Place → Entry → Bool
writes_it place entry = option_map_or (λ write. is_place write.0 place) (accepted_write entry) false

-- Three parts of a disjunction may be taken in another order.
turned : (a b c : Bool) → (cond a true b || c) ≡ (b || (a || c))
turned true true c = refl
turned true false c = refl
turned false b c = refl

-- A disjunction whose last part fails is its first part.
unlikely : (b : Bool) → b ≡ (b || false)
unlikely true = refl
unlikely false = refl

-- With one more write or none, a write set has the places that it had or got.
written-step : (place : Place) (own : WriteSet) (o : Option (Place × Option (List Cell))) (others : List (Place × Option (List Cell)))
    → ((start : WriteSet) → writes_place place (fold (λ all write. insert_entry place_cmp all write.0 write.1) start others) ≡ (writes_place place start || list_any (λ write. is_place write.0 place) others))
    → writes_place place (fold (λ all write. insert_entry place_cmp all write.0 write.1) own (cons_option o others))
    ≡ (writes_place place own || (option_map_or (λ write. is_place write.0 place) o false || list_any (λ write. is_place write.0 place) others))
written-step place own None others h = h own
written-step place own (Some write) others h =
    h (insert_entry place_cmp own write.0 write.1)
    ∙ ap (λ (b : Bool). b || list_any (λ w. is_place w.0 place) others) (writes-more own write.0 write.1 place ∙ ap (λ (b : Bool). cond b true (writes_place place own)) ((eq_by_cmp_equiv place_cmp-total).symm place write.0))
    ∙ turned (is_place write.0 place) (writes_place place own) (list_any (λ w. is_place w.0 place) others)

-- A write set behind some writes has the places that it had or got.
written : (place : Place) (own : WriteSet) (writes_all : List (Place × Option (List Cell)))
    → writes_place place (fold (λ all write. insert_entry place_cmp all write.0 write.1) own writes_all) ≡ (writes_place place own || list_any (λ write. is_place write.0 place) writes_all)
written place own [] = unlikely (writes_place place own)
written place own (write ∷ all) = written-step place own (Some write) all (λ start. written place start all)

-- A write of the place is the first one, if there is one, or behind it.
has-step : (o : Option (Place × Option (List Cell))) (place : Place) (others : List (Place × Option (List Cell))) (rest : Bool) → list_any (λ write. is_place write.0 place) others ≡ rest
    → list_any (λ write. is_place write.0 place) (cons_option o others) ≡ (option_map_or (λ write. is_place write.0 place) o false || rest)
has-step None place others rest h = h
has-step (Some write) place others rest h = ap (λ (b : Bool). is_place write.0 place || b) h

-- Among accepted writes one is of the place where a reply writes it.
has-any : (place : Place) (entries : List Entry) → list_any (λ write. is_place write.0 place) (filter_map accepted_write entries) ≡ has_write place entries
has-any place [] = refl
has-any place (entry ∷ entries) = has-step (accepted_write entry) place (filter_map accepted_write entries) (has_write place entries) (has-any place entries)

-- The write set of replies has a place where one of them is an accepted write of it.
pub has-writes : (place : Place) (entries : List Entry) → writes_place place (writes_in entries) ≡ has_write place entries
has-writes place entries = written place [] (filter_map accepted_write entries) ∙ has-any place entries

-- a write among some of the replies is one among all
some-write-step : (place : Place) (p : Entry → Bool) (b : Bool) (entry : Entry) (kept entries : List Entry) → (has_write place entries ≡ false → has_write place kept ≡ false)
    → (writes_it place entry || has_write place entries) ≡ false → has_write place (cond b (entry ∷ kept) kept) ≡ false
some-write-step place p true entry kept entries rest h = rw (or-left (writes_it place entry) (has_write place entries) h) (rest (or-right (writes_it place entry) (has_write place entries) h))
some-write-step place p false entry kept entries rest h = rest (or-right (writes_it place entry) (has_write place entries) h)

-- where no reply writes a place, none of some of them does
pub no-write-filter : (place : Place) (p : Entry → Bool) (entries : List Entry) → has_write place entries ≡ false → has_write place (filter p entries) ≡ false
no-write-filter place p [] h = refl
no-write-filter place p (entry ∷ entries) h = some-write-step place p (p entry) entry (filter p entries) entries (no-write-filter place p entries) h

-- ---- tests of the transactions, session by session

-- One more transaction, kept if it is one's own, leaves all kept ones one's own.
kept-pass-step : (b : Bool) (who : Who) (t : Span) (kept : List Span) → is_same t.who who ≡ b → EachSpan (λ u. u.who ≡ who) kept → EachSpan (λ u. u.who ≡ who) (cond b (t ∷ kept) kept)
kept-pass-step true who t kept is h = (same-is t.who who is, h)
kept-pass-step false who t kept is h = h

-- The transactions that are kept for one are all one's own.
pub kept-pass : (who : Who) (ts : List Span) → EachSpan (λ u. u.who ≡ who) (filter (λ t. is_same t.who who) ts)
kept-pass who [] = tt
kept-pass who (t ∷ ts) = kept-pass-step (is_same t.who who) who t (filter (λ u. is_same u.who who) ts) refl (kept-pass who ts)

-- A test that each reply passes keeps all.
pub filter-each : (p : Entry → Bool) (entries : List Entry) → Each (λ entry. p entry ≡ true) entries → filter p entries ≡ entries
filter-each p [] h = refl
filter-each p (entry ∷ entries) h = rw h.0 (ap (λ es. entry ∷ es) (filter-each p entries h.1))

-- some transaction passes where one of those that pass another test does
any-kept-step : (a b : Bool) (rest : Bool) (t : Span) (kept : List Span) (test : Span → Bool) → test t ≡ b → list_any test (cond a (t ∷ kept) kept) ≡ true → (list_any test kept ≡ true → rest ≡ true) → (b || rest) ≡ true
any-kept-step a true rest t kept test is h more = refl
any-kept-step true false rest t kept test is h more = more (sym (ap (λ (b : Bool). b || list_any test kept) is) ∙ h)
any-kept-step false false rest t kept test is h more = more h

-- a transaction that passes among those that are kept passes among all
pub any-kept : (test choice : Span → Bool) (ts : List Span) → list_any test (filter choice ts) ≡ true → list_any test ts ≡ true
any-kept test choice [] h = h
any-kept test choice (t ∷ ts) h = any-kept-step (choice t) (test t) (list_any test ts) t (filter choice ts) test refl h (any-kept test choice ts)

-- Where none passes with the first one kept, the first fails, and none behind passes.
none-kept-step : (a b : Bool) (t : Span) (kept : List Span) (test : Span → Bool) → list_any test (cond a (t ∷ kept) kept) ≡ false → a ≡ true → (test t ≡ false) × (list_any test kept ≡ false)
none-kept-step true b t kept test h is = (or-left (test t) (list_any test kept) h, or-right (test t) (list_any test kept) h)
none-kept-step false b t kept test h is = absurd (let never : ⊥ = cc in never)

-- Where none passes with the first one kept or not, none behind it passes.
none-tail-step : (a : Bool) (t : Span) (kept : List Span) (test : Span → Bool) → list_any test (cond a (t ∷ kept) kept) ≡ false → list_any test kept ≡ false
none-tail-step true t kept test h = or-right (test t) (list_any test kept) h
none-tail-step false t kept test h = h

-- no transaction passes where none of any session or worker does
pub none-any : (test : Span → Bool) (ts : List Span) → ((who : Who) → list_any test (filter (λ t. is_same t.who who) ts) ≡ false) → list_any test ts ≡ false
none-any test [] h = refl
none-any test (t ∷ ts) h =
    let first = none-kept-step (is_same t.who t.who) true t (filter (λ u. is_same u.who t.who) ts) test (h t.who) (same-itself t.who) in
    rw first.0 (none-any test ts (λ who. none-tail-step (is_same t.who who) t (filter (λ u. is_same u.who who) ts) test (h who)))

-- Where each transaction fails a test, none passes it.
pub none-spans : (test : Span → Bool) (ts : List Span) → EachSpan (λ t. test t ≡ false) ts → list_any test ts ≡ false
none-spans test [] h = refl
none-spans test (t ∷ ts) h = rw h.0 (none-spans test ts h.1)

-- of one that ended, the end is not after the reply; of one that goes on, it is not before it
found-end-step : (test : Entry → Bool) (b : Bool) (entry : Entry) (found : Option Entry) (others : Bool) → test entry ≡ false → (others ≡ true → option_map_or test found true ≡ false) → (b || others) ≡ true
    → option_map_or test (cond b (Some entry) found) true ≡ false
found-end-step test true entry found others h rest k = h
found-end-step test false entry found others h rest k = rest k

-- One more reply that passes keeps that the end found passes, if one is found.
some-end-step : (test : Entry → Bool) (b : Bool) (entry : Entry) (found : Option Entry) → test entry ≡ true → option_map_or test found true ≡ true → option_map_or test (cond b (Some entry) found) true ≡ true
some-end-step test true entry found h k = h
some-end-step test false entry found h k = k

-- Where each reply fails a test and one is an end, the end found fails it.
pub found-end : (test : Entry → Bool) (entries : List Entry) → Each (λ entry. test entry ≡ false) entries → list_any (λ entry. is_end entry.reply.said) entries ≡ true
    → option_map_or test (find (λ entry. is_end entry.reply.said) entries) true ≡ false
found-end test [] h k = absurd (let never : ⊥ = cc in never)
found-end test (entry ∷ entries) h k = found-end-step test (is_end entry.reply.said) entry (find (λ e. is_end e.reply.said) entries) (list_any (λ e. is_end e.reply.said) entries) h.0 (found-end test entries h.1) k

-- Where each reply passes a test, the end found passes it, if one is found.
pub some-end : (test : Entry → Bool) (entries : List Entry) → Each (λ entry. test entry ≡ true) entries → option_map_or test (find (λ entry. is_end entry.reply.said) entries) true ≡ true
some-end test [] h = refl
some-end test (entry ∷ entries) h = some-end-step test (is_end entry.reply.said) entry (find (λ e. is_end e.reply.said) entries) h.0 (some-end test entries h.1)

-- ---- the numbers of the commits

-- One more number, if one is shown, that is another one leaves a number unshown.
unshown-step : (k : ℕ) (o : Option ℕ) (others : List ℕ) → option_map_or (λ c. eqb c k) o false ≡ false → list_any (λ x. eqb x k) others ≡ false → list_any (λ x. eqb x k) (cons_option o others) ≡ false
unshown-step k None others h rest = rest
unshown-step k (Some c) others h rest = rw h rest

-- A number as which no reply commits is not among those shown.
pub unshown : (k : ℕ) (entries : List Entry) → Each (λ entry. commits_as k entry ≡ false) entries → list_any (λ x. eqb x k) (shown_in commit_in entries) ≡ false
unshown k [] h = refl
unshown k (entry ∷ entries) h = unshown-step k (commit_in entry.reply.said) (shown_in commit_in entries) h.0 (unshown k entries h.1)

-- A test that every number passes keeps the whole list.
all-kept : (xs : List ℕ) → filter (λ x. true) xs ≡ xs
all-kept [] = refl
all-kept (x ∷ xs) = ap (λ (ys : List ℕ). x ∷ ys) (all-kept xs)

-- Each number from the begin of a range to its end is in it.
pub range-has : (k a n : ℕ) → a ≤ k → k < a + n → list_any (λ x. eqb x k) (range_with_len a n) ≡ true
range-has k a n low high = ap (list_any (λ x. eqb x k)) (sym (all-kept (range_with_len a n))) ∙ range-any (λ x. true) k a n low high refl
