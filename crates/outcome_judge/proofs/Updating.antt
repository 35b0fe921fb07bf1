-- What is asked of commits, by the numbers that are kept.
use Rattle.std.proofs.Common.{◌≡◌, ℕ, ◌≤◌, Bool, true, false, ◌&&◌, ◌||◌, not, eqb, nat_lt, nat_le, List, [], ◌∷◌, Option, None, Some, refl, sym, ap, ◌∙◌, arith}
use Rattle.std.specs.List.{filter, list_all, list_any, cons_option}
use Rattle.std.specs.Option.{option_map_or}
use Rattle.std.specs.Prelude.{option_map, option_and_then, ◌==◌}
use Rattle.std.proofs.lemmas.Bool.{and_parts, and_from}
use Rattle.std.proofs.lemmas.Bool.Decides.{nat_tests}
use Rattle.cell_model.specs.declared.table.TableDecl.{TableDecl}
use Rattle.isolation_spec.specs.Contents.{WriteSet}
use Rattle.isolation_spec.specs.Machine.{later_commits, later_writers, writes_place}
use Rattle.isolation_spec.specs.declared.place.Place.{Place}
use Rattle.outcome_spec.specs.Conflicts.{is_committed_not_after, is_first_updater, names_commit, passes_no_commit}
use Rattle.outcome_spec.specs.Entries.{Entry, before, commit_in, is_reply, is_same, snapshot_in}
use Rattle.outcome_spec.specs.Runs.{Span, ending_of, run_of, span_from, transactions_of, transaction_with}
use Rattle.mark_index.specs.Marks.{count_below, highest}
use Rattle.order_laws.proofs.Places.{same-is}
use Rattle.outcome_counts.proofs.Shown.{all-agree}
use Rattle.outcome_judge.specs.Writers.{count_up_to, history_in, is_number_in, number_told, numbers_of, transaction_told}
use Rattle.outcome_judge.specs.declared.commits.Transaction.{Transaction}
use Rattle.outcome_judge.proofs.Committing.{all-at, comes_before, is_free, line-of, none-above}
use Rattle.outcome_judge.proofs.Counting.{all-filter, none-between}
use Rattle.outcome_judge.proofs.Spans.{any-agree, found-in}
use Rattle.outcome_judge.proofs.Tops.{any-filter, span-same}

-- ---- the commits above a snapshot

-- What passes two tests is kept by one and then by the other.
filter-twice : (p q r : ℕ → Bool) → ((n : ℕ) → r n ≡ (q n && p n)) → (ns : List ℕ) → filter r ns ≡ filter p (filter q ns)
filter-twice p q r is [] = refl
filter-twice p q r is (n ∷ ns) = by (q n) (p n) refl refl (filter-twice p q r is ns)
  where
    by : (a b : Bool) → q n ≡ a → p n ≡ b → filter r ns ≡ filter p (filter q ns) → filter r (n ∷ ns) ≡ filter p (filter q (n ∷ ns))
    by true true h k rest = let e : r n ≡ true = is n ∙ ap (λ (c : Bool). c && p n) h ∙ k in rw (e, h, k) (ap (λ (ms : List ℕ). n ∷ ms) rest)
    by true false h k rest = let e : r n ≡ false = is n ∙ ap (λ (c : Bool). c && p n) h ∙ k in rw (e, h, k) rest
    by false b h k rest = let e : r n ≡ false = is n ∙ ap (λ (c : Bool). c && p n) h in rw (e, h) rest

-- What is above a snapshot and writes is above zero, writes, and is above the snapshot.
later-test : (snapshot n : ℕ) (writes : Bool) → (nat_lt snapshot n && writes) ≡ ((nat_lt 0 n && writes) && nat_lt snapshot n)
later-test snapshot n true = grind (arith, nat_tests)
later-test snapshot n false = grind (arith, nat_tests)

-- the later commits that pass a test are those of all that are above the snapshot
pub later-above : (entries : List Entry) (snapshot : ℕ) (test : WriteSet → Bool) → later_commits (history_in entries) snapshot test ≡ filter (nat_lt snapshot) (later_commits (history_in entries) 0 test)
later-above entries snapshot test = filter-twice (nat_lt snapshot) _ _ (λ n. later-test snapshot n _) _

-- ---- none before

-- no commit in front is passed over where the highest number told before is in the snapshot
pub passes-commit : (tables : List TableDecl) (entries : List Entry) (t : Span) (place : Place) (entry : Entry)
    → nat_le (highest (number_told entries (numbers_of entries place)) (before entries entry)) t.snapshot ≡ passes_no_commit (run_of tables entries) t place entry
passes-commit tables entries t place entry =
    let ns = numbers_of entries place in
    let low : t.snapshot ≤ t.snapshot = omega arith in
    none-above entries entry ns t.snapshot t.snapshot low
    ∙ all-filter (is_free entries entry ns t.snapshot) (nat_lt t.snapshot) ns
    ∙ all-agree (λ later. not (nat_lt t.snapshot later) || is_free entries entry ns t.snapshot later) (λ later. not (nat_lt t.snapshot later) || not (comes_before entries entry ns later))
    (λ later. same later (comes_before entries entry ns later)) ns
    ∙ sym (all-filter (λ later. not (comes_before entries entry ns later)) (nat_lt t.snapshot) ns)
    ∙ ap (list_all (λ later. not (comes_before entries entry ns later))) (sym (later-above entries t.snapshot (writes_place place)))
  where
    same : (later : ℕ) (comes : Bool) → (not (nat_lt t.snapshot later) || (nat_le later t.snapshot || not comes)) ≡ (not (nat_lt t.snapshot later) || not comes)
    same later true = grind (arith, nat_tests)
    same later false = grind (arith, nat_tests)

-- ---- the one that is named

-- A condition that is the same for each element may be asked once, in front of all.
any-both : {X : Type 0} (b : Bool) (p : X → Bool) (xs : List X) → list_any (λ x. b && p x) xs ≡ (b && list_any p xs)
any-both true p xs = refl
any-both false p [] = refl
any-both false p (x ∷ xs) = any-both false p xs

-- A number is among those above a snapshot exactly where it is above it and among all.
number-above : (snapshot number : ℕ) (ns : List ℕ) → list_any (λ later. later == number) (filter (nat_lt snapshot) ns) ≡ (nat_lt snapshot number && is_number_in ns number)
number-above snapshot number ns =
    any-filter (λ later. later == number) (nat_lt snapshot) ns
    ∙ any-agree (λ later. (later == number) && nat_lt snapshot later) (λ later. nat_lt snapshot number && (later == number)) (λ later. turned later) ns
    ∙ any-both (nat_lt snapshot number) (λ later. later == number) ns
  where
    turned : (later : ℕ) → (eqb later number && nat_lt snapshot later) ≡ (nat_lt snapshot number && eqb later number)
    turned later = grind (arith, nat_tests)

-- a commit that passes a test may be named where its number is kept and the highest of those told
-- before
pub names-by : (tables : List TableDecl) (entries : List Entry) (t : Span) (test : WriteSet → Bool) (entry : Entry) (number : ℕ) → let ns = later_commits (history_in entries) 0 test in
    (((nat_lt t.snapshot number && is_number_in ns number) && is_committed_not_after (run_of tables entries) entry number) && nat_le (highest (number_told entries ns) (before entries entry)) number)
    ≡ ((list_any (λ later. later == number) (later_commits (history_in entries) t.snapshot test) && is_committed_not_after (run_of tables entries) entry number)
    && list_all (is_free entries entry (later_commits (history_in entries) 0 test) number) (later_commits (history_in entries) t.snapshot test))
names-by tables entries t test entry number =
    let ns = later_commits (history_in entries) 0 test in
    let told = is_committed_not_after (run_of tables entries) entry number in
    under (nat_lt t.snapshot number) (is_number_in ns number) told (nat_le (highest (number_told entries ns) (before entries entry)) number)
    (list_all (is_free entries entry ns number) (filter (nat_lt t.snapshot) ns))
    (λ above. none-above entries entry ns t.snapshot number (grind (arith, nat_tests, above)))
    ∙ ap (λ (b : Bool). (b && told) && list_all (is_free entries entry ns number) (filter (nat_lt t.snapshot) ns)) (sym (number-above t.snapshot number ns))
    ∙ ap (λ (ms : List ℕ). (list_any (λ later. later == number) ms && told) && list_all (is_free entries entry ns number) ms) (sym (later-above entries t.snapshot test))
  where
    under : (a b c d e : Bool) → (a ≡ true → d ≡ e) → (((a && b) && c) && d) ≡ (((a && b) && c) && e)
    under true b c d e h = ap (λ (x : Bool). (b && c) && x) (h refl)
    under false b c d e h = refl

-- so may one that wrote a place
pub names-commit : (tables : List TableDecl) (entries : List Entry) (t : Span) (place : Place) (entry : Entry) (number : ℕ)
    → (((nat_lt t.snapshot number && is_number_in (numbers_of entries place) number) && is_committed_not_after (run_of tables entries) entry number)
    && nat_le (highest (number_told entries (numbers_of entries place)) (before entries entry)) number) ≡ names_commit (run_of tables entries) t place entry number
names-commit tables entries t place entry number = names-by tables entries t (writes_place place) entry number

-- ---- the first to update

-- a transaction is the first to update a place where the counts of numbers say so
pub first-updater : (tables : List TableDecl) (entries : List Entry) (span : Span) (place : Place) (t : Transaction) → transaction_told span ≡ t
    → option_map_or (λ number. nat_le (count_below number (numbers_of entries place)) (count_up_to t.snapshot (numbers_of entries place))) t.committed true
    ≡ is_first_updater (run_of tables entries) span place
first-updater tables entries span place t is =
    let ns = numbers_of entries place in
    ap (λ (told : Transaction). option_map_or (λ number. nat_le (count_below number ns) (count_up_to told.snapshot ns)) told.committed true) (sym is)
    ∙ by (option_and_then (λ ending. commit_in ending.reply.said) (ending_of span))
  where
    by : (committed : Option ℕ) → option_map_or (λ number. nat_le (count_below number (numbers_of entries place)) (count_up_to span.snapshot (numbers_of entries place))) committed true
        ≡ option_map_or (λ number. list_all (nat_le number) (later_writers (history_in entries) span.snapshot place)) committed true
    by None = refl
    by (Some number) = none-between span.snapshot number (numbers_of entries place) ∙ ap (list_all (nat_le number)) (sym (later-above entries span.snapshot (writes_place place)))

-- ---- whose transaction it is

-- All replies of the transaction are to its own session or worker.
abbrev is_own_span : Span → Bool
is_own_span t = list_all (λ (x : Entry). is_same x.reply.who t.who) t.replies

-- The replies of each transaction are all to its own session or worker.
spans-own : (entries : List Entry) → list_all is_own_span (transactions_of entries) ≡ true
spans-own [] = refl
spans-own (entry ∷ entries) = by (snapshot_in entry.reply.said) (spans-own entries)
  where
    by : (shown : Option ℕ) → list_all is_own_span (transactions_of entries) ≡ true → list_all is_own_span (cons_option (option_map (span_from entry entries) shown) (transactions_of entries)) ≡ true
    by None rest = rest
    by (Some snapshot) rest = and_from (is_own_span (span_from entry entries snapshot)) (list_all is_own_span (transactions_of entries)) (span-same entry entries) rest

-- a reply's transaction is its own session's
pub whose : (entries : List Entry) (entry : Entry) (t : Span) → transaction_with (transactions_of entries) entry ≡ Some t → t.who ≡ entry.reply.who
whose entries entry t is =
    let its = line-of (λ (s : Span). list_any (is_reply entry) s.replies) (transactions_of entries) t is in
    let own = all-at is_own_span (transactions_of entries) t (spans-own entries) its.among in
    let at = found-in (is_reply entry) t.replies its.passes in
    let of = all-at (λ (x : Entry). is_same x.reply.who t.who) t.replies at.item own at.found in
    let outer = and_parts (eqb entry.reply.round at.item.reply.round && is_same entry.reply.who at.item.reply.who) (eqb entry.reply.index at.item.reply.index) at.passes in
    let inner = and_parts (eqb entry.reply.round at.item.reply.round) (is_same entry.reply.who at.item.reply.who) outer.0 in
    sym (same-is at.item.reply.who t.who of) ∙ sym (same-is entry.reply.who at.item.reply.who inner.1)
