-- Numbers and peaks of the commits that wrote a place, with a change, a commit or a reply more.
use Rattle.std.proofs.Common.{◌≡◌, ℕ, ◌+◌, ◌-◌, ◌<◌, Bool, true, false, cond, ◌&&◌, ◌||◌, not, nat_lt, nat_le, List, [], ◌∷◌, ◌++◌, length, map, take, Option, None, Some, Result, Ok, Err, OnOk, refl, sym, ap, ◌∙◌, subst, arith, append-nil}
use Rattle.std.specs.BTreeMap.{insert_entry}
use Rattle.std.specs.List.{filter, filter_map, last_or, list_all, list_any, range_with_len}
use Rattle.std.specs.List.Sorted.{IsNonDecreasing, IsNonDecreasingBy}
use Rattle.std.specs.Option.{option_map_or}
use Rattle.std.specs.Ordering.{nat_cmp, match_ordering}
use Rattle.std.specs.declared.cmp.Ordering.{Ordering}
use Rattle.std.specs.declared.cmp.Ordering.TheVariants.{Less, Equal, Greater}
use Rattle.std.specs.Prelude.{◌==◌, option_and_then, slice_index_or}
use Rattle.std.proofs.lemmas.Bool.{and_parts, and_from, not-true}
use Rattle.std.proofs.lemmas.Bool.Decides.{nat_tests}
use Rattle.std.proofs.lemmas.List.Elements.{filter-append}
use Rattle.std.proofs.lemmas.List.Folds.{list_all-append, list_any-append}
use Rattle.std.proofs.lemmas.List.FromFn.{get_or-map-range_with_len}
use Rattle.cell_model.specs.declared.cell.Cell.{Cell}
use Rattle.isolation_spec.specs.Contents.{WriteSet, place_cmp}
use Rattle.isolation_spec.specs.Machine.{write_set_at}
use Rattle.isolation_spec.specs.declared.place.Place.{Place}
use Rattle.timeline_laws.proofs.Placed.{one-place}
use Rattle.timeline_laws.proofs.Ranges.{range-push}
use Rattle.timeline_laws.proofs.Tests.{or-false}
use Rattle.mark_index.specs.Lists.{is_last, marks_at, with_mark}
use Rattle.mark_index.specs.declared.marks.Peak.{Peak}
use Rattle.mark_index.proofs.Noted.{all-weaker, last-push, rises-push}
use Rattle.outcome_spec.specs.Entries.{Entry}
use Rattle.outcome_spec.specs.Runs.{Span, accepted_write, commit_count, commits_as, committed_writes, transactions_of, transaction_with, writes_in}
use Rattle.outcome_counts.specs.Openings.{AreOpenings, opening_of, openings_in}
use Rattle.outcome_judge.specs.Commits.{first_of}
use Rattle.outcome_judge.specs.HistoryKept.{place_in}
use Rattle.outcome_judge.specs.Own.{AreChanges, changes_of, own_writes, written_by}
use Rattle.outcome_judge.specs.Seen.{IsOutput}
use Rattle.outcome_judge.specs.Timed.{TimedWrite, up_to}
use Rattle.outcome_judge.specs.declared.changes.Change.{Change}
use Rattle.outcome_judge.specs.declared.changes.Changes.{Changes}
use Rattle.outcome_judge.specs.declared.keys.Target.{Target}
use Rattle.outcome_judge.specs.Targets.{covers, wrote}
use Rattle.outcome_judge.proofs.History.{FirstAt, commits-end, first-none, first-some}
use Rattle.outcome_judge.proofs.Laid.{entered}
use Rattle.outcome_judge.proofs.Own.{changes-all}
use Rattle.outcome_judge.proofs.Spanned.{IsSpan, spanned, unspanned}
use Rattle.outcome_judge.specs.Writers.{history_in, is_written, numbers_up_to}

-- ---- what holds of each, where it came about

-- what is equal where it came about goes on by what is equal anyway
pub on-each : {T E K X : Type 0} (r : Result T E) (f g h : K → X) → OnOk r ((k : K) → f k ≡ g k) → ((k : K) → g k ≡ h k) → OnOk r ((k : K) → f k ≡ h k)
on-each (Ok x) f g h same next = λ k. same k ∙ next k
on-each (Err e) f g h same next = tt

-- the same, for each of a second kind too
pub on-each-of : {T E N K X : Type 0} (r : Result T E) (f g : K → X) (h : N → K → X) → OnOk r ((k : K) → f k ≡ g k) → ((n : N) (k : K) → g k ≡ h n k) → OnOk r ((n : N) (k : K) → f k ≡ h n k)
on-each-of (Ok x) f g h same next = λ n k. same k ∙ next n k
on-each-of (Err e) f g h same next = tt

-- ---- a mark is put once

-- Where none of some marks is seen, the last of them is not seen.
last-none : {X : Type 0} (seen : X → Bool) (xs : List X) → list_all (λ x. not (seen x)) xs ≡ true → (o : Option X) → option_map_or seen o false ≡ false → option_map_or seen (last_or o xs) false ≡ false
last-none seen [] h o is = is
last-none seen (x ∷ xs) h o is =
    let parts = and_parts (not (seen x)) (list_all (λ y. not (seen y)) xs) h in
    last-none seen xs parts.1 (Some x) (not-true (seen x) parts.0)

-- A mark is put behind those of a key, unless the last of them is seen: where it was put already.
pub noted-step : {M : Type 0} (seen : M → Bool) (mk : List M → M) (base cur_of cur new : List M) (b e : Bool) → seen (mk base) ≡ true → list_all (λ m. not (seen m)) base ≡ true
    → cur ≡ with_mark b (mk base) base → (e ≡ true → cur_of ≡ cur) → new ≡ with_mark (e && not (is_last seen cur_of)) (mk cur_of) cur → new ≡ with_mark (b || e) (mk base) base
noted-step seen mk base cur_of cur new true false sees none is same now = now ∙ is
noted-step seen mk base cur_of cur new false false sees none is same now = now ∙ is
noted-step {M = M} seen mk base cur_of cur new true true sees none is same now =
    let at : cur_of ≡ base ++ mk base ∷ [] = same refl ∙ is in
    let last : is_last seen cur_of ≡ true = ap (is_last seen) at ∙ ap (λ (o : Option M). option_map_or seen o false) (last-push None base (mk base)) ∙ sees in
    now ∙ ap (λ (c : Bool). with_mark (not c) (mk cur_of) cur) last ∙ is
noted-step {M = M} seen mk base cur_of cur new false true sees none is same now =
    let at : cur_of ≡ base = same refl ∙ is in
    let last : is_last seen cur_of ≡ false = ap (is_last seen) at ∙ last-none seen base none None refl in
    now ∙ ap (λ (c : Bool). with_mark (not c) (mk cur_of) cur) last ∙ ap (λ (ms : List M). cur ++ mk ms ∷ []) at ∙ ap (λ (ms : List M). ms ++ mk base ∷ []) is

-- what is changed, with a change more
pub written-step : (of : Target) (bound : ℕ) (own : List Change) (i : ℕ) (change : Change) → take (i + 1) own ≡ take i own ++ change ∷ [] → (b : Bool) → nat_le change.left.time bound ≡ b
    → is_written of bound (take (i + 1) own) ≡ (is_written of bound (take i own) || (b && covers of (place_in change.of)))
written-step of bound own i change next b is =
    ap (is_written of bound) next
    ∙ list_any-append (λ (c : Change). nat_le c.left.time bound && covers of (place_in c.of)) (take i own) (change ∷ [])
    ∙ ap (λ (c : Bool). is_written of bound (take i own) || c) (or-false (nat_le change.left.time bound && covers of (place_in change.of)))
    ∙ ap (λ (c : Bool). is_written of bound (take i own) || (c && covers of (place_in change.of))) is

-- ---- what a write set has

-- An insertion has a place of a target where the write set had one, or at the place inserted.
wrote-insert : (of : Target) (writes : WriteSet) (place : Place) (row : Option (List Cell)) → wrote of (insert_entry place_cmp writes place row) ≡ (wrote of writes || covers of place)
wrote-insert of [] place row = or-false (covers of place)
wrote-insert of (write ∷ writes) place row = by (wrote-insert of writes place row) (place_cmp place write.0) refl
  where
    turned : (a b : Bool) → (a || b) ≡ (b || a)
    turned true true = refl
    turned true false = refl
    turned false true = refl
    turned false false = refl

    again : (a b : Bool) → (a || b) ≡ ((a || b) || a)
    again true b = refl
    again false true = refl
    again false false = refl

    grouped : (a b c : Bool) → (a || (b || c)) ≡ ((a || b) || c)
    grouped true b c = refl
    grouped false b c = refl

    by : wrote of (insert_entry place_cmp writes place row) ≡ (wrote of writes || covers of place) → (o : Ordering) → place_cmp place write.0 ≡ o
        → wrote of (match_ordering o ((place, row) ∷ write ∷ writes) ((write.0, row) ∷ writes) (write ∷ insert_entry place_cmp writes place row)) ≡ (wrote of (write ∷ writes) || covers of place)
    by rest Less is = turned (covers of place) (covers of write.0 || wrote of writes)
    by rest Equal is = again (covers of write.0) (wrote of writes) ∙ ap (λ (p : Place). (covers of write.0 || wrote of writes) || covers of p) (sym (one-place place write.0 is))
    by rest Greater is = ap (λ (b : Bool). covers of write.0 || b) rest ∙ grouped (covers of write.0) (wrote of writes) (covers of place)

-- a write set with changes entered has a place of a target that it had, or that a change has
pub entered-writes : (of : Target) (changes : List (Place × Option (List Cell))) (writes : WriteSet)
    → wrote of (entered writes changes) ≡ (wrote of writes || list_any (λ (c : Place × Option (List Cell)). covers of c.0) changes)
entered-writes of [] writes = sym (or-false (wrote of writes))
entered-writes of (change ∷ changes) writes =
    entered-writes of changes (insert_entry place_cmp writes change.0 change.1)
    ∙ ap (λ (b : Bool). b || list_any (λ (c : Place × Option (List Cell)). covers of c.0) changes) (wrote-insert of writes change.0 change.1)
    ∙ by (wrote of writes) (covers of change.0)
  where
    by : (a b : Bool) → ((a || b) || list_any (λ (c : Place × Option (List Cell)). covers of c.0) changes) ≡ (a || (b || list_any (λ (c : Place × Option (List Cell)). covers of c.0) changes))
    by true b = refl
    by false b = refl

-- The changes up to a bound have a place of a target exactly where it is written up to it.
changed-any : (of : Target) (bound : ℕ) (own : List Change)
    → list_any (λ (c : Place × Option (List Cell)). covers of c.0) (changes_of (up_to bound (map written_by own))) ≡ is_written of bound own
changed-any of bound [] = refl
changed-any of bound (change ∷ own) = by (nat_le change.left.time bound) (changed-any of bound own)
  where
    by : (b : Bool) → list_any (λ (c : Place × Option (List Cell)). covers of c.0) (changes_of (up_to bound (map written_by own))) ≡ is_written of bound own
        → list_any (λ (c : Place × Option (List Cell)). covers of c.0) (changes_of (cond b (written_by change ∷ up_to bound (map written_by own)) (up_to bound (map written_by own))))
        ≡ ((b && covers of (place_in change.of)) || is_written of bound own)
    by true rest = ap (λ (b : Bool). covers of (place_in change.of) || b) rest
    by false rest = rest

-- ---- what a commit wrote

module _ (openings : List (Option ℕ)) (entries : List Entry) (output : IsOutput openings entries) (changes : Changes) (changed : AreChanges openings entries (length entries) changes) where
  -- Where the transactions of the replies were opened.
  abbrev os : List (Option ℕ)
  os = openings_in entries

  -- the transaction that was opened there wrote the row up to this place
  abbrev pub wrote_from : Target → ℕ → Option ℕ → Bool
  wrote_from of place opening = option_map_or (λ owner. is_written of place (marks_at nat_cmp changes.own owner)) opening false

  -- the transaction whose commit stands there wrote the row
  abbrev pub wrote_at : Target → Option ℕ → Bool
  wrote_at of first = option_map_or (λ place. wrote_from of place (opening_of openings place)) first false

  -- What the transaction of a line wrote, if there is such a line.
  abbrev of_line : Option Entry → WriteSet
  of_line line = option_map_or (λ t. writes_in t.replies) (option_and_then (transaction_with (transactions_of entries)) line) []

  -- The changes that are kept of an owner are its own writes.
  own : (owner : ℕ) → map written_by (marks_at nat_cmp changes.own owner) ≡ own_writes owner 0 os entries
  own owner = changes-all openings entries output.own.long changes changed owner ∙ ap (λ (o : List (Option ℕ)). own_writes owner 0 o entries) output.each

  -- What a commit's line wrote has a row where the changes kept of its transaction have it.
  wrote-found : (of : Target) (number place : ℕ) → (first : FirstAt (commits_as number) 0 entries place) → (opening : Option ℕ) → opening_of openings place ≡ opening
      → wrote of (of_line (Some first.entry)) ≡ wrote_from of place opening
  wrote-found of number place first None is =
      let far : length first.front ≡ place = (let f = first.far in omega (arith, f)) in
      let none = unspanned entries first.front first.entry first.rest first.whole output.rises output.outside (subst (λ (o : List (Option ℕ)). AreOpenings entries o) output.each output.own)
      (ap (opening_of os) far ∙ ap (λ (o : List (Option ℕ)). opening_of o place) (sym output.each) ∙ is) in
      ap (λ (o : Option Span). wrote of (option_map_or (λ t. writes_in t.replies) o [])) none
  wrote-found of number place first (Some owner) is =
      let far : length first.front ≡ place = (let f = first.far in omega (arith, f)) in
      let its : IsSpan entries (length first.front) first.entry owner =
      spanned entries first.front first.entry first.rest first.whole output.rises output.outside (subst (λ (o : List (Option ℕ)). AreOpenings entries o) output.each output.own) owner
      (ap (opening_of os) far ∙ ap (λ (o : List (Option ℕ)). opening_of o place) (sym output.each) ∙ is) in
      ap (λ (o : Option Span). wrote of (option_map_or (λ t. writes_in t.replies) o [])) its.found
      ∙ entered-writes of (filter_map accepted_write its.span.replies) []
      ∙ ap (list_any (λ (c : Place × Option (List Cell)). covers of c.0)) (its.ended (commits-end number first.entry.reply.said first.passes))
      ∙ ap (λ (n : ℕ). list_any (λ (c : Place × Option (List Cell)). covers of c.0) (changes_of (up_to n (own_writes owner 0 os entries)))) far
      ∙ ap (λ (ws : List TimedWrite). list_any (λ (c : Place × Option (List Cell)). covers of c.0) (changes_of (up_to place ws))) (sym (own owner))
      ∙ changed-any of place (marks_at nat_cmp changes.own owner)

  -- a commit wrote a place where the changes of its transaction have it
  pub wrote-line : (of : Target) (number : ℕ) (first : Option ℕ) → first_of (commits_as number) entries ≡ first
      → wrote of (committed_writes entries (transactions_of entries) number) ≡ wrote_at of first
  wrote-line of number None is = ap (λ (o : Option Entry). wrote of (of_line o)) (first-none (commits_as number) 0 entries is)
  wrote-line of number (Some place) is =
      let first = first-some (commits_as number) 0 entries place is in
      ap (λ (o : Option Entry). wrote of (of_line o)) first.found ∙ wrote-found of number place first (opening_of openings place) refl

-- ---- the numbers with a commit more

-- the history has what each commit wrote, by its number
pub history-at : (entries : List Entry) (at : ℕ) → at < commit_count entries → write_set_at (history_in entries) (at + 1) ≡ committed_writes entries (transactions_of entries) (at + 1)
history-at entries at inside =
    let back : at + 1 - 1 ≡ at = omega arith in
    ap (λ (n : ℕ). slice_index_or (history_in entries) n []) back
    ∙ get_or-map-range_with_len (committed_writes entries (transactions_of entries)) 1 (commit_count entries) at (at + 1) [] inside (omega arith)

-- A number that is put behind others, or not, is a mark that is put or not.
put-by : (b : Bool) (xs : List ℕ) (n : ℕ) → xs ++ cond b (n ∷ []) [] ≡ with_mark b n xs
put-by true xs n = refl
put-by false xs n = append-nil xs

-- with one more commit a place has its number too, where that wrote it
pub numbers-next : (entries : List Entry) (at : ℕ) (of : Target) → at < commit_count entries
    → numbers_up_to (at + 1) entries of ≡ with_mark (wrote of (committed_writes entries (transactions_of entries) (at + 1))) (at + 1) (numbers_up_to at entries of)
numbers-next entries at of inside =
    let test = λ (number : ℕ). nat_lt 0 number && wrote of (write_set_at (history_in entries) number) in
    let above : nat_lt 0 (at + 1) ≡ true = grind (arith, nat_tests) in
    let is : test (at + 1) ≡ wrote of (committed_writes entries (transactions_of entries) (at + 1)) =
    ap (λ (b : Bool). b && wrote of (write_set_at (history_in entries) (at + 1))) above ∙ ap (wrote of) (history-at entries at inside) in
    ap (filter test) (range-push at)
    ∙ filter-append test (range_with_len 1 at) ((at + 1) ∷ [])
    ∙ put-by (test (at + 1)) (numbers_up_to at entries of) (at + 1)
    ∙ ap (λ (b : Bool). with_mark b (at + 1) (numbers_up_to at entries of)) is

-- a higher number keeps them rising
pub numbers-rise : (b : Bool) (n : ℕ) (xs : List ℕ) → IsNonDecreasing xs → list_all (λ number. nat_lt number n) xs ≡ true → IsNonDecreasing (with_mark b n xs)
numbers-rise true n xs rise below = rises-push (λ (k : ℕ). k) xs n rise below
numbers-rise false n xs rise below = rise

-- Numbers that are all below one are all below the next.
numbers-weaker : (n : ℕ) (xs : List ℕ) → list_all (λ number. nat_lt number n) xs ≡ true → list_all (λ number. nat_lt number (n + 1)) xs ≡ true
numbers-weaker n xs h = all-weaker (λ number. nat_lt number n) (λ number. nat_lt number (n + 1)) (λ number k. grind (arith, nat_tests, k)) xs h

-- and below the next
pub numbers-below : (b : Bool) (n : ℕ) (xs : List ℕ) → list_all (λ number. nat_lt number n) xs ≡ true → list_all (λ number. nat_lt number (n + 1)) (with_mark b n xs) ≡ true
numbers-below true n xs h =
    let own : nat_lt n (n + 1) ≡ true = grind (arith, nat_tests) in
    list_all-append (λ number. nat_lt number (n + 1)) xs (n ∷ [])
    ∙ and_from (list_all (λ number. nat_lt number (n + 1)) xs) (nat_lt n (n + 1) && true) (numbers-weaker n xs h) (ap (λ (b : Bool). b && true) own)
numbers-below false n xs h = numbers-weaker n xs h

-- numbers below one are not it
pub none-same : (n : ℕ) (xs : List ℕ) → list_all (λ number. nat_lt number n) xs ≡ true → list_all (λ number. not (number == n)) xs ≡ true
none-same n xs h = all-weaker (λ number. nat_lt number n) (λ number. not (number == n)) (λ number k. grind (arith, nat_tests, k)) xs h

-- ---- the peaks with one more

-- a peak at a later place keeps them rising
pub peaks-rise : (b : Bool) (peak : Peak) (peaks : List Peak) → IsNonDecreasingBy (λ its. its.place) peaks → list_all (λ its. nat_lt its.place peak.place) peaks ≡ true
    → IsNonDecreasingBy (λ its. its.place) (with_mark b peak peaks)
peaks-rise true peak peaks rise below = rises-push (λ (its : Peak). its.place) peaks peak rise below
peaks-rise false peak peaks rise below = rise

-- where all peaks are below a place, none is at it
pub none-there : (place : ℕ) (peaks : List Peak) → list_all (λ peak. nat_lt peak.place place) peaks ≡ true → list_all (λ peak. not (peak.place == place)) peaks ≡ true
none-there place peaks h = all-weaker (λ (peak : Peak). nat_lt peak.place place) (λ (peak : Peak). not (peak.place == place)) (λ peak k. grind (arith, nat_tests, k)) peaks h
