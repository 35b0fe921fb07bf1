-- Commit numbers and snapshot numbers of a timeline.
use Rattle.std.proofs.Common.{◌≡◌, ℕ, ◌+◌, ◌<◌, Bool, true, false, cond, ◌&&◌, ◌||◌, not, eqb, nat_le, nat_lt, List, [], ◌∷◌, ◌++◌, length, ◌-◌, Option, None, Some, refl, sym, ap, ◌∙◌, arith, length-append, ◌⊎◌, inl, inr}
use Rattle.std.specs.Prelude.{is_some, fold}
use Rattle.std.specs.Option.{option_map_or}
use Rattle.std.specs.BTreeMap.{insert_entry, is_at}
use Rattle.std.specs.Cmp.{tied_itself}
use Rattle.std.specs.Map.{lookup}
use Rattle.std.specs.Ordering.{is_eq}
use Rattle.std.specs.declared.cmp.Ordering.{Ordering}
use Rattle.std.specs.List.{filter_map, list_all, list_any, count_by, cons_option}
use Rattle.std.proofs.lemmas.Bool.{and_from}
use Rattle.std.proofs.lemmas.Bool.Decides.{nat_tests}
use Rattle.std.proofs.lemmas.List.{length_push}
use Rattle.std.proofs.lemmas.List.Folds.{list_any-append}
use Rattle.std.proofs.lemmas.List.Sums.{sum_by-cons, sum_by-append}
use Rattle.std.proofs.lemmas.List.Sorted.{sum_by-IsPermutation}
use Rattle.cell_model.specs.declared.cell.Cell.{Cell}
use Rattle.cell_model.specs.declared.table.TableDecl.{TableDecl}
use Rattle.isolation_spec.specs.Contents.{place_cmp, History, WriteSet}
use Rattle.isolation_spec.specs.declared.place.Place.{Place}
use Rattle.isolation_spec.specs.Machine.{IsolationMachine, transaction_of, Transaction}
use Rattle.isolation_laws.proofs.Entries.{lookup-insert_entry}
use Rattle.isolation_laws.proofs.Rows.{place_cmp-total}
use Rattle.workload_spec.specs.declared.reply.Who.{Who}
use Rattle.workload_spec.specs.declared.reply.Who.TheVariants.{Session}
use Rattle.workload_spec.specs.declared.reply.Said.{Said}
use Rattle.workload_spec.specs.declared.reply.Said.TheVariants as said
use Rattle.outcome_spec.specs.Entries.{Entry, is_before, before, after, shown_in, snapshot_in, commit_in, is_end}
use Rattle.outcome_spec.specs.Runs.{Span, Run, up_to_end, accepted_write, writes_in, commits_as}
use Rattle.outcome_spec.specs.Runs.{transaction_of as belongs_to}
use Rattle.outcome_spec.specs.Numbers.{has_written, commit_holds, commit_numbers_hold, number_shown, snapshot_holds, snapshot_numbers_hold}
use Rattle.timeline_laws.proofs.Threads.{same-of}
use Rattle.timeline_spec.specs.Timeline.{Each, TimelineFrom}
use Rattle.outcome_spec.specs.Entries.{thread}
use Rattle.timeline_laws.proofs.Tests.{all-three, or-false, at_most}
use Rattle.timeline_laws.proofs.Ranges.{all-below, all-above}
use Rattle.timeline_laws.proofs.Order.{before-each, after-each, shown-each, shown-filter, shows_only}
use Rattle.timeline_laws.proofs.Spans.{span}
use Rattle.timeline_laws.proofs.Unique.{Only}
use Rattle.timeline_laws.proofs.Belongs.{found-open}
use Rattle.timeline_laws.proofs.Steps.{Change, quiet, opens, writes, ends, commits, Ends, Commits}
use Rattle.timeline_laws.proofs.Walk.{Within, ended-unopened}
use Rattle.timeline_laws.proofs.Cuts.{Cut}
use Rattle.timeline_laws.proofs.Histories.{run, last, at-cut, history-shown, within-own, below-other, above-other}

-- ---- what a transaction with an empty write set wrote

-- A write set with one more write is not empty.
put-there : (own : WriteSet) (place : Place) (change : Option (List Cell)) → insert_entry place_cmp own place change ≡ [] → ⊥
put-there own place change h =
    let e : cond (is_eq (place_cmp place place)) (Some change) (lookup (is_at (place_cmp place)) own) ≡ None =
    sym (lookup-insert_entry place_cmp-total own place change place) ∙ ap (lookup (is_at (place_cmp place))) h in
    let f : Some change ≡ None =
    sym (ap (λ (o : Ordering). cond (is_eq o) (Some change) (lookup (is_at (place_cmp place)) own)) (tied_itself place_cmp-total place)) ∙ e in
    (let never : ⊥ = cc in never)

-- A write set with one more write entered.
abbrev with_written : WriteSet → Place × Option (List Cell) → WriteSet
with_written own write = insert_entry place_cmp own write.0 write.1

-- A write set that is empty behind some writes was empty before them.
from-none : (own : WriteSet) (all : List (Place × Option (List Cell))) → fold with_written own all ≡ [] → own ≡ []
from-none own [] h = h
from-none own (write ∷ later) h = absurd (put-there own write.0 write.1 (from-none (with_written own write) later h))

-- Where writes leave an empty write set, there are none.
none-written : (all : List (Place × Option (List Cell))) → fold with_written [] all ≡ [] → all ≡ []
none-written [] h = refl
none-written (write ∷ later) h = absurd (put-there [] write.0 write.1 (from-none (with_written [] write) later h))

-- Where one or none before others gives nothing, there is none, and no others.
nothing-step : (o : Option (Place × Option (List Cell))) (others : List (Place × Option (List Cell))) → cons_option o others ≡ [] → (is_some o ≡ false) × (others ≡ [])
nothing-step None others h = (refl, h)
nothing-step (Some x) others h = absurd (let never : ⊥ = cc in never)

-- Where the list of accepted writes is empty, no reply is an accepted write.
nothing-any : (entries : List Entry) → filter_map accepted_write entries ≡ [] → list_any (λ entry. is_some (accepted_write entry)) entries ≡ false
nothing-any [] h = refl
nothing-any (entry ∷ entries) h =
    let parts = nothing-step (accepted_write entry) (filter_map accepted_write entries) h in
    rw (parts.0) (nothing-any entries parts.1)

-- Where neither one nor any other is there, the list of them is empty.
unwritten-step : (o : Option (Place × Option (List Cell))) (rest : Bool) (others : List (Place × Option (List Cell))) → (is_some o || rest) ≡ false → (rest ≡ false → others ≡ []) → cons_option o others ≡ []
unwritten-step None rest others h k = k h
unwritten-step (Some x) rest others h k = absurd (let never : ⊥ = cc in never)

-- Where no reply is an accepted write, the list of accepted writes is empty.
unwritten : (entries : List Entry) → list_any (λ entry. is_some (accepted_write entry)) entries ≡ false → filter_map accepted_write entries ≡ []
unwritten [] h = refl
unwritten (entry ∷ entries) h = unwritten-step (accepted_write entry) (list_any (λ other. is_some (accepted_write other)) entries) (filter_map accepted_write entries) h (unwritten entries)

-- Replies whose write set is not empty have an accepted write among them.
pub wrote-by : (entries : List Entry) (b : Bool) → list_any (λ entry. is_some (accepted_write entry)) entries ≡ b → (first : Place × Option (List Cell)) (rest : WriteSet) → writes_in entries ≡ first ∷ rest
    → list_any (λ entry. is_some (accepted_write entry)) entries ≡ true
wrote-by entries true is first rest h = is
wrote-by entries false is first rest h =
    let e : writes_in entries ≡ [] = ap (fold with_written []) (unwritten entries is) in
    let f : first ∷ rest ≡ [] = sym h ∙ e in
    absurd (let never : ⊥ = cc in never)

-- ---- counts

-- where each reply fails the test none counts
pub count-none : (p : Entry → Bool) (entries : List Entry) → Each (λ entry. p entry ≡ false) entries → count_by p entries ≡ 0
count-none p [] h = refl
count-none p (entry ∷ entries) h = sum_by-cons (λ other. cond (p other) 1 0) entry entries ∙ (rw (h.0, count-none p entries h.1) refl)

-- where only one reply passes the test the count is one
pub count-one : (p : Entry → Bool) (front : List Entry) (entry : Entry) (rest : List Entry) → Each (λ other. p other ≡ false) front → p entry ≡ true → Each (λ other. p other ≡ false) rest
    → count_by p (front ++ entry ∷ rest) ≡ 1
count-one p front entry rest h here k =
    sum_by-append (λ other. cond (p other) 1 0) front (entry ∷ rest)
    ∙ (rw (count-none p front h, sum_by-cons (λ other. cond (p other) 1 0) entry rest, here, count-none p rest k) refl)

module _ (start : History) (tables : List TableDecl) (printed timeline : List Entry) (t : TimelineFrom start tables printed timeline) (entry : Entry) (only : Only printed entry)
    (cut : Cut start tables timeline (last start tables printed timeline t) entry) where
  -- The run that is read from the printed replies.
  abbrev the_run : Run
  the_run = run start tables printed timeline t

  -- The session or worker that the reply is to.
  abbrev its : Who
  its = entry.reply.who

  -- the end of a transaction has its replies in front, and itself
  ended-is : (session : ℕ) (o : Transaction) → its ≡ Session session → transaction_of session cut.machine ≡ Some o → is_end entry.reply.said ≡ true
      → (within : Within its (thread its cut.front) o) × (belongs_to the_run entry ≡ Some (span its o.snapshot (within.replies ++ entry ∷ [])))
  ended-is session o is at is_ended =
      let within = within-own start tables printed timeline t its session cut.machine (thread its cut.front) o is at (cut.shown.stands its) in (
        within,
        found-open printed timeline cut.front entry cut.rest (at-cut start tables printed timeline t entry only cut) o.snapshot within.replies within.spanned
            ∙ ap (λ (b : Bool). Some (span its o.snapshot (within.replies ++ cond b (entry ∷ []) (entry ∷ up_to_end (thread its cut.rest))))) is_ended,
      )

  -- whether it wrote anything
  written-is : (session : ℕ) (o : Transaction) → its ≡ Session session → transaction_of session cut.machine ≡ Some o → is_end entry.reply.said ≡ true → accepted_write entry ≡ None
      → (replies : List Entry) × (writes_in replies ≡ o.own) × (has_written the_run entry ≡ list_any (λ other. is_some (accepted_write other)) replies)
  written-is session o is at is_ended none =
      let ended = ended-is session o is at is_ended in (
        ended.0.replies,
        ended.0.writes_are,
        ap (λ (found : Option Span). option_map_or (λ u. list_any (λ other. is_some (accepted_write other)) u.replies) found false) ended.1
            ∙ list_any-append (λ other. is_some (accepted_write other)) ended.0.replies (entry ∷ [])
            ∙ (rw none (or-false (list_any (λ other. is_some (accepted_write other)) ended.0.replies))),
      )

  -- A reply that ends no transaction keeps the rule of commit numbers.
  unended-holds : (told : Said) → is_end told ≡ false → commit_holds the_run entry told ≡ true
  unended-holds (said.Committed number) h = absurd (let never : ⊥ = cc in never)
  unended-holds _ h = refl

  -- An abort or a commit of nothing keeps the rule of commit numbers.
  empty-holds : (e : Ends its entry.reply.said cut.machine cut.after) → (entry.reply.said ≡ said.Aborted) ⊎ ((entry.reply.said ≡ said.Committed None) × (e.t.own ≡ [])) → commit_holds the_run entry entry.reply.said ≡ true
  empty-holds e (inl is) = ap (commit_holds the_run entry) is
  empty-holds e (inr is) =
      let written = written-is e.session e.t e.who_is e.at (ap is_end is.0) (rw is.0 refl) in
      ap (commit_holds the_run entry) is.0 ∙ ap not (written.2 ∙ nothing-any written.0 (none-written (filter_map accepted_write written.0) (written.1 ∙ is.1)))

  -- As many commits as are told are behind the whole timeline.
  many : length the_run.history ≡ length (last start tables printed timeline t).history
  many = ap length (history-shown start tables printed timeline t)

  -- Commits before the reply have numbers below each that is above those in front.
  commits-before : (k : ℕ) → length cut.machine.history < k → list_all (λ earlier. nat_lt earlier k) (shown_in commit_in (before printed entry)) ≡ true
  commits-before k low =
      let here : list_all (λ x. nat_lt x k) (shown_in commit_in cut.front) ≡ true = rw cut.shown.commits_are (all-below k (length start + 1) (length cut.machine.history - length start) (omega (arith, low, cut.shown.least))) in
      shown-filter (λ x. nat_lt x k) commit_in (λ other. is_before other entry) printed
      (before-each printed timeline cut.front entry cut.rest t.threads cut.whole t.order (λ other. shows_only (λ x. nat_lt x k) commit_in other ≡ true) (shown-each (λ x. nat_lt x k) commit_in cut.front here))

  -- A commit of some writes keeps the rule of commit numbers.
  full-holds : (c : Commits its entry.reply.said cut.machine cut.after) → commit_holds the_run entry entry.reply.said ≡ true
  full-holds c =
      let k = length cut.machine.history + 1 in
      let written = written-is c.session c.t c.who_is c.at (ap is_end c.said_is) (rw c.said_is refl) in
      let wrote : has_written the_run entry ≡ true = written.2 ∙ wrote-by written.0 (list_any (λ other. is_some (accepted_write other)) written.0) refl c.wrote.0 c.wrote.1 (written.1 ∙ c.wrote.2) in
      let longer : length cut.after.history ≡ k = ap (λ (m : IsolationMachine). length m.history) c.is ∙ length_push cut.machine.history c.t.own in
      let all : length (last start tables printed timeline t).history ≡ length cut.after.history + length cut.grows_after.more = ap length cut.grows_after.is ∙ length-append cut.after.history cut.grows_after.more in
      let most : nat_le k (length the_run.history) ≡ true = at_most k (length the_run.history) (omega (arith, many, all, longer)) in
      let low : list_all (λ x. nat_lt x k) (shown_in commit_in cut.front) ≡ true = rw cut.shown.commits_are (all-below k (length start + 1) (length cut.machine.history - length start) (omega (arith, cut.shown.least))) in
      let high : list_all (λ x. nat_lt k x) (shown_in commit_in cut.rest) ≡ true = rw cut.behind (all-above k (length cut.after.history + 1) (length cut.grows_after.more) (omega (arith, longer))) in
      let here : commits_as k entry ≡ true = ap (λ (s : Said). option_map_or (λ shown. eqb shown k) (commit_in s) false) c.said_is ∙ (let e : eqb k k ≡ true = grind (arith, nat_tests) in e) in
      let once : count_by (commits_as k) printed ≡ 1 =
      sum_by-IsPermutation (λ other. cond (commits_as k other) 1 0) timeline printed (same-of start tables printed timeline t)
      ∙ ap (count_by (commits_as k)) cut.whole
      ∙ count-one (commits_as k) cut.front entry cut.rest (below-other k cut.front low) here (above-other k cut.rest high) in
      let least : nat_lt (length start) k ≡ true = let above : length start < k = omega (arith, cut.shown.least) in grind (arith, nat_tests, above) in
      ap (commit_holds the_run entry) c.said_is
      ∙ (rw (wrote, least, most, once) (commits-before k (omega arith)))

  -- Commit numbers.
  pub commit-numbers : Change its entry.command entry.reply.said cut.machine cut.after → commit_numbers_hold the_run entry ≡ true
  commit-numbers (quiet q) = unended-holds entry.reply.said q.on
  commit-numbers (opens o) = ap (commit_holds the_run entry) o.said_is
  commit-numbers (writes w) = ap (commit_holds the_run entry) w.said_is
  commit-numbers (ends e) = empty-holds e e.said_is
  commit-numbers (commits c) = full-holds c

  -- A reply that shows no snapshot keeps the rule of snapshot numbers.
  unopened-holds : (told : Said) → snapshot_in told ≡ None → snapshot_holds the_run entry told ≡ true
  unopened-holds (said.At number) h = absurd (let never : ⊥ = cc in never)
  unopened-holds _ h = refl

  -- A snapshot of as many commits as there are keeps the rule of snapshot numbers.
  opening-holds : (number : ℕ) → number ≡ length cut.machine.history → cut.after.history ≡ cut.machine.history → snapshot_holds the_run entry (said.At number) ≡ true
  opening-holds number is same =
      let all : length (last start tables printed timeline t).history ≡ length cut.machine.history + length cut.grows.more = ap length cut.grows.is ∙ length-append cut.machine.history cut.grows.more in
      let most : nat_le number (length the_run.history) ≡ true = at_most number (length the_run.history) (omega (arith, many, all, is)) in
      let least : nat_le (length start) number ≡ true = at_most (length start) number (omega (arith, is, cut.shown.least)) in
      let in_front : list_all (λ x. nat_le x number) (shown_in number_shown cut.front) ≡ true = rw is cut.shown.numbers in
      let high : list_all (λ x. nat_lt number x) (shown_in commit_in cut.rest) ≡ true = rw cut.behind (all-above number (length cut.after.history + 1) (length cut.grows_after.more) (omega (arith, is, ap length same))) in
      all-three (nat_le number (length the_run.history) && nat_le (length start) number) (list_all (λ earlier. nat_le earlier number) (shown_in number_shown (before printed entry)))
      (list_all (λ later. nat_lt number later) (shown_in commit_in (after printed entry)))
      (and_from (nat_le number (length the_run.history)) (nat_le (length start) number) most least)
      (shown-filter (λ x. nat_le x number) number_shown (λ other. is_before other entry) printed
      (before-each printed timeline cut.front entry cut.rest t.threads cut.whole t.order (λ other. shows_only (λ x. nat_le x number) number_shown other ≡ true) (shown-each (λ x. nat_le x number) number_shown cut.front in_front)))
      (shown-filter (λ x. nat_lt number x) commit_in (λ other. is_before entry other) printed
      (after-each printed timeline cut.front entry cut.rest t.threads cut.whole t.order (λ other. shows_only (λ x. nat_lt number x) commit_in other ≡ true) (shown-each (λ x. nat_lt number x) commit_in cut.rest high)))

  -- Snapshot numbers.
  pub snapshot-numbers : Change its entry.command entry.reply.said cut.machine cut.after → snapshot_numbers_hold the_run entry ≡ true
  snapshot-numbers (quiet q) = unopened-holds entry.reply.said q.opens
  snapshot-numbers (opens o) =
      ap (snapshot_holds the_run entry) o.said_is ∙ opening-holds (length cut.machine.history) refl (ap (λ (m : IsolationMachine). m.history) o.is)
  snapshot-numbers (writes w) = ap (snapshot_holds the_run entry) w.said_is
  snapshot-numbers (ends e) = unopened-holds entry.reply.said (ended-unopened entry.reply.said e.t.own e.said_is)
  snapshot-numbers (commits c) = ap (snapshot_holds the_run entry) c.said_is
