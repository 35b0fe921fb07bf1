-- The commit numbers and the history that printed replies show are those of the timeline's last
-- machine.
use Rattle.std.proofs.Common.{◌≡◌, ℕ, ◌+◌, Bool, true, false, cond, eqb, nat_lt, List, [], ◌∷◌, ◌++◌, map, length, ◌-◌, Option, None, Some, refl, sym, ap, ◌∙◌, subst, arith, append_assoc, append-nil}
use Rattle.std.specs.Prelude.{option_and_then, is_some}
use Rattle.std.specs.Option.{option_map_or}
use Rattle.std.specs.List.{filter_map, find, list_all, sum_by, cons_option, range_with_len}
use Rattle.std.proofs.lemmas.Bool.Decides.{nat_tests}
use Rattle.std.proofs.lemmas.List.{map-append, length_push}
use Rattle.std.proofs.lemmas.List.Elements.{filter_map-append}
use Rattle.std.proofs.lemmas.List.FromFn.{length-range_with_len}
use Rattle.std.proofs.lemmas.List.Sums.{sum_by-cons}
use Rattle.std.proofs.lemmas.List.Sorted.{sum_by-IsPermutation}
use Rattle.cell_model.specs.declared.table.TableDecl.{TableDecl}
use Rattle.isolation_spec.specs.Contents.{WriteSet, History}
use Rattle.isolation_spec.specs.Machine.{IsolationMachine, opening_from, transaction_of, Transaction}
use Rattle.workload_spec.specs.declared.reply.Who.{Who}
use Rattle.workload_spec.specs.declared.reply.Who.TheVariants.{Session}
use Rattle.workload_spec.specs.declared.reply.Said.{Said}
use Rattle.workload_spec.specs.declared.reply.Said.TheVariants as said
use Rattle.outcome_spec.specs.Entries.{Entry, shown_in, commit_in, is_end}
use Rattle.outcome_spec.specs.Runs.{Span, Run, run_from, up_to_end, transactions_of, transaction_with, accepted_write, writes_in, committed_writes, commit_line, commit_count, commits_as}
use Rattle.timeline_laws.proofs.Threads.{same-of}
use Rattle.timeline_spec.specs.Timeline.{open_of, Each, RunsFrom, TimelineFrom}
use Rattle.outcome_spec.specs.Entries.{thread}
use Rattle.timeline_laws.proofs.Ranges.{range-next, all-below, all-above}
use Rattle.timeline_laws.proofs.Order.{Each-append, Each-printed, Each-timeline, Each-weaker, Each-at, each-all, shown-each, shows_only}
use Rattle.timeline_laws.proofs.Unique.{Only, unique}
use Rattle.timeline_laws.proofs.Belongs.{At, found-open}
use Rattle.timeline_laws.proofs.Steps.{Change, quiet, opens, writes, ends, commits, Commits}
use Rattle.timeline_laws.proofs.Walk.{Within, Stands, Shown, shown-opening}
use Rattle.timeline_laws.proofs.Cuts.{last_of, last_machine, all-shown, Cut, cut-here, all-cuts}

-- how many replies show a number
shown-length-step : (o : Option ℕ) (others : List ℕ) → length (cons_option o others) ≡ cond (is_some o) 1 0 + length others
shown-length-step None others = let e : length others ≡ 0 + length others = omega arith in e
shown-length-step (Some n) others = let e : length (n ∷ others) ≡ 1 + length others = omega arith in e

-- as many numbers are shown as there are replies that show one
pub shown-length : (shown : Said → Option ℕ) (entries : List Entry) → length (shown_in shown entries) ≡ sum_by (λ entry. cond (is_some (shown entry.reply.said)) 1 0) entries
shown-length shown [] = refl
shown-length shown (entry ∷ entries) =
    shown-length-step (shown entry.reply.said) (shown_in shown entries)
    ∙ ap (λ (n : ℕ). cond (is_some (shown entry.reply.said)) 1 0 + n) (shown-length shown entries)
    ∙ sym (sum_by-cons (λ other. cond (is_some (shown other.reply.said)) 1 0) entry entries)

-- what is found is one of them
find-each-step : (P : Entry → Type 0) (b : Bool) (entry x : Entry) (later : Option Entry) → P entry → (later ≡ Some x → P x) → cond b (Some entry) later ≡ Some x → P x
find-each-step P true entry x later h rest e = let f : entry ≡ x = cc in subst P f h
find-each-step P false entry x later h rest e = rest e

-- what holds of each reply holds of one that is found
pub find-each : (P : Entry → Type 0) (p : Entry → Bool) (entries : List Entry) (x : Entry) → Each P entries → find p entries ≡ Some x → P x
find-each P p [] x h e = absurd (let never : ⊥ = cc in never)
find-each P p (entry ∷ entries) x h e = find-each-step P (p entry) entry x (find p entries) h.0 (find-each P p entries x h.1) e

-- Where none is found, the first fails and none is found behind it.
find-fails-step : (b : Bool) (entry : Entry) (later : Option Entry) → cond b (Some entry) later ≡ None → (b ≡ false) × (later ≡ None)
find-fails-step true entry later e = absurd (let never : ⊥ = cc in never)
find-fails-step false entry later e = (refl, e)

-- where none is found each fails the test
pub find-fails : (p : Entry → Bool) (entries : List Entry) → find p entries ≡ None → Each (λ entry. p entry ≡ false) entries
find-fails p [] e = tt
find-fails p (entry ∷ entries) e = let parts = find-fails-step (p entry) entry (find p entries) e in (parts.0, find-fails p entries parts.1)

-- What is found first or behind passes, where what is found behind does.
find-passes-step : (p : Entry → Bool) (b : Bool) (entry x : Entry) (later : Option Entry) → p entry ≡ b → (later ≡ Some x → p x ≡ true) → cond b (Some entry) later ≡ Some x → p x ≡ true
find-passes-step p true entry x later is rest e = let f : entry ≡ x = cc in subst (λ (y : Entry). p y ≡ true) f is
find-passes-step p false entry x later is rest e = rest e

-- what is found passes the test
pub find-passes : (p : Entry → Bool) (entries : List Entry) (x : Entry) → find p entries ≡ Some x → p x ≡ true
find-passes p [] x e = absurd (let never : ⊥ = cc in never)
find-passes p (entry ∷ entries) x e = find-passes-step p (p entry) entry x (find p entries) refl (find-passes p entries x) e

-- the numbers of commits in front are below, and those behind above
not-below : (k : ℕ) (o : Option ℕ) → option_map_or (λ c. nat_lt c k) o true ≡ true → option_map_or (λ c. eqb c k) o false ≡ false
not-below k None h = refl
not-below k (Some c) h = let less : nat_lt c k ≡ true = h in let e : eqb c k ≡ false = grind (arith, nat_tests) in e

-- A shown number that is above this one is not this one.
not-above : (k : ℕ) (o : Option ℕ) → option_map_or (λ c. nat_lt k c) o true ≡ true → option_map_or (λ c. eqb c k) o false ≡ false
not-above k None h = refl
not-above k (Some c) h = let less : nat_lt k c ≡ true = h in let e : eqb c k ≡ false = grind (arith, nat_tests) in e

-- where all commits are below a number, none commits as it
pub below-other : (k : ℕ) (entries : List Entry) → list_all (λ c. nat_lt c k) (shown_in commit_in entries) ≡ true → Each (λ entry. commits_as k entry ≡ false) entries
below-other k entries h =
    Each-weaker (λ entry. shows_only (λ c. nat_lt c k) commit_in entry ≡ true) (λ entry. commits_as k entry ≡ false) (λ entry. not-below k (commit_in entry.reply.said)) entries (shown-each (λ c. nat_lt c k) commit_in entries h)

-- where all commits are above a number, none commits as it
pub above-other : (k : ℕ) (entries : List Entry) → list_all (λ c. nat_lt k c) (shown_in commit_in entries) ≡ true → Each (λ entry. commits_as k entry ≡ false) entries
above-other k entries h =
    Each-weaker (λ entry. shows_only (λ c. nat_lt k c) commit_in entry ≡ true) (λ entry. commits_as k entry ≡ false) (λ entry. not-above k (commit_in entry.reply.said)) entries (shown-each (λ c. nat_lt k c) commit_in entries h)

-- A reply that commits as a number and does not is any reply.
only-this : (k : ℕ) (entry other : Entry) → commits_as k other ≡ false → commits_as k other ≡ true → other ≡ entry
only-this k entry other h e = absurd (let f : false ≡ true = sym h ∙ e in let never : ⊥ = cc in never)

module _ (start : History) (tables : List TableDecl) (printed timeline : List Entry) (t : TimelineFrom start tables printed timeline) where
  -- the run that is read from the printed replies
  abbrev pub run : Run
  run = run_from start tables printed

  -- the machine behind the whole timeline
  abbrev pub last : IsolationMachine
  last = last_machine start tables printed timeline t

  -- the timeline shows what holds of its last machine
  pub whole-shown : Shown start timeline last
  whole-shown = all-shown start tables [] (opening_from start) timeline (shown-opening start) t.runs

  -- The commit numbers that are shown.
  pub commits-counted : commit_count printed ≡ length last.history - length start
  commits-counted =
      shown-length commit_in printed
      ∙ sum_by-IsPermutation (λ entry. cond (is_some (commit_in entry.reply.said)) 1 0) timeline printed (same-of start tables printed timeline t)
      ∙ sym (shown-length commit_in timeline)
      ∙ ap length whole-shown.commits_are ∙ length-range_with_len (length start + 1) (length last.history - length start)

  -- a reply stands in the timeline where it is cut
  pub at-cut : (entry : Entry) → Only printed entry → (cut : Cut start tables timeline last entry) → At printed timeline cut.front entry cut.rest
  at-cut entry only cut = record { threads = t.threads; whole = cut.whole; order = t.order; only = only }

  -- the line that commits as a number
  one-line : (entry : Entry) (cut : Cut start tables timeline last entry) (c : Commits entry.reply.who entry.reply.said cut.machine cut.after)
      → Each (λ other. commits_as (length cut.machine.history + 1) other ≡ true → other ≡ entry) timeline
  one-line entry cut c =
      let k = length cut.machine.history + 1 in
      let longer : length cut.after.history ≡ k = ap (λ (m : IsolationMachine). length m.history) c.is ∙ length_push cut.machine.history c.t.own in
      let low : list_all (λ x. nat_lt x k) (shown_in commit_in cut.front) ≡ true = rw cut.shown.commits_are (all-below k (length start + 1) (length cut.machine.history - length start) (omega (arith, cut.shown.least))) in
      let high : list_all (λ x. nat_lt k x) (shown_in commit_in cut.rest) ≡ true = rw cut.behind (all-above k (length cut.after.history + 1) (length cut.grows_after.more) (omega (arith, longer))) in
      subst (Each (λ other. commits_as k other ≡ true → other ≡ entry)) (sym cut.whole)
      (Each-append (λ other. commits_as k other ≡ true → other ≡ entry) cut.front (entry ∷ cut.rest)
      (Each-weaker (λ other. commits_as k other ≡ false) (λ other. commits_as k other ≡ true → other ≡ entry) (only-this k entry) cut.front (below-other k cut.front low)) (
        λ h. refl,
        Each-weaker (λ other. commits_as k other ≡ false) (λ other. commits_as k other ≡ true → other ≡ entry) (only-this k entry) cut.rest (above-other k cut.rest high),
      ))

  -- A reply that tells a commit with a number commits as that number.
  its-number : (entry : Entry) (count : ℕ) → entry.reply.said ≡ said.Committed (Some (count + 1)) → commits_as (count + 1) entry ≡ true
  its-number entry count is =
      ap (λ (s : Said). option_map_or (λ shown. eqb shown (count + 1)) (commit_in s) false) is ∙ (let e : eqb (count + 1) (count + 1) ≡ true = grind (arith, nat_tests) in e)

  -- Whatever line is found for the commit's number, it is the reply.
  line-found : (entry : Entry) (cut : Cut start tables timeline last entry) (c : Commits entry.reply.who entry.reply.said cut.machine cut.after) (found : Option Entry)
      → commit_line printed (length cut.machine.history + 1) ≡ found → commit_line printed (length cut.machine.history + 1) ≡ Some entry
  line-found entry cut c None is =
      let k = length cut.machine.history + 1 in
      let none = Each-timeline (λ other. commits_as k other ≡ false) printed timeline t.threads (find-fails (commits_as k) printed is) in
      let here : commits_as k entry ≡ false = Each-at (λ other. commits_as k other ≡ false) cut.front entry cut.rest (subst (Each (λ other. commits_as k other ≡ false)) cut.whole none) in
      let never : true ≡ false = sym (its-number entry (length cut.machine.history) c.said_is) ∙ here in
      absurd (let impossible : ⊥ = cc in impossible)
  line-found entry cut c (Some line) is =
      let k = length cut.machine.history + 1 in
      let each = Each-printed (λ other. commits_as k other ≡ true → other ≡ entry) printed timeline t.threads (one-line entry cut c) in
      is ∙ ap Some (find-each (λ other. commits_as k other ≡ true → other ≡ entry) (commits_as k) printed line each is (find-passes (commits_as k) printed line is))

  -- The reply that commits is the line of its commit's number.
  pub line-is : (entry : Entry) (cut : Cut start tables timeline last entry) (c : Commits entry.reply.who entry.reply.said cut.machine cut.after)
      → commit_line printed (length cut.machine.history + 1) ≡ Some entry
  line-is entry cut c = line-found entry cut c (commit_line printed (length cut.machine.history + 1)) refl

  -- what stands for a session that is in a transaction is that transaction, among its replies
  pub within-own : (who : Who) (session : ℕ) (machine : IsolationMachine) (past : List Entry) (open_one : Transaction) → who ≡ Session session → transaction_of session machine ≡ Some open_one
      → Stands who past (open_of who machine) → Within who past open_one
  within-own who session machine past open_one is at h = subst (Stands who past) (ap (λ (w : Who). open_of w machine) is ∙ at) h

  -- Up to an end that writes nothing, a transaction writes what it wrote before.
  writes-ended : (replies : List Entry) (entry : Entry) (rest : List Entry) → is_end entry.reply.said ≡ true → accepted_write entry ≡ None → writes_in (replies ++ up_to_end (entry ∷ rest)) ≡ writes_in replies
  writes-ended replies entry rest ended none =
      ap (λ (b : Bool). writes_in (replies ++ cond b (entry ∷ []) (entry ∷ up_to_end rest))) ended ∙ (rw (filter_map-append accepted_write replies (entry ∷ []), none, append-nil (filter_map accepted_write replies)) refl)

  -- what a commit shows to have been written
  pub committed-shown : (entry : Entry) → Only printed entry → (cut : Cut start tables timeline last entry) (c : Commits entry.reply.who entry.reply.said cut.machine cut.after)
      → committed_writes printed (transactions_of printed) (length cut.machine.history + 1) ≡ c.t.own
  committed-shown entry only cut c =
      let within = within-own entry.reply.who c.session cut.machine (thread entry.reply.who cut.front) c.t c.who_is c.at (cut.shown.stands entry.reply.who) in
      let its = found-open printed timeline cut.front entry cut.rest (at-cut entry only cut) c.t.snapshot within.replies within.spanned in
      ap (λ (o : Option Entry). option_map_or (λ t. writes_in t.replies) (option_and_then (transaction_with (transactions_of printed)) o) []) (line-is entry cut c)
      ∙ ap (λ (o : Option Span). option_map_or (λ t. writes_in t.replies) o []) its
      ∙ writes-ended within.replies entry (thread entry.reply.who cut.rest) (ap is_end c.said_is) (rw c.said_is refl)
      ∙ within.writes_are

  -- the write set that is shown for a commit number
  abbrev writes_shown : ℕ → WriteSet
  writes_shown number = committed_writes printed (transactions_of printed) number

  -- the commits that the store began with, and the write sets of so many behind them
  abbrev shown_sets : ℕ → History
  shown_sets count = start ++ map writes_shown (range_with_len (length start + 1) count)

  -- these are the commits so far
  abbrev shows_all : History → Type 0
  shows_all history = shown_sets (length history - length start) ≡ history

  -- One more reply keeps that the write sets shown are the machine's history.
  shows-step : (entry : Entry) → Only printed entry → (cut : Cut start tables timeline last entry) → shows_all cut.machine.history
      → Change entry.reply.who entry.command entry.reply.said cut.machine cut.after → shows_all cut.after.history
  shows-step entry only cut h (quiet q) = subst shows_all (ap (λ (m : IsolationMachine). m.history) (sym q.same)) h
  shows-step entry only cut h (opens o) = subst shows_all (ap (λ (m : IsolationMachine). m.history) (sym o.is)) h
  shows-step entry only cut h (writes w) = subst shows_all (ap (λ (m : IsolationMachine). m.history) (sym w.is)) h
  shows-step entry only cut h (ends e) = subst shows_all (ap (λ (m : IsolationMachine). m.history) (sym e.is)) h
  shows-step entry only cut h (commits c) =
      subst shows_all (ap (λ (m : IsolationMachine). m.history) (sym c.is))
      (ap shown_sets count_is
      ∙ ap (λ (ns : List ℕ). start ++ map writes_shown ns) (range-next (length start + 1) (length cut.machine.history - length start))
      ∙ ap (λ (sets : History). start ++ sets) (map-append writes_shown (range_with_len (length start + 1) (length cut.machine.history - length start)) _)
      ∙ sym (append_assoc start (map writes_shown (range_with_len (length start + 1) (length cut.machine.history - length start))) _)
      ∙ ap (λ (n : ℕ). shown_sets (length cut.machine.history - length start) ++ writes_shown n ∷ []) next_is
      ∙ ap (λ (sets : History). sets ++ writes_shown (length cut.machine.history + 1) ∷ []) h
      ∙ ap (λ (own : WriteSet). cut.machine.history ++ own ∷ []) (committed-shown entry only cut c))
    where
      count_is : length (cut.machine.history ++ c.t.own ∷ []) - length start ≡ length cut.machine.history - length start + 1
      count_is = omega (arith, length_push cut.machine.history c.t.own, cut.shown.least)

      next_is : length start + 1 + (length cut.machine.history - length start) ≡ length cut.machine.history + 1
      next_is = omega (arith, cut.shown.least)

  -- Behind a front whose history is shown, the last machine's history is shown.
  history-from : (front : List Entry) (machine : IsolationMachine) (rest : List Entry) → timeline ≡ front ++ rest → Shown start front machine
      → (runs : RunsFrom start tables front machine rest) → last_of start tables front machine rest runs ≡ last → Each (Only printed) rest → shows_all machine.history → shows_all last.history
  history-from front machine [] whole shown runs is only h = subst shows_all (ap (λ (m : IsolationMachine). m.history) is) h
  history-from front machine (entry ∷ rest) whole shown runs is only h =
      let cut = cut-here start tables timeline last whole-shown front machine entry rest whole shown runs is in
      history-from (front ++ entry ∷ []) runs.0 rest (whole ∙ sym (append_assoc front (entry ∷ []) rest)) cut.shown_after runs.3 is only.1
      (shows-step entry only.0 cut h cut.change)

  -- Each reply is the only one of its number.
  pub each-only : Each (Only printed) timeline
  each-only = unique printed timeline t.threads t.order

  -- The history that the printed replies show.
  pub history-shown : run.history ≡ last.history
  history-shown =
      ap shown_sets commits-counted
      ∙ history-from [] (opening_from start) timeline refl (shown-opening start) t.runs refl each-only none
    where
      none : shows_all start
      none = ap shown_sets (let e : length start - length start ≡ 0 = omega arith in e) ∙ append-nil start

  -- a test that each reply of the timeline passes at its place is passed by each printed reply
  both-facts : (entries : List Entry) → Each (Only printed) entries → Each (Cut start tables timeline last) entries → Each (λ entry. Only printed entry × Cut start tables timeline last entry) entries
  both-facts [] h k = tt
  both-facts (entry ∷ entries) h k = ((h.0, k.0), both-facts entries h.1 k.1)

  -- no other printed reply is the same as one of them, and each has its place in the timeline
  pub all-facts : Each (λ entry. Only printed entry × Cut start tables timeline last entry) printed
  all-facts = Each-printed (λ entry. Only printed entry × Cut start tables timeline last entry) printed timeline t.threads (both-facts timeline each-only (all-cuts start tables printed timeline t))

  -- A test that each reply passes at its place is passed by all printed ones.
  pub everywhere : (test : Entry → Bool) → ((entry : Entry) → Only printed entry → Cut start tables timeline last entry → test entry ≡ true) → list_all test printed ≡ true
  everywhere test passes =
      each-all test printed
      (Each-weaker (λ entry. Only printed entry × Cut start tables timeline last entry) (λ entry. test entry ≡ true) (λ entry both. passes entry both.0 both.1) printed
      (Each-printed (λ entry. Only printed entry × Cut start tables timeline last entry) printed timeline t.threads (both-facts timeline each-only (all-cuts start tables printed timeline t))))
