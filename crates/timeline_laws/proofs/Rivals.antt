-- Conflicts of a timeline: those that are named are there, and none is passed over.
use Rattle.std.proofs.Common.{◌≡◌, ℕ, ◌+◌, ◌-◌, ◌<◌, ◌≤◌, Bool, true, false, cond, ◌&&◌, ◌||◌, not, eqb, nat_le, nat_lt, List, [], ◌∷◌, ◌++◌, length, drop, get_or, Option, None, Some, refl, sym, ap, ◌∙◌, subst, arith, append-nil, length-append, ◌⊎◌, inl, inr}
use Rattle.std.specs.Prelude.{option_map, option_and_then}
use Rattle.std.specs.Option.{option_or, option_map_or}
use Rattle.std.specs.BTreeMap.{insert_entry}
use Rattle.std.specs.Cmp.{eq_by_cmp_equiv}
use Rattle.std.specs.List.{filter, find, list_all, list_any, cons_option, range_with_len}
use Rattle.std.proofs.lemmas.Bool.Decides.{nat_tests}
use Rattle.std.proofs.lemmas.Bool.{and_parts, eqb-true, leb-true, or_right, or_left, and_from}
use Rattle.std.proofs.lemmas.List.{get_or-drop, get_or_append_left, length_push, length-drop}
use Rattle.std.proofs.lemmas.List.Folds.{find-append, list_any-append}
use Rattle.std.proofs.lemmas.List.Elements.{filter-append}
use Rattle.cell_model.specs.declared.cell.Cell.{Cell}
use Rattle.cell_model.specs.declared.table.TableDecl.{TableDecl}
use Rattle.isolation_spec.specs.Contents.{place_cmp, is_place, WriteSet, History}
use Rattle.isolation_spec.specs.declared.place.Place.{Place}
use Rattle.isolation_spec.specs.Machine.{IsolationMachine, transaction_of, writes_place, seen_rows, with_own, Transaction, later_commits, later_writers, write_set_at}
use Rattle.isolation_laws.proofs.Rows.{place_cmp-total}
use Rattle.workload_spec.specs.declared.command.Command.{Command}
use Rattle.workload_spec.specs.declared.reply.Who.{Who}
use Rattle.workload_spec.specs.declared.reply.Who.TheVariants.{Session, Worker}
use Rattle.workload_spec.specs.declared.reply.Said.{Said}
use Rattle.workload_spec.specs.declared.reply.Said.TheVariants as said
use Rattle.outcome_spec.specs.Entries.{Entry, is_same, is_before, is_not_after, before, not_after, shown_in, snapshot_in, commit_in, is_end, is_accepted}
use Rattle.outcome_spec.specs.Runs.{Span, Run, up_to_end, ending_of, write_of, commit_line, commits_as}
use Rattle.outcome_spec.specs.Answers.{is_acceptable}
use Rattle.outcome_spec.specs.Conflicts.{is_committed_before, is_committed_not_after, has_write, names_commit, names_session, passes_no_commit, passes_no_session, is_clear, is_first_updater, conflict_holds, conflicts_hold}
use Rattle.timeline_spec.specs.Timeline.{open_of, Each, Follows, TimelineFrom, RunsFrom, request_of, TakesAs}
use Rattle.outcome_spec.specs.Entries.{thread}
use Rattle.timeline_laws.proofs.Tests.{all-three, all-four}
use Rattle.timeline_laws.proofs.Ranges.{all-below, all-above}
use Rattle.timeline_laws.proofs.Order.{Each-first, Each-second, Each-weaker, Each-filter, Each-timeline, before-each, after-each, before-itself, same-is, same-itself}
use Rattle.timeline_laws.proofs.Spans.{span, spans, EachSpan, Ended, spans-is}
use Rattle.timeline_laws.proofs.Unique.{Only}
use Rattle.timeline_laws.proofs.Belongs.{Each-up_to_end, its-thread}
use Rattle.isolation_laws.proofs.Later.{last_passing, last_writer}
use Rattle.timeline_laws.proofs.Writers.{LastAt, last-some, last-none, writes-more}
use Rattle.timeline_laws.proofs.Machine.{Rival, rival-some, Free, free-none, its-session, at-written, entering, eqb-itself}
use Rattle.timeline_laws.proofs.Steps.{Change, quiet, opens, writes, ends, commits, Clear, Verdict, accepted, rival, later, refused, limited, memory, takes-verdict}
use Rattle.timeline_laws.proofs.Walk.{Within, Stands, Shown, shown-step}
use Rattle.timeline_laws.proofs.Agrees.{others-open}
use Rattle.timeline_laws.proofs.Cuts.{Cut, Grows, last_of, change-of, all-grow}
use Rattle.timeline_laws.proofs.Histories.{run, last, at-cut, history-shown, find-each, find-fails, find-passes, below-other, above-other}
use Rattle.timeline_laws.proofs.Views.{belongs, by-transaction, front-follows, rest-follows}
use Rattle.timeline_laws.proofs.Chosen.{filter-all, range-any, writes_it, has-writes, no-write-filter, kept-pass, filter-each, any-kept, none-any, none-spans, found-end, some-end, unshown, range-has}

-- A reply does not make the history shorter.
grown : {who : Who} {asked : Command} {told : Said} {machine after : IsolationMachine} → Change who asked told machine after → length machine.history ≤ length after.history
grown (quiet q) = omega (arith, ap (λ (m : IsolationMachine). length m.history) q.same)
grown (opens o) = omega (arith, ap (λ (m : IsolationMachine). length m.history) o.is)
grown (writes w) = omega (arith, ap (λ (m : IsolationMachine). length m.history) w.is)
grown (ends e) = omega (arith, ap (λ (m : IsolationMachine). length m.history) e.is)
grown {machine = machine} (commits c) = omega (arith, ap (λ (m : IsolationMachine). length m.history) c.is, length_push machine.history c.t.own)

module _ (start : History) (tables : List TableDecl) (printed timeline : List Entry) (t : TimelineFrom start tables printed timeline) (entry : Entry) (only : Only printed entry)
    (cut : Cut start tables timeline (last start tables printed timeline t) entry) where
  -- The run that is read from the printed replies.
  abbrev the_run : Run
  the_run = run start tables printed timeline t

  -- The history that the machine has in front of the reply.
  abbrev so_far : History
  so_far = cut.machine.history

  -- no line that commits as a number above those in front is before the reply
  line-by : (k : ℕ) → length so_far < k → (line : Entry) → commit_line printed k ≡ Some line → (b : Bool) → is_before line entry ≡ b → is_before line entry ≡ false
  line-by k high line is false at = at
  line-by k high line is true at =
      let low : list_all (λ x. nat_lt x k) (shown_in commit_in cut.front) ≡ true = rw cut.shown.commits_are (all-below k (length start + 1) (length so_far - length start) (omega (arith, high, cut.shown.least))) in
      let each = before-each printed timeline cut.front entry cut.rest t.threads cut.whole t.order (λ other. commits_as k other ≡ false) (below-other k cut.front low) in
      let other : commits_as k line ≡ false = find-each (λ o. is_before o entry ≡ true → commits_as k o ≡ false) (commits_as k) printed line each is at in
      let never : true ≡ false = sym (find-passes (commits_as k) printed line is) ∙ other in
      absurd (let impossible : ⊥ = cc in impossible)

  -- No line that is found for a commit above those in front is before the reply.
  line-not : (k : ℕ) → length so_far < k → (found : Option Entry) → commit_line printed k ≡ found → option_map_or (λ line. is_before line entry) found false ≡ false
  line-not k high None is = refl
  line-not k high (Some line) is = line-by k high line is (is_before line entry) refl

  -- a commit above those so far is not before the reply
  pub not-before : (k : ℕ) → length so_far < k → is_committed_before the_run entry k ≡ false
  not-before k high =
      line-not k high (commit_line printed k) refl

  -- the line that commits as a number in front is not after the reply
  after-by : (k : ℕ) → k ≤ length so_far → (line : Entry) → commit_line printed k ≡ Some line → (b : Bool) → is_before entry line ≡ b → is_before entry line ≡ false
  after-by k low line is false at = at
  after-by k low line is true at =
      let more : length so_far ≤ length cut.after.history = grown cut.change in
      let high : list_all (λ x. nat_lt k x) (shown_in commit_in cut.rest) ≡ true = rw cut.behind (all-above k (length cut.after.history + 1) (length cut.grows_after.more) (omega (arith, low, more))) in
      let each = after-each printed timeline cut.front entry cut.rest t.threads cut.whole t.order (λ other. commits_as k other ≡ false) (above-other k cut.rest high) in
      let other : commits_as k line ≡ false = find-each (λ o. is_before entry o ≡ true → commits_as k o ≡ false) (commits_as k) printed line each is at in
      let never : true ≡ false = sym (find-passes (commits_as k) printed line is) ∙ other in
      absurd (let impossible : ⊥ = cc in impossible)

  -- The line of a commit in front is found, and is not after the reply.
  not-after-found : (k : ℕ) → length start < k → k ≤ length so_far → (found : Option Entry) → commit_line printed k ≡ found → option_map_or (λ line. is_not_after line entry) found false ≡ true
  not-after-found k least low None is =
      let none = Each-timeline (λ other. commits_as k other ≡ false) printed timeline t.threads (find-fails (commits_as k) printed is) in
      let in_front = Each-first (λ other. commits_as k other ≡ false) cut.front (entry ∷ cut.rest) (subst (Each (λ other. commits_as k other ≡ false)) cut.whole none) in
      let absent : list_any (λ x. eqb x k) (shown_in commit_in cut.front) ≡ false = unshown k cut.front in_front in
      let there : list_any (λ x. eqb x k) (range_with_len (length start + 1) (length so_far - length start)) ≡ true =
      range-has k (length start + 1) (length so_far - length start) (omega (arith, least)) (omega (arith, low, cut.shown.least)) in
      let never : true ≡ false = sym there ∙ sym (ap (list_any (λ x. eqb x k)) cut.shown.commits_are) ∙ absent in
      absurd (let impossible : ⊥ = cc in impossible)
  not-after-found k least low (Some line) is = ap not (after-by k low line is (is_before entry line) refl)

  -- a commit of those so far has its line, which is not after the reply
  pub not-after-line : (k : ℕ) → length start < k → k ≤ length so_far → is_committed_not_after the_run entry k ≡ true
  not-after-line k least low = not-after-found k least low (commit_line printed k) refl

  -- the write set of a number in front is the machine's
  pub set-is : (k : ℕ) → 1 ≤ k → k ≤ length so_far → write_set_at (the_run).history k ≡ get_or so_far (k - 1) []
  set-is k least low =
      ap (λ (h : History). get_or h (k - 1) []) (history-shown start tables printed timeline t ∙ cut.grows.is)
      ∙ get_or_append_left so_far cut.grows.more [] (k - 1) (omega (arith, least, low))

  -- ---- the commits that pass a test

  -- a number above the snapshot whose write set passes
  abbrev is_later : ℕ → (WriteSet → Bool) → ℕ → Bool
  is_later n test k = nat_lt n k && test (write_set_at (the_run).history k)

  -- where no commit behind the snapshot passes, none of the write sets in front does
  in-none : (n : ℕ) (test : WriteSet → Bool) (empty : test [] ≡ false) (k : ℕ) → n ≤ length so_far → last_passing test (n + 1) (drop n so_far) ≡ None → n < k → k ≤ length so_far → test (get_or so_far (k - 1) []) ≡ false
  in-none n test empty k bound none low high =
      let e : n + (k - 1 - n) ≡ k - 1 = omega (arith, low) in
      ap (λ (i : ℕ). test (get_or so_far i [])) (sym e)
      ∙ ap test (sym (get_or-drop n so_far (k - 1 - n) []))
      ∙ last-none test empty (n + 1) (drop n so_far) none (k - 1 - n)

  -- Where no commit in front with a number above n passes, one above n that does is not committed
  -- before the reply.
  none-by : (n : ℕ) (test : WriteSet → Bool) (empty : test [] ≡ false) (k : ℕ) → n ≤ length so_far → last_passing test (n + 1) (drop n so_far) ≡ None → n < k → test (write_set_at (the_run).history k) ≡ true
      → (b : Bool) → nat_le k (length so_far) ≡ b → not (is_committed_before the_run entry k) ≡ true
  none-by n test empty k bound none low has true is =
      let high : k ≤ length so_far = leb-true k (length so_far) is in
      let lacks = ap test (set-is k (omega (arith, low)) high) ∙ in-none n test empty k bound none low high in
      let never : true ≡ false = sym has ∙ lacks in
      absurd (let impossible : ⊥ = cc in impossible)
  none-by n test empty k bound none low has false is = ap not (not-before k (let e : length so_far < k = grind (arith, nat_tests, is) in e))

  -- Where no commit in front with a number above n passes, none above n that does is committed
  -- before the reply.
  none-later : (n : ℕ) (test : WriteSet → Bool) (empty : test [] ≡ false) → n ≤ length so_far → last_passing test (n + 1) (drop n so_far) ≡ None → (k : ℕ) → is_later n test k ≡ true → not (is_committed_before the_run entry k) ≡ true
  none-later n test empty bound none k h =
      let parts = and_parts (nat_lt n k) (test (write_set_at (the_run).history k)) h in
      let low : n < k = grind (arith, nat_tests, parts.0) in
      none-by n test empty k bound none low parts.1 (nat_le k (length so_far)) refl

  -- where no commit behind the snapshot has the place, the reply passes over none
  pub no-commit : (u : Span) (place : Place) → u.snapshot ≤ length so_far → last_writer place (u.snapshot + 1) (drop u.snapshot so_far) ≡ None → passes_no_commit the_run u place entry ≡ true
  no-commit u place bound none =
      (filter-all (λ k. not (is_committed_before the_run entry k)) (is_later u.snapshot (writes_place place)) (none-later u.snapshot (writes_place place) refl bound none) (range_with_len 1 (length (the_run).history)))

  -- the last that passes is the last of those before the reply
  last-by : (n : ℕ) (test : WriteSet → Bool) (number k : ℕ) → n ≤ length so_far → (at : LastAt test (n + 1) (drop n so_far) number) → is_later n test k ≡ true
      → (b c : Bool) → nat_le k number ≡ b → nat_le k (length so_far) ≡ c → (nat_le k number || not (is_committed_before the_run entry k)) ≡ true
  last-by n test number k bound at h true c is is_c = rw is refl
  last-by n test number k bound at h false true is is_c =
      let parts = and_parts (nat_lt n k) (test (write_set_at (the_run).history k)) h in
      let low : n < k = grind (arith, nat_tests, parts.0) in
      let above : number < k = grind (arith, nat_tests, is) in
      let high : k ≤ length so_far = leb-true k (length so_far) is_c in
      let beyond : at.index < k - 1 - n = omega (arith, at.number_is, above, low) in
      let e : n + (k - 1 - n) ≡ k - 1 = omega (arith, low) in
      let lacks : test (get_or so_far (k - 1) []) ≡ false =
      ap (λ (i : ℕ). test (get_or so_far i [])) (sym e) ∙ ap test (sym (get_or-drop n so_far (k - 1 - n) [])) ∙ at.last (k - 1 - n) beyond in
      let never : true ≡ false = sym parts.1 ∙ ap test (set-is k (omega (arith, low)) high) ∙ lacks in
      absurd (let impossible : ⊥ = cc in impossible)
  last-by n test number k bound at h false false is is_c =
      or_right (nat_le k number) (not (is_committed_before the_run entry k)) (ap not (not-before k (let e : length so_far < k = grind (arith, nat_tests, is_c) in e)))

  -- a commit number may be named of the commits that pass
  abbrev pub may_name : Span → (WriteSet → Bool) → ℕ → Bool
  may_name u test number =
      list_any (λ later. eqb later number) (later_commits (the_run).history u.snapshot test) && is_committed_not_after the_run entry number
      && list_all (λ later. nat_le later number || not (is_committed_before the_run entry later)) (later_commits (the_run).history u.snapshot test)

  -- the last commit behind the snapshot that passes may be named
  pub last-named : (u : Span) (test : WriteSet → Bool) (empty : test [] ≡ false) (number : ℕ) → length start ≤ u.snapshot → u.snapshot ≤ length so_far → last_passing test (u.snapshot + 1) (drop u.snapshot so_far) ≡ Some number → may_name u test number ≡ true
  last-named u test empty number began bound is =
      let n = u.snapshot in
      let at = last-some test empty (n + 1) (drop n so_far) number is in
      let inside : at.index < length (drop n so_far) = at.inside in
      let size : length (drop n so_far) + n ≡ length so_far = omega (arith, length-drop n so_far, bound) in
      let low : n < number = omega (arith, at.number_is) in
      let high : number ≤ length so_far = omega (arith, at.number_is, inside, size) in
      let index_is : n + at.index ≡ number - 1 = omega (arith, at.number_is) in
      let has : test (write_set_at (the_run).history number) ≡ true =
      ap test (set-is number (omega (arith, low)) high ∙ ap (λ (i : ℕ). get_or so_far i []) (sym index_is) ∙ sym (get_or-drop n so_far at.index [])) ∙ at.passes in
      let above : nat_lt n number ≡ true = grind (arith, nat_tests, low) in
      let long : length (the_run).history ≡ length so_far + length cut.grows.more = ap length (history-shown start tables printed timeline t ∙ cut.grows.is) ∙ length-append so_far cut.grows.more in
      all-three (list_any (λ later. eqb later number) (later_commits (the_run).history u.snapshot test)) (is_committed_not_after the_run entry number)
      (list_all (λ later. nat_le later number || not (is_committed_before the_run entry later)) (later_commits (the_run).history u.snapshot test))
      (range-any (is_later n test) number 1 (length (the_run).history) (omega (arith, low)) (omega (arith, high, long)) (and_from (nat_lt n number) (test (write_set_at (the_run).history number)) above has))
      (not-after-line number (omega (arith, low, began)) high)
      (filter-all (λ k. nat_le k number || not (is_committed_before the_run entry k)) (is_later n test)
      (λ k h. last-by n test number k bound at h (nat_le k number) (nat_le k (length so_far)) refl refl) (range_with_len 1 (length (the_run).history)))

  -- the last commit behind the snapshot that has the place may be named
  commit-named : (u : Span) (place : Place) (number : ℕ) → length start ≤ u.snapshot → u.snapshot ≤ length so_far → last_writer place (u.snapshot + 1) (drop u.snapshot so_far) ≡ Some number → names_commit the_run u place entry number ≡ true
  commit-named u place number began bound is = last-named u (writes_place place) refl number began bound is

  -- ---- the open transactions of a place

  -- the session's or worker's replies behind
  abbrev rest_of : Who → List Entry
  rest_of who = thread who (entry ∷ cut.rest)

  -- One's transactions in the run are those of one's replies in front and from there on.
  spans-of : (who : Who) → filter (λ u. is_same u.who who) (the_run).transactions ≡ spans who (thread who cut.front ++ rest_of who)
  spans-of who =
      spans-is who printed
      ∙ ap (spans who) (its-thread printed timeline cut.front entry cut.rest (at-cut start tables printed timeline t entry only cut) who)

  -- those in front are not after the reply, and those behind not before it
  front-not-after : Each (λ other. is_before entry other ≡ false) cut.front
  front-not-after = Each-weaker (λ earlier. Follows earlier entry) (λ other. is_before entry other ≡ false) (λ other follows. follows.not_before) cut.front (front-follows start tables printed timeline t entry only cut)

  -- The reply and those behind it are not before it.
  rest-not-before : Each (λ other. is_before other entry ≡ false) (entry ∷ cut.rest)
  rest-not-before =
      (before-itself entry, Each-weaker (Follows entry) (λ other. is_before other entry ≡ false) (λ other follows. follows.not_before) cut.rest (rest-follows start tables printed timeline t entry only cut))

  -- whether another session's transaction has a write of the place before the reply and its end
  -- after it
  abbrev ends_later : Span → Bool
  ends_later u = option_map_or (λ ending. is_before entry ending) (ending_of u) true

  -- Whether another's transaction wrote the place before the reply, and ends after it.
  abbrev passed_over : Who → Place → Span → Bool
  passed_over who place u = not (is_same u.who who) && has_write place (before u.replies entry) && ends_later u

  -- Where the last of three parts fails, so does the conjunction.
  last-false : (a b : Bool) (c : Bool) → c ≡ false → (a && b && c) ≡ false
  last-false true true c h = h
  last-false true false c h = refl
  last-false false b c h = refl

  -- Where the middle of three parts fails, so does the conjunction.
  middle-false : (a b : Bool) (c : Bool) → b ≡ false → (a && b && c) ≡ false
  middle-false true true c h = absurd (let never : ⊥ = cc in never)
  middle-false true false c h = refl
  middle-false false b c h = refl

  -- Where the first of three parts fails, so does the conjunction.
  first-false : (a b : Bool) (c : Bool) → a ≡ false → (a && b && c) ≡ false
  first-false true b c h = absurd (let never : ⊥ = cc in never)
  first-false false b c h = refl

  -- Of transactions that ended in front, none is passed over.
  done-passed : (who its : Who) (place : Place) (ts : List Span) → EachSpan (Ended who (thread who cut.front)) ts → EachSpan (λ u. passed_over its place u ≡ false) ts
  done-passed who its place [] h = tt
  done-passed who its place (u ∷ ts) h =
      let inside : Each (λ other. is_before entry other ≡ false) u.replies =
      Each-first (λ other. is_before entry other ≡ false) u.replies h.0.behind
      (Each-second (λ other. is_before entry other ≡ false) h.0.ahead (u.replies ++ h.0.behind)
      (subst (Each (λ other. is_before entry other ≡ false)) h.0.stands (Each-filter (λ other. is_before entry other ≡ false) (λ other. is_same other.reply.who who) cut.front front-not-after))) in
      (last-false (not (is_same u.who its)) (has_write place (before u.replies entry)) (ends_later u) (found-end (λ ending. is_before entry ending) u.replies inside h.0.ends), done-passed who its place ts h.1)

  -- of a list of replies behind, none is before the reply
  before-none : (entries : List Entry) → Each (λ other. is_before other entry ≡ false) entries → before entries entry ≡ []
  before-none [] h = refl
  before-none (other ∷ entries) h = rw h.0 (before-none entries h.1)

  -- One more transaction opened from the reply on keeps that none is passed over.
  opened-put : (who its : Who) (place : Place) (entries : List Entry) → Each (λ other. is_before other entry ≡ false) entries → (shown : Option ℕ) (others : List Span)
      → EachSpan (λ u. passed_over its place u ≡ false) others → EachSpan (λ u. passed_over its place u ≡ false) (cons_option (option_map (λ snapshot. span who snapshot (up_to_end entries)) shown) others)
  opened-put who its place entries h None others k = k
  opened-put who its place entries h (Some snapshot) others k = (
    middle-false (not (is_same who its)) (has_write place (before (up_to_end entries) entry)) (ends_later (span who snapshot (up_to_end entries)))
        (ap (has_write place) (before-none (up_to_end entries) (Each-up_to_end (λ other. is_before other entry ≡ false) entries h))),
    k,
  )

  -- Of transactions opened from the reply on, none is passed over.
  opened-passed : (who its : Who) (place : Place) (entries : List Entry) → Each (λ other. is_before other entry ≡ false) entries → EachSpan (λ u. passed_over its place u ≡ false) (spans who entries)
  opened-passed who its place [] h = tt
  opened-passed who its place (other ∷ entries) h =
      opened-put who its place (other ∷ entries) h (snapshot_in other.reply.said) (spans who entries) (opened-passed who its place entries h.1)

  -- Of one's own transactions, none is passed over.
  own-fails : (who : Who) (place : Place) (ts : List Span) → EachSpan (λ u. u.who ≡ who) ts → EachSpan (λ u. passed_over who place u ≡ false) ts
  own-fails who place [] h = tt
  own-fails who place (u ∷ ts) h =
      (first-false (not (is_same u.who who)) (has_write place (before u.replies entry)) (ends_later u) (ap not (ap (λ (w : Who). is_same w who) h.0 ∙ same-itself who)), own-fails who place ts h.1)

  -- Of one's replies from the reply on, none is before it.
  rest-of-not : (who : Who) → Each (λ other. is_before other entry ≡ false) (rest_of who)
  rest-of-not who = Each-filter (λ other. is_before other entry ≡ false) (λ other. is_same other.reply.who who) (entry ∷ cut.rest) rest-not-before

  -- the open transaction of another session, without a write of the place
  open-passed : (who its : Who) (place : Place) (snapshot : ℕ) (replies : List Entry) → has_write place replies ≡ false → passed_over its place (span who snapshot (replies ++ up_to_end (rest_of who))) ≡ false
  open-passed who its place snapshot replies lacks =
      middle-false (not (is_same who its)) (has_write place (before (replies ++ up_to_end (rest_of who)) entry)) (ends_later (span who snapshot (replies ++ up_to_end (rest_of who))))
      (ap (has_write place)
      (filter-append (λ other. is_before other entry) replies (up_to_end (rest_of who))
      ∙ ap (λ (es : List Entry). before replies entry ++ es) (before-none (up_to_end (rest_of who)) (Each-up_to_end (λ other. is_before other entry ≡ false) (rest_of who) (rest-of-not who)))
      ∙ append-nil (before replies entry))
      ∙ no-write-filter place (λ other. is_before other entry) replies lacks)

  -- Where a place is free, what another has open does not have it.
  free-of : (who : Who) (s : ℕ) (place : Place) → Free s place cut.machine.open_transactions → is_same who (Session s) ≡ false → (o : Transaction) → open_of who cut.machine ≡ Some o → writes_place place o.own ≡ false
  free-of (Session session) s place untouched apart o at = untouched session o at apart
  free-of (Worker worker) s place untouched apart o at = absurd (let never : ⊥ = cc in never)

  -- none of the transactions of another session passes
  others-passed : (who : Who) (s : ℕ) (place : Place) → Free s place cut.machine.open_transactions → is_same who (Session s) ≡ false → (found : Option Transaction) → open_of who cut.machine ≡ found
      → Stands who (thread who cut.front) found → list_any (passed_over (Session s) place) (spans who (thread who cut.front ++ rest_of who)) ≡ false
  others-passed who s place untouched apart None at past =
      ap (list_any (passed_over (Session s) place)) (past.parts (rest_of who))
      ∙ list_any-append (passed_over (Session s) place) past.done (spans who (rest_of who))
      ∙ (rw (none-spans (passed_over (Session s) place) past.done (done-passed who (Session s) place past.done past.ended))
      (none-spans (passed_over (Session s) place) (spans who (rest_of who)) (opened-passed who (Session s) place (rest_of who) (rest-of-not who))))
  others-passed who s place untouched apart (Some o) at within =
      let past = within.spanned in
      let lacks : has_write place within.replies ≡ false = sym (has-writes place within.replies) ∙ ap (writes_place place) within.writes_are ∙ free-of who s place untouched apart o at in
      ap (list_any (passed_over (Session s) place)) (past.parts (rest_of who))
      ∙ list_any-append (passed_over (Session s) place) past.done (span who o.snapshot (within.replies ++ up_to_end (rest_of who)) ∷ spans who (rest_of who))
      ∙ (rw (none-spans (passed_over (Session s) place) past.done (done-passed who (Session s) place past.done past.ended), open-passed who (Session s) place o.snapshot within.replies lacks)
      (none-spans (passed_over (Session s) place) (spans who (rest_of who)) (opened-passed who (Session s) place (rest_of who) (rest-of-not who))))

  -- Where a place is free, no transaction of anyone is passed over.
  each-passed : (s : ℕ) (place : Place) → Free s place cut.machine.open_transactions → (who : Who) (b : Bool) → is_same who (Session s) ≡ b
      → list_any (passed_over (Session s) place) (filter (λ u. is_same u.who who) (the_run).transactions) ≡ false
  each-passed s place untouched who true is =
      let e : who ≡ Session s = same-is who (Session s) is in
      none-spans (passed_over (Session s) place) (filter (λ u. is_same u.who who) (the_run).transactions)
      (subst (λ (w : Who). EachSpan (λ u. passed_over w place u ≡ false) (filter (λ u. is_same u.who who) (the_run).transactions)) e (own-fails who place (filter (λ u. is_same u.who who) (the_run).transactions) (kept-pass who (the_run).transactions)))
  each-passed s place untouched who false is =
      ap (list_any (passed_over (Session s) place)) (spans-of who) ∙ others-passed who s place untouched is (open_of who cut.machine) refl (cut.shown.stands who)

  -- where no other session's transaction has the place, the reply passes over none
  pub no-session : (u : Span) (s : ℕ) (place : Place) → u.who ≡ Session s → Free s place cut.machine.open_transactions → passes_no_session the_run u place entry ≡ true
  no-session u s place is untouched =
      (ap not (subst (λ (w : Who). list_any (passed_over w place) (the_run).transactions ≡ false) (sym is)
      (none-any (passed_over (Session s) place) (the_run).transactions (λ who. each-passed s place untouched who (is_same who (Session s)) refl))))

  -- the session that is named
  abbrev named : ℕ → Who → Place → Span → Bool
  named session its place u = is_same u.who (Session session) && not (is_same u.who its)
      && has_write place (not_after u.replies entry)
      && option_map_or (λ ending. not (is_before ending entry)) (ending_of u) true

  -- A rival's open transaction is one that the reply may name.
  rival-named : (r : Transaction) (s : ℕ) (place : Place) → transaction_of r.session cut.machine ≡ Some r → eqb r.session s ≡ false → writes_place place r.own ≡ true
      → (within : Within (Session r.session) (thread (Session r.session) cut.front) r)
      → named r.session (Session s) place (span (Session r.session) r.snapshot (within.replies ++ up_to_end (rest_of (Session r.session)))) ≡ true
  rival-named r s place at apart has within =
      let who = Session r.session in
      let later_ones = up_to_end (rest_of who) in
      let in_front : Each (λ other. is_before entry other ≡ false) within.replies =
      Each-second (λ other. is_before entry other ≡ false) within.ahead within.replies
      (subst (Each (λ other. is_before entry other ≡ false)) within.split (Each-filter (λ other. is_before entry other ≡ false) (λ other. is_same other.reply.who who) cut.front front-not-after)) in
      let kept : not_after within.replies entry ≡ within.replies =
      filter-each (λ other. is_not_after other entry) within.replies (Each-weaker (λ other. is_before entry other ≡ false) (λ other. is_not_after other entry ≡ true) (λ other h. ap not h) within.replies in_front) in
      let wrote : has_write place within.replies ≡ true = sym (has-writes place within.replies) ∙ ap (writes_place place) within.writes_are ∙ has in
      let its_write : has_write place (not_after (within.replies ++ later_ones) entry) ≡ true =
      ap (has_write place) (filter-append (λ other. is_not_after other entry) within.replies later_ones ∙ ap (λ (es : List Entry). es ++ not_after later_ones entry) kept)
      ∙ list_any-append (writes_it place) within.replies (not_after later_ones entry) ∙ or_left (has_write place within.replies) (has_write place (not_after later_ones entry)) wrote in
      let goes_on : option_map_or (λ ending. not (is_before ending entry)) (find (λ e. is_end e.reply.said) (within.replies ++ later_ones)) true ≡ true =
      ap (λ (o : Option Entry). option_map_or (λ ending. not (is_before ending entry)) o true) (find-append (λ e. is_end e.reply.said) within.replies later_ones ∙ ap (λ (o : Option Entry). option_or o (find (λ e. is_end e.reply.said) later_ones)) within.on)
      ∙ some-end (λ ending. not (is_before ending entry)) later_ones
      (Each-weaker (λ other. is_before other entry ≡ false) (λ other. not (is_before other entry) ≡ true) (λ other h. ap not h) later_ones (Each-up_to_end (λ other. is_before other entry ≡ false) (rest_of who) (rest-of-not who))) in
      all-four (is_same who (Session r.session)) (not (is_same who (Session s))) (has_write place (not_after (within.replies ++ later_ones) entry)) (option_map_or (λ ending. not (is_before ending entry)) (find (λ e. is_end e.reply.said) (within.replies ++ later_ones)) true)
      (same-itself who) (ap not apart) its_write goes_on

  -- a rival that has the place open may be named
  pub session-named : (u : Span) (s : ℕ) (place : Place) (r : Transaction) → u.who ≡ Session s → Rival s place cut.machine.open_transactions r → names_session the_run u place entry r.session ≡ true
  session-named u s place r is rivals =
      let who = Session r.session in
      let within = subst (Stands who (thread who cut.front)) rivals.at (cut.shown.stands who) in
      let past = within.spanned in
      let open_one = span who r.snapshot (within.replies ++ up_to_end (rest_of who)) in
      subst (λ (w : Who). list_any (named r.session w place) (the_run).transactions ≡ true) (sym is)
      (any-kept (named r.session (Session s) place) (λ v. is_same v.who who) (the_run).transactions
      (ap (list_any (named r.session (Session s) place)) (spans-of who ∙ past.parts (rest_of who))
      ∙ list_any-append (named r.session (Session s) place) past.done (open_one ∷ spans who (rest_of who))
      ∙ or_right (list_any (named r.session (Session s) place) past.done) (named r.session (Session s) place open_one || list_any (named r.session (Session s) place) (spans who (rest_of who)))
      (or_left (named r.session (Session s) place open_one) (list_any (named r.session (Session s) place) (spans who (rest_of who))) (rival-named r s place rivals.at rivals.other rivals.has within))))

-- ---- the first updater

-- What holds is still so if it is chosen or not.
has-still : (b c : Bool) → c ≡ true → cond b true c ≡ true
has-still true c h = refl
has-still false c h = h

-- The history behind some replies goes on from the one before them.
grows-of : (start : History) (tables : List TableDecl) (front : List Entry) (machine : IsolationMachine) (rest : List Entry) {end : IsolationMachine} → Shown start front machine → (runs : RunsFrom start tables front machine rest)
    → last_of start tables front machine rest runs ≡ end → Grows machine.history end.history
grows-of start tables front machine rest shown runs is = subst (λ (m : IsolationMachine). Grows machine.history m.history) is (all-grow start tables front machine rest shown runs)

-- Where no commit behind a snapshot passes, none of those there does.
lacks-in : (history : History) (n : ℕ) (test : WriteSet → Bool) (empty : test [] ≡ false) (k : ℕ) → last_passing test (n + 1) (drop n history) ≡ None → n < k → test (get_or history (k - 1) []) ≡ false
lacks-in history n test empty k none low =
    let e : n + (k - 1 - n) ≡ k - 1 = omega (arith, low) in
    ap (λ (i : ℕ). test (get_or history i [])) (sym e)
    ∙ ap test (sym (get_or-drop n history (k - 1 - n) []))
    ∙ last-none test empty (n + 1) (drop n history) none (k - 1 - n)

module _ (start : History) (tables : List TableDecl) (printed timeline : List Entry) (t : TimelineFrom start tables printed timeline) (u : Span) where
  -- The run that is read from all printed replies.
  abbrev run_of_all : Run
  run_of_all = run start tables printed timeline t

  module _ (test : WriteSet → Bool) (empty : test [] ≡ false) where
    -- Whether a commit is behind the snapshot and passes.
    abbrev behind_snapshot : ℕ → Bool
    behind_snapshot k = nat_lt u.snapshot k && test (write_set_at (run_of_all).history k)

    -- A commit behind the snapshot that passes is above those of this history.
    above-all : (history : History) → Grows history (last start tables printed timeline t).history → last_passing test (u.snapshot + 1) (drop u.snapshot history) ≡ None
        → (k : ℕ) → behind_snapshot k ≡ true → (b : Bool) → nat_le (length history + 1) k ≡ b → nat_le (length history + 1) k ≡ true
    above-all history grows none k h true is = is
    above-all history grows none k h false is =
        let parts = and_parts (nat_lt u.snapshot k) (test (write_set_at (run_of_all).history k)) h in
        let low : u.snapshot < k = grind (arith, nat_tests, parts.0) in
        let high : k ≤ length history = grind (arith, nat_tests, is) in
        let same : write_set_at (run_of_all).history k ≡ get_or history (k - 1) [] =
        ap (λ (xs : History). get_or xs (k - 1) []) (history-shown start tables printed timeline t ∙ grows.is) ∙ get_or_append_left history grows.more [] (k - 1) (omega (arith, low, high)) in
        let never : true ≡ false = sym parts.1 ∙ ap test same ∙ lacks-in history u.snapshot test empty k none low in
        absurd (let impossible : ⊥ = cc in impossible)

    -- The number behind this history is at most that of each later commit that passes.
    pub first-number : (history : History) → Grows history (last start tables printed timeline t).history → last_passing test (u.snapshot + 1) (drop u.snapshot history) ≡ None
        → list_all (nat_le (length history + 1)) (later_commits (run_of_all).history u.snapshot test) ≡ true
    first-number history grows none =
        filter-all (nat_le (length history + 1)) behind_snapshot (λ k h. above-all history grows none k h (nat_le (length history + 1) k) refl) (range_with_len 1 (length (run_of_all).history))

module _ (start : History) (tables : List TableDecl) (printed timeline : List Entry) (t : TimelineFrom start tables printed timeline) (u : Span) (place : Place) where
  -- The run that is read from all printed replies.
  abbrev the_whole : Run
  the_whole = run start tables printed timeline t

  -- the first end among replies commits below no other commit of the place
  abbrev commits_first : Option Entry → Type 0
  commits_first found = option_map_or (λ number. list_all (nat_le number) (later_writers (the_whole).history u.snapshot place)) (option_and_then (λ ending. commit_in ending.reply.said) found) true ≡ true

  module _ (s : ℕ) where
    abbrev who_s : Who
    who_s = Session s

    thread-first : (e : Entry) (rest : List Entry) (b : Bool) → is_same e.reply.who who_s ≡ b → thread who_s (e ∷ rest) ≡ cond b (e ∷ thread who_s rest) (thread who_s rest)
    thread-first e rest b is = ap (λ (c : Bool). cond c (e ∷ thread who_s rest) (thread who_s rest)) is

    goes-by : (e : Entry) (rest : List Entry) → is_same e.reply.who who_s ≡ true → is_end e.reply.said ≡ false → commits_first (find (λ x. is_end x.reply.said) (thread who_s rest))
        → commits_first (find (λ x. is_end x.reply.said) (thread who_s (e ∷ rest)))
    goes-by e rest is on h = subst commits_first (sym (ap (find (λ x. is_end x.reply.said)) (thread-first e rest true is) ∙ ap (λ (c : Bool). cond c (Some e) (find (λ x. is_end x.reply.said) (thread who_s rest))) on)) h

    ends-by : (e : Entry) (rest : List Entry) → is_same e.reply.who who_s ≡ true → is_end e.reply.said ≡ true → commits_first (Some e)
        → commits_first (find (λ x. is_end x.reply.said) (thread who_s (e ∷ rest)))
    ends-by e rest is ended h = subst commits_first (sym (ap (find (λ x. is_end x.reply.said)) (thread-first e rest true is) ∙ ap (λ (c : Bool). cond c (Some e) (find (λ x. is_end x.reply.said) (thread who_s rest))) ended)) h

    aborted-first : (e : Entry) (own : WriteSet) → (e.reply.said ≡ said.Aborted) ⊎ ((e.reply.said ≡ said.Committed None) × (own ≡ [])) → commits_first (Some e)
    aborted-first e own (inl is) = rw is refl
    aborted-first e own (inr is) = rw is.0 refl

    aborted-ends : (told : Said) (own : WriteSet) → (told ≡ said.Aborted) ⊎ ((told ≡ said.Committed None) × (own ≡ [])) → is_end told ≡ true
    aborted-ends told own (inl is) = ap is_end is
    aborted-ends told own (inr is) = ap is_end is.0

    -- the sessions are one
    session-same : (e : Entry) (session : ℕ) → is_same e.reply.who who_s ≡ true → e.reply.who ≡ Session session → session ≡ s
    session-same e session is at = eqb-true session s (ap (λ (w : Who). is_same w who_s) (sym at) ∙ is)

    -- the session's transaction behind its own write
    abbrev StillHas : IsolationMachine → Type 0
    StillHas machine = (o : Transaction) × (transaction_of s machine ≡ Some o) × (o.snapshot ≡ u.snapshot) × (writes_place place o.own ≡ true)

    wrote-more : (machine after : IsolationMachine) (at : Place) (change : Option (List Cell)) → after ≡ with_own s at change machine → StillHas machine → StillHas after
    wrote-more machine after at change is h = (
      record h.0 { own = insert_entry place_cmp (h.0).own at change },
      ap (transaction_of s) is ∙ at-written s at change s machine ∙ ap (option_map (entering s at change)) h.1
          ∙ ap (λ (b : Bool). Some (cond b (record h.0 { own = insert_entry place_cmp (h.0).own at change }) h.0)) (ap (λ (x : ℕ). eqb x s) (its-session s machine.open_transactions h.0 h.1) ∙ eqb-itself s),
      h.2,
      writes-more (h.0).own at change place ∙ has-still (is_place place at) (writes_place place (h.0).own) h.3,
    )

    end-own : (front : List Entry) (machine after : IsolationMachine) (e : Entry) (rest : List Entry) → Shown start front machine
        → Grows machine.history (last start tables printed timeline t).history → StillHas machine
        → (StillHas after → commits_first (find (λ x. is_end x.reply.said) (thread who_s rest))) → is_same e.reply.who who_s ≡ true
        → Change e.reply.who e.command e.reply.said machine after
        → commits_first (find (λ x. is_end x.reply.said) (thread who_s (e ∷ rest)))
    end-own front machine after e rest shown grows h more same (quiet q) = goes-by e rest same q.on (more (subst StillHas (sym q.same) h))
    end-own front machine after e rest shown grows h more same (opens o) =
        let never : None ≡ Some h.0 = sym o.none ∙ ap (λ (x : ℕ). transaction_of x machine) (session-same e o.session same o.who_is) ∙ h.1 in
        absurd (let impossible : ⊥ = cc in impossible)
    end-own front machine after e rest shown grows h more same (writes w) =
        goes-by e rest same (ap is_end w.said_is)
        (more (wrote-more machine after w.place w.change (w.is ∙ ap (λ (x : ℕ). with_own x w.place w.change machine) (session-same e w.session same w.who_is)) h))
    end-own front machine after e rest shown grows h more same (ends x) = ends-by e rest same (aborted-ends e.reply.said x.t.own x.said_is) (aborted-first e x.t.own x.said_is)
    end-own front machine after e rest shown grows h more same (commits c) =
        let none = ap (λ (n : ℕ). last_writer place (n + 1) (drop n machine.history)) (sym h.2) ∙ shown.sane.first s h.0 place h.1 h.3 in
        ends-by e rest same (ap is_end c.said_is)
        (ap (λ (told : Said). option_map_or (λ number. list_all (nat_le number) (later_writers (the_whole).history u.snapshot place)) (commit_in told) true) c.said_is ∙ first-number start tables printed timeline t u (writes_place place) refl machine.history grows none)

    end-step : (front : List Entry) (machine after : IsolationMachine) (e : Entry) (rest : List Entry) → Shown start front machine → Change e.reply.who e.command e.reply.said machine after
        → Grows machine.history (last start tables printed timeline t).history → StillHas machine
        → (StillHas after → commits_first (find (λ x. is_end x.reply.said) (thread who_s rest))) → (b : Bool) → is_same e.reply.who who_s ≡ b
        → commits_first (find (λ x. is_end x.reply.said) (thread who_s (e ∷ rest)))
    end-step front machine after e rest shown change grows h more true same = end-own front machine after e rest shown grows h more same change
    end-step front machine after e rest shown change grows h more false same =
        let still : transaction_of s after ≡ transaction_of s machine = others-open e.reply.who who_s e.command e.reply.said machine after same change in
        subst commits_first (sym (ap (find (λ x. is_end x.reply.said)) (thread-first e rest false same))) (more (h.0, still ∙ h.1, h.2, h.3))

    end-first : (front : List Entry) (machine : IsolationMachine) (rest : List Entry) → Shown start front machine → (runs : RunsFrom start tables front machine rest)
        → last_of start tables front machine rest runs ≡ last start tables printed timeline t → StillHas machine → commits_first (find (λ x. is_end x.reply.said) (thread who_s rest))
    end-first front machine [] shown runs is h = refl
    end-first front machine (e ∷ rest) shown runs is h =
        let change = change-of tables front machine runs.0 e shown.sane runs.1 in
        let next = shown-step start front machine runs.0 e shown change in
        end-step front machine runs.0 e rest shown change (grows-of start tables front machine (e ∷ rest) shown runs is) h (end-first (front ++ e ∷ []) runs.0 rest next runs.3 is) (is_same e.reply.who who_s) refl

-- ---- the rules of a conflict

-- Cutting behind a reply, if it is an end, leaves which end is found.
find-cut-step : (b : Bool) (entry : Entry) (others : List Entry) (found : Option Entry) → is_end entry.reply.said ≡ b → find (λ e. is_end e.reply.said) others ≡ found
    → find (λ e. is_end e.reply.said) (cond b (entry ∷ []) (entry ∷ others)) ≡ cond b (Some entry) found
find-cut-step true entry others found is h = rw is refl
find-cut-step false entry others found is h = rw is h

-- The end that is found among replies is found among those up to it.
find-cut : (entries : List Entry) → find (λ e. is_end e.reply.said) (up_to_end entries) ≡ find (λ e. is_end e.reply.said) entries
find-cut [] = refl
find-cut (entry ∷ entries) = find-cut-step (is_end entry.reply.said) entry (up_to_end entries) (find (λ e. is_end e.reply.said) entries) refl (find-cut entries)

-- A write that is there is not none.
nothing-written : (write : Place × Option (List Cell)) → Some write ≡ None → ⊥
nothing-written write h = (let never : ⊥ = cc in never)

-- An accepted write is neither an abort nor a commit of nothing.
ended-not : (told : Said) (own : WriteSet) → told ≡ said.Accepted → (told ≡ said.Aborted) ⊎ ((told ≡ said.Committed None) × (own ≡ [])) → ⊥
ended-not told own is (inl h) = let e : said.Accepted ≡ said.Aborted = sym is ∙ h in (let never : ⊥ = cc in never)
ended-not told own is (inr h) = let e : said.Accepted ≡ said.Committed None = sym is ∙ h.0 in (let never : ⊥ = cc in never)

-- Each place is the same as itself.
itself-place : (place : Place) → is_place place place ≡ true
itself-place place = (eq_by_cmp_equiv place_cmp-total).refl place

module _ (start : History) (tables : List TableDecl) (printed timeline : List Entry) (t : TimelineFrom start tables printed timeline) (entry : Entry) (only : Only printed entry)
    (cut : Cut start tables timeline (last start tables printed timeline t) entry) (s : ℕ) (o : Transaction) (who_is : entry.reply.who ≡ Session s) (at : transaction_of s cut.machine ≡ Some o)
    (within : Within entry.reply.who (thread entry.reply.who cut.front) o) (place : Place) (change : Option (List Cell)) (wrote : write_of entry.command ≡ Some (place, change)) where
  -- The run of all printed replies, in which the write is answered.
  abbrev all_run : Run
  all_run = run start tables printed timeline t

  -- The transaction that the reply belongs to.
  abbrev its_own : Span
  its_own = belongs start tables printed timeline t entry only cut o within

  -- The open transaction is that of the session.
  session_is : o.session ≡ s
  session_is = its-session s (cut.machine).open_transactions o at

  -- The snapshot of the open transaction is not above the commits in front.
  low : o.snapshot ≤ length (cut.machine).history
  low = cut.shown.sane.bound s o at

  -- Nor is it below those that the store began with.
  began : length start ≤ o.snapshot
  began = cut.shown.started s o at

  -- A place that is clear is free of other sessions' open transactions.
  free : Clear cut.machine o place → Free s place (cut.machine).open_transactions
  free clear = subst (λ (x : ℕ). Free x place (cut.machine).open_transactions) session_is (free-none o.session place (cut.machine).open_transactions clear.rival)

  -- behind an accepted write the transaction has the place
  still-has : entry.reply.said ≡ said.Accepted → Change entry.reply.who entry.command entry.reply.said cut.machine cut.after → StillHas start tables printed timeline t its_own place s cut.after
  still-has is (quiet q) =
      absurd (nothing-written (place, change) (sym wrote ∙ sym (ap (λ (told : Said). cond {A = Option (Place × Option (List Cell))} (is_accepted told) (write_of entry.command) None) is) ∙ q.writes))
  still-has is (opens x) = absurd (let e : said.Accepted ≡ said.At (length (cut.machine).history) = sym is ∙ x.said_is in let never : ⊥ = cc in never)
  still-has is (writes w) =
      let same : place ≡ w.place = ap (λ (f : Option (Place × Option (List Cell))). option_map_or (λ x. x.0) f place) (sym wrote ∙ w.write) in
      let its : w.session ≡ s = let e : Session w.session ≡ Session s = sym w.who_is ∙ who_is in cc in (
        record o { own = insert_entry place_cmp o.own w.place w.change },
        ap (transaction_of s) (w.is ∙ ap (λ (x : ℕ). with_own x w.place w.change cut.machine) its) ∙ at-written s w.place w.change s cut.machine ∙ ap (option_map (entering s w.place w.change)) at
            ∙ ap (λ (b : Bool). Some (cond b (record o { own = insert_entry place_cmp o.own w.place w.change }) o)) (ap (λ (x : ℕ). eqb x s) session_is ∙ eqb-itself s),
        refl,
        writes-more o.own w.place w.change place ∙ ap (λ (b : Bool). cond b true (writes_place place o.own)) (ap (is_place place) (sym same) ∙ itself-place place),
      )
  still-has is (ends x) = absurd (ended-not entry.reply.said x.t.own is x.said_is)
  still-has is (commits c) = absurd (let e : said.Accepted ≡ said.Committed (Some (length (cut.machine).history + 1)) = sym is ∙ c.said_is in let never : ⊥ = cc in never)

  -- The transaction of an accepted write is the first updater of the place.
  first-updater : entry.reply.said ≡ said.Accepted → is_first_updater all_run its_own place ≡ true
  first-updater is =
      let behind = thread entry.reply.who cut.rest in
      let ending : ending_of its_own ≡ find (λ e. is_end e.reply.said) behind =
      find-append (λ e. is_end e.reply.said) within.replies (up_to_end (entry ∷ behind))
      ∙ ap (λ (f : Option Entry). option_or f (find (λ e. is_end e.reply.said) (up_to_end (entry ∷ behind)))) within.on
      ∙ ap (λ (b : Bool). find (λ e. is_end e.reply.said) (cond b (entry ∷ []) (entry ∷ up_to_end behind))) (ap is_end is)
      ∙ ap (λ (b : Bool). cond b (Some entry) (find (λ e. is_end e.reply.said) (up_to_end behind))) (ap is_end is)
      ∙ find-cut behind in
      subst (commits_first start tables printed timeline t its_own place) (sym (ending ∙ ap (λ (w : Who). find (λ e. is_end e.reply.said) (thread w cut.rest)) who_is))
      (end-first start tables printed timeline t its_own place s (cut.front ++ entry ∷ []) cut.after cut.rest cut.shown_after cut.runs_after cut.last_is (still-has is cut.change))

  -- nobody is passed over where the place is clear
  clear-holds : Clear cut.machine o place → is_clear all_run its_own place entry ≡ true
  clear-holds clear =
      and_from (passes_no_commit all_run its_own place entry) (passes_no_session all_run its_own place entry)
      (no-commit start tables printed timeline t entry only cut its_own place low clear.last) (no-session start tables printed timeline t entry only cut its_own s place who_is (free clear))

  -- By each verdict on a write, what its reply tells of conflicts holds.
  pub conflict-by : (acceptable : Bool) → Verdict cut.machine o place acceptable entry.reply.said → conflict_holds all_run its_own place entry entry.reply.said ≡ true
  conflict-by acceptable (accepted clear can is) =
      ap (conflict_holds all_run its_own place entry) is ∙ and_from (is_clear all_run its_own place entry) (is_first_updater all_run its_own place) (clear-holds clear) (first-updater is)
  conflict-by acceptable (rival r found is) =
      let rivals = subst (λ (x : ℕ). Rival x place (cut.machine).open_transactions r) session_is (rival-some o.session place (cut.machine).open_transactions r cut.shown.sane.apart found) in
      ap (conflict_holds all_run its_own place entry) is ∙ session-named start tables printed timeline t entry only cut its_own s place r who_is rivals
  conflict-by acceptable (later k none found is) =
      ap (conflict_holds all_run its_own place entry) is
      ∙ and_from (names_commit all_run its_own place entry k) (passes_no_session all_run its_own place entry) (commit-named start tables printed timeline t entry only cut its_own place k began low found)
      (no-session start tables printed timeline t entry only cut its_own s place who_is (subst (λ (x : ℕ). Free x place (cut.machine).open_transactions) session_is (free-none o.session place (cut.machine).open_transactions none)))
  conflict-by acceptable (refused clear can (inl is)) = ap (conflict_holds all_run its_own place entry) is ∙ clear-holds clear
  conflict-by acceptable (refused clear can (inr is)) = ap (conflict_holds all_run its_own place entry) is ∙ clear-holds clear
  conflict-by acceptable (limited clear can (inl is)) = ap (conflict_holds all_run its_own place entry) is ∙ clear-holds clear
  conflict-by acceptable (limited clear can (inr is)) = ap (conflict_holds all_run its_own place entry) is.3 ∙ clear-holds clear
  conflict-by acceptable (memory is) = ap (conflict_holds all_run its_own place entry) is

-- Whether what the reply to a write tells of conflicts holds.
abbrev conflict_test : Run → Entry → Span → Bool
conflict_test all entry u = option_map_or (λ write. conflict_holds all u write.0 entry entry.reply.said) (write_of entry.command) true

module _ (start : History) (tables : List TableDecl) (printed timeline : List Entry) (t : TimelineFrom start tables printed timeline) (entry : Entry) (only : Only printed entry)
    (cut : Cut start tables timeline (last start tables printed timeline t) entry) where
  -- a write in a transaction
  conflict-inside : (who : Who) → entry.reply.who ≡ who → (o : Transaction) → open_of who cut.machine ≡ Some o → (within : Within entry.reply.who (thread entry.reply.who cut.front) o)
      → (write : Option (Place × Option (List Cell))) → write_of entry.command ≡ write
      → option_map_or (λ w. conflict_holds (run start tables printed timeline t) (belongs start tables printed timeline t entry only cut o within) w.0 entry entry.reply.said) write true ≡ true
  conflict-inside (Worker worker) is o at within write wrote = absurd (let never : ⊥ = cc in never)
  conflict-inside (Session s) is o at within None wrote = refl
  conflict-inside (Session s) is o at within (Some write) wrote =
      conflict-by start tables printed timeline t entry only cut s o is at within write.0 write.1 wrote (is_acceptable (seen_rows cut.machine o) entry.command)
      (takes-verdict tables cut.front cut.machine s o entry.command entry.reply.said cut.after entry write.0 write.1 refl refl at wrote
      (subst (λ (w : Who). TakesAs tables cut.front cut.machine entry cut.after (request_of w entry.command)) is cut.takes))

  -- Conflicts.
  pub conflicts-hold-here : conflicts_hold (run start tables printed timeline t) entry ≡ true
  conflicts-hold-here =
      by-transaction start tables printed timeline t entry only cut (conflict_test (run start tables printed timeline t) entry)
      (λ o at within. conflict-inside entry.reply.who refl o at within (write_of entry.command) refl)
      (λ u checked is_asked is. ap (λ (asked : Command). option_map_or (λ write. conflict_holds (run start tables printed timeline t) u write.0 entry entry.reply.said) (write_of asked) true) is_asked)
      (open_of entry.reply.who cut.machine) refl cut.change
