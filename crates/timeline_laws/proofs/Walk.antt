-- What the replies in front show of the machine that they leave.
use Rattle.std.proofs.Common.{◌≡◌, ℕ, ◌+◌, Bool, true, false, cond, eqb, nat_le, List, [], ◌∷◌, ◌++◌, length, ◌-◌, ◌≤◌, Option, None, Some, refl, sym, ap, ◌∙◌, subst, arith, append_assoc, append-nil, ◌⊎◌, inl, inr}
use Rattle.outcome_spec.specs.Forms.{is_within}
use Rattle.std.specs.Prelude.{is_some, option_map}
use Rattle.std.specs.Option.{option_or, option_map_or}
use Rattle.std.specs.BTreeMap.{insert_entry}
use Rattle.std.specs.List.{filter_map, find, list_all, cons_option, range_with_len}
use Rattle.std.proofs.lemmas.Bool.Decides.{nat_tests}
use Rattle.std.proofs.lemmas.Bool.{and_parts, and_from}
use Rattle.std.proofs.lemmas.List.{length_push}
use Rattle.std.proofs.lemmas.List.Folds.{find-append, list_all-append}
use Rattle.std.proofs.lemmas.List.Elements.{filter-append, filter_map-append}
use Rattle.std.proofs.lemmas.List.Sums.{fold_push}
use Rattle.cell_model.specs.declared.cell.Cell.{Cell}
use Rattle.isolation_spec.specs.Contents.{place_cmp, WriteSet, History}
use Rattle.isolation_spec.specs.declared.place.Place.{Place}
use Rattle.isolation_spec.specs.Machine.{IsolationMachine, opening_from, transaction_of, with_own, without, Transaction}
use Rattle.workload_spec.specs.declared.reply.Who.{Who}
use Rattle.workload_spec.specs.declared.reply.Who.TheVariants.{Session, Worker}
use Rattle.workload_spec.specs.declared.reply.Said.{Said}
use Rattle.workload_spec.specs.declared.reply.Said.TheVariants as said
use Rattle.outcome_spec.specs.Entries.{Entry, is_same, shown_in, snapshot_in, commit_in, is_end}
use Rattle.outcome_spec.specs.Runs.{accepted_write, writes_in}
use Rattle.outcome_spec.specs.Numbers.{number_shown}
use Rattle.outcome_spec.specs.Stale.{reads_after}
use Rattle.isolation_spec.specs.Reads.{ReadSet}
use Rattle.timeline_spec.specs.Timeline.{open_of}
use Rattle.outcome_spec.specs.Entries.{thread}
use Rattle.timeline_laws.proofs.Ranges.{range-next}
use Rattle.timeline_laws.proofs.Order.{same-is}
use Rattle.timeline_laws.proofs.Spans.{Past, past-nil, past-idle, past-opens, past-goes_on, past-ends}
use Rattle.timeline_laws.proofs.Machine.{Started, started-begin, started-end, started-write, Sane, sane-opening, sane-begin, sane-end, sane-commit, sane-write, begun, entering, at-begun, at-ended, at-written, its-session, free-none, eqb-itself, Free}
use Rattle.timeline_laws.proofs.Agrees.{Agree, agree-by, others-open}
use Rattle.timeline_laws.proofs.ReadSets.{ReadsAre, reads-push, reads-begin, reads-go_on}
use Rattle.timeline_laws.proofs.Steps.{Change, quiet, opens, writes, ends, commits, Quiet, shows_at_most}

-- the open transaction of a session, among its replies
pub record Within (who : Who) (past : List Entry) (t : Transaction) : Type 0 where
  pub ahead : List Entry
  pub replies : List Entry
  pub split : past ≡ ahead ++ replies
  pub spanned : Past who past (Some (t.snapshot, replies))
  pub on : find (λ entry. is_end entry.reply.said) replies ≡ None
  pub writes_are : writes_in replies ≡ t.own
  pub reads_are : ReadsAre (reads_after past) replies

-- a session's replies so far have just this transaction open, or none
abbrev pub Stands : Who → List Entry → Option Transaction → Type 0
Stands who past None = Past who past None
Stands who past (Some t) = Within who past t

-- ---- a session's own reply

-- Where no reply is an end, one more that is none leaves it so.
find-more : (front : List Entry) (entry : Entry) → find (λ other. is_end other.reply.said) front ≡ None → is_end entry.reply.said ≡ false
    → find (λ other. is_end other.reply.said) (front ++ entry ∷ []) ≡ None
find-more front entry none on = find-append (λ other. is_end other.reply.said) front (entry ∷ []) ∙ (rw (none, on) refl)

-- One more reply that is no accepted write adds nothing to the write set.
writes-more : (front : List Entry) (entry : Entry) → accepted_write entry ≡ None → writes_in (front ++ entry ∷ []) ≡ writes_in front
writes-more front entry none = rw (filter_map-append accepted_write front (entry ∷ []), none, append-nil (filter_map accepted_write front)) refl

-- One more reply that is an accepted write enters it into the write set.
write-more : (front : List Entry) (entry : Entry) (place : Place) (row : Option (List Cell)) → accepted_write entry ≡ Some (place, row)
    → writes_in (front ++ entry ∷ []) ≡ insert_entry place_cmp (writes_in front) place row
write-more front entry place row some =
    rw (filter_map-append accepted_write front (entry ∷ []), some)
    (fold_push (λ writes (write : Place × Option (List Cell)). insert_entry place_cmp writes write.0 write.1) [] (filter_map accepted_write front) (place, row))

-- One more reply that neither opens nor ends leaves the reads those that the replies tell.
reads-more : (past replies : List Entry) (entry : Entry) → snapshot_in entry.reply.said ≡ None → is_end entry.reply.said ≡ false
    → ReadsAre (reads_after past) replies → ReadsAre (reads_after (past ++ entry ∷ [])) (replies ++ entry ∷ [])
reads-more past replies entry none on h =
    subst (λ (r : Option ReadSet). ReadsAre r (replies ++ entry ∷ [])) (sym (reads-push past entry)) (reads-go_on (reads_after past) replies entry none on h)

-- A reply that neither opens, ends nor writes leaves what is open.
stands-quiet : (who : Who) (past : List Entry) (entry : Entry) (found : Option Transaction) → Stands who past found
    → snapshot_in entry.reply.said ≡ None → is_end entry.reply.said ≡ false → accepted_write entry ≡ None → Stands who (past ++ entry ∷ []) found
stands-quiet who past entry None h a b c = past-idle who past entry h a
stands-quiet who past entry (Some t) h a b c = record {
  ahead = h.ahead;
  replies = h.replies ++ entry ∷ [];
  split = ap (λ es. es ++ entry ∷ []) h.split ∙ append_assoc h.ahead h.replies (entry ∷ []);
  spanned = past-goes_on who past entry t.snapshot h.replies h.spanned a b;
  on = find-more h.replies entry h.on b;
  writes_are = writes-more h.replies entry c ∙ h.writes_are;
  reads_are = reads-more past h.replies entry a b h.reads_are;
}

-- A begin where nothing is open opens a transaction that wrote nothing.
stands-begin : (who : Who) (past : List Entry) (entry : Entry) (session count : ℕ) → Past who past None → entry.reply.said ≡ said.At count
    → Within who (past ++ entry ∷ []) (record { session = session; snapshot = count; own = [] })
stands-begin who past entry session count h is = record {
  ahead = past;
  replies = entry ∷ [];
  split = refl;
  spanned = past-opens who past entry count h (ap snapshot_in is) (ap is_end is);
  on = rw is refl;
  writes_are = rw is refl;
  reads_are = subst (λ (r : Option ReadSet). ReadsAre r (entry ∷ [])) (sym (reads-push past entry)) (reads-begin (reads_after past) entry count is);
}

-- An accepted write is entered into the transaction that is open.
stands-write : (who : Who) (past : List Entry) (entry : Entry) (t : Transaction) (place : Place) (change : Option (List Cell)) → Within who past t → entry.reply.said ≡ said.Accepted
    → accepted_write entry ≡ Some (place, change) → Within who (past ++ entry ∷ []) (record t { own = insert_entry place_cmp t.own place change })
stands-write who past entry t place change h is wrote = record {
  ahead = h.ahead;
  replies = h.replies ++ entry ∷ [];
  split = ap (λ es. es ++ entry ∷ []) h.split ∙ append_assoc h.ahead h.replies (entry ∷ []);
  spanned = past-goes_on who past entry t.snapshot h.replies h.spanned (ap snapshot_in is) (ap is_end is);
  on = find-more h.replies entry h.on (ap is_end is);
  writes_are = write-more h.replies entry place change wrote ∙ ap (λ (own : WriteSet). insert_entry place_cmp own place change) h.writes_are;
  reads_are = reads-more past h.replies entry (ap snapshot_in is) (ap is_end is) h.reads_are;
}

-- An end of the transaction that was open leaves none open.
stands-end : (who : Who) (past : List Entry) (entry : Entry) (t : Transaction) → Within who past t → snapshot_in entry.reply.said ≡ None → is_end entry.reply.said ≡ true
    → Past who (past ++ entry ∷ []) None
stands-end who past entry t h a b = past-ends who past entry t.snapshot h.replies h.ahead h.spanned h.split a b

-- An abort or a commit of nothing shows no snapshot.
pub ended-unopened : (told : Said) (own : WriteSet) → (told ≡ said.Aborted) ⊎ ((told ≡ said.Committed None) × (own ≡ [])) → snapshot_in told ≡ None
ended-unopened told own (inl is) = ap snapshot_in is
ended-unopened told own (inr is) = ap snapshot_in is.0

-- what a session or worker has open behind its own reply
module _ (who : Who) (past : List Entry) (machine after : IsolationMachine) (entry : Entry) (is_who : entry.reply.who ≡ who) where
  -- Behind one's own quiet reply, one's replies have open what the machine has.
  own-quiet : Quiet entry.command entry.reply.said machine after → Stands who past (open_of who machine) → Stands who (past ++ entry ∷ []) (open_of who after)
  own-quiet q h = subst (λ (m : IsolationMachine). Stands who (past ++ entry ∷ []) (open_of who m)) (sym q.same) (stands-quiet who past entry (open_of who machine) h q.opens q.on q.writes)

  -- Behind one's own begin, one's replies have open what the machine has.
  own-opens : (session : ℕ) → who ≡ Session session → transaction_of session machine ≡ None → entry.reply.said ≡ said.At (length machine.history) → after ≡ begun session machine
      → Stands who past (open_of who machine) → Stands who (past ++ entry ∷ []) (open_of who after)
  own-opens session is none said_is is_after h =
      let before : open_of who machine ≡ None = ap (λ (w : Who). open_of w machine) is ∙ none in
      let now : open_of who after ≡ Some (record { session = session; snapshot = length machine.history; own = [] }) =
      ap (λ (w : Who). open_of w after) is ∙ ap (transaction_of session) is_after ∙ at-begun session session machine
      ∙ ap (λ (o : Option Transaction). option_or o (cond (eqb session session) (Some (record { session = session; snapshot = length machine.history; own = [] })) None)) none
      ∙ ap (λ (b : Bool). cond b (Some (record { session = session; snapshot = length machine.history; own = [] })) None) (eqb-itself session) in
      subst (Stands who (past ++ entry ∷ [])) (sym now) (stands-begin who past entry session (length machine.history) (subst (Stands who past) before h) said_is)

  -- Behind one's own write, one's replies have open what the machine has.
  own-writes : (session : ℕ) (t : Transaction) (place : Place) (change : Option (List Cell)) → who ≡ Session session → transaction_of session machine ≡ Some t → entry.reply.said ≡ said.Accepted
      → accepted_write entry ≡ Some (place, change) → after ≡ with_own session place change machine
      → Stands who past (open_of who machine) → Stands who (past ++ entry ∷ []) (open_of who after)
  own-writes session t place change is at said_is wrote is_after h =
      let before : open_of who machine ≡ Some t = ap (λ (w : Who). open_of w machine) is ∙ at in
      let its : t.session ≡ session = its-session session machine.open_transactions t at in
      let now : open_of who after ≡ Some (record t { own = insert_entry place_cmp t.own place change }) =
      ap (λ (w : Who). open_of w after) is ∙ ap (transaction_of session) is_after ∙ at-written session place change session machine
      ∙ ap (option_map (entering session place change)) at
      ∙ ap (λ (b : Bool). Some (cond b (record t { own = insert_entry place_cmp t.own place change }) t)) (ap (λ (s : ℕ). eqb s session) its ∙ eqb-itself session) in
      subst (Stands who (past ++ entry ∷ [])) (sym now) (stands-write who past entry t place change (subst (Stands who past) before h) said_is wrote)

  -- Behind one's own end, one's replies have open what the machine has.
  own-ends : (session : ℕ) (t : Transaction) → who ≡ Session session → transaction_of session machine ≡ Some t → snapshot_in entry.reply.said ≡ None → is_end entry.reply.said ≡ true
      → transaction_of session after ≡ None → Stands who past (open_of who machine) → Stands who (past ++ entry ∷ []) (open_of who after)
  own-ends session t is at a b none h =
      let before : open_of who machine ≡ Some t = ap (λ (w : Who). open_of w machine) is ∙ at in
      let now : open_of who after ≡ None = ap (λ (w : Who). open_of w after) is ∙ none in
      subst (Stands who (past ++ entry ∷ [])) (sym now) (stands-end who past entry t (subst (Stands who past) before h) a b)

  -- The one whose own reply this is, is the session that it is to.
  its-session-is : (session : ℕ) → entry.reply.who ≡ Session session → who ≡ Session session
  its-session-is session h = sym is_who ∙ h

  -- Behind the end of its transaction a session has none open.
  none-after : (session : ℕ) → transaction_of session (without session machine) ≡ None
  none-after session = at-ended session session machine ∙ ap (λ (b : Bool). cond b None (transaction_of session machine)) (eqb-itself session)

  -- An abort or a commit of nothing is an end.
  end-ends : (told : Said) (own : WriteSet) → (told ≡ said.Aborted) ⊎ ((told ≡ said.Committed None) × (own ≡ [])) → is_end told ≡ true
  end-ends told own (inl is) = ap is_end is
  end-ends told own (inr is) = ap is_end is.0

  -- A session's own reply leaves what its replies have open as the machine has it.
  pub own-stands : Change entry.reply.who entry.command entry.reply.said machine after → Stands who past (open_of who machine) → Stands who (past ++ entry ∷ []) (open_of who after)
  own-stands (quiet q) h = own-quiet q h
  own-stands (opens o) h = own-opens o.session (its-session-is o.session o.who_is) o.none o.said_is o.is h
  own-stands (writes w) h = own-writes w.session w.t w.place w.change (its-session-is w.session w.who_is) w.at w.said_is (rw (w.said_is) w.write) w.is h
  own-stands (ends e) h =
      own-ends e.session e.t (its-session-is e.session e.who_is) e.at (ended-unopened entry.reply.said e.t.own e.said_is) (end-ends entry.reply.said e.t.own e.said_is) (ap (transaction_of e.session) e.is ∙ none-after e.session) h
  own-stands (commits c) h =
      own-ends c.session c.t (its-session-is c.session c.who_is) c.at (ap snapshot_in c.said_is) (ap is_end c.said_is) (ap (transaction_of c.session) c.is ∙ none-after c.session) h

-- the thread with one more reply
thread-more : (who : Who) (front : List Entry) (entry : Entry) (b : Bool) → is_same entry.reply.who who ≡ b → thread who (front ++ entry ∷ []) ≡ thread who front ++ cond b (entry ∷ []) []
thread-more who front entry b is = filter-append (λ other. is_same other.reply.who who) front (entry ∷ []) ∙ ap (λ (c : Bool). thread who front ++ cond c (entry ∷ []) []) is

-- One more reply, one's own or not, leaves open what the machine has.
stands-by : (front : List Entry) (machine after : IsolationMachine) (entry : Entry) (who : Who) (b : Bool) → is_same entry.reply.who who ≡ b
    → Change entry.reply.who entry.command entry.reply.said machine after → Stands who (thread who front) (open_of who machine) → Stands who (thread who (front ++ entry ∷ [])) (open_of who after)
stands-by front machine after entry who true is change h =
    subst (λ (es : List Entry). Stands who es (open_of who after)) (sym (thread-more who front entry true is))
    (own-stands who (thread who front) machine after entry (same-is entry.reply.who who is) change h)
stands-by front machine after entry who false is change h =
    subst (λ (es : List Entry). Stands who es (open_of who after)) (sym (thread-more who front entry false is ∙ append-nil (thread who front)))
    (subst (Stands who (thread who front)) (sym (others-open entry.reply.who who entry.command entry.reply.said machine after is change)) h)

-- Before any reply nobody has a transaction open.
nobody : (start : History) (who : Who) → Stands who [] (open_of who (opening_from start))
nobody start (Session session) = past-nil (Session session)
nobody start (Worker worker) = past-nil (Worker worker)

-- Before any reply the lines and the machine say that nobody is in a transaction.
nobody-within : (start : History) (who : Who) → is_within who [] ≡ is_some (open_of who (opening_from start))
nobody-within start (Session session) = refl
nobody-within start (Worker worker) = refl

-- What the replies in front show of the machine of a store that began with some commits.
pub record Shown (start : History) (front : List Entry) (machine : IsolationMachine) : Type 0 where
  pub sane : Sane machine
  pub least : length start ≤ length machine.history
  pub started : Started (length start) machine
  pub commits_are : shown_in commit_in front ≡ range_with_len (length start + 1) (length machine.history - length start)
  pub numbers : list_all (λ shown. nat_le shown (length machine.history)) (shown_in number_shown front) ≡ true
  pub stands : (who : Who) → Stands who (thread who front) (open_of who machine)
  pub agrees : Agree front machine

-- what no replies show of the machine at first
pub shown-opening : (start : History) → Shown start [] (opening_from start)
shown-opening start = record {
  sane = sane-opening start;
  least = omega arith;
  started = λ session t h. absurd (let never : ⊥ = cc in never);
  commits_are = ap (range_with_len (length start + 1)) (let none : 0 ≡ length start - length start = omega arith in none);
  numbers = refl;
  stands = nobody start;
  agrees = nobody-within start;
}

-- One more reply puts its number behind those shown before, if it shows one.
pub shown-more : (shown : Said → Option ℕ) (front : List Entry) (entry : Entry)
    → shown_in shown (front ++ entry ∷ []) ≡ shown_in shown front ++ cons_option (shown entry.reply.said) []
shown-more shown front entry = filter_map-append (λ other. shown other.reply.said) front (entry ∷ [])

-- A number that is at most a count, or none, is so as a list.
one-number : (count : ℕ) (o : Option ℕ) → option_map_or (λ shown. nat_le shown count) o true ≡ true → list_all (λ shown. nat_le shown count) (cons_option o []) ≡ true
one-number count None h = refl
one-number count (Some n) h = rw h refl

-- One more reply whose number is at most a count leaves all numbers so.
numbers-more : (count : ℕ) (front : List Entry) (entry : Entry) → list_all (λ shown. nat_le shown count) (shown_in number_shown front) ≡ true
    → shows_at_most count entry.reply.said ≡ true → list_all (λ shown. nat_le shown count) (shown_in number_shown (front ++ entry ∷ [])) ≡ true
numbers-more count front entry h k =
    rw (shown-more number_shown front entry)
    (list_all-append (λ shown. nat_le shown count) (shown_in number_shown front) (cons_option (number_shown entry.reply.said) []) ∙ (rw (h, one-number count (number_shown entry.reply.said) k) refl))

-- Numbers that are at most one number are at most the next one.
all-more : (n : ℕ) (xs : List ℕ) → list_all (λ x. nat_le x n) xs ≡ true → list_all (λ x. nat_le x (n + 1)) xs ≡ true
all-more n [] h = refl
all-more n (x ∷ xs) h =
    let parts = and_parts (nat_le x n) (list_all (λ y. nat_le y n) xs) h in
    let first : nat_le x n ≡ true = parts.0 in
    let more : nat_le x (n + 1) ≡ true = grind (arith, nat_tests) in
    and_from (nat_le x (n + 1)) (list_all (λ y. nat_le y (n + 1)) xs) more (all-more n xs parts.1)

module _ (start : History) (front : List Entry) (machine after : IsolationMachine) (entry : Entry) (h : Shown start front machine) where
  -- Behind one more reply, everyone's replies have open what the machine has.
  all-stand : Change entry.reply.who entry.command entry.reply.said machine after → (who : Who) → Stands who (thread who (front ++ entry ∷ [])) (open_of who after)
  all-stand change who = stands-by front machine after entry who (is_same entry.reply.who who) refl change (h.stands who)

  -- Behind one more reply, the lines say who is in a transaction as the machine does.
  all-agree : Change entry.reply.who entry.command entry.reply.said machine after → Agree (front ++ entry ∷ []) after
  all-agree change who = agree-by front machine after entry h.agrees change who (is_same entry.reply.who who) refl

  -- a reply that leaves the commits
  uncommitted : (told : Said) → entry.reply.said ≡ told → commit_in told ≡ None → after.history ≡ machine.history → shows_at_most (length machine.history) told ≡ true → Sane after → Started (length start) after
      → ((who : Who) → Stands who (thread who (front ++ entry ∷ [])) (open_of who after)) → Agree (front ++ entry ∷ []) after → Shown start (front ++ entry ∷ []) after
  uncommitted told is none same shown sane started stand agree = record {
    least = subst (λ (history : History). length start ≤ length history) (sym same) h.least;
    started = started;
    agrees = agree;
    sane = sane;
    commits_are = shown-more commit_in front entry ∙ ap (λ (o : Option ℕ). shown_in commit_in front ++ cons_option o []) (ap commit_in is ∙ none) ∙ append-nil (shown_in commit_in front) ∙ h.commits_are
        ∙ ap (λ (history : History). range_with_len (length start + 1) (length history - length start)) (sym same);
    numbers = subst (λ (history : History). list_all (λ n. nat_le n (length history)) (shown_in number_shown (front ++ entry ∷ [])) ≡ true) (sym same)
        (numbers-more (length machine.history) front entry h.numbers (subst (λ (s : Said). shows_at_most (length machine.history) s ≡ true) (sym is) shown));
    stands = stand;
  }

  -- Each number is tested to be at most itself.
  itself-most : (n : ℕ) → nat_le n n ≡ true
  itself-most n = grind (arith, nat_tests)

  -- An abort or a commit of nothing shows no commit, and no number above the commits.
  end-shows : (told : Said) (own : WriteSet) → (told ≡ said.Aborted) ⊎ ((told ≡ said.Committed None) × (own ≡ [])) → (commit_in told ≡ None) × (shows_at_most (length machine.history) told ≡ true)
  end-shows told own (inl is) = (ap commit_in is, ap (shows_at_most (length machine.history)) is)
  end-shows told own (inr is) = (ap commit_in is.0, ap (shows_at_most (length machine.history)) is.0)

  -- One more reply shows what holds of the machine behind it.
  pub shown-step : Change entry.reply.who entry.command entry.reply.said machine after → Shown start (front ++ entry ∷ []) after
  shown-step (quiet q) = uncommitted entry.reply.said refl q.commit (ap (λ (m : IsolationMachine). m.history) q.same) q.shown (subst Sane (sym q.same) h.sane)
      (subst (Started (length start)) (sym q.same) h.started) (all-stand (quiet q)) (all-agree (quiet q))
  shown-step (opens o) =
      uncommitted (said.At (length machine.history)) o.said_is refl (ap (λ (m : IsolationMachine). m.history) o.is) (itself-most (length machine.history))
      (subst Sane (sym o.is) (sane-begin o.session machine h.sane o.none))
      (subst (Started (length start)) (sym o.is) (started-begin (length start) o.session machine h.least h.started)) (all-stand (opens o)) (all-agree (opens o))
  shown-step (writes w) =
      uncommitted said.Accepted w.said_is refl (ap (λ (m : IsolationMachine). m.history) w.is) refl
      (subst Sane (sym w.is) (sane-write w.session w.place w.change machine w.t h.sane w.at
      (subst (λ (s : ℕ). Free s w.place machine.open_transactions) (its-session w.session machine.open_transactions w.t w.at) (free-none w.t.session w.place machine.open_transactions w.clear.rival)) w.clear.last))
      (subst (Started (length start)) (sym w.is) (started-write (length start) w.session w.place w.change machine h.started)) (all-stand (writes w)) (all-agree (writes w))
  shown-step (ends e) =
      let shows = end-shows entry.reply.said e.t.own e.said_is in
      uncommitted entry.reply.said refl shows.0 (ap (λ (m : IsolationMachine). m.history) e.is) shows.1 (subst Sane (sym e.is) (sane-end e.session machine h.sane))
      (subst (Started (length start)) (sym e.is) (started-end (length start) e.session machine h.started)) (all-stand (ends e)) (all-agree (ends e))
  shown-step (commits c) =
      let longer : length after.history ≡ length machine.history + 1 = ap (λ (m : IsolationMachine). length m.history) c.is ∙ length_push machine.history c.t.own in
      let its : commit_in entry.reply.said ≡ Some (length machine.history + 1) = ap commit_in c.said_is in
      let next_is : length machine.history + 1 ≡ length start + 1 + (length machine.history - length start) = omega (arith, h.least) in
      let count_is : length machine.history - length start + 1 ≡ length after.history - length start = omega (arith, longer, h.least) in
      let low : shows_at_most (length machine.history + 1) entry.reply.said ≡ true = ap (shows_at_most (length machine.history + 1)) c.said_is ∙ itself-most (length machine.history + 1) in
      record {
        sane = subst Sane (sym c.is) (sane-commit c.session machine c.t h.sane c.at);
        least = omega (arith, longer, h.least);
        started = subst (Started (length start)) (sym c.is) (started-end (length start) c.session machine h.started);
        commits_are = shown-more commit_in front entry ∙ ap (λ (o : Option ℕ). shown_in commit_in front ++ cons_option o []) its ∙ ap (λ (xs : List ℕ). xs ++ (length machine.history + 1) ∷ []) h.commits_are
            ∙ ap (λ (n : ℕ). range_with_len (length start + 1) (length machine.history - length start) ++ n ∷ []) next_is
            ∙ sym (range-next (length start + 1) (length machine.history - length start)) ∙ ap (range_with_len (length start + 1)) count_is;
        numbers = subst (λ (n : ℕ). list_all (λ m. nat_le m n) (shown_in number_shown (front ++ entry ∷ [])) ≡ true) (sym longer)
            (numbers-more (length machine.history + 1) front entry (all-more (length machine.history) (shown_in number_shown front) h.numbers) low);
        stands = all-stand (commits c);
        agrees = all-agree (commits c);
      }
