-- What the replies to commits tell of reads: a stale one names a read that a later commit met, and
-- where a commit stands none did.
use Rattle.std.proofs.Common.{◌≡◌, ℕ, ◌+◌, Bool, true, false, cond, ◌&&◌, ◌||◌, not, nat_le, List, [], ◌∷◌, ◌++◌, length, Option, None, Some, refl, sym, ap, ◌∙◌, subst, append-nil, inl, inr}
use Rattle.std.specs.Prelude.{is_some}
use Rattle.std.specs.List.{list_all, list_any, cons_option}
use Rattle.std.proofs.lemmas.Bool.{or_left, or_right}
use Rattle.std.proofs.lemmas.List.Folds.{list_any-append}
use Rattle.std.proofs.lemmas.List.Elements.{All-weaker, filter_map-append}
use Rattle.cell_model.specs.declared.cell.Cell.{Cell}
use Rattle.cell_model.specs.declared.table.TableDecl.{TableDecl}
use Rattle.isolation_spec.specs.Checked.{step_with, stale_of, stale_read}
use Rattle.isolation_spec.specs.Contents.{History, WriteSet, at_place, place_at, contents_of, contents_between, numbers_between}
use Rattle.isolation_spec.specs.Machine.{IsolationMachine, Transaction, transaction_of, seen_rows, step_of, commit, told_total}
use Rattle.isolation_spec.specs.Reads.{ReadSet, meets, reads_in, last_meeting}
use Rattle.isolation_spec.specs.Store.{Outcome, Answered, Freezing, Full, Memory, Allows}
use Rattle.isolation_spec.specs.declared.command.Act.{Act}
use Rattle.isolation_spec.specs.declared.command.Act.TheVariants as act
use Rattle.isolation_spec.specs.declared.command.Answer.{Answer}
use Rattle.isolation_spec.specs.declared.command.Answer.TheVariants as answer
use Rattle.isolation_spec.specs.declared.place.Place.{Place}
use Rattle.isolation_spec.specs.declared.read.Read.{Read}
use Rattle.isolation_spec.specs.declared.read.Read.TheVariants as read
use Rattle.isolation_laws.proofs.Checked.{commit-stands, commit-refused, stale-open}
use Rattle.isolation_laws.proofs.Later.{last-commit}
use Rattle.workload_spec.specs.declared.command.Command.{Command}
use Rattle.workload_spec.specs.declared.command.Command.TheVariants as command
use Rattle.workload_spec.specs.declared.reply.Who.{Who}
use Rattle.workload_spec.specs.declared.reply.Who.TheVariants.{Session, Worker}
use Rattle.workload_spec.specs.declared.reply.Said.{Said}
use Rattle.workload_spec.specs.declared.reply.Said.TheVariants as said
use Rattle.outcome_spec.specs.Entries.{Entry, thread, before, snapshot_in, is_end}
use Rattle.outcome_spec.specs.Runs.{Run, Span, up_to_end, accepted_write, write_of}
use Rattle.outcome_spec.specs.Answers.{is_acceptable}
use Rattle.outcome_spec.specs.Stale.{is_checked, is_read, read_of, read_told, reads_told, meeting, names_meeting, stale_read_holds, reads_stand, stale_holds, reads_last, reads_after, begins_checked}
use Rattle.timeline_spec.specs.Timeline.{open_of, TimelineFrom, said_of, stale_of as stale_named, Tells, request_of, TakesAs, Aside, ExportsBy, is_of_upkeep}
use Rattle.timeline_laws.proofs.Tests.{or-false, all-four}
use Rattle.timeline_laws.proofs.Unique.{Only}
use Rattle.timeline_laws.proofs.ReadSets.{ReadsAre, opens_checked, read-itself, told-pass}
use Rattle.timeline_laws.proofs.Refused.{Refused, refused-is, unmet-reads, meets-none}
use Rattle.timeline_laws.proofs.Steps.{Verdict, accepted, rival, later, refused, limited, memory, takes-verdict, asks}
use Rattle.timeline_laws.proofs.Walk.{Within}
use Rattle.timeline_laws.proofs.Cuts.{Cut}
use Rattle.timeline_laws.proofs.Histories.{run, last}
use Rattle.timeline_laws.proofs.Numbers.{wrote-by}
use Rattle.timeline_laws.proofs.Views.{began-is, belongs, before-is, bound-is, by-transaction}
use Rattle.timeline_laws.proofs.Rivals.{last-named, first-number}

-- ---- replies that tell of no commit

-- the reply is one of a commit, stale or not
abbrev tells_last : Said → Bool
tells_last (said.Stale what number) = true
tells_last (said.Committed number) = true
tells_last _ = false

-- A reply of no commit holds.
untold-holds : (all : Run) (u : Span) (entry : Entry) (told : Said) → tells_last told ≡ false → stale_holds all u entry told ≡ true
untold-holds all u entry (said.Stale what number) h = absurd (let never : ⊥ = cc in never)
untold-holds all u entry (said.Committed number) h = absurd (let never : ⊥ = cc in never)
untold-holds all u entry _ h = refl

-- Where the machine's answer tells of no commit, no outcome does.
outcome-untold : (machine : IsolationMachine) (reads : Option ReadSet) (session : ℕ) (act : Act) (own : Answer) (told : Said) (after : IsolationMachine)
    → (step_with machine reads (asks session act)).0 ≡ own → tells_last (said_of own) ≡ false → (outcome : Outcome) → Tells outcome told → Allows machine reads (asks session act) outcome after
    → tells_last told ≡ false
outcome-untold machine reads session act own told after is free (Answered a) tells allows =
    let e : a ≡ own = sym (ap (λ (p : Answer × IsolationMachine). p.0) allows) ∙ is in ap tells_last (tells ∙ ap said_of e) ∙ free
outcome-untold machine reads session act own told after is free Freezing tells allows = ap tells_last tells.3
outcome-untold machine reads session act own told after is free Full tells allows = ap tells_last tells
outcome-untold machine reads session act own told after is free Memory tells allows = ap tells_last tells

-- The answer to a get tells of no commit.
got-untold : (o : Option (List Cell)) → tells_last (said_of (answer.Found o)) ≡ false
got-untold None = refl
got-untold (Some row) = refl

-- Nor does what a verdict on a write tells.
verdict-untold : (machine : IsolationMachine) (o : Transaction) (place : Place) (acceptable : Bool) (told : Said) → Verdict machine o place acceptable told → tells_last told ≡ false
verdict-untold machine o place acceptable told (accepted clear can is) = ap tells_last is
verdict-untold machine o place acceptable told (rival r found is) = ap tells_last is
verdict-untold machine o place acceptable told (later k none found is) = ap tells_last is
verdict-untold machine o place acceptable told (refused clear can (inl is)) = ap tells_last is
verdict-untold machine o place acceptable told (refused clear can (inr is)) = ap tells_last is
verdict-untold machine o place acceptable told (limited clear can (inl is)) = ap tells_last is
verdict-untold machine o place acceptable told (limited clear can (inr is)) = ap tells_last is.3
verdict-untold machine o place acceptable told (memory is) = ap tells_last is

-- Nor what upkeep tells.
upkeep-untold : (told : Said) → is_of_upkeep told ≡ true → tells_last told ≡ false
upkeep-untold (said.Stale what number) h = absurd (let never : ⊥ = cc in never)
upkeep-untold (said.Committed number) h = absurd (let never : ⊥ = cc in never)
upkeep-untold _ h = refl

-- Nor what an export tells.
export-untold : (tables : List TableDecl) (front : List Entry) (machine : IsolationMachine) (found : Option Transaction) (table : ℕ) (told : Said) → ExportsBy tables front machine found table told
    → tells_last told ≡ false
export-untold tables front machine None table told h = ap tells_last h
export-untold tables front machine (Some o) table (said.Stale what number) h = absurd h
export-untold tables front machine (Some o) table (said.Committed number) h = absurd h
export-untold tables front machine (Some o) table _ h = refl

-- ---- commits

-- a read that is printed is named again
named-back : (what : Read) → read_of (stale_named what) ≡ what
named-back (read.Key table key) = refl
named-back (read.Table table) = refl
named-back (read.Range table low high) = refl

-- one of some reads is among them
pub one-among : (what : Read) (front rest : List Read) → list_any (is_read what) (front ++ what ∷ rest) ≡ true
one-among what front rest =
    list_any-append (is_read what) front (what ∷ rest)
    ∙ or_right (list_any (is_read what) front) (list_any (is_read what) (what ∷ rest)) (or_left (is_read what what) (list_any (is_read what) rest) (read-itself what))

module _ (start : History) (tables : List TableDecl) (printed timeline : List Entry) (t : TimelineFrom start tables printed timeline) (entry : Entry) (only : Only printed entry)
    (cut : Cut start tables timeline (last start tables printed timeline t) entry) (o : Transaction) (at : open_of entry.reply.who cut.machine ≡ Some o) (within : Within entry.reply.who (thread entry.reply.who cut.front) o) where
  -- The run that is read from all printed replies.
  abbrev all_run : Run
  all_run = run start tables printed timeline t

  -- The transaction that the reply belongs to.
  abbrev its_own : Span
  its_own = belongs start tables printed timeline t entry only cut o within

  -- The read set that its replies in front tell.
  abbrev its_reads : Option ReadSet
  its_reads = reads_after (thread entry.reply.who cut.front)

  -- Its replies before this one are those in front.
  in-front : before its_own.replies entry ≡ within.replies
  in-front = before-is start tables printed timeline t entry only cut o within

  -- A stale commit may be named so.
  stale-named : (stale : Read × ℕ) → Refused cut.machine o its_reads stale → stale_read_holds all_run its_own entry stale.0 stale.1 ≡ true
  stale-named stale r =
      let its = subst (λ (reads : Option ReadSet). ReadsAre reads within.replies) r.reads_are within.reads_are in
      let checked : is_checked its_own ≡ true =
      list_any-append opens_checked within.replies (up_to_end (entry ∷ thread entry.reply.who cut.rest))
      ∙ or_left (list_any opens_checked within.replies) (list_any opens_checked (up_to_end (entry ∷ thread entry.reply.who cut.rest))) its.0 in
      let wrote : list_any (λ other. is_some (accepted_write other)) (before its_own.replies entry) ≡ true =
      ap (list_any (λ (other : Entry). is_some (accepted_write other))) in-front
      ∙ wrote-by within.replies (list_any (λ other. is_some (accepted_write other)) within.replies) refl r.first r.rest (within.writes_are ∙ r.wrote) in
      let told : list_any (is_read stale.0) (reads_told (before its_own.replies entry)) ≡ true =
      ap (λ (es : List Entry). list_any (is_read stale.0) (reads_told es)) in-front ∙ sym (its.1 stale.0) ∙ ap (list_any (is_read stale.0)) r.found.among ∙ one-among stale.0 r.found.front r.found.rest in
      let named : names_meeting all_run its_own stale.0 entry stale.1 ≡ true =
      last-named start tables printed timeline t entry only cut its_own (meets stale.0) (meets-none stale.0) stale.1 (began-is start tables printed timeline t entry only cut o at) (bound-is start tables printed timeline t entry only cut o at)
      (sym (last-commit cut.machine.history o.snapshot (meets stale.0)) ∙ r.found.last) in
      all-four (is_checked its_own) (list_any (λ other. is_some (accepted_write other)) (before its_own.replies entry)) (list_any (is_read stale.0) (reads_told (before its_own.replies entry)))
      (names_meeting all_run its_own stale.0 entry stale.1) checked wrote told named

  -- The number that a commit gets here.
  abbrev next : ℕ
  next = length cut.machine.history + 1

  -- A read that no commit behind the snapshot met is met by none below the next number.
  unmet-stands : (what : Read) → last_meeting cut.machine.history o.snapshot what ≡ None → list_all (nat_le next) (meeting all_run its_own what) ≡ true
  unmet-stands what none =
      first-number start tables printed timeline t its_own (meets what) (meets-none what) cut.machine.history cut.grows (sym (last-commit cut.machine.history o.snapshot (meets what)) ∙ none)

  module _ (asked_is : entry.command ≡ command.Commit) (number : Option ℕ) (said_is : entry.reply.said ≡ said.Committed number) where
    -- A commit is the last of its transaction's replies.
    replies-are : its_own.replies ≡ within.replies ++ entry ∷ []
    replies-are = ap (λ (told : Said). within.replies ++ cond (is_end told) (entry ∷ []) (entry ∷ up_to_end (thread entry.reply.who cut.rest))) said_is

    -- It opens nothing.
    checked-are : is_checked its_own ≡ list_any opens_checked within.replies
    checked-are =
        ap (list_any opens_checked) replies-are ∙ list_any-append opens_checked within.replies (entry ∷ [])
        ∙ ap (λ (asked : Command). list_any opens_checked within.replies || ((begins_checked asked && is_some (snapshot_in entry.reply.said)) || false)) asked_is
        ∙ or-false (list_any opens_checked within.replies)

    -- Nor does it tell a read.
    told-are : reads_told its_own.replies ≡ reads_told within.replies
    told-are =
        ap reads_told replies-are ∙ filter_map-append (λ (e : Entry). read_told e.command e.reply.said) within.replies (entry ∷ [])
        ∙ ap (λ (told : Said). reads_told within.replies ++ cons_option (read_told entry.command told) []) said_is ∙ append-nil (reads_told within.replies)

    -- Where its reads stand, so does the commit.
    stands-by : (reads : Option ReadSet) (first : Place × Option (List Cell)) (rest : WriteSet) → stale_read cut.machine o (first ∷ rest) reads ≡ None → ReadsAre reads within.replies
        → (not (is_checked its_own) || reads_stand all_run its_own next) ≡ true
    stands-by None first rest none its = or_left (not (is_checked its_own)) (reads_stand all_run its_own next) (ap not (checked-are ∙ its))
    stands-by (Some set) first rest none its =
        or_right (not (is_checked its_own)) (reads_stand all_run its_own next)
        (ap (list_all (λ what. list_all (nat_le next) (meeting all_run its_own what))) told-are
        ∙ told-pass (λ what. list_all (nat_le next) (meeting all_run its_own what)) (reads_in set) (reads_told within.replies)
        (All-weaker (λ what. last_meeting cut.machine.history o.snapshot what ≡ None) (λ what. list_all (nat_le next) (meeting all_run its_own what) ≡ true) unmet-stands (reads_in set)
        (unmet-reads cut.machine o first rest set none))
        (λ what is. its.1 what ∙ is))

  module _ (s : ℕ) (asked_is : entry.command ≡ command.Commit) (open_is : transaction_of s cut.machine ≡ Some o) where
    -- A commit that the machine makes holds.
    made-holds : (own : WriteSet) → o.own ≡ own → stale_read cut.machine o o.own its_reads ≡ None → entry.reply.said ≡ said_of (commit cut.machine o own).0
        → stale_holds all_run its_own entry entry.reply.said ≡ true
    made-holds [] own none is = ap (stale_holds all_run its_own entry) is
    made-holds (first ∷ rest) own none is =
        ap (stale_holds all_run its_own entry) is
        ∙ stands-by asked_is (Some next) is its_reads first rest (ap (λ (w : WriteSet). stale_read cut.machine o w its_reads) (sym own) ∙ none) within.reads_are

    -- What a commit answers holds, stale or not.
    answered-holds : (stale : Option (Read × ℕ)) (a : Answer) → stale_of cut.machine its_reads s act.Commit ≡ stale → entry.reply.said ≡ said_of a
        → step_with cut.machine its_reads (asks s act.Commit) ≡ (a, cut.after) → stale_holds all_run its_own entry entry.reply.said ≡ true
    answered-holds None a is told allows =
        let same : a ≡ (commit cut.machine o o.own).0 =
        sym (ap (λ (p : Answer × IsolationMachine). p.0) allows) ∙ ap (λ (p : Answer × IsolationMachine). p.0) (commit-stands cut.machine its_reads s is)
        ∙ ap (λ (f : Option Transaction). (step_of cut.machine (asks s act.Commit) f).0) open_is in
        made-holds o.own refl (sym (stale-open cut.machine its_reads s o open_is) ∙ is) (told ∙ ap said_of same)
    answered-holds (Some stale) a is told allows =
        let same : a ≡ answer.Stale stale.0 stale.1 =
        sym (ap (λ (p : Answer × IsolationMachine). p.0) allows) ∙ ap (λ (p : Answer × IsolationMachine). p.0) (commit-refused cut.machine its_reads s stale is) in
        ap (stale_holds all_run its_own entry) (told ∙ ap said_of same)
        ∙ ap (λ (what : Read). stale_read_holds all_run its_own entry what stale.1) (named-back stale.0)
        ∙ stale-named stale (refused-is cut.machine o o.own its_reads stale refl (sym (stale-open cut.machine its_reads s o open_is) ∙ is))

    -- What a commit is told holds.
    commit-holds : (outcome : Outcome) → Tells outcome entry.reply.said → Allows cut.machine its_reads (asks s act.Commit) outcome cut.after → stale_holds all_run its_own entry entry.reply.said ≡ true
    commit-holds (Answered a) tells allows = answered-holds (stale_of cut.machine its_reads s act.Commit) a refl tells allows
    commit-holds Freezing tells allows = ap (stale_holds all_run its_own entry) tells.3
    commit-holds Full tells allows = ap (stale_holds all_run its_own entry) tells
    commit-holds Memory tells allows = ap (stale_holds all_run its_own entry) tells

  -- Where a reply tells of no commit, it holds.
  untold : tells_last entry.reply.said ≡ false → stale_holds all_run its_own entry entry.reply.said ≡ true
  untold h = untold-holds all_run its_own entry entry.reply.said h

  -- So does what the machine answers to an act that is no commit.
  act-holds : (s : ℕ) (act : Act) (own : Answer) → (step_with cut.machine its_reads (asks s act)).0 ≡ own → tells_last (said_of own) ≡ false
      → (outcome : Outcome) → Tells outcome entry.reply.said → Allows cut.machine its_reads (asks s act) outcome cut.after → stale_holds all_run its_own entry entry.reply.said ≡ true
  act-holds s act own is free outcome tells allows = untold (outcome-untold cut.machine its_reads s act own entry.reply.said cut.after is free outcome tells allows)

  -- So does what a write is told.
  write-holds : (s : ℕ) (asked : Command) (write : Place × Option (List Cell)) → entry.command ≡ asked → transaction_of s cut.machine ≡ Some o → write_of asked ≡ Some write
      → TakesAs tables cut.front cut.machine entry cut.after (request_of (Session s) asked) → stale_holds all_run its_own entry entry.reply.said ≡ true
  write-holds s asked write is open_is wrote h =
      untold (verdict-untold cut.machine o write.0 (is_acceptable (seen_rows cut.machine o) asked) entry.reply.said
      (takes-verdict tables cut.front cut.machine s o asked entry.reply.said cut.after entry write.0 write.1 is refl open_is wrote h))

  -- What a reply in a transaction tells of its reads holds.
  takes-last : (who : Who) (asked : Command) → entry.command ≡ asked → open_of who cut.machine ≡ Some o → TakesAs tables cut.front cut.machine entry cut.after (request_of who asked)
      → stale_holds all_run its_own entry entry.reply.said ≡ true
  takes-last (Worker worker) asked is open_is h = absurd (let never : ⊥ = cc in never)
  takes-last (Session s) (command.Begin checked) is open_is h =
      act-holds s (act.Begin checked) answer.InTransaction (ap (λ (f : Option Transaction). (step_of cut.machine (asks s (act.Begin checked)) f).0) open_is) refl h.outcome h.tells h.allows
  takes-last (Session s) (command.Get table key) is open_is h =
      act-holds s (act.Get table key) (answer.Found (at_place (seen_rows cut.machine o) (place_at table key))) (ap (λ (f : Option Transaction). (step_of cut.machine (asks s (act.Get table key)) f).0) open_is)
      (got-untold (at_place (seen_rows cut.machine o) (place_at table key))) h.outcome h.tells h.allows
  takes-last (Session s) (command.Scan table) is open_is h =
      act-holds s (act.Scan table) (answer.Rows (contents_of table (seen_rows cut.machine o))) (ap (λ (f : Option Transaction). (step_of cut.machine (asks s (act.Scan table)) f).0) open_is) refl h.outcome h.tells h.allows
  takes-last (Session s) (command.Range table low high) is open_is h =
      act-holds s (act.Range table low high) (answer.Rows (contents_between table low high (seen_rows cut.machine o)))
      (ap (λ (f : Option Transaction). (step_of cut.machine (asks s (act.Range table low high)) f).0) open_is) refl h.outcome h.tells h.allows
  takes-last (Session s) (command.Total table column low high) is open_is h =
      act-holds s (act.Total table column low high) (told_total (numbers_between column low high (contents_of table (seen_rows cut.machine o))))
      (ap (λ (f : Option Transaction). (step_of cut.machine (asks s (act.Total table column low high)) f).0) open_is) refl h.outcome h.tells h.allows
  takes-last (Session s) (command.Insert table row) is open_is h = write-holds s (command.Insert table row) _ is open_is refl h
  takes-last (Session s) (command.Update table row) is open_is h = write-holds s (command.Update table row) _ is open_is refl h
  takes-last (Session s) (command.Delete table key) is open_is h = write-holds s (command.Delete table key) _ is open_is refl h
  takes-last (Session s) command.Commit is open_is h = commit-holds s is open_is h.outcome h.tells h.allows
  takes-last (Session s) command.Abort is open_is h =
      act-holds s act.Abort answer.Aborted (ap (λ (f : Option Transaction). (step_of cut.machine (asks s act.Abort) f).0) open_is) refl h.outcome h.tells h.allows
  takes-last (Session s) (command.Export table) is open_is h =
      let aside : Aside tables cut.front cut.machine entry.reply.who (command.Export table) entry.reply.said = subst (λ (c : Command). Aside tables cut.front cut.machine entry.reply.who c entry.reply.said) is h.0 in
      untold (export-untold tables cut.front cut.machine (open_of entry.reply.who cut.machine) table entry.reply.said aside)
  takes-last (Session s) asked is open_is h =
      let aside : Aside tables cut.front cut.machine entry.reply.who asked entry.reply.said = subst (λ (c : Command). Aside tables cut.front cut.machine entry.reply.who c entry.reply.said) is h.0 in
      untold (upkeep-untold entry.reply.said aside.1)

module _ (start : History) (tables : List TableDecl) (printed timeline : List Entry) (t : TimelineFrom start tables printed timeline) (entry : Entry) (only : Only printed entry)
    (cut : Cut start tables timeline (last start tables printed timeline t) entry) where
  -- Reads of checked transactions.
  pub reads-last : reads_last (run start tables printed timeline t) entry ≡ true
  reads-last =
      by-transaction start tables printed timeline t entry only cut (λ u. stale_holds (run start tables printed timeline t) u entry entry.reply.said)
      (λ o at within. takes-last start tables printed timeline t entry only cut o at within entry.reply.who entry.command refl at cut.takes)
      (λ u checked is_asked is. ap (stale_holds (run start tables printed timeline t) u entry) is)
      (open_of entry.reply.who cut.machine) refl cut.change
