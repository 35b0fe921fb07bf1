-- Whether a session is in a transaction, by the lines and by the machine.
use Rattle.std.proofs.Common.{◌≡◌, ℕ, Bool, true, false, cond, ◌||◌, List, [], ◌∷◌, ◌++◌, map, Option, None, Some, refl, sym, ap, ◌∙◌, subst, ◌⊎◌, inl, inr, append_assoc, not}
use Rattle.std.specs.Prelude.{is_some, fold, length, IsSome}
use Rattle.std.proofs.lemmas.List.Elements.{filter-append}
use Rattle.cell_model.specs.declared.table.TableDecl.{TableDecl}
use Rattle.cell_model.specs.declared.cell.Cell.{Cell}
use Rattle.isolation_spec.specs.Commits.{AreCommitsOf}
use Rattle.isolation_spec.specs.Contents.{History, WriteSet, at_place, place_at, contents_of, contents_between, numbers_between}
use Rattle.isolation_spec.specs.Checked.{step_with, stale_of}
use Rattle.isolation_spec.specs.Reads.{ReadSet}
use Rattle.isolation_spec.specs.declared.read.Read.{Read}
use Rattle.isolation_laws.proofs.Checked.{commit-stands, commit-refused, stale-closed}
use Rattle.isolation_spec.specs.declared.place.Place.{Place}
use Rattle.isolation_spec.specs.declared.command.Act.{Act}
use Rattle.isolation_spec.specs.declared.command.Act.TheVariants as act
use Rattle.isolation_spec.specs.declared.command.Answer.{Answer}
use Rattle.isolation_spec.specs.declared.command.Answer.TheVariants as answer
use Rattle.isolation_spec.specs.Store.{Outcome, Answered, Freezing, Full, Memory, Allows}
use Rattle.isolation_spec.specs.Machine.{IsolationMachine, transaction_of, seen_rows, step, step_of, commit, told_total, Transaction}
use Rattle.workload_spec.specs.declared.command.Command.{Command}
use Rattle.workload_spec.specs.declared.command.Command.TheVariants as command
use Rattle.workload_spec.specs.declared.reply.Who.{Who}
use Rattle.workload_spec.specs.declared.reply.Who.TheVariants.{Session, Worker}
use Rattle.workload_spec.specs.declared.reply.Said.{Said}
use Rattle.workload_spec.specs.declared.reply.Said.TheVariants as said
use Rattle.outcome_spec.specs.Entries.{Entry, is_same}
use Rattle.outcome_spec.specs.Stale.{reads_after}
use Rattle.outcome_spec.specs.Forms.{Due, dues_of, command_shown, entry_behind, is_within, is_worker, within_behind, is_upkeep}
use Rattle.outcome_spec.specs.Answers.{is_acceptable}
use Rattle.timeline_spec.specs.Timeline.{open_of, said_of, Tells, request_of, TakesAs, Takes, Aside, ExportsBy, ExportsWithin, is_of_upkeep, Each, InOrder, TimelineFrom}
use Rattle.outcome_spec.specs.Entries.{thread}
use Rattle.timeline_spec.specs.Printed.{printed_from, printed_of}
use Rattle.timeline_spec.specs.Forms.{IsBeginReply, IsReplyWithin, IsReplyWithout, MayStand, AllMayStand}
use Rattle.timeline_laws.proofs.Stated.{AreReplies, IsReply, RowsFit}
use Rattle.timeline_laws.proofs.Kept.{AreNamed, printed-rows-fit}
use Rattle.timeline_laws.proofs.Placed.{commits-written}
use Rattle.timeline_laws.proofs.Tests.{or-last}
use Rattle.workload_spec.specs.Valid.{is_command}
use Rattle.workload_spec.specs.declared.script.Script.{Script}
use Rattle.timeline_laws.proofs.Order.{Each-filter, same-itself}
use Rattle.timeline_laws.proofs.Steps.{Verdict, accepted, rival, later, refused, limited, memory, takes-verdict, asks}
use Rattle.outcome_spec.specs.Entries.{is_reply}
use Rattle.timeline_laws.proofs.Unique.{Only, itself, none-in_front}
use Rattle.timeline_laws.proofs.Belongs.{own-thread, its-order, timeline-only}
use Rattle.timeline_laws.proofs.Histories.{last, at-cut, all-facts}
use Rattle.timeline_laws.proofs.Printing.{printed-in-order}
use Rattle.timeline_laws.proofs.Cuts.{Cut}

-- ---- what is told in a transaction, and without one

-- the reply is told without a transaction
abbrev outside : Said → Bool
outside (said.At number) = true
outside said.NoTransaction = true
outside _ = false

-- Where the machine's answer is not told without a transaction, no outcome is.
outcome-outside : (machine : IsolationMachine) (reads : Option ReadSet) (session : ℕ) (act : Act) (own : Answer) (told : Said) (after : IsolationMachine)
    → (step_with machine reads (asks session act)).0 ≡ own → outside (said_of own) ≡ false → (outcome : Outcome) → Tells outcome told → Allows machine reads (asks session act) outcome after → outside told ≡ false
outcome-outside machine reads session act own told after is free (Answered a) tells allows =
    let e : a ≡ own = sym (ap (λ (p : Answer × IsolationMachine). p.0) allows) ∙ is in ap outside (tells ∙ ap said_of e) ∙ free
outcome-outside machine reads session act own told after is free Freezing tells allows = ap outside tells.3
outcome-outside machine reads session act own told after is free Full tells allows = ap outside tells
outcome-outside machine reads session act own told after is free Memory tells allows = ap outside tells

-- What a get finds is not told without a transaction.
got-inside : (o : Option (List Cell)) → outside (said_of (answer.Found o)) ≡ false
got-inside None = refl
got-inside (Some row) = refl

-- The answer to a commit is not told without a transaction.
commit-inside : (machine : IsolationMachine) (o : Transaction) (own : WriteSet) → outside (said_of (commit machine o own).0) ≡ false
commit-inside machine o [] = refl
commit-inside machine o (first ∷ rest) = refl

-- Nor is the answer to a commit that hands in reads, stale or not.
handed-inside : (machine : IsolationMachine) (reads : Option ReadSet) (session : ℕ) (o : Transaction) (stale : Option (Read × ℕ)) → transaction_of session machine ≡ Some o
    → stale_of machine reads session act.Commit ≡ stale → outside (said_of (step_with machine reads (asks session act.Commit)).0) ≡ false
handed-inside machine reads session o None at is =
    ap (λ (p : Answer × IsolationMachine). outside (said_of p.0)) (commit-stands machine reads session is)
    ∙ ap (λ (f : Option Transaction). outside (said_of (step_of machine (asks session act.Commit) f).0)) at
    ∙ commit-inside machine o o.own
handed-inside machine reads session o (Some stale) at is = ap (λ (p : Answer × IsolationMachine). outside (said_of p.0)) (commit-refused machine reads session stale is)

-- What upkeep tells is no reply of one without a transaction.
upkeep-inside : (told : Said) → is_of_upkeep told ≡ true → outside told ≡ false
upkeep-inside (said.At n) h = absurd (let never : ⊥ = cc in never)
upkeep-inside said.NoTransaction h = absurd (let never : ⊥ = cc in never)
upkeep-inside _ h = refl

-- What an export in a transaction tells is not told without one.
export-inside : (tables : List TableDecl) (front : List Entry) (machine : IsolationMachine) (o : Transaction) (table : ℕ) (told : Said) → ExportsWithin tables front machine o table told → outside told ≡ false
export-inside tables front machine o table (said.At n) h = absurd h
export-inside tables front machine o table said.NoTransaction h = absurd h
export-inside tables front machine o table _ h = refl

-- What a verdict on a write tells is not told without a transaction.
verdict-inside : (machine : IsolationMachine) (o : Transaction) (place : Place) (acceptable : Bool) (told : Said) → Verdict machine o place acceptable told → outside told ≡ false
verdict-inside machine o place acceptable told (accepted clear can is) = ap outside is
verdict-inside machine o place acceptable told (rival r found is) = ap outside is
verdict-inside machine o place acceptable told (later k none found is) = ap outside is
verdict-inside machine o place acceptable told (refused clear can (inl is)) = ap outside is
verdict-inside machine o place acceptable told (refused clear can (inr is)) = ap outside is
verdict-inside machine o place acceptable told (limited clear can (inl is)) = ap outside is
verdict-inside machine o place acceptable told (limited clear can (inr is)) = ap outside is.3
verdict-inside machine o place acceptable told (memory is) = ap outside is

-- One who has a transaction open is not told what is told without one.
takes-inside : (tables : List TableDecl) (front : List Entry) (machine : IsolationMachine) (entry : Entry) (after : IsolationMachine) (who : Who) (asked : Command) (o : Transaction)
    → entry.command ≡ asked → entry.reply.who ≡ who → open_of who machine ≡ Some o → TakesAs tables front machine entry after (request_of who asked) → outside entry.reply.said ≡ false
takes-inside tables front machine entry after (Worker worker) asked o is is_who at h = absurd (let never : ⊥ = cc in never)
takes-inside tables front machine entry after (Session session) (command.Begin checked) o is is_who at h =
    outcome-outside machine (reads_after (thread entry.reply.who front)) session (act.Begin checked) answer.InTransaction entry.reply.said after (ap (λ (f : Option Transaction). (step_of machine (asks session (act.Begin checked)) f).0) at) refl h.outcome h.tells h.allows
takes-inside tables front machine entry after (Session session) (command.Get table key) o is is_who at h =
    outcome-outside machine (reads_after (thread entry.reply.who front)) session (act.Get table key) (answer.Found (at_place (seen_rows machine o) (place_at table key))) entry.reply.said after
    (ap (λ (f : Option Transaction). (step_of machine (asks session (act.Get table key)) f).0) at) (got-inside (at_place (seen_rows machine o) (place_at table key))) h.outcome h.tells h.allows
takes-inside tables front machine entry after (Session session) (command.Scan table) o is is_who at h =
    outcome-outside machine (reads_after (thread entry.reply.who front)) session (act.Scan table) (answer.Rows (contents_of table (seen_rows machine o))) entry.reply.said after
    (ap (λ (f : Option Transaction). (step_of machine (asks session (act.Scan table)) f).0) at) refl h.outcome h.tells h.allows
takes-inside tables front machine entry after (Session session) (command.Range table low high) o is is_who at h =
    outcome-outside machine (reads_after (thread entry.reply.who front)) session (act.Range table low high) (answer.Rows (contents_between table low high (seen_rows machine o))) entry.reply.said after
    (ap (λ (f : Option Transaction). (step_of machine (asks session (act.Range table low high)) f).0) at) refl h.outcome h.tells h.allows
takes-inside tables front machine entry after (Session session) (command.Total table column low high) o is is_who at h =
    outcome-outside machine (reads_after (thread entry.reply.who front)) session (act.Total table column low high) (told_total (numbers_between column low high (contents_of table (seen_rows machine o)))) entry.reply.said after
    (ap (λ (f : Option Transaction). (step_of machine (asks session (act.Total table column low high)) f).0) at) refl h.outcome h.tells h.allows
takes-inside tables front machine entry after (Session session) (command.Insert table row) o is is_who at h =
    verdict-inside machine o _ (is_acceptable (seen_rows machine o) (command.Insert table row)) entry.reply.said
    (takes-verdict tables front machine session o (command.Insert table row) entry.reply.said after entry _ _ is refl at refl h)
takes-inside tables front machine entry after (Session session) (command.Update table row) o is is_who at h =
    verdict-inside machine o _ (is_acceptable (seen_rows machine o) (command.Update table row)) entry.reply.said
    (takes-verdict tables front machine session o (command.Update table row) entry.reply.said after entry _ _ is refl at refl h)
takes-inside tables front machine entry after (Session session) (command.Delete table key) o is is_who at h =
    verdict-inside machine o _ (is_acceptable (seen_rows machine o) (command.Delete table key)) entry.reply.said
    (takes-verdict tables front machine session o (command.Delete table key) entry.reply.said after entry _ _ is refl at refl h)
takes-inside tables front machine entry after (Session session) command.Commit o is is_who at h =
    outcome-outside machine (reads_after (thread entry.reply.who front)) session act.Commit
    (step_with machine (reads_after (thread entry.reply.who front)) (asks session act.Commit)).0 entry.reply.said after refl
    (handed-inside machine (reads_after (thread entry.reply.who front)) session o (stale_of machine (reads_after (thread entry.reply.who front)) session act.Commit) at refl) h.outcome h.tells h.allows
takes-inside tables front machine entry after (Session session) command.Abort o is is_who at h =
    outcome-outside machine (reads_after (thread entry.reply.who front)) session act.Abort answer.Aborted entry.reply.said after (ap (λ (f : Option Transaction). (step_of machine (asks session act.Abort) f).0) at) refl h.outcome h.tells h.allows
takes-inside tables front machine entry after (Session session) (command.Export table) o is is_who at h =
    let aside : Aside tables front machine entry.reply.who (command.Export table) entry.reply.said = subst (λ (c : Command). Aside tables front machine entry.reply.who c entry.reply.said) is h.0 in
    export-inside tables front machine o table entry.reply.said (subst (λ (found : Option Transaction). ExportsBy tables front machine found table entry.reply.said) (ap (λ (w : Who). open_of w machine) is_who ∙ at) aside)
takes-inside tables front machine entry after (Session session) asked o is is_who at h =
    let aside : Aside tables front machine entry.reply.who asked entry.reply.said = subst (λ (c : Command). Aside tables front machine entry.reply.who c entry.reply.said) is h.0 in
    upkeep-inside entry.reply.said aside.1

-- Where an option is none, it has no value.
nothing-open : (o : Option Transaction) → o ≡ None → IsSome o → ⊥
nothing-open None h k = (let never : ⊥ = cc in never)
nothing-open (Some t) h k = (let never : ⊥ = cc in never)

-- without a transaction a session is told so, or begins one
outcome-none : (machine : IsolationMachine) (reads : Option ReadSet) (session : ℕ) (act : Act) (own : Answer) (told : Said) (after : IsolationMachine) → transaction_of session machine ≡ None
    → step_with machine reads (asks session act) ≡ step machine (asks session act) → (step machine (asks session act)).0 ≡ own → (own ≡ answer.Accepted → ⊥)
    → (outcome : Outcome) → Tells outcome told → Allows machine reads (asks session act) outcome after → told ≡ said_of own
outcome-none machine reads session act own told after none same is apart (Answered a) tells allows =
    let e : a ≡ own = sym (ap (λ (p : Answer × IsolationMachine). p.0) (sym same ∙ allows)) ∙ is in tells ∙ ap said_of e
outcome-none machine reads session act own told after none same is apart Freezing tells allows = absurd (apart (sym is ∙ allows.1))
outcome-none machine reads session act own told after none same is apart Full tells allows = absurd (apart (sym is ∙ allows.1))
outcome-none machine reads session act own told after none same is apart Memory tells allows = absurd (nothing-open (transaction_of session machine) none allows.1)

-- The answer that there is no transaction accepts no write.
not-accepted : answer.NoTransaction ≡ answer.Accepted → ⊥
not-accepted h = (let never : ⊥ = cc in never)

-- The answer that shows a snapshot accepts no write.
not-begun : (n : ℕ) → answer.At n ≡ answer.Accepted → ⊥
not-begun n h = (let never : ⊥ = cc in never)

-- what is told without a transaction
abbrev ToldOutside : Command → Said → Type 0
ToldOutside asked told = (told ≡ said.NoTransaction) ⊎ ((checked : Bool) × (asked ≡ command.Begin checked) × ((n : ℕ) × (told ≡ said.At n)))

-- One without a transaction who asks no upkeep is told so, or begins one.
takes-outside : (tables : List TableDecl) (front : List Entry) (machine : IsolationMachine) (entry : Entry) (after : IsolationMachine) (who : Who) (asked : Command)
    → entry.command ≡ asked → entry.reply.who ≡ who → open_of who machine ≡ None → is_upkeep asked ≡ false → TakesAs tables front machine entry after (request_of who asked) → ToldOutside asked entry.reply.said
takes-outside tables front machine entry after (Session session) (command.Begin checked) is is_who none no_upkeep h =
    inr (checked, refl, (length machine.history, outcome-none machine (reads_after (thread entry.reply.who front)) session (act.Begin checked) (answer.At (length machine.history)) entry.reply.said after none refl (ap (λ (f : Option Transaction). (step_of machine (asks session (act.Begin checked)) f).0) none) (not-begun (length machine.history)) h.outcome h.tells h.allows))
takes-outside tables front machine entry after (Session session) (command.Get table key) is is_who none no_upkeep h =
    inl (outcome-none machine (reads_after (thread entry.reply.who front)) session (act.Get table key) answer.NoTransaction entry.reply.said after none refl (ap (λ (f : Option Transaction). (step_of machine (asks session (act.Get table key)) f).0) none) not-accepted h.outcome h.tells h.allows)
takes-outside tables front machine entry after (Session session) (command.Scan table) is is_who none no_upkeep h =
    inl (outcome-none machine (reads_after (thread entry.reply.who front)) session (act.Scan table) answer.NoTransaction entry.reply.said after none refl (ap (λ (f : Option Transaction). (step_of machine (asks session (act.Scan table)) f).0) none) not-accepted h.outcome h.tells h.allows)
takes-outside tables front machine entry after (Session session) (command.Range table low high) is is_who none no_upkeep h =
    inl (outcome-none machine (reads_after (thread entry.reply.who front)) session (act.Range table low high) answer.NoTransaction entry.reply.said after none refl (ap (λ (f : Option Transaction). (step_of machine (asks session (act.Range table low high)) f).0) none) not-accepted h.outcome h.tells h.allows)
takes-outside tables front machine entry after (Session session) (command.Total table column low high) is is_who none no_upkeep h =
    inl (outcome-none machine (reads_after (thread entry.reply.who front)) session (act.Total table column low high) answer.NoTransaction entry.reply.said after none refl (ap (λ (f : Option Transaction). (step_of machine (asks session (act.Total table column low high)) f).0) none) not-accepted h.outcome h.tells h.allows)
takes-outside tables front machine entry after (Session session) (command.Insert table row) is is_who none no_upkeep h =
    inl (outcome-none machine (reads_after (thread entry.reply.who front)) session (act.Insert table row) answer.NoTransaction entry.reply.said after none refl (ap (λ (f : Option Transaction). (step_of machine (asks session (act.Insert table row)) f).0) none) not-accepted h.outcome h.tells h.allows)
takes-outside tables front machine entry after (Session session) (command.Update table row) is is_who none no_upkeep h =
    inl (outcome-none machine (reads_after (thread entry.reply.who front)) session (act.Update table row) answer.NoTransaction entry.reply.said after none refl (ap (λ (f : Option Transaction). (step_of machine (asks session (act.Update table row)) f).0) none) not-accepted h.outcome h.tells h.allows)
takes-outside tables front machine entry after (Session session) (command.Delete table key) is is_who none no_upkeep h =
    inl (outcome-none machine (reads_after (thread entry.reply.who front)) session (act.Delete table key) answer.NoTransaction entry.reply.said after none refl (ap (λ (f : Option Transaction). (step_of machine (asks session (act.Delete table key)) f).0) none) not-accepted h.outcome h.tells h.allows)
takes-outside tables front machine entry after (Session session) command.Commit is is_who none no_upkeep h =
    inl (outcome-none machine (reads_after (thread entry.reply.who front)) session act.Commit answer.NoTransaction entry.reply.said after none
    (commit-stands machine (reads_after (thread entry.reply.who front)) session (stale-closed machine (reads_after (thread entry.reply.who front)) session none)) (ap (λ (f : Option Transaction). (step_of machine (asks session act.Commit) f).0) none) not-accepted h.outcome h.tells h.allows)
takes-outside tables front machine entry after (Session session) command.Abort is is_who none no_upkeep h =
    inl (outcome-none machine (reads_after (thread entry.reply.who front)) session act.Abort answer.NoTransaction entry.reply.said after none refl (ap (λ (f : Option Transaction). (step_of machine (asks session act.Abort) f).0) none) not-accepted h.outcome h.tells h.allows)
takes-outside tables front machine entry after (Session session) (command.Export table) is is_who none no_upkeep h =
    let aside : Aside tables front machine entry.reply.who (command.Export table) entry.reply.said = subst (λ (c : Command). Aside tables front machine entry.reply.who c entry.reply.said) is h.0 in
    inl (subst (λ (found : Option Transaction). ExportsBy tables front machine found table entry.reply.said) (ap (λ (w : Who). open_of w machine) is_who ∙ none) aside)
takes-outside tables front machine entry after (Session session) asked is is_who none no_upkeep h = absurd (let never : ⊥ = cc in never)
takes-outside tables front machine entry after (Worker worker) (command.Export table) is is_who none no_upkeep h =
    let aside : Aside tables front machine entry.reply.who (command.Export table) entry.reply.said = subst (λ (c : Command). Aside tables front machine entry.reply.who c entry.reply.said) is h.0 in
    inl (subst (λ (found : Option Transaction). ExportsBy tables front machine found table entry.reply.said) (ap (λ (w : Who). open_of w machine) is_who ∙ none) aside)
takes-outside tables front machine entry after (Worker worker) asked is is_who none no_upkeep h =
    let aside : Aside tables front machine entry.reply.who asked entry.reply.said = subst (λ (c : Command). Aside tables front machine entry.reply.who c entry.reply.said) is h.0 in
    absurd (let never : true ≡ false = sym aside.0 ∙ no_upkeep in let impossible : ⊥ = cc in impossible)

-- ---- the reply may stand in its state

-- Each reply to a begin is told without a transaction.
begin-outside : (told : Said) → IsBeginReply told → outside told ≡ true
begin-outside (said.At n) h = refl
begin-outside _ h = absurd h

-- Each reply that may stand without a transaction is told without one.
without-outside : (asked : Command) (told : Said) → IsReplyWithout asked told → outside told ≡ true
without-outside (command.Begin checked) told h = begin-outside told h
without-outside command.Observe told h = absurd h
without-outside command.Prune told h = absurd h
without-outside (command.Compact table) told h = absurd h
without-outside (command.Seal table block) told h = absurd h
without-outside (command.Gather table block) told h = absurd h
without-outside asked told h = ap outside h

-- In a transaction, a command that is no upkeep is not told that there is none.
within-not : (asked : Command) → is_upkeep asked ≡ false → IsReplyWithin asked said.NoTransaction → ⊥
within-not (command.Begin checked) up h = (let never : ⊥ = cc in never)
within-not command.Abort up h = (let never : ⊥ = cc in never)
within-not command.Observe up h = (let never : ⊥ = cc in never)
within-not command.Prune up h = (let never : ⊥ = cc in never)
within-not (command.Compact table) up h = (let never : ⊥ = cc in never)
within-not (command.Seal table block) up h = (let never : ⊥ = cc in never)
within-not (command.Gather table block) up h = (let never : ⊥ = cc in never)
within-not asked up h = h

-- What is told without a transaction may not stand in one, where no upkeep is asked.
outside-not : (asked : Command) (told : Said) → is_upkeep asked ≡ false → ToldOutside asked told → IsReplyWithin asked told → ⊥
outside-not asked told up (inl is) h = within-not asked up (subst (IsReplyWithin asked) is h)
outside-not asked told up (inr is) h =
    let e : told ≡ said.InTransaction = subst (λ (c : Command). IsReplyWithin c told) is.1 h in
    let f : said.At is.2.0 ≡ said.InTransaction = sym is.2.1 ∙ e in
    (let never : ⊥ = cc in never)

-- upkeep is answered as upkeep, in a transaction or not
upkeep-stands : (asked : Command) (told : Said) → is_upkeep asked ≡ true → MayStand asked told → IsReplyWithin asked told
upkeep-stands asked told up (inl h) = h
upkeep-stands command.Observe told up (inr h) = absurd h
upkeep-stands command.Prune told up (inr h) = absurd h
upkeep-stands (command.Compact table) told up (inr h) = absurd h
upkeep-stands (command.Seal table block) told up (inr h) = absurd h
upkeep-stands (command.Gather table block) told up (inr h) = absurd h
upkeep-stands asked told up (inr h) = absurd (let never : ⊥ = cc in never)

-- What may answer upkeep may stand in a transaction and without one.
upkeep-reply : (within : Bool) (asked : Command) (told : Said) → is_upkeep asked ≡ true → MayStand asked told → IsReply within asked told
upkeep-reply within asked told up h =
    subst (λ (b : Bool). elim (within || b) as (λ x. Type 0) [ true ↦ IsReplyWithin asked told | false ↦ IsReplyWithout asked told ]) (sym up)
    (subst (λ (b : Bool). elim b as (λ x. Type 0) [ true ↦ IsReplyWithin asked told | false ↦ IsReplyWithout asked told ]) (sym (or-last within)) (upkeep-stands asked told up h))

module _ (tables : List TableDecl) (front : List Entry) (machine : IsolationMachine) (entry : Entry) (after : IsolationMachine) (takes : Takes tables front machine entry after) where
  -- Where one has a transaction open, the reply may stand in one.
  stand-inside : (o : Transaction) → open_of entry.reply.who machine ≡ Some o → MayStand entry.command entry.reply.said → IsReplyWithin entry.command entry.reply.said
  stand-inside o at (inl h) = h
  stand-inside o at (inr h) =
      let never : true ≡ false = sym (without-outside entry.command entry.reply.said h) ∙ takes-inside tables front machine entry after entry.reply.who entry.command o refl refl at takes in
      absurd (let impossible : ⊥ = cc in impossible)

  -- Where one has none open and asks no upkeep, the reply may stand without one.
  stand-outside : is_upkeep entry.command ≡ false → open_of entry.reply.who machine ≡ None → MayStand entry.command entry.reply.said → IsReplyWithout entry.command entry.reply.said
  stand-outside up none (inr h) = h
  stand-outside up none (inl h) = absurd (outside-not entry.command entry.reply.said up (takes-outside tables front machine entry after entry.reply.who entry.command refl refl none up takes) h)

  -- The reply may stand in the state that the machine has, by each case.
  stand-by : (within up : Bool) (found : Option Transaction) → open_of entry.reply.who machine ≡ found → within ≡ is_some found → is_upkeep entry.command ≡ up → MayStand entry.command entry.reply.said
      → elim (within || up) as (λ b. Type 0) [ true ↦ IsReplyWithin entry.command entry.reply.said | false ↦ IsReplyWithout entry.command entry.reply.said ]
  stand-by true up None at is is_up h = absurd (let never : ⊥ = cc in never)
  stand-by true up (Some o) at is is_up h = stand-inside o at h
  stand-by false true found at is is_up h = upkeep-stands entry.command entry.reply.said is_up h
  stand-by false false None at is is_up h = stand-outside is_up at h
  stand-by false false (Some o) at is is_up h = absurd (let never : ⊥ = cc in never)

  -- The reply may stand in the state that the machine has.
  stands-so : (within : Bool) → within ≡ is_some (open_of entry.reply.who machine) → MayStand entry.command entry.reply.said → IsReply within entry.command entry.reply.said
  stands-so within is h = stand-by within (is_upkeep entry.command) (open_of entry.reply.who machine) refl is refl h

-- two splits of one list at a reply that is in neither front
same-front : (entry : Entry) (a b rest_a rest_b : List Entry) → Each (λ other. is_reply entry other ≡ false) a → Each (λ other. is_reply entry other ≡ false) b → a ++ entry ∷ rest_a ≡ b ++ entry ∷ rest_b → a ≡ b
same-front entry [] [] rest_a rest_b h k e = refl
same-front entry [] (x ∷ b) rest_a rest_b h k e =
    let f : entry ≡ x = cc in
    let never : true ≡ false = sym (itself entry) ∙ ap (is_reply entry) f ∙ k.0 in
    absurd (let impossible : ⊥ = cc in impossible)
same-front entry (x ∷ a) [] rest_a rest_b h k e =
    let f : x ≡ entry = cc in
    let never : true ≡ false = sym (itself entry) ∙ ap (is_reply entry) (sym f) ∙ h.0 in
    absurd (let impossible : ⊥ = cc in impossible)
same-front entry (x ∷ a) (y ∷ b) rest_a rest_b h k e =
    let f : x ≡ y = cc in
    let g : a ++ entry ∷ rest_a ≡ b ++ entry ∷ rest_b = cc in
    ap (λ (z : Entry). z ∷ a) f ∙ ap (λ (es : List Entry). y ∷ es) (same-front entry a b rest_a rest_b h.1 k.1 g)

-- what is due is a session's command, of the tables, or upkeep of a worker's
abbrev pub IsDue : List TableDecl → Due → Type 0
IsDue tables due =
    ((session : ℕ) × (due.who ≡ Session session) × (is_command tables due.command ≡ true))
    ⊎ ((worker : ℕ) × (due.who ≡ Worker worker) × (is_upkeep due.command ≡ true))

-- each of what is due is a session's command or a worker's upkeep
abbrev pub EachDue : List TableDecl → List Due → Type 0
EachDue tables [] = Unit {0}
EachDue tables (due ∷ dues) = IsDue tables due × EachDue tables dues

-- A reply stands in the state that its place in the timeline has.
module _ (start : History) (tables : List TableDecl) (printed timeline : List Entry) (t : TimelineFrom start tables printed timeline) (order : InOrder printed) where
  -- The lines in front say that one is in a transaction where the machine does.
  within-is : (earlier : List Entry) (entry : Entry) (behind : List Entry) → printed ≡ earlier ++ entry ∷ behind → Only printed entry → (cut : Cut start tables timeline (last start tables printed timeline t) entry)
      → is_within entry.reply.who earlier ≡ is_some (open_of entry.reply.who cut.machine)
  within-is earlier entry behind whole only cut =
      let who = entry.reply.who in
      let at = at-cut start tables printed timeline t entry only cut in
      let mine : thread who printed ≡ thread who earlier ++ entry ∷ thread who behind =
      ap (thread who) whole ∙ filter-append (λ other. is_same other.reply.who who) earlier (entry ∷ behind)
      ∙ ap (λ (b : Bool). thread who earlier ++ cond b (entry ∷ thread who behind) (thread who behind)) (same-itself who) in
      let theirs : thread who printed ≡ thread who cut.front ++ entry ∷ thread who cut.rest = own-thread printed timeline cut.front entry cut.rest at in
      let before = none-in_front earlier entry behind (subst InOrder whole order) (subst (λ (es : List Entry). Only es entry) whole only) in
      let ahead = none-in_front cut.front entry cut.rest (its-order printed timeline cut.front entry cut.rest at) (timeline-only printed timeline cut.front entry cut.rest at) in
      let same : thread who earlier ≡ thread who cut.front =
      same-front entry (thread who earlier) (thread who cut.front) (thread who behind) (thread who cut.rest)
      (Each-filter (λ other. is_reply entry other ≡ false) (λ other. is_same other.reply.who who) earlier before)
      (Each-filter (λ other. is_reply entry other ≡ false) (λ other. is_same other.reply.who who) cut.front ahead) (sym mine ∙ theirs) in
      ap (λ (es : List Entry). fold within_behind false (map (λ e. e.reply.said) es)) same ∙ cut.shown.agrees who

  -- a due's reply, with what its place in the timeline says
  reply-of : (earlier : List Entry) (due : Due) (told : Said) (behind : List Entry) → IsDue tables due → printed ≡ earlier ++ entry_behind tables earlier due told ∷ behind
      → Only printed (entry_behind tables earlier due told) → Cut start tables timeline (last start tables printed timeline t) (entry_behind tables earlier due told) → RowsFit tables (command_shown due) told
      → MayStand due.command told → IsReply (is_within due.who earlier) due.command told × RowsFit tables due.command told
  reply-of earlier due told behind (inl session) whole only cut fit may =
      let entry = entry_behind tables earlier due told in
      let shown : command_shown due ≡ due.command = ap (λ (w : Who). cond (is_worker w) command.Observe due.command) session.1 in
      let reply = stands-so tables cut.front cut.machine entry cut.after cut.takes (is_within due.who earlier) (within-is earlier entry behind whole only cut)
      (subst (λ (asked : Command). MayStand asked told) (sym shown) may) in
      (subst (λ (asked : Command). IsReply (is_within due.who earlier) asked told) shown reply, subst (λ (asked : Command). RowsFit tables asked told) shown fit)
  reply-of earlier due told behind (inr worker) whole only cut fit may = (upkeep-reply (is_within due.who earlier) due.command told worker.2 may, upkeep-fits due.command worker.2)
    where
      upkeep-fits : (asked : Command) → is_upkeep asked ≡ true → RowsFit tables asked told
      upkeep-fits (command.Get table key) up = absurd (let never : ⊥ = cc in never)
      upkeep-fits (command.Scan table) up = absurd (let never : ⊥ = cc in never)
      upkeep-fits (command.Range table low high) up = absurd (let never : ⊥ = cc in never)
      upkeep-fits command.Commit up = absurd (let never : ⊥ = cc in never)
      upkeep-fits _ up = tt

  -- Replies from one on, each at its place, answer what is due in their states.
  all-from : (earlier : List Entry) (dues : List Due) (answers : List (Option Said)) → EachDue tables dues → printed ≡ earlier ++ printed_from tables earlier dues answers → AllMayStand dues answers
      → Each (λ entry. Only printed entry × Cut start tables timeline (last start tables printed timeline t) entry) (printed_from tables earlier dues answers)
      → Each (λ entry. RowsFit tables entry.command entry.reply.said) (printed_from tables earlier dues answers) → AreReplies tables earlier dues answers
  all-from earlier [] [] each whole h facts fit = tt
  all-from earlier [] (told ∷ answers) each whole h facts fit = absurd h
  all-from earlier (due ∷ dues) [] each whole h facts fit = absurd h
  all-from earlier (due ∷ dues) (None ∷ answers) each whole h facts fit = (h.0, all-from earlier dues answers each.1 whole h.1 facts fit)
  all-from earlier (due ∷ dues) (Some told ∷ answers) each whole h facts fit =
      let entry = entry_behind tables earlier due told in
      let rest = printed_from tables (earlier ++ entry ∷ []) dues answers in
      let reply = reply-of earlier due told rest each.0 whole facts.0.0 facts.0.1 fit.0 h.0.0 in
      (ap not h.0.1, reply.0, reply.1, all-from (earlier ++ entry ∷ []) dues answers each.1 (whole ∙ sym (append_assoc earlier (entry ∷ []) rest)) h.1 facts.1 fit.1)

-- the commands that are shown are of the tables
shown-valid : (tables : List TableDecl) (due : Due) → IsDue tables due → is_command tables (command_shown due) ≡ true
shown-valid tables due (inl session) = ap (λ (w : Who). is_command tables (cond (is_worker w) command.Observe due.command)) session.1 ∙ session.2
shown-valid tables due (inr worker) = ap (λ (w : Who). is_command tables (cond (is_worker w) command.Observe due.command)) worker.1

-- The commands of printed replies to what is due are of the tables.
all-valid : (tables : List TableDecl) (earlier : List Entry) (dues : List Due) (answers : List (Option Said)) → EachDue tables dues → Each (λ entry. is_command tables entry.command ≡ true) (printed_from tables earlier dues answers)
all-valid tables earlier [] answers each = tt
all-valid tables earlier (due ∷ dues) [] each = tt
all-valid tables earlier (due ∷ dues) (None ∷ answers) each = all-valid tables earlier dues answers each.1
all-valid tables earlier (due ∷ dues) (Some told ∷ answers) each = (shown-valid tables due each.0, all-valid tables (earlier ++ entry_behind tables earlier due told ∷ []) dues answers each.1)

-- Replies of a timeline stand in the right states, in whatever order they came about, with rows of
-- their tables.
pub timeline-replies : (script : Script) (told : List (Option Said)) (timeline : List Entry) → AreCommitsOf script.tables script.begun → AreNamed script.tables → EachDue script.tables (dues_of script) → AllMayStand (dues_of script) told
    → TimelineFrom script.begun script.tables (printed_of script told) timeline → AreReplies script.tables [] (dues_of script) told
timeline-replies script told timeline first named each h t =
    let printed = printed_of script told in
    all-from script.begun script.tables printed timeline t (printed-in-order script told) [] (dues_of script) told each refl h (all-facts script.begun script.tables printed timeline t)
    (printed-rows-fit script.tables script.begun (commits-written script.tables script.begun first) named printed timeline t (all-valid script.tables [] (dues_of script) told each))
