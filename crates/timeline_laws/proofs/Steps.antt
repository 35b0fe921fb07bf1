-- What a reply makes of the machine, and why a write is answered as it is.
use Rattle.std.specs.List.{last_or}
use Rattle.std.proofs.Common.{◌≡◌, ℕ, ◌+◌, ◌<◌, ◌≤◌, Bool, true, false, cond, nat_le, List, [], ◌∷◌, length, drop, Option, None, Some, refl, sym, ap, ◌∙◌, subst, arith, ◌⊎◌, inl, inr, ℤ}
use Rattle.std.specs.Prelude.{option_map, is_some, is_none, unwrap_or}
use Rattle.std.specs.Option.{option_or, option_map_or}
use Rattle.std.proofs.lemmas.List.{length-drop}
use Rattle.std.proofs.lemmas.Bool.Decides.{nat_tests}
use Rattle.cell_model.specs.declared.cell.Cell.{Cell}
use Rattle.cell_model.specs.declared.table.TableDecl.{TableDecl}
use Rattle.isolation_spec.specs.Checked.{step_with, stale_of}
use Rattle.isolation_spec.specs.Contents.{at_place, place_at, place_of, contents_of, contents_between, numbers_between, WriteSet}
use Rattle.isolation_spec.specs.Reads.{ReadSet, meets}
use Rattle.isolation_spec.specs.declared.read.Read.{Read}
use Rattle.isolation_spec.specs.declared.place.Place.{Place}
use Rattle.isolation_spec.specs.Machine.{IsolationMachine, Transaction, transaction_of, seen_rows, rival_of, refusal_of_insert, refusal_of_change, with_own, without, commit, step, step_of, later_writers, told_total, writes_place}
use Rattle.isolation_spec.specs.Store.{Outcome, Answered, Freezing, Full, Memory, Allows}
use Rattle.isolation_spec.specs.declared.command.Command.{Command as Request}
use Rattle.isolation_spec.specs.declared.command.Act.{Act}
use Rattle.isolation_spec.specs.declared.command.Act.TheVariants as act
use Rattle.isolation_spec.specs.declared.command.Answer.{Answer}
use Rattle.isolation_spec.specs.declared.command.Answer.TheVariants as answer
use Rattle.workload_spec.specs.declared.command.Command.{Command}
use Rattle.workload_spec.specs.declared.command.Command.TheVariants as command
use Rattle.workload_spec.specs.declared.reply.Who.{Who}
use Rattle.workload_spec.specs.declared.reply.Who.TheVariants.{Session, Worker}
use Rattle.workload_spec.specs.declared.reply.Said.{Said}
use Rattle.workload_spec.specs.declared.reply.Said.TheVariants as said
use Rattle.outcome_spec.specs.Stale.{reads_after}
use Rattle.outcome_spec.specs.Entries.{Entry, thread, snapshot_in, commit_in, is_end, is_accepted}
use Rattle.outcome_spec.specs.Runs.{write_of}
use Rattle.outcome_spec.specs.Numbers.{number_shown}
use Rattle.outcome_spec.specs.Answers.{is_acceptable}
use Rattle.timeline_spec.specs.Timeline.{stale_of as stale_named}
use Rattle.timeline_spec.specs.Timeline.{said_of, request_of, Tells, open_of, ExportsBy, ExportsWithin, is_of_upkeep, Aside, TakesAs, Takes}
use Rattle.isolation_laws.proofs.Checked.{commit-stands, commit-refused, stale-open, stale-closed}
use Rattle.isolation_laws.proofs.Later.{last_passing, last_writer, last-commit, last-later}
use Rattle.timeline_laws.proofs.Writers.{last-some}
use Rattle.timeline_laws.proofs.Refused.{Refused, refused-is, meets-none}
use Rattle.timeline_laws.proofs.Machine.{Sane, begun, committed, its-session}

-- what is written where the write is accepted
abbrev pub accepts : Command → Said → Option (Place × Option (List Cell))
accepts asked told = cond (is_accepted told) (write_of asked) None

-- the number shown is not above the commits
abbrev pub shows_at_most : ℕ → Said → Bool
shows_at_most commits told = option_map_or (λ shown. nat_le shown commits) (number_shown told) true

-- no place is in conflict: no other open transaction has it, and no commit behind the snapshot
pub record Clear (machine : IsolationMachine) (t : Transaction) (place : Place) : Type 0 where
  pub rival : rival_of machine t.session place ≡ None
  pub last : last_writer place (t.snapshot + 1) (drop t.snapshot machine.history) ≡ None

-- a reply that neither opens nor ends a transaction and writes nothing
pub record Quiet (asked : Command) (told : Said) (machine after : IsolationMachine) : Type 0 where
  pub opens : snapshot_in told ≡ None
  pub on : is_end told ≡ false
  pub commit : commit_in told ≡ None
  pub writes : accepts asked told ≡ None
  pub shown : shows_at_most (length machine.history) told ≡ true
  pub same : after ≡ machine

pub record Opens (who : Who) (asked : Command) (told : Said) (machine after : IsolationMachine) : Type 0 where
  pub checked : Bool
  pub asked_is : asked ≡ command.Begin checked
  pub session : ℕ
  pub who_is : who ≡ Session session
  pub none : transaction_of session machine ≡ None
  pub said_is : told ≡ said.At (length machine.history)
  pub is : after ≡ begun session machine

pub record Writes (who : Who) (asked : Command) (told : Said) (machine after : IsolationMachine) : Type 0 where
  pub session : ℕ
  pub t : Transaction
  pub place : Place
  pub change : Option (List Cell)
  pub who_is : who ≡ Session session
  pub at : transaction_of session machine ≡ Some t
  pub said_is : told ≡ said.Accepted
  pub write : write_of asked ≡ Some (place, change)
  pub clear : Clear machine t place
  pub is : after ≡ with_own session place change machine

pub record Ends (who : Who) (told : Said) (machine after : IsolationMachine) : Type 0 where
  pub session : ℕ
  pub t : Transaction
  pub who_is : who ≡ Session session
  pub at : transaction_of session machine ≡ Some t
  pub said_is : (told ≡ said.Aborted) ⊎ ((told ≡ said.Committed None) × (t.own ≡ []))
  pub is : after ≡ without session machine

pub record Commits (who : Who) (told : Said) (machine after : IsolationMachine) : Type 0 where
  pub session : ℕ
  pub t : Transaction
  pub who_is : who ≡ Session session
  pub at : transaction_of session machine ≡ Some t
  pub said_is : told ≡ said.Committed (Some (length machine.history + 1))
  pub wrote : (first : Place × Option (List Cell)) × (rest : WriteSet) × (t.own ≡ first ∷ rest)
  pub is : after ≡ committed session t.own machine

pub data Change (who : Who) (asked : Command) (told : Said) (machine after : IsolationMachine) : Type 0 where
  quiet : Quiet asked told machine after → Change who asked told machine after
  opens : Opens who asked told machine after → Change who asked told machine after
  writes : Writes who asked told machine after → Change who asked told machine after
  ends : Ends who told machine after → Change who asked told machine after
  commits : Commits who told machine after → Change who asked told machine after

-- why a write is answered as it is
pub data Verdict (machine : IsolationMachine) (t : Transaction) (place : Place) (acceptable : Bool) (told : Said) : Type 0 where
  accepted : Clear machine t place → acceptable ≡ true → told ≡ said.Accepted → Verdict machine t place acceptable told
  rival : (r : Transaction) → rival_of machine t.session place ≡ Some r → told ≡ said.ConflictSession r.session → Verdict machine t place acceptable told
  later : (k : ℕ) → rival_of machine t.session place ≡ None → last_writer place (t.snapshot + 1) (drop t.snapshot machine.history) ≡ Some k → told ≡ said.ConflictCommit k → Verdict machine t place acceptable told
  refused : Clear machine t place → acceptable ≡ false → (told ≡ said.Exists) ⊎ (told ≡ said.Missing) → Verdict machine t place acceptable told
  limited : Clear machine t place → acceptable ≡ true → (told ≡ said.Full) ⊎ ((table : ℕ) × (block : ℕ) × (stamp : ℕ) × (told ≡ said.Freezing table block stamp)) → Verdict machine t place acceptable told
  memory : told ≡ said.Memory → Verdict machine t place acceptable told

module _ (machine : IsolationMachine) (t : Transaction) (place : Place) where
  -- Another session's open transaction with the place, if there is one.
  abbrev the_rival : Option Transaction
  the_rival = rival_of machine t.session place

  -- The last commit behind the snapshot that has the place, if there is one.
  abbrev the_last : Option ℕ
  the_last = last_writer place (t.snapshot + 1) (drop t.snapshot machine.history)

  -- the refusal: a conflict, or what the rows say
  abbrev refusal_by : Option Transaction → Option ℕ → Option Answer → Option Answer
  refusal_by r k own = option_or (option_or (option_map (λ rival. answer.ConflictSession rival.session) r) (option_map (λ number. answer.ConflictCommit number) k)) own

  -- A write answered by conflicts first, and then by an existing row, has its verdict.
  verdict-exists : (acceptable test : Bool) (r : Option Transaction) (k : Option ℕ) → the_rival ≡ r → the_last ≡ k → (test ≡ true → acceptable ≡ false) → (test ≡ false → acceptable ≡ true)
      → Verdict machine t place acceptable (said_of (unwrap_or (refusal_by r k (cond test (Some answer.Exists) None)) answer.Accepted))
  verdict-exists acceptable test (Some r) k is_r is_k h g = rival r is_r refl
  verdict-exists acceptable test None (Some k) is_r is_k h g = later k is_r is_k refl
  verdict-exists acceptable true None None is_r is_k h g = refused (record { rival = is_r; last = is_k }) (h refl) (inl refl)
  verdict-exists acceptable false None None is_r is_k h g = accepted (record { rival = is_r; last = is_k }) (g refl) refl

  -- A write answered by conflicts first, and then by a missing row, has its verdict.
  verdict-missing : (acceptable test : Bool) (r : Option Transaction) (k : Option ℕ) → the_rival ≡ r → the_last ≡ k → (test ≡ true → acceptable ≡ false) → (test ≡ false → acceptable ≡ true)
      → Verdict machine t place acceptable (said_of (unwrap_or (refusal_by r k (cond test (Some answer.Missing) None)) answer.Accepted))
  verdict-missing acceptable test (Some r) k is_r is_k h g = rival r is_r refl
  verdict-missing acceptable test None (Some k) is_r is_k h g = later k is_r is_k refl
  verdict-missing acceptable true None None is_r is_k h g = refused (record { rival = is_r; last = is_k }) (h refl) (inr refl)
  verdict-missing acceptable false None None is_r is_k h g = accepted (record { rival = is_r; last = is_k }) (g refl) refl

-- What has a value is not tested to be none.
none-there : (o : Option (List Cell)) → is_some o ≡ true → is_none o ≡ false
none-there None h = absurd (let never : ⊥ = cc in never)
none-there (Some x) h = refl

-- What has no value is tested to be none.
there-not : (o : Option (List Cell)) → is_some o ≡ false → is_none o ≡ true
there-not None h = refl
there-not (Some x) h = absurd (let never : ⊥ = cc in never)

-- What is tested to be none has no value.
none-some : (o : Option (List Cell)) → is_none o ≡ true → is_some o ≡ false
none-some None h = refl
none-some (Some x) h = absurd (let never : ⊥ = cc in never)

-- What is not tested to be none has a value.
some-none : (o : Option (List Cell)) → is_none o ≡ false → is_some o ≡ true
some-none None h = absurd (let never : ⊥ = cc in never)
some-none (Some x) h = refl

-- the machine's own answer to a write
pub insert-verdict : (machine : IsolationMachine) (t : Transaction) (table : ℕ) (row : List Cell)
    → Verdict machine t (place_of table row) (is_acceptable (seen_rows machine t) (command.Insert table row)) (said_of (unwrap_or (refusal_of_insert machine t (place_of table row)) answer.Accepted))
insert-verdict machine t table row =
    let there = at_place (seen_rows machine t) (place_of table row) in
    verdict-exists machine t (place_of table row) (is_none there) (is_some there) (rival_of machine t.session (place_of table row))
    (last_or None (later_writers machine.history t.snapshot (place_of table row))) refl (sym (last-later machine.history t.snapshot (place_of table row))) (none-there there) (there-not there)

-- The machine's own answer to an update or a delete is a verdict.
change-verdict : (machine : IsolationMachine) (t : Transaction) (place : Place)
    → Verdict machine t place (is_some (at_place (seen_rows machine t) place)) (said_of (unwrap_or (refusal_of_change machine t place) answer.Accepted))
change-verdict machine t place =
    let there = at_place (seen_rows machine t) place in
    verdict-missing machine t place (is_some there) (is_none there) (rival_of machine t.session place)
    (last_or None (later_writers machine.history t.snapshot place)) refl (sym (last-later machine.history t.snapshot place)) (none-some there) (some-none there)

-- ---- what a reply to a write tells

-- a write that the machine accepts is clear and acceptable
clear-accepted : (machine : IsolationMachine) (t : Transaction) (place : Place) (acceptable : Bool) → Verdict machine t place acceptable said.Accepted → Clear machine t place × (acceptable ≡ true)
clear-accepted machine t place acceptable (accepted clear can is) = (clear, can)
clear-accepted machine t place acceptable (rival r found is) = absurd (let never : ⊥ = cc in never)
clear-accepted machine t place acceptable (later k none found is) = absurd (let never : ⊥ = cc in never)
clear-accepted machine t place acceptable (refused clear can (inl is)) = absurd (let never : ⊥ = cc in never)
clear-accepted machine t place acceptable (refused clear can (inr is)) = absurd (let never : ⊥ = cc in never)
clear-accepted machine t place acceptable (limited clear can (inl is)) = absurd (let never : ⊥ = cc in never)
clear-accepted machine t place acceptable (limited clear can (inr is)) = absurd (let e : said.Accepted ≡ said.Freezing is.0 is.1 is.2 = is.3 in let never : ⊥ = cc in never)
clear-accepted machine t place acceptable (memory is) = absurd (let never : ⊥ = cc in never)

-- what a session asks of the machine
abbrev pub asks : ℕ → Act → Request
asks session act = record { session = session; act = act }

-- Where the machine's answer to a write is a verdict, each outcome is one.
outcome-verdict : (machine : IsolationMachine) (reads : Option ReadSet) (session : ℕ) (act : Act) (t : Transaction) (place : Place) (acceptable : Bool) (own : Answer) (told : Said) (after : IsolationMachine)
    → step_with machine reads (asks session act) ≡ step machine (asks session act)
    → (step machine (asks session act)).0 ≡ own → Verdict machine t place acceptable (said_of own)
    → (outcome : Outcome) → Tells outcome told → Allows machine reads (asks session act) outcome after → Verdict machine t place acceptable told
outcome-verdict machine reads session act t place acceptable own told after same is v (Answered a) tells allows =
    let e : a ≡ own = sym (ap (λ (p : Answer × IsolationMachine). p.0) (sym same ∙ allows)) ∙ is in
    subst (Verdict machine t place acceptable) (sym (tells ∙ ap said_of e)) v
outcome-verdict machine reads session act t place acceptable own told after same is v Freezing tells allows =
    let e : own ≡ answer.Accepted = sym is ∙ allows.1 in
    let free = clear-accepted machine t place acceptable (subst (λ (a : Answer). Verdict machine t place acceptable (said_of a)) e v) in
    limited free.0 free.1 (inr tells)
outcome-verdict machine reads session act t place acceptable own told after same is v Full tells allows =
    let e : own ≡ answer.Accepted = sym is ∙ allows.1 in
    let free = clear-accepted machine t place acceptable (subst (λ (a : Answer). Verdict machine t place acceptable (said_of a)) e v) in
    limited free.0 free.1 (inl tells)
outcome-verdict machine reads session act t place acceptable own told after same is v Memory tells allows = memory tells

-- the verdict of a reply to a write in a transaction
pub takes-verdict : (tables : List TableDecl) (front : List Entry) (machine : IsolationMachine) (session : ℕ) (t : Transaction) (asked : Command) (told : Said) (after : IsolationMachine) (entry : Entry)
    (place : Place) (change : Option (List Cell))
    → entry.command ≡ asked → entry.reply.said ≡ told → transaction_of session machine ≡ Some t → write_of asked ≡ Some (place, change)
    → TakesAs tables front machine entry after (request_of (Session session) asked)
    → Verdict machine t place (is_acceptable (seen_rows machine t) asked) told
takes-verdict tables front machine session t (command.Insert table row) told after entry place change is_asked is_told at is h =
    let e : place_of table row ≡ place = ap (λ (o : Option (Place × Option (List Cell))). option_map_or (λ w. w.0) o place) is in
    subst (λ (p : Place). Verdict machine t p (is_acceptable (seen_rows machine t) (command.Insert table row)) told) e
    (outcome-verdict machine (reads_after (thread entry.reply.who front)) session (act.Insert table row) t (place_of table row) (is_acceptable (seen_rows machine t) (command.Insert table row)) (unwrap_or (refusal_of_insert machine t (place_of table row)) answer.Accepted) told after refl
    (ap (λ (o : Option Transaction). (step_of machine (asks session (act.Insert table row)) o).0) at) (insert-verdict machine t table row)
    h.outcome (subst (Tells h.outcome) is_told h.tells) h.allows)
takes-verdict tables front machine session t (command.Update table row) told after entry place change is_asked is_told at is h =
    let e : place_of table row ≡ place = ap (λ (o : Option (Place × Option (List Cell))). option_map_or (λ w. w.0) o place) is in
    subst (λ (p : Place). Verdict machine t p (is_acceptable (seen_rows machine t) (command.Update table row)) told) e
    (outcome-verdict machine (reads_after (thread entry.reply.who front)) session (act.Update table row) t (place_of table row) (is_acceptable (seen_rows machine t) (command.Update table row)) (unwrap_or (refusal_of_change machine t (place_of table row)) answer.Accepted) told after refl
    (ap (λ (o : Option Transaction). (step_of machine (asks session (act.Update table row)) o).0) at) (change-verdict machine t (place_of table row))
    h.outcome (subst (Tells h.outcome) is_told h.tells) h.allows)
takes-verdict tables front machine session t (command.Delete table key) told after entry place change is_asked is_told at is h =
    let e : place_at table key ≡ place = ap (λ (o : Option (Place × Option (List Cell))). option_map_or (λ w. w.0) o place) is in
    subst (λ (p : Place). Verdict machine t p (is_acceptable (seen_rows machine t) (command.Delete table key)) told) e
    (outcome-verdict machine (reads_after (thread entry.reply.who front)) session (act.Delete table key) t (place_at table key) (is_acceptable (seen_rows machine t) (command.Delete table key)) (unwrap_or (refusal_of_change machine t (place_at table key)) answer.Accepted) told after refl
    (ap (λ (o : Option Transaction). (step_of machine (asks session (act.Delete table key)) o).0) at) (change-verdict machine t (place_at table key))
    h.outcome (subst (Tells h.outcome) is_told h.tells) h.allows)
takes-verdict tables front machine session t _ told after entry place change is_asked is_told at is h = absurd (let never : ⊥ = cc in never)

-- ---- what a reply makes of the machine

-- a reply that changes nothing
module _ (asked : Command) (machine : IsolationMachine) where
  -- A reply that neither opens, ends, commits nor writes changes nothing.
  quietly : (told : Said) → snapshot_in told ≡ None → is_end told ≡ false → commit_in told ≡ None → accepts asked told ≡ None → shows_at_most (length machine.history) told ≡ true → Quiet asked told machine machine
  quietly told a b c d e = record { opens = a; on = b; commit = c; writes = d; shown = e; same = refl }

  -- the number of a commit behind the snapshot is not above the commits
  last-low : (t : Transaction) (test : WriteSet → Bool) (empty : test [] ≡ false) (k : ℕ) → t.snapshot ≤ length machine.history
      → last_passing test (t.snapshot + 1) (drop t.snapshot machine.history) ≡ Some k → nat_le k (length machine.history) ≡ true
  last-low t test empty k bound is =
      let at = last-some test empty (t.snapshot + 1) (drop t.snapshot machine.history) k is in
      let inside : at.index < length (drop t.snapshot machine.history) = at.inside in
      let size : length (drop t.snapshot machine.history) + t.snapshot ≡ length machine.history = omega (arith, length-drop t.snapshot machine.history, bound) in
      let low : k ≤ length machine.history = omega (arith, at.number_is, inside, size) in
      (let e : nat_le k (length machine.history) ≡ true = grind (arith, nat_tests, low) in e)

  -- a reply that names a commit behind the snapshot leaves the machine as it is
  pub conflict-quiet : (t : Transaction) (place : Place) (k : ℕ) → t.snapshot ≤ length machine.history
      → last_writer place (t.snapshot + 1) (drop t.snapshot machine.history) ≡ Some k → Quiet asked (said.ConflictCommit k) machine machine
  conflict-quiet t place k bound is = quietly (said.ConflictCommit k) refl refl refl refl (last-low t (writes_place place) refl k bound is)

  -- so does a commit that is refused for a read
  refused-quiet : (t : Transaction) (reads : Option ReadSet) (stale : Read × ℕ) → t.snapshot ≤ length machine.history → Refused machine t reads stale
      → Quiet asked (said_of (answer.Stale stale.0 stale.1)) machine machine
  refused-quiet t reads stale bound r =
      quietly (said.Stale (stale_named stale.0) stale.1) refl refl refl refl
      (last-low t (meets stale.0) (meets-none stale.0) stale.1 bound (sym (last-commit machine.history t.snapshot (meets stale.0)) ∙ r.found.last))

module _ (asked : Command) (machine : IsolationMachine) (sane : Sane machine) (session : ℕ) (t : Transaction) (at : transaction_of session machine ≡ Some t) where
  -- The transaction that is found for the session is the session's.
  its : t.session ≡ session
  its = its-session session machine.open_transactions t at

  -- A write is refused and changes nothing, or is accepted and entered.
  write-cases : (place : Place) (change : Option (List Cell)) (test : Bool) (own : Answer) (r : Option Transaction) (k : Option ℕ)
      → write_of asked ≡ Some (place, change) → Quiet asked (said_of own) machine machine
      → rival_of machine t.session place ≡ r → last_writer place (t.snapshot + 1) (drop t.snapshot machine.history) ≡ k
      → Change (Session session) asked (said_of (unwrap_or (refusal_by machine t place r k (cond test (Some own) None)) answer.Accepted)) machine
      (cond (is_some (refusal_by machine t place r k (cond test (Some own) None))) machine (with_own t.session place change machine))
  write-cases place change test own (Some r) k is own_quiet is_r is_k = quiet (quietly asked machine (said.ConflictSession r.session) refl refl refl refl refl)
  write-cases place change test own None (Some k) is own_quiet is_r is_k = quiet (conflict-quiet asked machine t place k (sane.bound session t at) is_k)
  write-cases place change true own None None is own_quiet is_r is_k = quiet own_quiet
  write-cases place change false own None None is own_quiet is_r is_k = writes (record {
    session = session;
    t = t;
    place = place;
    change = change;
    who_is = refl;
    at = at;
    said_is = refl;
    write = is;
    clear = record { rival = is_r; last = is_k };
    is = ap (λ (s : ℕ). with_own s place change machine) its;
  })

  -- A commit ends a transaction that wrote nothing, or commits what it wrote.
  commit-cases : (own : WriteSet) → t.own ≡ own → Change (Session session) asked (said_of (commit machine t own).0) machine (commit machine t own).1
  commit-cases [] is = ends (record { session = session; t = t; who_is = refl; at = at; said_is = inr (refl, is); is = ap (λ (s : ℕ). without s machine) its })
  commit-cases (first ∷ rest) is = commits (record { session = session; t = t; who_is = refl; at = at; said_is = refl; wrote = (first, rest, is); is = ap (λ (s : ℕ). committed s t.own machine) its })

-- The answer to a get leaves the machine as it is.
got-quiet : (asked : Command) (machine : IsolationMachine) (o : Option (List Cell)) → Quiet asked (said_of (answer.Found o)) machine machine
got-quiet asked machine None = quietly asked machine said.Absent refl refl refl refl refl
got-quiet asked machine (Some row) = quietly asked machine (said.Found row) refl refl refl refl refl

-- the change of the machine's own step
module _ (machine : IsolationMachine) (sane : Sane machine) (session : ℕ) where
  -- The machine's own step is such a change as its answer tells.
  abbrev Stepped : Command → Act → Option Transaction → Type 0
  Stepped asked act found = Change (Session session) asked (said_of (step_of machine (asks session act) found).0) machine (step_of machine (asks session act) found).1

  -- A session that is told that it has no transaction changes nothing.
  untold : (asked : Command) → Change (Session session) asked said.NoTransaction machine machine
  untold asked = quiet (quietly asked machine said.NoTransaction refl refl refl refl refl)

  -- The machine's own step of an insert is such a change.
  insert-stepped : (table : ℕ) (row : List Cell) (found : Option Transaction) → transaction_of session machine ≡ found → Stepped (command.Insert table row) (act.Insert table row) found
  insert-stepped table row None at = untold (command.Insert table row)
  insert-stepped table row (Some t) at =
      write-cases (command.Insert table row) machine sane session t at (place_of table row) (Some row) (is_some (at_place (seen_rows machine t) (place_of table row))) answer.Exists
      (rival_of machine t.session (place_of table row)) (last_or None (later_writers machine.history t.snapshot (place_of table row))) refl
      (quietly (command.Insert table row) machine said.Exists refl refl refl refl refl) refl (sym (last-later machine.history t.snapshot (place_of table row)))

  -- The machine's own step of an update is such a change.
  update-stepped : (table : ℕ) (row : List Cell) (found : Option Transaction) → transaction_of session machine ≡ found → Stepped (command.Update table row) (act.Update table row) found
  update-stepped table row None at = untold (command.Update table row)
  update-stepped table row (Some t) at =
      write-cases (command.Update table row) machine sane session t at (place_of table row) (Some row) (is_none (at_place (seen_rows machine t) (place_of table row))) answer.Missing
      (rival_of machine t.session (place_of table row)) (last_or None (later_writers machine.history t.snapshot (place_of table row))) refl
      (quietly (command.Update table row) machine said.Missing refl refl refl refl refl) refl (sym (last-later machine.history t.snapshot (place_of table row)))

  -- The machine's own step of a delete is such a change.
  delete-stepped : (table : ℕ) (key : ℤ) (found : Option Transaction) → transaction_of session machine ≡ found → Stepped (command.Delete table key) (act.Delete table key) found
  delete-stepped table key None at = untold (command.Delete table key)
  delete-stepped table key (Some t) at =
      write-cases (command.Delete table key) machine sane session t at (place_at table key) None (is_none (at_place (seen_rows machine t) (place_at table key))) answer.Missing
      (rival_of machine t.session (place_at table key)) (last_or None (later_writers machine.history t.snapshot (place_at table key))) refl
      (quietly (command.Delete table key) machine said.Missing refl refl refl refl refl) refl (sym (last-later machine.history t.snapshot (place_at table key)))

  -- The machine's own step of a begin is such a change.
  begin-stepped : (checked : Bool) (found : Option Transaction) → transaction_of session machine ≡ found → Stepped (command.Begin checked) (act.Begin checked) found
  begin-stepped checked None at = opens (record { checked = checked; asked_is = refl; session = session; who_is = refl; none = at; said_is = refl; is = refl })
  begin-stepped checked (Some t) at = quiet (quietly (command.Begin checked) machine said.InTransaction refl refl refl refl refl)

  -- The machine's own step of a commit is such a change.
  commit-stepped : (found : Option Transaction) → transaction_of session machine ≡ found → Stepped command.Commit act.Commit found
  commit-stepped None at = untold command.Commit
  commit-stepped (Some t) at = commit-cases command.Commit machine sane session t at t.own refl

  -- The machine's own step of an abort is such a change.
  abort-stepped : (found : Option Transaction) → transaction_of session machine ≡ found → Stepped command.Abort act.Abort found
  abort-stepped None at = untold command.Abort
  abort-stepped (Some t) at = ends (record { session = session; t = t; who_is = refl; at = at; said_is = inl refl; is = ap (λ (s : ℕ). without s machine) (its-session session machine.open_transactions t at) })

  -- The machine's own step of a get is such a change.
  get-stepped : (table : ℕ) (key : ℤ) (found : Option Transaction) → Stepped (command.Get table key) (act.Get table key) found
  get-stepped table key None = untold (command.Get table key)
  get-stepped table key (Some t) = quiet (got-quiet (command.Get table key) machine (at_place (seen_rows machine t) (place_at table key)))

  -- The machine's own step of a scan is such a change.
  scan-stepped : (table : ℕ) (found : Option Transaction) → Stepped (command.Scan table) (act.Scan table) found
  scan-stepped table None = untold (command.Scan table)
  scan-stepped table (Some t) = quiet (quietly (command.Scan table) machine (said.Scanned (contents_of table (seen_rows machine t))) refl refl refl refl refl)

  -- The machine's own step of a range is such a change.
  range-stepped : (table : ℕ) (low high : ℤ) (found : Option Transaction) → Stepped (command.Range table low high) (act.Range table low high) found
  range-stepped table low high None = untold (command.Range table low high)
  range-stepped table low high (Some t) =
      quiet (quietly (command.Range table low high) machine (said.Scanned (contents_between table low high (seen_rows machine t))) refl refl refl refl refl)

  -- The machine's own step of a total is such a change.
  total-stepped : (table column : ℕ) (low high : ℤ) (found : Option Transaction) → Stepped (command.Total table column low high) (act.Total table column low high) found
  total-stepped table column low high None = untold (command.Total table column low high)
  total-stepped table column low high (Some t) =
      quiet (quietly (command.Total table column low high) machine (said_of (told_total (numbers_between column low high (contents_of table (seen_rows machine t))))) refl refl refl refl refl)

  -- What the machine answers and leaves is such a change as its answer tells.
  abbrev Told : Command → Answer × IsolationMachine → Type 0
  Told asked p = Change (Session session) asked (said_of p.0) machine p.1

  -- A commit that hands in reads is refused and changes nothing, or is the machine's.
  commit-with : (reads : Option ReadSet) (stale : Option (Read × ℕ)) (found : Option Transaction) → stale_of machine reads session act.Commit ≡ stale → transaction_of session machine ≡ found
      → Told command.Commit (step_with machine reads (asks session act.Commit))
  commit-with reads None found is at =
      subst (Told command.Commit) (sym (commit-stands machine reads session is)) (commit-stepped (transaction_of session machine) refl)
  commit-with reads (Some stale) None is at = absurd (let e : None ≡ Some stale = sym (stale-closed machine reads session at) ∙ is in let never : ⊥ = cc in never)
  commit-with reads (Some stale) (Some t) is at =
      subst (Told command.Commit) (sym (commit-refused machine reads session stale is))
      (quiet (refused-quiet command.Commit machine t reads stale (sane.bound session t at) (refused-is machine t t.own reads stale refl (sym (stale-open machine reads session t at) ∙ is))))

  -- the change of an answer of a store over the machine
  outcome-change : (reads : Option ReadSet) (asked : Command) (act : Act) (told : Said) (after : IsolationMachine) → Told asked (step_with machine reads (asks session act))
      → (outcome : Outcome) → Tells outcome told → Allows machine reads (asks session act) outcome after → Change (Session session) asked told machine after
  outcome-change reads asked act told after stepped (Answered a) tells allows =
      subst (λ (s : Said). Change (Session session) asked s machine after) (sym tells)
      (subst (Told asked) allows stepped)
  outcome-change reads asked act told after stepped Freezing tells allows =
      subst (λ (m : IsolationMachine). Change (Session session) asked told machine m) (sym allows.2)
      (subst (λ (s : Said). Change (Session session) asked s machine machine) (sym tells.3) (quiet (quietly asked machine (said.Freezing tells.0 tells.1 tells.2) refl refl refl refl refl)))
  outcome-change reads asked act told after stepped Full tells allows =
      subst (λ (m : IsolationMachine). Change (Session session) asked told machine m) (sym allows.2)
      (subst (λ (s : Said). Change (Session session) asked s machine machine) (sym tells) (quiet (quietly asked machine said.Full refl refl refl refl refl)))
  outcome-change reads asked act told after stepped Memory tells allows =
      subst (λ (m : IsolationMachine). Change (Session session) asked told machine m) (sym allows.2)
      (subst (λ (s : Said). Change (Session session) asked s machine machine) (sym tells) (quiet (quietly asked machine said.Memory refl refl refl refl refl)))

-- ---- commands that ask nothing of snapshot isolation

module _ (tables : List TableDecl) (front : List Entry) (machine : IsolationMachine) (sane : Sane machine) where
  -- What upkeep tells leaves the machine as it is.
  upkeep-quiet : (asked : Command) (told : Said) → is_of_upkeep told ≡ true → Quiet asked told machine machine
  upkeep-quiet asked (said.Cooling count) h = quietly asked machine (said.Cooling count) refl refl refl refl refl
  upkeep-quiet asked (said.Pruned count) h = quietly asked machine (said.Pruned count) refl refl refl refl refl
  upkeep-quiet asked (said.Moved count) h = quietly asked machine (said.Moved count) refl refl refl refl refl
  upkeep-quiet asked (said.Sealed table block stamp) h = quietly asked machine (said.Sealed table block stamp) refl refl refl refl refl
  upkeep-quiet asked (said.NotSealed cause) h = quietly asked machine (said.NotSealed cause) refl refl refl refl refl
  upkeep-quiet asked (said.Frozen table block rows) h = quietly asked machine (said.Frozen table block rows) refl refl refl refl refl
  upkeep-quiet asked said.NotFrozen h = quietly asked machine said.NotFrozen refl refl refl refl refl
  upkeep-quiet asked said.Memory h = quietly asked machine said.Memory refl refl refl refl refl
  upkeep-quiet asked _ h = absurd (let never : ⊥ = cc in never)

  -- What an export in a transaction tells leaves the machine as it is.
  export-within : (asked : Command) (t : Transaction) (table : ℕ) (told : Said) → t.snapshot ≤ length machine.history → ExportsWithin tables front machine t table told → Quiet asked told machine machine
  export-within asked t table (said.Exported number rows batches frozen) bound h =
      let low : number ≤ length machine.history = omega (arith, h.snapshot, bound) in
      quietly asked machine (said.Exported number rows batches frozen) refl refl refl refl (let e : nat_le number (length machine.history) ≡ true = grind (arith, nat_tests, low) in e)
  export-within asked t table (said.Dirty key) bound h = quietly asked machine (said.Dirty key) refl refl refl refl refl
  export-within asked t table said.Memory bound h = quietly asked machine said.Memory refl refl refl refl refl
  export-within asked t table _ bound h = absurd h

  -- What an export tells, in a transaction or not, leaves the machine as it is.
  export-quiet : (asked : Command) (who : Who) (table : ℕ) (told : Said) (found : Option Transaction) → open_of who machine ≡ found → ExportsBy tables front machine found table told → Quiet asked told machine machine
  export-quiet asked who table told None at h = subst (λ (s : Said). Quiet asked s machine machine) (sym h) (quietly asked machine said.NoTransaction refl refl refl refl refl)
  export-quiet asked (Session session) table told (Some t) at h = export-within asked t table told (sane.bound session t at) h
  export-quiet asked (Worker worker) table told (Some t) at h = absurd (let never : ⊥ = cc in never)

  -- What is told to a command that asks nothing of the machine changes nothing.
  aside-quiet : (who : Who) (asked : Command) (told : Said) → Aside tables front machine who asked told → Quiet asked told machine machine
  aside-quiet who (command.Export table) told h = export-quiet (command.Export table) who table told (open_of who machine) refl h
  aside-quiet who asked told h = upkeep-quiet asked told h.1

  -- A reply to a command that asks nothing of the machine is a change by nothing.
  aside-change : (who : Who) (asked : Command) (told : Said) (after : IsolationMachine) → Aside tables front machine who asked told × (after ≡ machine) → Change who asked told machine after
  aside-change who asked told after h = subst (λ (m : IsolationMachine). Change who asked told machine m) (sym h.1) (quiet (aside-quiet who asked told h.0))

  -- What a reply makes of the machine.
  pub takes-change : (number round index : ℕ) (who : Who) (asked : Command) (told : Said) (after : IsolationMachine)
      → Takes tables front machine (record { number = number; command = asked; reply = record { round = round; who = who; index = index; said = told } }) after → Change who asked told machine after
  takes-change number round index (Worker worker) asked told after h = aside-change (Worker worker) asked told after h
  takes-change number round index (Session session) (command.Begin checked) told after h =
      outcome-change machine sane session (reads_after (thread (Session session) front)) (command.Begin checked) (act.Begin checked) told after (begin-stepped machine sane session checked (transaction_of session machine) refl) h.outcome h.tells h.allows
  takes-change number round index (Session session) (command.Get table key) told after h =
      outcome-change machine sane session (reads_after (thread (Session session) front)) (command.Get table key) (act.Get table key) told after (get-stepped machine sane session table key (transaction_of session machine)) h.outcome h.tells h.allows
  takes-change number round index (Session session) (command.Scan table) told after h =
      outcome-change machine sane session (reads_after (thread (Session session) front)) (command.Scan table) (act.Scan table) told after (scan-stepped machine sane session table (transaction_of session machine)) h.outcome h.tells h.allows
  takes-change number round index (Session session) (command.Range table low high) told after h =
      outcome-change machine sane session (reads_after (thread (Session session) front)) (command.Range table low high) (act.Range table low high) told after (range-stepped machine sane session table low high (transaction_of session machine)) h.outcome h.tells h.allows
  takes-change number round index (Session session) (command.Total table column low high) told after h =
      outcome-change machine sane session (reads_after (thread (Session session) front)) (command.Total table column low high) (act.Total table column low high) told after (total-stepped machine sane session table column low high (transaction_of session machine)) h.outcome h.tells h.allows
  takes-change number round index (Session session) (command.Insert table row) told after h =
      outcome-change machine sane session (reads_after (thread (Session session) front)) (command.Insert table row) (act.Insert table row) told after (insert-stepped machine sane session table row (transaction_of session machine) refl) h.outcome h.tells h.allows
  takes-change number round index (Session session) (command.Update table row) told after h =
      outcome-change machine sane session (reads_after (thread (Session session) front)) (command.Update table row) (act.Update table row) told after (update-stepped machine sane session table row (transaction_of session machine) refl) h.outcome h.tells h.allows
  takes-change number round index (Session session) (command.Delete table key) told after h =
      outcome-change machine sane session (reads_after (thread (Session session) front)) (command.Delete table key) (act.Delete table key) told after (delete-stepped machine sane session table key (transaction_of session machine) refl) h.outcome h.tells h.allows
  takes-change number round index (Session session) command.Commit told after h =
      outcome-change machine sane session (reads_after (thread (Session session) front)) command.Commit act.Commit told after (commit-with machine sane session (reads_after (thread (Session session) front)) (stale_of machine (reads_after (thread (Session session) front)) session act.Commit) (transaction_of session machine) refl refl)
      h.outcome h.tells h.allows
  takes-change number round index (Session session) command.Abort told after h =
      outcome-change machine sane session (reads_after (thread (Session session) front)) command.Abort act.Abort told after (abort-stepped machine sane session (transaction_of session machine) refl) h.outcome h.tells h.allows
  takes-change number round index (Session session) command.Observe told after h = aside-change (Session session) command.Observe told after h
  takes-change number round index (Session session) command.Prune told after h = aside-change (Session session) command.Prune told after h
  takes-change number round index (Session session) (command.Compact table) told after h = aside-change (Session session) (command.Compact table) told after h
  takes-change number round index (Session session) (command.Seal table block) told after h = aside-change (Session session) (command.Seal table block) told after h
  takes-change number round index (Session session) (command.Gather table block) told after h = aside-change (Session session) (command.Gather table block) told after h
  takes-change number round index (Session session) (command.Export table) told after h = aside-change (Session session) (command.Export table) told after h
