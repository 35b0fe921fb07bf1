-- A reply leaves one machine behind it.
use Rattle.std.proofs.Common.{◌≡◌, ◌⊎◌, inl, inr, ℕ, true, false, List, [], Option, None, Some, refl, sym, ap, ◌∙◌, ℤ}
use Rattle.std.specs.Option.{option_map_or}
use Rattle.cell_model.specs.declared.cell.Cell.{Cell}
use Rattle.cell_model.specs.declared.table.TableDecl.{TableDecl}
use Rattle.isolation_spec.specs.declared.command.Act.TheVariants as act
use Rattle.isolation_spec.specs.declared.command.Answer.{Answer}
use Rattle.isolation_spec.specs.declared.place.Place.{Place}
use Rattle.isolation_spec.specs.Reads.{ReadSet}
use Rattle.isolation_spec.specs.Machine.{IsolationMachine, Transaction, step_of, transaction_of, with_own, without}
use Rattle.isolation_spec.specs.Store.{Allows, Answered, Freezing, Full, Memory, Outcome}
use Rattle.outcome_spec.specs.Entries.{Entry, thread}
use Rattle.outcome_spec.specs.Stale.{reads_after}
use Rattle.outcome_spec.specs.Runs.{write_of}
use Rattle.run_laws.specs.Calls.Coming.{is_single}
use Rattle.timeline_laws.proofs.Machine.{begun, committed}
use Rattle.timeline_laws.proofs.Steps.{Change, Quiet, commits, ends, opens, quiet, writes}
use Rattle.timeline_spec.specs.Timeline.{TakesAs, request_of}
use Rattle.workload_spec.specs.declared.command.Command.{Command}
use Rattle.workload_spec.specs.declared.command.Command.TheVariants as command
use Rattle.workload_spec.specs.declared.reply.Said.{Said}
use Rattle.workload_spec.specs.declared.reply.Said.TheVariants as said
use Rattle.workload_spec.specs.declared.reply.Who.{Who}
use Rattle.workload_spec.specs.declared.reply.Who.TheVariants.{Session, Worker}

-- True and false are never the same.
true_false : true ≡ false → ⊥
true_false e = cc

-- Something is never the same as nothing.
none_some : {X : Type 0} (x : X) → Some x ≡ None → ⊥
none_some x e = cc

-- The number of a session, and zero for a worker.
abbrev number_of : Who → ℕ
number_of (Session session) = session
number_of (Worker worker) = 0

-- the machine behind a reply
abbrev behind : Who → Command → Said → IsolationMachine → IsolationMachine
behind who asked (said.At number) machine = begun (number_of who) machine
behind who asked said.Accepted machine = option_map_or (λ (w : Place × Option (List Cell)). with_own (number_of who) w.0 w.1 machine) (write_of asked) machine
behind who asked said.Aborted machine = without (number_of who) machine
behind who asked (said.Committed None) machine = without (number_of who) machine
behind who asked (said.Committed (Some number)) machine =
    option_map_or (λ (t : Transaction). committed (number_of who) t.own machine) (transaction_of (number_of who) machine) machine
behind who asked _ machine = machine

-- Behind a reply that changes nothing stands the machine that was before it.
quiet_behind : (who : Who) (asked : Command) (told : Said) (machine after : IsolationMachine) → Quiet asked told machine after → behind who asked told machine ≡ machine
quiet_behind who asked (said.At number) machine after q = absurd (none_some number q.opens)
quiet_behind who asked said.Accepted machine after q = ap (λ w. option_map_or (λ (w : Place × Option (List Cell)). with_own (number_of who) w.0 w.1 machine) w machine) q.writes
quiet_behind who asked said.Aborted machine after q = absurd (true_false q.on)
quiet_behind who asked (said.Committed None) machine after q = absurd (true_false q.on)
quiet_behind who asked (said.Committed (Some number)) machine after q = absurd (true_false q.on)
quiet_behind who asked _ machine after q = refl

-- The machine that a reply changes to is the one that stands behind it.
change_behind : (who : Who) (asked : Command) (told : Said) (machine after : IsolationMachine) → Change who asked told machine after → after ≡ behind who asked told machine
change_behind who asked told machine after (quiet q) = q.same ∙ sym (quiet_behind who asked told machine after q)
change_behind who asked told machine after (opens o) =
    o.is ∙ ap (λ w. begun (number_of w) machine) (sym o.who_is) ∙ ap (λ s. behind who asked s machine) (sym o.said_is)
change_behind who asked told machine after (writes w) =
    w.is
    ∙ ap (λ o. option_map_or (λ (x : Place × Option (List Cell)). with_own w.session x.0 x.1 machine) o machine) (sym w.write)
    ∙ ap (λ who. behind who asked said.Accepted machine) (sym w.who_is)
    ∙ ap (λ s. behind who asked s machine) (sym w.said_is)
change_behind who asked told machine after (ends e) = e.is ∙ go e.said_is
  where
    go : (told ≡ said.Aborted) ⊎ ((told ≡ said.Committed None) × (e.t.own ≡ [])) → without e.session machine ≡ behind who asked told machine
    go (inl is) = ap (λ w. without (number_of w) machine) (sym e.who_is) ∙ ap (λ s. behind who asked s machine) (sym is)
    go (inr is) = ap (λ w. without (number_of w) machine) (sym e.who_is) ∙ ap (λ s. behind who asked s machine) (sym is.0)
change_behind who asked told machine after (commits c) =
    c.is
    ∙ ap (λ o. option_map_or (λ (t : Transaction). committed c.session t.own machine) o machine) (sym c.at)
    ∙ ap (λ w. option_map_or (λ (t : Transaction). committed (number_of w) t.own machine) (transaction_of (number_of w) machine) machine) (sym c.who_is)
    ∙ ap (λ s. behind who asked s machine) (sym c.said_is)

-- a reply allows one machine behind it
pub change_once : (who : Who) (asked : Command) (told : Said) (machine a b : IsolationMachine) → Change who asked told machine a → Change who asked told machine b → a ≡ b
change_once who asked told machine a b one other = change_behind who asked told machine a one ∙ sym (change_behind who asked told machine b other)

-- ---- replies that leave the machine as it is

-- A scan that the machine allows leaves it as it was.
scan_stays : (machine : IsolationMachine) (reads : Option ReadSet) (session table : ℕ) (outcome : Outcome) (after : IsolationMachine)
    → Allows machine reads (record { session = session; act = act.Scan table }) outcome after → after ≡ machine
scan_stays machine reads session table (Answered answer) after allows = go (transaction_of session machine) allows
  where
    go : (found : Option Transaction) → step_of machine (record { session = session; act = act.Scan table }) found ≡ (answer, after) → after ≡ machine
    go None e = sym (ap (λ (p : Answer × IsolationMachine). p.1) e)
    go (Some t) e = sym (ap (λ (p : Answer × IsolationMachine). p.1) e)
scan_stays machine reads session table Freezing after allows = allows.2
scan_stays machine reads session table Full after allows = allows.2
scan_stays machine reads session table Memory after allows = allows.2

-- A range that the machine allows leaves it as it was.
range_stays : (machine : IsolationMachine) (reads : Option ReadSet) (session table : ℕ) (low high : ℤ) (outcome : Outcome) (after : IsolationMachine)
    → Allows machine reads (record { session = session; act = act.Range table low high }) outcome after → after ≡ machine
range_stays machine reads session table low high (Answered answer) after allows = go (transaction_of session machine) allows
  where
    go : (found : Option Transaction) → step_of machine (record { session = session; act = act.Range table low high }) found ≡ (answer, after) → after ≡ machine
    go None e = sym (ap (λ (p : Answer × IsolationMachine). p.1) e)
    go (Some t) e = sym (ap (λ (p : Answer × IsolationMachine). p.1) e)
range_stays machine reads session table low high Freezing after allows = allows.2
range_stays machine reads session table low high Full after allows = allows.2
range_stays machine reads session table low high Memory after allows = allows.2

-- A total that the machine allows leaves it as it was.
total_stays : (machine : IsolationMachine) (reads : Option ReadSet) (session table column : ℕ) (low high : ℤ) (outcome : Outcome) (after : IsolationMachine)
    → Allows machine reads (record { session = session; act = act.Total table column low high }) outcome after → after ≡ machine
total_stays machine reads session table column low high (Answered answer) after allows = go (transaction_of session machine) allows
  where
    go : (found : Option Transaction) → step_of machine (record { session = session; act = act.Total table column low high }) found ≡ (answer, after) → after ≡ machine
    go None e = sym (ap (λ (p : Answer × IsolationMachine). p.1) e)
    go (Some t) e = sym (ap (λ (p : Answer × IsolationMachine). p.1) e)
total_stays machine reads session table column low high Freezing after allows = allows.2
total_stays machine reads session table column low high Full after allows = allows.2
total_stays machine reads session table column low high Memory after allows = allows.2

-- a command that asks nothing of the machine leaves it
pub others_stay : (tables : List TableDecl) (front : List Entry) (machine : IsolationMachine) (entry : Entry) (after : IsolationMachine) (who : Who) (asked : Command)
    → is_single asked ≡ false → TakesAs tables front machine entry after (request_of who asked) → after ≡ machine
others_stay tables front machine entry after (Worker worker) asked other takes = takes.1
others_stay tables front machine entry after (Session session) (command.Scan table) other takes = scan_stays machine (reads_after (thread entry.reply.who front)) session table takes.outcome after takes.allows
others_stay tables front machine entry after (Session session) (command.Range table low high) other takes = range_stays machine (reads_after (thread entry.reply.who front)) session table low high takes.outcome after takes.allows
others_stay tables front machine entry after (Session session) (command.Total table column low high) other takes = total_stays machine (reads_after (thread entry.reply.who front)) session table column low high takes.outcome after takes.allows
others_stay tables front machine entry after (Session session) (command.Export table) other takes = takes.1
others_stay tables front machine entry after (Session session) command.Observe other takes = takes.1
others_stay tables front machine entry after (Session session) command.Prune other takes = takes.1
others_stay tables front machine entry after (Session session) (command.Compact table) other takes = takes.1
others_stay tables front machine entry after (Session session) (command.Seal table block) other takes = takes.1
others_stay tables front machine entry after (Session session) (command.Gather table block) other takes = takes.1
others_stay tables front machine entry after (Session session) (command.Begin checked) other takes = absurd (true_false other)
others_stay tables front machine entry after (Session session) (command.Get table key) other takes = absurd (true_false other)
others_stay tables front machine entry after (Session session) (command.Insert table row) other takes = absurd (true_false other)
others_stay tables front machine entry after (Session session) (command.Update table row) other takes = absurd (true_false other)
others_stay tables front machine entry after (Session session) (command.Delete table key) other takes = absurd (true_false other)
others_stay tables front machine entry after (Session session) command.Commit other takes = absurd (true_false other)
others_stay tables front machine entry after (Session session) command.Abort other takes = absurd (true_false other)
