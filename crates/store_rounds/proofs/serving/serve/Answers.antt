use Rattle.std.proofs.Common.{◌≡◌, ℕ, List, Some, refl, ap, sym, ◌∙◌, subst}
use Rattle.std.specs.Prelude.{IfErr}
use Rattle.shared_store.specs.declared.session.Session.{Session}
use Rattle.store_rounds.specs.Served.{Served, SessionServed}
use Rattle.store_rounds.specs.Turned.{TurnsMade}
use Rattle.store_rounds.specs.declared.duty.Duty.{Duty}
use Rattle.store_rounds.specs.declared.duty.Task.TheVariants as task
use Rattle.store_rounds.specs.declared.fault.RunFault.TheVariants as fault
use Rattle.store_rounds.proofs.Parts.{none_of, nothing_served, session_served, worker_served}
use Rattle.store_rounds.proofs.serving.serve.Goals.{in-Commands, in-Turns}
use Rattle.store_rounds.proofs.serving.serve.Goals as goal

pub returns-in_default-clause-served : goal.returns-in_default-clause-served
returns-in_default-clause-served g c =
    nothing_served c.args.store.now c.args.session.now c.args.duty.now _ _ c.requires.may
    (none_of c.args.duty.now.task (λ t e. c.in_default.not-Some t (c.take.ensures.value ∙ e))) refl refl

pub returns-clause-served : goal.returns-clause-served
returns-clause-served g c = elim c.match-task.branch [
  | in-Commands w ↦
      (let asked : c.args.duty.now.task ≡ Some (task.Commands w.in-Commands.commands) = cc (c.take.ensures.value, c.in-Some.is, w.in-Commands.is) in
      let text : w.work-duty.new.lines.text.items ≡ c.match-task.duty.lines.text.items = ap (λ (d : Duty). d.lines.text.items) (sym w.duty-is) in
      session_served c.args.store.now c.args.session.now c.match-task.session c.args.duty.now _ w.in-Commands.commands _ _ asked
      (subst (λ o. SessionServed c.args.store.now c.args.duty.now.lines.round c.args.session.now c.match-task.session w.in-Commands.commands.items
      c.args.duty.now.lines.text.items c.match-task.duty.lines.text.items c.match-task.duty2 (g.X.Sink.written c.args.outlet.now) (g.X.Sink.written o)) (sym w.outlet-is)
      (subst (λ r. SessionServed c.args.store.now c.args.duty.now.lines.round c.args.session.now c.match-task.session w.in-Commands.commands.items
      c.args.duty.now.lines.text.items c.match-task.duty.lines.text.items r (g.X.Sink.written c.args.outlet.now) (g.X.Sink.written w.work-duty.new.outlet)) (sym w.duty2-is)
      (subst (λ (t : List ℕ). SessionServed c.args.store.now c.args.duty.now.lines.round c.args.session.now c.match-task.session w.in-Commands.commands.items
      c.args.duty.now.lines.text.items t w.work-duty.result (g.X.Sink.written c.args.outlet.now) (g.X.Sink.written w.work-duty.new.outlet)) text
      (subst (λ (s : Session). SessionServed c.args.store.now c.args.duty.now.lines.round c.args.session.now s w.in-Commands.commands.items
      c.args.duty.now.lines.text.items w.work-duty.new.lines.text.items w.work-duty.result (g.X.Sink.written c.args.outlet.now) (g.X.Sink.written w.work-duty.new.outlet)) (sym w.session-is)
      w.work-duty.ensures.served)))))
  | in-Turns w ↦
      (let after : Duty = record { task = c.match-task.duty.task; lines = c.match-task.duty.lines; spent = c.match-task.duty.spent; ended = c.match-task.duty2 } in
      let asked : c.args.duty.now.task ≡ Some (task.Turns w.in-Turns.worker w.in-Turns.turns) = cc (c.take.ensures.value, c.in-Some.is, w.in-Turns.is) in
      let text : w.make_turns-duty.new.lines.text.items ≡ c.match-task.duty.lines.text.items = ap (λ (d : Duty). d.lines.text.items) (sym w.duty-is) in
      subst (λ o. Served c.args.store.now c.args.session.now c.match-task.session c.args.duty.now after (g.X.Sink.written c.args.outlet.now) (g.X.Sink.written o)) (sym w.outlet-is)
      (worker_served c.args.store.now c.args.session.now c.match-task.session c.args.duty.now after w.in-Turns.worker w.in-Turns.turns _ asked
      (subst (λ r. TurnsMade c.args.store.now c.args.duty.now.lines.round w.in-Turns.worker w.in-Turns.turns c.args.session.now c.match-task.session
      c.args.duty.now.lines.text.items c.match-task.duty.lines.text.items r) (sym w.duty2-is)
      (subst (λ (t : List ℕ). TurnsMade c.args.store.now c.args.duty.now.lines.round w.in-Turns.worker w.in-Turns.turns c.args.session.now c.match-task.session
      c.args.duty.now.lines.text.items t w.make_turns-duty.result) text
      (subst (λ (s : Session). TurnsMade c.args.store.now c.args.duty.now.lines.round w.in-Turns.worker w.in-Turns.turns c.args.session.now s
      c.args.duty.now.lines.text.items w.make_turns-duty.new.lines.text.items w.make_turns-duty.result) (sym w.session-is)
      w.make_turns-duty.ensures.turned)))
      (subst (λ r. IfErr r (λ failed. failed ≡ fault.Memory)) (sym w.duty2-is) w.make_turns-duty.ensures.memory)))
]
