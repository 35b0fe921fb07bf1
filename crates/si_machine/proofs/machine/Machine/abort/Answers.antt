use Rattle.std.proofs.Common.{◌≡◌, ◌∙◌, List, map, ap, sym, subst}
use Rattle.isolation_spec.specs.Checked.{CheckedMachine, Reading, dropped, step}
use Rattle.isolation_spec.specs.declared.command.Act.TheVariants as act
use Rattle.timeline_laws.proofs.Steps.{asks}
use Rattle.si_machine.specs.Kept.{machine_in}
use Rattle.si_machine.specs.Readings.{AreRead, reading_in}
use Rattle.si_machine.proofs.Readings.{abort-step, map-dropped, read-dropped}
use Rattle.si_machine.proofs.machine.Machine.abort.Goals as goal

pub invariant_of-self-2 : goal.invariant_of-self-2
invariant_of-self-2 c =
    let machine = machine_in c.self.inside.ledger in
    let after = machine_in c.step.new.self in
    let readings = map reading_in c.self.inside.readings.items in
    let left : map reading_in c.forget.new.readings.items ≡ dropped c.args.session readings = ap (map reading_in) c.forget.ensures ∙ map-dropped c.args.session c.self.inside.readings.items in
    (c.step.ensures.kept, subst (AreRead after) (sym left) (read-dropped machine after readings c.args.session act.Abort c.in_ok-answer.answer c.in_ok-answer.ensures.ok c.self.invariant.1))

pub returns-clause-ok : goal.returns-clause-ok
returns-clause-ok c =
    let machine = machine_in c.self.inside.ledger in
    let after = machine_in c.step.new.self in
    let readings = map reading_in c.self.inside.readings.items in
    let left : map reading_in c.forget.new.readings.items ≡ dropped c.args.session readings = ap (map reading_in) c.forget.ensures ∙ map-dropped c.args.session c.self.inside.readings.items in
    ap (λ (m : CheckedMachine). step m (asks c.args.session act.Abort)) (sym c.self.view_is)
    ∙ abort-step machine after readings c.args.session c.in_ok-answer.answer c.in_ok-answer.ensures.ok c.self.invariant.1
    ∙ ap (λ (rs : List Reading). (c.in_ok-answer.answer, record { machine = after; readings = rs })) (sym left)
