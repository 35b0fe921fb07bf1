use Rattle.std.proofs.Common.{◌≡◌, ◌∙◌, List, map, ap, sym, subst}
use Rattle.isolation_spec.specs.Checked.{CheckedMachine, Reading, dropped, reads_of, stale_of, step}
use Rattle.isolation_spec.specs.declared.command.Act.TheVariants as act
use Rattle.timeline_laws.proofs.Steps.{asks}
use Rattle.si_machine.specs.Kept.{machine_in}
use Rattle.si_machine.specs.Readings.{AreRead, reading_in}
use Rattle.si_machine.proofs.Readings.{commit-step, map-dropped, read-dropped}
use Rattle.si_machine.proofs.machine.Machine.commit.Goals as goal

pub invariant_of-self-2 : goal.invariant_of-self-2
invariant_of-self-2 c =
    let machine = machine_in c.self.inside.ledger in
    let after = machine_in c.step.new.self in
    let readings = map reading_in c.self.inside.readings.items in
    let left : map reading_in c.forget.new.readings.items ≡ dropped c.args.session readings = ap (map reading_in) c.forget.ensures ∙ map-dropped c.args.session c.self.inside.readings.items in
    (c.step.ensures.kept, subst (AreRead after) (sym left) (read-dropped machine after readings c.args.session act.Commit c.in_ok-answer.answer c.in_ok-answer.ensures.ok c.self.invariant.1))

pub returns-clause-ok : goal.returns-clause-ok
returns-clause-ok c =
    let machine = machine_in c.self.inside.ledger in
    let after = machine_in c.step.new.self in
    let readings = map reading_in c.self.inside.readings.items in
    let left : map reading_in c.forget.new.readings.items ≡ dropped c.args.session readings = ap (map reading_in) c.forget.ensures ∙ map-dropped c.args.session c.self.inside.readings.items in
    ap (λ (m : CheckedMachine). step m (asks c.args.session act.Commit)) (sym c.self.view_is)
    ∙ commit-step machine after readings c.args.session c.in_ok-answer.answer c.in_ok-answer.ensures.ok c.self.invariant.1
    (ap (λ (m : CheckedMachine). stale_of m.machine (reads_of c.args.session m) c.args.session act.Commit) c.self.view_is ∙ sym c.stale.ensures ∙ c.in_default.is)
    ∙ ap (λ (rs : List Reading). (c.in_ok-answer.answer, record { machine = after; readings = rs })) (sym left)
