use Rattle.std.proofs.Common.{◌≡◌, ◌∙◌, eqb, List, map, Some, ap, sym, subst}
use Rattle.std.specs.Prelude.{position}
use Rattle.isolation_spec.specs.Checked.{CheckedMachine, Reading, step}
use Rattle.isolation_spec.specs.Machine.{IsolationMachine}
use Rattle.timeline_laws.proofs.Steps.{asks}
use Rattle.si_machine.specs.declared.reads.Reading.{Reading as KeptReading}
use Rattle.si_machine.specs.Kept.{machine_in}
use Rattle.si_machine.specs.Readings.{AreRead, reading_in}
use Rattle.si_machine.proofs.Parts.{on-err}
use Rattle.si_machine.proofs.Readings.{change-none, kept-more, kept-same, missed-kept, read-after, read-more, read-on, read-same, read-step, with_one}
use Rattle.si_machine.proofs.machine.Machine.read.Goals as goal
use Rattle.si_machine.proofs.machine.Machine.read.Goals.{in-Some+in_ok-enter, in_default}

pub invariant_of-self-in-Continue-branch-2 : goal.invariant_of-self-in-Continue-branch-2
invariant_of-self-in-Continue-branch-2 c =
    let machine = machine_in c.self.inside.ledger in
    let after = machine_in c.step.new.self in
    let items : List KeptReading = c.self.inside.readings.items in
    let readings = map reading_in items in
    let told : c.reading_of.result ≡ position (λ (r : KeptReading). eqb r.session c.args.session) c.deref.result.now = c.reading_of.ensures in
    let some : position (λ (r : KeptReading). eqb r.session c.args.session) items ≡ Some c.in-Some.at =
    ap (position (λ (r : KeptReading). eqb r.session c.args.session)) (sym c.deref.ensures.value) ∙ sym told ∙ c.in-Some.is in
    let more = kept-more items c.in-Some.at c.index_mut.result.now c.args.session c.args.what c.enter.new.self c.self.invariant.1.apart some c.index_mut.ensures.value c.in_ok-enter.ensures.ok in
    (c.step.ensures.kept, subst (AreRead after) (sym more) (read-more machine after readings c.args.session c.args.asked c.in_ok-answer.answer c.in_ok-answer.ensures.ok c.self.invariant.1 c.args.what (read-on c.args.asked c.args.what c.requires.what)))

pub invariant_of-self-in_err-enter : goal.invariant_of-self-in_err-enter
invariant_of-self-in_err-enter c =
    let machine = machine_in c.self.inside.ledger in
    let after = machine_in c.step.new.self in
    let items : List KeptReading = c.self.inside.readings.items in
    let same = kept-same items c.in-Some.at c.index_mut.result.now c.enter.new.self c.index_mut.ensures.value c.in_err-enter.ensures.err in
    (c.step.ensures.kept, subst (AreRead after) (sym same) (read-same machine after (map reading_in items) c.args.session c.args.asked c.in_ok-answer.answer c.in_ok-answer.ensures.ok c.self.invariant.1 (read-on c.args.asked c.args.what c.requires.what)))

pub returns-in_err-enter-clause-err : goal.returns-in_err-enter-clause-err
returns-in_err-enter-clause-err c =
    let machine = machine_in c.self.inside.ledger in
    let after = machine_in c.step.new.self in
    let items : List KeptReading = c.self.inside.readings.items in
    let same = kept-same items c.in-Some.at c.index_mut.result.now c.enter.new.self c.index_mut.ensures.value c.in_err-enter.ensures.err in
    on-err c.from_residual-in_err-enter.result
    (ap (λ (rs : List Reading). record { machine = after; readings = rs }) same
    ∙ ap (λ (m : IsolationMachine). record { machine = m; readings = map reading_in items }) (read-after machine after c.args.session c.args.asked c.args.what c.in_ok-answer.answer c.in_ok-answer.ensures.ok c.requires.what)
    ∙ c.self.view_is)

pub invariant_of-self-in_default : goal.invariant_of-self-in_default
invariant_of-self-in_default c =
    let machine = machine_in c.self.inside.ledger in
    let after = machine_in c.step.new.self in
    (c.step.ensures.kept, read-same machine after (map reading_in c.self.inside.readings.items) c.args.session c.args.asked c.in_ok-answer.answer c.in_ok-answer.ensures.ok c.self.invariant.1 (read-on c.args.asked c.args.what c.requires.what))

pub returns-clause-ok : goal.returns-clause-ok
returns-clause-ok c =
    let machine = machine_in c.self.inside.ledger in
    let after = machine_in c.step.new.self in
    let items : List KeptReading = c.self.inside.readings.items in
    let readings = map reading_in items in
    let told : c.reading_of.result ≡ position (λ (r : KeptReading). eqb r.session c.args.session) c.deref.result.now = c.reading_of.ensures in
    let kept : position (λ (r : KeptReading). eqb r.session c.args.session) items ≡ c.reading_of.result =
    ap (position (λ (r : KeptReading). eqb r.session c.args.session)) (sym c.deref.ensures.value) ∙ sym told in
    let made = ap (λ (m : CheckedMachine). step m (asks c.args.session c.args.asked)) (sym c.self.view_is)
    ∙ read-step machine after readings c.args.session c.in_ok-answer.answer c.args.asked c.args.what c.in_ok-answer.ensures.ok c.self.invariant.1 c.requires.what in
    elim c.match-reading_of.branch [
      | in-Some+in_ok-enter w ↦
          made
          ∙ ap (λ (rs : List Reading). (c.in_ok-answer.answer, record { machine = after; readings = rs }))
          (sym (kept-more items w.in-Some.at w.index_mut.result.now c.args.session c.args.what w.enter.new.self c.self.invariant.1.apart (kept ∙ w.in-Some.is) w.index_mut.ensures.value w.in_ok-enter.ensures.ok))
          ∙ ap (λ (m : CheckedMachine). (c.in_ok-answer.answer, m)) (sym w.self-is)
      | in_default w ↦
          made
          ∙ ap (λ (rs : List Reading). (c.in_ok-answer.answer, record { machine = after; readings = rs }))
          (change-none c.args.session (with_one c.args.what) readings (missed-kept c.args.session items (kept ∙ w.in_default.is)))
          ∙ ap (λ (m : CheckedMachine). (c.in_ok-answer.answer, m)) (sym w.self-is)
    ]
