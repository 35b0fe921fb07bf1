use Rattle.std.proofs.Common.{◌≡◌, ◌∙◌, ◌++◌, ◌∷◌, [], List, map, ap, sym, subst}
use Rattle.isolation_spec.specs.Reads.{ReadSet, no_reads}
use Rattle.si_machine.specs.declared.reads.Reading.{Reading as KeptReading}
use Rattle.si_machine.specs.Kept.{machine_in}
use Rattle.si_machine.specs.Readings.{AreRead, reading_in}
use Rattle.si_machine.proofs.Parts.{map-push}
use Rattle.si_machine.proofs.Readings.{read-begun}
use Rattle.si_machine.proofs.machine.Machine.begin_checked.Goals as goal

pub invariant_of-self-in-At : goal.invariant_of-self-in-At
invariant_of-self-in-At c =
    let machine = machine_in c.self.inside.ledger in
    let after = machine_in c.step.new.self in
    let readings = map reading_in c.self.inside.readings.items in
    let more : map reading_in c.push_reserved.new.self.items ≡ readings ++ record { session = c.args.session; reads = no_reads } ∷ [] =
    ap (map reading_in) (c.push_reserved.ensures.items ∙ ap (λ (items : List KeptReading). items ++ record { session = c.args.session; reads = c.new.result } ∷ []) c.in_ok-reserve.ensures.items)
    ∙ map-push reading_in c.self.inside.readings.items (record { session = c.args.session; reads = c.new.result })
    ∙ ap (λ (reads : ReadSet). readings ++ record { session = c.args.session; reads = reads } ∷ []) c.new.ensures in
    (c.step.ensures.kept, subst (AreRead after) (sym more) (read-begun machine after readings c.args.session c.in_ok-answer.answer c.in-At.field-0 c.in_ok-answer.ensures.ok c.in-At.is c.self.invariant.1))
