use Rattle.std.proofs.Common.{◌≡◌, ◌∙◌, sym, false}
use Rattle.std.specs.Prelude.{is_some}
use Rattle.isolation_spec.specs.Contents.{at_place}
use Rattle.si_machine.proofs.Marks.{added-numbers, added-stays, added-only}
use Rattle.si_machine.proofs.writers.Writers.register.Goals as goal

pub returns-in_ok-insert-clause-numbers : goal.returns-in_ok-insert-clause-numbers
returns-in_ok-insert-clause-numbers c = λ other.
    let missed : is_some (at_place c.args.self.now.places.entries c.args.place) ≡ false = sym c.contains_key.ensures ∙ c.if-not-contains_key.true in
    added-numbers c.args.self.now (record { places = c.insert.new.self }) c.args.place c.new.result c.new.ensures.items missed c.in_ok-insert.ensures.updates.0 other

pub returns-in_ok-insert-clause-stays : goal.returns-in_ok-insert-clause-stays
returns-in_ok-insert-clause-stays c = λ other had.
    let missed : is_some (at_place c.args.self.now.places.entries c.args.place) ≡ false = sym c.contains_key.ensures ∙ c.if-not-contains_key.true in
    added-stays c.args.self.now (record { places = c.insert.new.self }) c.args.place c.new.result c.new.ensures.items missed c.in_ok-insert.ensures.updates.0 other had

pub returns-in_ok-insert-clause-only : goal.returns-in_ok-insert-clause-only
returns-in_ok-insert-clause-only c = λ other has.
    let missed : is_some (at_place c.args.self.now.places.entries c.args.place) ≡ false = sym c.contains_key.ensures ∙ c.if-not-contains_key.true in
    added-only c.args.self.now (record { places = c.insert.new.self }) c.args.place c.new.result c.new.ensures.items missed c.in_ok-insert.ensures.updates.0 other has
