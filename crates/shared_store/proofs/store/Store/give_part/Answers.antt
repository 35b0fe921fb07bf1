use Rattle.std.proofs.Common.{ap}
use Rattle.hall_steps.specs.Hall.{IsPass}
use Rattle.shared_store.proofs.Rested.{gave_part}
use Rattle.shared_store.proofs.Shown.{by_hall, by_laws}
use Rattle.shared_store.proofs.store.Store.give_part.Goals as goal

pub give-requires-clause-pass : goal.give-requires-clause-pass
give-requires-clause-pass c κs =
    let s = c.args.pass.now in
    by_hall (λ M w. IsPass M w.id s.seat s.hands) c.self.inside.hall c.args.self.now c.self.invariant c.self.view_is c.requires.pass.2.pass

pub returns-clause-gives : goal.returns-clause-gives
returns-clause-gives c session own within =
    let u = c.args.pass.now in
    let w = c.give.new.pass in
    let left = by_laws (λ M w'. IsPass M w'.id w.seat w.hands) c.self.inside.hall c.args.self.now c.self.invariant c.self.view_is c.give.ensures.pass in
    gave_part c.args.self.now session c.args.part u.seat w.seat u.hands w.hands own within left (ap (λ m. m.0) c.give.ensures.view)
