use Rattle.std.proofs.Common.{refl}
use Rattle.hall_steps.specs.Hall.{IsPass, Looks}
use Rattle.shared_store.specs.declared.session.Session.{Session}
use Rattle.shared_store.proofs.Ending.{lend_ended}
use Rattle.shared_store.proofs.Shown.{by_hall, by_laws}
use Rattle.shared_store.proofs.store.Store.end_lend.Goals as goal

pub look-requires-clause-pass : goal.look-requires-clause-pass
look-requires-clause-pass c κs =
    let s = c.args.session.now in
    by_hall (λ M w. IsPass M w.id s.pass.seat s.pass.hands) c.self.inside.hall c.args.self.now c.self.invariant c.self.view_is c.requires.session.stands.within.pass

pub returns : goal.returns
returns c =
    let st = c.args.self.now in
    let s = c.args.session.now in
    let t = c.look.new.pass in
    let u = c.leave.new.pass in
    let new : Session = record { pass = u; session = s.session; snapshot = s.snapshot; writes = s.writes; reads = s.reads; kept = s.kept } in
    let there = by_laws (λ M w. IsPass M w.id t.seat t.hands) c.self.inside.hall st c.self.invariant c.self.view_is c.look.ensures.pass in
    let looks = by_laws (λ M w. Looks M s.pass.seat t.seat) c.self.inside.hall st c.self.invariant c.self.view_is c.look.ensures.seen in
    let gone = by_laws (λ M w. IsPass M w.id u.seat u.hands) c.self.inside.hall st c.self.invariant c.self.view_is c.leave.ensures.pass in
    lend_ended st s new c.args.lend t.seat t.hands c.requires.session there looks c.look.ensures.hand gone c.leave.ensures.view c.leave.ensures.hand refl refl refl c.look.ensures.taken c.look.ensures.looked
