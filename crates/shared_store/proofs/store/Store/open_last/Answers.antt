use Rattle.std.proofs.Common.{◌≡◌, ◌-◌, [], ◌∷◌, None, List, length, refl, ap, arith}
use Rattle.event_spec.specs.Effects.{CoreEvent}
use Rattle.hall_rule.specs.Views.{greatest}
use Rattle.hall_rule.specs.declared.view.Entry.{Entry}
use Rattle.hall_steps.specs.Hall.{IsNew, IsPass}
use Rattle.shared_store.specs.Building.{IsNewSession}
use Rattle.shared_store.specs.declared.session.Session.{Session}
use Rattle.shared_store.proofs.Rows.{given_is_new, hands_are, left_has, new_session, ok_is}
use Rattle.shared_store.proofs.Shown.{by_hall, by_laws}
use Rattle.shared_store.specs.Building.{StartsKeeping}
use Rattle.shared_store.specs.Commits.{kept_first}
use Rattle.shared_store.proofs.store.Store.open_last.Goals as goal

pub split-last-requires-clause-pass : goal.split-last-requires-clause-pass
split-last-requires-clause-pass c κs =
    by_hall (λ M w. IsPass M w.id c.args.pass.now.seat c.args.pass.now.hands) c.self.inside.hall c.args.self.now c.self.invariant c.self.view_is
    c.requires.has.pass

pub split-last-requires-clause-two : goal.split-last-requires-clause-two
split-last-requires-clause-two c κs =
    let many = hands_are c.args.self.now c.args.number c.args.pass.now.seat c.args.pass.now.hands c.requires.has in
    let more = c.requires.more in
    omega (arith, many, more)

pub split-last-requires-clause-few : goal.split-last-requires-clause-few
split-last-requires-clause-few c κs =
    let none' : length c.args.pass.now.seat.me.0.mine ≡ 0 = ap (λ (es : List (Entry CoreEvent)). length es) c.requires.has.mine in
    omega (arith, none')

pub returns-clause-left : goal.returns-clause-left
returns-clause-left c =
    let last = c.split-last in
    let old = c.args.pass.now in
    let more = c.requires.more in
    left_has c.args.self.now c.args.number (c.args.number - 1) old.seat last.new.pass.seat last.result.seat old.hands last.new.pass.hands last.result.hands
    (omega (arith, more)) c.requires.has
    (by_laws (λ M w. IsPass M w.id last.new.pass.seat last.new.pass.hands) c.self.inside.hall c.args.self.now c.self.invariant c.self.view_is last.ensures.pass)
    last.ensures.seat.1 last.ensures.hand
    (by_laws (λ M w. IsPass M w.id last.result.seat last.result.hands) c.self.inside.hall c.args.self.now c.self.invariant c.self.view_is last.ensures.given)
    (by_laws (λ M w. IsNew M old.seat.me.0 last.result.seat.me.0 (greatest old.seat.me.0.sessions ∷ [])) c.self.inside.hall c.args.self.now c.self.invariant c.self.view_is last.ensures.new)
    last.ensures.empty

pub returns-clause-new : goal.returns-clause-new
returns-clause-new c =
    let last = c.split-last in
    let old = c.args.pass.now in
    let more = c.requires.more in
    let opened : Session = record { pass = last.result; session = c.args.number; snapshot = None; writes = []; reads = None; kept = kept_first c.args.keeps } in
    ok_is (IsNewSession c.args.self.now c.args.number) c.new.result opened c.new.ensures
    (new_session c.args.self.now c.args.number opened
    (given_is_new c.args.self.now c.args.number (c.args.number - 1) old.seat last.new.pass.seat last.result.seat old.hands last.new.pass.hands last.result.hands
    (omega (arith, more)) c.requires.has
    (by_laws (λ M w. IsPass M w.id last.new.pass.seat last.new.pass.hands) c.self.inside.hall c.args.self.now c.self.invariant c.self.view_is last.ensures.pass)
    last.ensures.seat.1 last.ensures.hand
    (by_laws (λ M w. IsPass M w.id last.result.seat last.result.hands) c.self.inside.hall c.args.self.now c.self.invariant c.self.view_is last.ensures.given)
    (by_laws (λ M w. IsNew M old.seat.me.0 last.result.seat.me.0 (greatest old.seat.me.0.sessions ∷ [])) c.self.inside.hall c.args.self.now c.self.invariant c.self.view_is last.ensures.new)
    last.ensures.empty)
    refl refl refl)

pub returns-clause-keeps : goal.returns-clause-keeps
returns-clause-keeps c =
    let opened : Session = record { pass = c.split-last.result; session = c.args.number; snapshot = None; writes = []; reads = None; kept = kept_first c.args.keeps } in
    ok_is (StartsKeeping c.args.keeps) c.new.result opened c.new.ensures refl
