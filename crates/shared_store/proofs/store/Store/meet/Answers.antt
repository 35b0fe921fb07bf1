use Rattle.std.proofs.Common.{refl, sym, subst}
use Rattle.event_spec.specs.Effects.{CoreEvent}
use Rattle.hall_rule.specs.declared.view.View.{View}
use Rattle.run_spec.specs.Handed.{GoesOn}
use Rattle.store_laws.specs.Logs.{log_of}
use Rattle.store_laws.proofs.Machines.{more_commits}
use Rattle.shared_store.specs.Meeting.{Sees}
use Rattle.shared_store.specs.Store.{own_of, seen, shape_in}
use Rattle.shared_store.specs.declared.session.Session.{Session}
use Rattle.shared_store.proofs.Shown.{meets, saw_and_stays}
use Rattle.shared_store.proofs.store.Store.meet.Goals as goal

pub show-requires-clause-from : goal.show-requires-clause-from
show-requires-clause-from c = let a = c.args.a.now in (a.session, own_of a, c.requires.session_a.stands)

pub show-requires-clause-to : goal.show-requires-clause-to
show-requires-clause-to c = let b = c.args.b.now in (b.session, own_of b, c.requires.session_b.stands)

pub show-requires-2-clause-from : goal.show-requires-2-clause-from
show-requires-2-clause-from c =
    let b = c.args.b.now in
    (b.session, own_of b, (c.show.ensures.to b.session (own_of b) c.requires.session_b.stands).stands)

pub show-requires-2-clause-to : goal.show-requires-2-clause-to
show-requires-2-clause-to c =
    let a = c.args.a.now in
    (a.session, own_of a, c.show.ensures.from a.session (own_of a) c.requires.session_a.stands)

pub returns-clause-a : goal.returns-clause-a
returns-clause-a c =
    let a = c.args.a.now in
    let new : Session = record { pass = c.show-2.new.to; session = a.session; snapshot = a.snapshot; writes = a.writes; reads = a.reads; kept = a.kept } in
    meets c.args.self.now a new
    (subst (λ (v : View CoreEvent). Sees c.args.self.now a.session v c.show-2.new.to.seat c.show-2.new.to.hands (own_of a)) c.show.ensures.same
    (c.show-2.ensures.to a.session (own_of a) (c.show.ensures.from a.session (own_of a) c.requires.session_a.stands)))
    refl refl (refl, c.requires.session_a.fits)

pub returns-clause-b : goal.returns-clause-b
returns-clause-b c =
    let b = c.args.b.now in
    let new : Session = record { pass = c.show-2.new.from; session = b.session; snapshot = b.snapshot; writes = b.writes; reads = b.reads; kept = b.kept } in
    let saw = c.show.ensures.to b.session (own_of b) c.requires.session_b.stands in
    meets c.args.self.now b new
    (saw_and_stays c.args.self.now b.session b.pass.seat.me.0 c.show.new.to.seat c.show-2.new.from.seat c.show.new.to.hands c.show-2.new.from.hands (own_of b)
    saw c.show-2.ensures.same (c.show-2.ensures.from b.session (own_of b) saw.stands))
    refl refl (refl, c.requires.session_b.fits)

pub returns-clause-shows_a : goal.returns-clause-shows_a
returns-clause-shows_a c =
    subst (λ (v : View CoreEvent). GoesOn (seen c.args.a.now) (log_of v.log)) (sym c.show-2.ensures.same) c.show.ensures.shows

pub returns-clause-shows_b : goal.returns-clause-shows_b
returns-clause-shows_b c =
    subst (λ (v : View CoreEvent). GoesOn (log_of v.log) (log_of c.show-2.new.to.seat.me.0.log)) (sym c.show-2.ensures.same) c.show-2.ensures.shows

pub returns-clause-commits_a : goal.returns-clause-commits_a
returns-clause-commits_a c =
    more_commits (shape_in c.args.self.now) (seen c.args.a.now) (log_of c.show-2.new.from.seat.me.0.log)
    (subst (λ (v : View CoreEvent). GoesOn (seen c.args.a.now) (log_of v.log)) (sym c.show-2.ensures.same) c.show.ensures.shows)

pub returns-clause-commits_b : goal.returns-clause-commits_b
returns-clause-commits_b c =
    more_commits (shape_in c.args.self.now) (log_of c.show-2.new.from.seat.me.0.log) (log_of c.show-2.new.to.seat.me.0.log)
    (subst (λ (v : View CoreEvent). GoesOn (log_of v.log) (log_of c.show-2.new.to.seat.me.0.log)) (sym c.show-2.ensures.same) c.show-2.ensures.shows)
