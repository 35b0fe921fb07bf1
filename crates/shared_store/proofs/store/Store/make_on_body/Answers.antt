use Rattle.std.proofs.Common.{subst}
use Rattle.hall_steps.specs.Hall.{first_of}
use Rattle.run_spec.specs.Opened.{own_behind}
use Rattle.shared_store.specs.Store.{IsStore}
use Rattle.shared_store.proofs.Alone.{alone_still}
use Rattle.shared_store.proofs.Made.{made_whole, may_make_held}
use Rattle.shared_store.proofs.store.Store.make_on_body.Goals as goal

pub make_on-reply-requires : goal.make_on-reply-requires
make_on-reply-requires g c =
    let s = c.args.pass.now in
    let t = c.take_body-body.new.pass in
    let r = c.requires.may in
    let takes = c.take_body-body.ensures.takes c.args.event c.requires.alone r.session r.own r.at' in
    may_make_held c.args.self.now (subst IsStore c.self.view_is c.self.invariant) s.seat t.seat s.hands t.hands c.args.event r takes

pub give_alone-requires-clause-pass : goal.give_alone-requires-clause-pass
give_alone-requires-clause-pass g c =
    let r = c.requires.may in
    let takes = c.take_body-body.ensures.takes c.args.event c.requires.alone r.session r.own r.at' in
    let held = c.make_on-reply.ensures 0 r.session r.own takes.within r.mine in
    (r.session, own_behind r.own c.args.event c.make_on-reply.result, held.within)

pub give_alone-requires-clause-alone : goal.give_alone-requires-clause-alone
give_alone-requires-clause-alone g c =
    let t = c.take_body-body.new.pass in
    let u = c.make_on-reply.new.pass in
    let r = c.requires.may in
    let takes = c.take_body-body.ensures.takes c.args.event c.requires.alone r.session r.own r.at' in
    let held = c.make_on-reply.ensures 0 r.session r.own takes.within r.mine in
    alone_still (first_of t.hands) (first_of u.hands) c.take_body-body.result c.take_body-body.ensures.alone held.room

pub returns : goal.returns
returns g c session own at' mine =
    let s = c.args.pass.now in
    let t = c.take_body-body.new.pass in
    let u = c.make_on-reply.new.pass in
    let w = c.give_alone.new.pass in
    let told = c.make_on-reply.result in
    let takes = c.take_body-body.ensures.takes c.args.event c.requires.alone session own at' in
    let held = c.make_on-reply.ensures 0 session own takes.within mine in
    let gives = c.give_alone.ensures session (own_behind own c.args.event told) held.within in
    made_whole c.args.self.now session s.seat t.seat u.seat w.seat t.hands u.hands w.hands own c.args.event told takes held gives
