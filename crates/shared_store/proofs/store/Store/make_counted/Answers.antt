use Rattle.std.proofs.Common.{subst}
use Rattle.run_spec.specs.Opened.{own_behind}
use Rattle.shared_store.specs.Store.{IsStore, shape_in}
use Rattle.shared_store.proofs.Made.{few_still, made_whole, may_make_held}
use Rattle.shared_store.proofs.store.Store.make_counted.Goals as goal

pub make_held-reply-requires : goal.make_held-reply-requires
make_held-reply-requires g c =
    let s = c.args.pass.now in
    let t = c.take_for.new.pass in
    let takes = c.take_for.ensures.takes c.requires.session c.requires.own c.requires.at' in
    may_make_held c.args.self.now (subst IsStore c.self.view_is c.self.invariant) s.seat t.seat s.hands t.hands c.args.event c.requires takes

pub give_back-requires : goal.give_back-requires
give_back-requires g c =
    let takes = c.take_for.ensures.takes c.requires.session c.requires.own c.requires.at' in
    let held = c.make_held-reply.ensures.made 0 c.requires.session c.requires.own takes.within c.requires.mine in
    (c.requires.session, own_behind c.requires.own c.args.event c.make_held-reply.result, held.within)

pub returns-clause-made : goal.returns-clause-made
returns-clause-made g c session own at' mine =
    let s = c.args.pass.now in
    let t = c.take_for.new.pass in
    let u = c.make_held-reply.new.pass in
    let w = c.give_back.new.pass in
    let told = c.make_held-reply.result in
    let takes = c.take_for.ensures.takes session own at' in
    let held = c.make_held-reply.ensures.made 0 session own takes.within mine in
    let gives = c.give_back.ensures session (own_behind own c.args.event told) held.within in
    made_whole c.args.self.now session s.seat t.seat u.seat w.seat t.hands u.hands w.hands own c.args.event told takes held gives

pub returns-clause-steps : goal.returns-clause-steps
returns-clause-steps g c =
    let u = c.make_held-reply.new.pass in
    let w = c.give_back.new.pass in
    let told = c.make_held-reply.result in
    let takes = c.take_for.ensures.takes c.requires.session c.requires.own c.requires.at' in
    let held = c.make_held-reply.ensures.made 0 c.requires.session c.requires.own takes.within c.requires.mine in
    let gives = c.give_back.ensures c.requires.session (own_behind c.requires.own c.args.event told) held.within in
    few_still (shape_in c.args.self.now) u.seat.me.0 w.seat.me.0 c.args.event told c.args.steps.now c.make_held-reply.new.steps gives.log c.make_held-reply.ensures.steps
