use Rattle.std.proofs.Common.{List, length, ap, arith}
use Rattle.event_spec.specs.Effects.{CoreEvent}
use Rattle.hall_rule.specs.declared.view.Entry.{Entry}
use Rattle.run_spec.specs.Opened.{own_behind}
use Rattle.shared_store.specs.Changing.{HasRoomForTwo}
use Rattle.shared_store.proofs.Changed.{changed_whole}
use Rattle.shared_store.proofs.store.Store.change.Goals as goal

pub change_held-told-requires : goal.change_held-told-requires
change_held-told-requires g c =
    let t = c.take_for.new.pass in
    let takes = c.take_for.ensures.takes c.requires.session c.requires.own c.requires.at' in
    let few : HasRoomForTwo t.seat.me.0 = let f = c.requires.few in let m = ap (λ (es : List (Entry CoreEvent)). length es) takes.mine in omega (arith, f, m) in
    record {
      session = c.requires.session;
      own = c.requires.own;
      within = takes.within;
      change = c.requires.change;
      covers = takes.covers;
      few = few;
    }

pub give_back-requires : goal.give_back-requires
give_back-requires g c =
    let takes = c.take_for.ensures.takes c.requires.session c.requires.own c.requires.at' in
    let held = c.change_held-told.ensures c.requires.session c.requires.own takes.within c.requires.change takes.covers in
    (c.requires.session, own_behind c.requires.own c.args.event c.change_held-told.result, held.within)

pub returns : goal.returns
returns g c session own at' change =
    let s = c.args.pass.now in
    let t = c.take_for.new.pass in
    let u = c.change_held-told.new.pass in
    let w = c.give_back.new.pass in
    let told = c.change_held-told.result in
    let takes = c.take_for.ensures.takes session own at' in
    let held = c.change_held-told.ensures session own takes.within change takes.covers in
    let gives = c.give_back.ensures session (own_behind own c.args.event told) held.within in
    changed_whole c.args.self.now session s.seat t.seat u.seat w.seat t.hands u.hands w.hands own c.args.place c.args.event told takes held gives
