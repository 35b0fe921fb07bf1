use Rattle.std.proofs.Common.{List, None, length, ap, arith}
use Rattle.event_spec.specs.Effects.{CoreEvent}
use Rattle.hall_rule.specs.declared.view.Entry.{Entry}
use Rattle.shared_store.specs.Freezing.{imaging}
use Rattle.shared_store.specs.Making.{IsFew}
use Rattle.shared_store.specs.Store.{shape_in}
use Rattle.shared_store.proofs.Alone.{image_on_body, imaged_alone}
use Rattle.shared_store.proofs.Imagings.{held_within, imaged_all}
use Rattle.shared_store.proofs.store.Store.image.Goals as goal

pub image_held-told-requires-after_bounds : goal.image_held-told-requires-after_bounds
image_held-told-requires-after_bounds g c κs within =
    let t = c.take_body-body.new.pass in
    let r = c.requires in
    let on = image_on_body (shape_in c.args.self.now) c.args.table c.args.block None in
    let takes = c.take_body-body.ensures.takes (imaging c.args.table c.args.block None) on r.session r.own r.at' in
    let few : IsFew t.seat.me.0 = let f = r.few in let m = ap (λ (es : List (Entry CoreEvent)). length es) takes.mine in omega (arith, f, m) in
    record { session = r.session; own = r.own; within = takes.within; has = r.has; covers = takes.covers; few = few }

pub give_alone-requires-clause-pass : goal.give_alone-requires-clause-pass
give_alone-requires-clause-pass g c =
    let st = c.args.self.now in
    let t = c.take_body-body.new.pass in
    let u = c.image_held-told.new.pass in
    let r = c.requires in
    let on = image_on_body (shape_in st) c.args.table c.args.block None in
    let takes = c.take_body-body.ensures.takes (imaging c.args.table c.args.block None) on r.session r.own r.at' in (
      r.session,
      r.own,
      held_within st r.session t.seat u.seat t.hands u.hands r.own c.args.table c.args.block c.image_held-told.result
          (c.image_held-told.ensures r.session r.own takes.within) takes.within,
    )

pub give_alone-requires-clause-alone : goal.give_alone-requires-clause-alone
give_alone-requires-clause-alone g c =
    let st = c.args.self.now in
    let t = c.take_body-body.new.pass in
    let u = c.image_held-told.new.pass in
    let r = c.requires in
    let on = image_on_body (shape_in st) c.args.table c.args.block None in
    let takes = c.take_body-body.ensures.takes (imaging c.args.table c.args.block None) on r.session r.own r.at' in
    imaged_alone st r.session t.seat u.seat t.hands u.hands r.own c.args.table c.args.block c.image_held-told.result c.take_body-body.result
    (c.image_held-told.ensures r.session r.own takes.within) c.take_body-body.ensures.alone

pub returns : goal.returns
returns g c session own at' =
    let st = c.args.self.now in
    let s = c.args.pass.now in
    let t = c.take_body-body.new.pass in
    let u = c.image_held-told.new.pass in
    let w = c.give_alone.new.pass in
    let on = image_on_body (shape_in st) c.args.table c.args.block None in
    let takes = c.take_body-body.ensures.takes (imaging c.args.table c.args.block None) on session own at' in
    let held = c.image_held-told.ensures session own takes.within in
    let gives = c.give_alone.ensures session own (held_within st session t.seat u.seat t.hands u.hands own c.args.table c.args.block c.image_held-told.result held takes.within) in
    imaged_all st session s.seat t.seat u.seat w.seat t.hands u.hands w.hands own c.args.table c.args.block c.image_held-told.result takes held gives
