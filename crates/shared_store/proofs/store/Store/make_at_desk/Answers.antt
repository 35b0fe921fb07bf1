use Rattle.std.proofs.Common.{◌≡◌, Some, ap, subst, ◌∙◌}
use Rattle.std.specs.Prelude.{slice_get}
use Rattle.event_spec.specs.Parts.{Shape, TheDesk, names}
use Rattle.hall_steps.specs.Hall.{first_of}
use Rattle.run_spec.specs.Opened.{own_behind}
use Rattle.shared_store.specs.Store.{IsStore, shape_in}
use Rattle.shared_store.proofs.AtDesk.{desk_held, gave_rest}
use Rattle.shared_store.proofs.Kept.{hand_room}
use Rattle.shared_store.proofs.Made.{made_whole, may_make_held}
use Rattle.shared_store.proofs.store.Store.make_at_desk.Goals as goal

pub make_on-reply-requires : goal.make_on-reply-requires
make_on-reply-requires g c =
    let s = c.args.pass.now in
    let t = c.take_at_desk.new.pass in
    let r = c.requires.may in
    let takes = c.take_at_desk.ensures r.session r.own r.at' in
    may_make_held c.args.self.now (subst IsStore c.self.view_is c.self.invariant) s.seat t.seat s.hands t.hands c.args.event r takes

pub give_part-requires-clause-pass : goal.give_part-requires-clause-pass
give_part-requires-clause-pass g c =
    let r = c.requires.may in
    let takes = c.take_at_desk.ensures r.session r.own r.at' in
    let held = c.make_on-reply.ensures 0 r.session r.own takes.within r.mine in
    (r.session, own_behind r.own c.args.event c.make_on-reply.result, held.within)

pub give_part-requires-clause-held : goal.give_part-requires-clause-held
give_part-requires-clause-held g c =
    let st = c.args.self.now in
    let r = c.requires.may in
    let t = c.take_at_desk.new.pass in
    let u = c.make_on-reply.new.pass in
    let takes = c.take_at_desk.ensures r.session r.own r.at' in
    let held = c.make_on-reply.ensures 0 r.session r.own takes.within r.mine in
    let number = subst (λ (sh : Shape). slice_get (names sh) c.desk-desk.result ≡ Some TheDesk)
    (c.shape.ensures ∙ c.self.invariant.shape ∙ ap shape_in c.self.view_is) c.desk-desk.ensures.number in
    desk_held (shape_in st) c.args.event c.desk-desk.result number c.requires.desk (first_of t.hands) (first_of u.hands)
    (hand_room st r.session t.seat t.hands r.own takes.within) takes.covers held.room

pub give_back-requires : goal.give_back-requires
give_back-requires g c =
    let r = c.requires.may in
    let takes = c.take_at_desk.ensures r.session r.own r.at' in
    let held = c.make_on-reply.ensures 0 r.session r.own takes.within r.mine in
    let own = own_behind r.own c.args.event c.make_on-reply.result in
    (r.session, own, (c.give_part.ensures.gives r.session own held.within).within)

pub returns : goal.returns
returns g c session own at' mine =
    let st = c.args.self.now in
    let s = c.args.pass.now in
    let t = c.take_at_desk.new.pass in
    let u = c.make_on-reply.new.pass in
    let v = c.give_part.new.pass in
    let w = c.give_back.new.pass in
    let told = c.make_on-reply.result in
    let takes = c.take_at_desk.ensures session own at' in
    let held = c.make_on-reply.ensures 0 session own takes.within mine in
    let after = own_behind own c.args.event told in
    let part = c.give_part.ensures.gives session after held.within in
    let rest = c.give_back.ensures session after part.within in
    made_whole st session s.seat t.seat u.seat w.seat t.hands u.hands w.hands own c.args.event told takes held
    (gave_rest st session u.seat v.seat w.seat v.hands w.hands after part rest)
