use Rattle.std.proofs.Common.{◌≡◌, ℕ, None, Some, ap, refl, set, subst, sym, ◌∙◌, arith}
use Rattle.std.specs.Prelude.{slice_get}
use Rattle.event_spec.specs.Effects.{CoreEvent}
use Rattle.event_spec.specs.Parts.{BodyOf, Shape, names}
use Rattle.event_spec.specs.Replies.{CoreReply}
use Rattle.hall_steps.specs.Hall.{first_of}
use Rattle.run_spec.specs.Opened.{own_behind}
use Rattle.shared_store.specs.Keeping.{event_on}
use Rattle.shared_store.specs.Making.{MakesAnyHeld, MayMakeHeld}
use Rattle.shared_store.specs.Store.{HandsView, IsStore, SeatView, StoreView, shape_in}
use Rattle.shared_store.specs.declared.keeping.OnBlocks.{OnBlocks}
use Rattle.shared_store.proofs.Kept.{body_held, hand_room}
use Rattle.shared_store.proofs.Made.{may_make_taken}
use Rattle.shared_store.proofs.Rested.{made_keeping}
use Rattle.shared_store.proofs.store.Store.make_keeping.Goals as goal

-- what is made is the event on the block
made : (store : StoreView) (seat later : SeatView) (hands kept : HandsView) (on : OnBlocks) (table block : ℕ) (e : CoreEvent) (told : CoreReply) → e ≡ event_on on table block
    → MakesAnyHeld store seat hands later kept e told → MakesAnyHeld store seat hands later kept (event_on on table block) told
made store seat later hands kept on table block e told same makes = subst (λ (e : CoreEvent). MakesAnyHeld store seat hands later kept e told) same makes

pub take_beside-requires-clause-beside : goal.take_beside-requires-clause-beside
take_beside-requires-clause-beside g c =
    let r = c.requires in
    record {
      table = c.args.table;
      common = r.common;
      has = r.has;
      number = subst (λ (sh : Shape). slice_get (names sh) c.body-body.result ≡ Some (BodyOf c.args.table c.args.block))
          (c.shape.ensures ∙ c.self.invariant.shape ∙ ap shape_in c.self.view_is) c.body-body.ensures;
      on = r.on;
      keeps = λ some. r.keeps (λ none'. some (omega (arith, none')));
    }

pub make_on-reply-requires : goal.make_on-reply-requires
make_on-reply-requires g c =
    let r = c.requires in
    let s = c.args.pass.now in
    let t = c.take_beside.new.pass in
    let e : CoreEvent = event_on c.args.on c.args.table c.args.block in
    subst (MayMakeHeld c.args.self.now t.seat t.hands) (sym c.event-event.ensures)
    (may_make_taken c.args.self.now (subst IsStore c.self.view_is c.self.invariant) s.seat t.seat t.hands e r.session r.own r.mine r.thawless r.stands r.fits r.few
    (c.take_beside.ensures.takes r.session r.own r.within))

pub give_part-requires-clause-pass : goal.give_part-requires-clause-pass
give_part-requires-clause-pass g c =
    let r = c.requires in
    let takes = c.take_beside.ensures.takes r.session r.own r.within in
    let held = made c.args.self.now c.take_beside.new.pass.seat c.make_on-reply.new.pass.seat c.take_beside.new.pass.hands c.make_on-reply.new.pass.hands c.args.on c.args.table c.args.block c.event-event.result c.make_on-reply.result c.event-event.ensures c.make_on-reply.ensures
    0 r.session r.own takes.within r.mine in
    (r.session, own_behind r.own (event_on c.args.on c.args.table c.args.block) c.make_on-reply.result, held.within)

pub give_part-requires-clause-held : goal.give_part-requires-clause-held
give_part-requires-clause-held g c =
    let st = c.args.self.now in
    let r = c.requires in
    let t = c.take_beside.new.pass in
    let u = c.make_on-reply.new.pass in
    let takes = c.take_beside.ensures.takes r.session r.own r.within in
    let held = made st t.seat u.seat t.hands u.hands c.args.on c.args.table c.args.block c.event-event.result c.make_on-reply.result c.event-event.ensures c.make_on-reply.ensures 0 r.session r.own takes.within r.mine in
    let number = subst (λ (sh : Shape). slice_get (names sh) c.body-body.result ≡ Some (BodyOf c.args.table c.args.block))
    (c.shape.ensures ∙ c.self.invariant.shape ∙ ap shape_in c.self.view_is) c.body-body.ensures in
    body_held (shape_in st) r.common c.args.table c.args.block c.body-body.result (event_on c.args.on c.args.table c.args.block) number r.on (first_of t.hands) (first_of u.hands)
    (set (first_of u.hands) c.body-body.result None) (hand_room st r.session t.seat t.hands r.own takes.within) takes.covers c.take_beside.ensures.only held.room refl

pub returns : goal.returns
returns g c session own common within mine on =
    let st = c.args.self.now in
    let s = c.args.pass.now in
    let t = c.take_beside.new.pass in
    let u = c.make_on-reply.new.pass in
    let w = c.give_part.new.pass in
    let told = c.make_on-reply.result in
    let takes = c.take_beside.ensures.takes session own within in
    let e : CoreEvent = event_on c.args.on c.args.table c.args.block in
    let held = made st t.seat u.seat t.hands u.hands c.args.on c.args.table c.args.block c.event-event.result told c.event-event.ensures c.make_on-reply.ensures 0 session own takes.within mine in
    let gives = c.give_part.ensures.gives session (own_behind own e told) held.within in
    let number = subst (λ (sh : Shape). slice_get (names sh) c.body-body.result ≡ Some (BodyOf c.args.table c.args.block))
    (c.shape.ensures ∙ c.self.invariant.shape ∙ ap shape_in c.self.view_is) c.body-body.ensures in
    made_keeping st session common c.args.table c.args.block c.body-body.result s.seat t.seat u.seat w.seat t.hands u.hands w.hands own e told
    number on takes c.take_beside.ensures.only held gives c.give_part.ensures.hand
