use Rattle.std.proofs.Common.{refl, sym, ap, subst, ◌∙◌}
use mathlib.Core.Logic.{inr}
use Rattle.core_parts.specs.Hands.{Has}
use Rattle.engine_core.specs.Asks.{IsOfCore}
use Rattle.event_spec.specs.Effects.{CoreEvent}
use Rattle.event_spec.specs.Lawful.{IsImageOf}
use Rattle.event_spec.specs.Parts.{BodyOf, Parts, Shape, body_at}
use Rattle.event_spec.specs.Replay.{IsLawfulLog}
use Rattle.core_laws.specs.Frames.Shards.{CoreHolds}
use Rattle.hall_rule.specs.Hands.{Agrees}
use Rattle.hall_steps.specs.Hall.{first_of}
use Rattle.store_laws.proofs.Entries.{lawful_same}
use Rattle.store_laws.specs.Laws.{IsOfSession}
use Rattle.store_laws.specs.Logs.{log_of}
use Rattle.store_laws.specs.Own.{entry_of, parts_after}
use Rattle.shared_store.specs.Freezing.{imaging}
use Rattle.shared_store.specs.Making.{MakesHeld, MayMakeHeld}
use Rattle.shared_store.specs.Store.{shape_in}
use Rattle.shared_store.proofs.BlockReads.{holds_before}
use Rattle.shared_store.proofs.Imagings.{core_here, has_body, image_is, may_image}
use Rattle.shared_store.proofs.store.Store.image_held.Goals as goal

pub image_of-requires-clause-body : goal.image_of-requires-clause-body
image_of-requires-clause-body g c κs within =
    let st = c.args.self.now in
    let p = c.args.pass.now in
    let shape = c.shape-shape.ensures ∙ c.self.invariant.shape ∙ ap shape_in c.self.view_is in
    subst (λ (hand : Rattle.core_parts.specs.Hands.Held). Has c.shape-shape.result.now hand (BodyOf c.args.table c.args.block)) (sym c.hand.ensures)
    (subst (λ (sh : Shape). Has sh (first_of p.hands) (BodyOf c.args.table c.args.block)) (sym shape)
    (has_body st p.seat p.hands c.args.table c.args.block c.requires))

pub image_of-requires-clause-core : goal.image_of-requires-clause-core
image_of-requires-clause-core g c κs within =
    let st = c.args.self.now in
    let p = c.args.pass.now in
    let shape = c.shape-shape.ensures ∙ c.self.invariant.shape ∙ ap shape_in c.self.view_is in
    subst (λ (hand : Rattle.core_parts.specs.Hands.Held). IsOfCore c.shape-shape.result.now hand) (sym c.hand.ensures)
    (subst (λ (sh : Shape). IsOfCore sh (first_of p.hands)) (sym shape) (core_here st p.seat p.hands c.args.table c.args.block c.requires))

pub make_on-requires : goal.make_on-requires
make_on-requires g c =
    let st = c.args.self.now in
    let p = c.args.pass.now in
    let t = c.args.table in
    let b = c.args.block in
    let shape = c.shape-shape.ensures ∙ c.self.invariant.shape ∙ ap shape_in c.self.view_is in
    let fits = subst (λ (sh : Shape). (s : Parts) → CoreHolds sh s → Agrees (first_of p.hands) s → IsImageOf c.in-Ok.image (body_at sh s t b) (body_at sh s t b).phase) shape
    (subst (λ (hand : Rattle.core_parts.specs.Hands.Held). (s : Parts) → CoreHolds c.shape-shape.result.now s → Agrees hand s → IsImageOf c.in-Ok.image (body_at c.shape-shape.result.now s t b) (body_at c.shape-shape.result.now s t b).phase) c.hand.ensures c.in-Ok.ensures) in
    subst (MayMakeHeld st p.seat p.hands) (sym c.new-event.ensures) (may_image st p.seat p.hands t b c.requires c.in-Ok.image fits)

pub returns : goal.returns
returns g c session own within =
    let st = c.args.self.now in
    let p = c.args.pass.now in
    let u = c.make_on.new.pass in
    let t = c.args.table in
    let b = c.args.block in
    let e : CoreEvent = imaging t b c.in-Ok.image in
    let shape = c.shape-shape.ensures ∙ c.self.invariant.shape ∙ ap shape_in c.self.view_is in
    let fits = subst (λ (sh : Shape). (s : Parts) → CoreHolds sh s → Agrees (first_of p.hands) s → IsImageOf c.in-Ok.image (body_at sh s t b) (body_at sh s t b).phase) shape
    (subst (λ (hand : Rattle.core_parts.specs.Hands.Held). (s : Parts) → CoreHolds c.shape-shape.result.now s → Agrees hand s → IsImageOf c.in-Ok.image (body_at c.shape-shape.result.now s t b) (body_at c.shape-shape.result.now s t b).phase) c.hand.ensures c.in-Ok.ensures) in
    let m = subst (λ (e : CoreEvent). MakesHeld st session p.seat u.seat p.hands u.hands own e c.make_on.result) c.new-event.ensures
    (c.make_on.ensures 0 session own within (subst (IsOfSession session) (sym c.new-event.ensures) (inr refl))) in
    let before = parts_after (shape_in st) m.makes.before in
    let lawful : IsLawfulLog (shape_in st) (Rattle.store_laws.specs.Logs.made_in (log_of u.seat.me.0.log)) = lawful_same (shape_in st) u.seat.me.0.log m.within.pass.of.1.lawful in
    let holds = holds_before (shape_in st) m.makes.before (entry_of session e c.make_on.result) (log_of u.seat.me.0.log) m.within.pass.of.1.begins m.makes.log lawful in
    record {
      image = c.in-Ok.image;
      makes = m;
      there = image_is c.in-Ok.image (body_at (shape_in st) before t b) (body_at (shape_in st) before t b).phase refl (fits before holds m.agrees);
    }
