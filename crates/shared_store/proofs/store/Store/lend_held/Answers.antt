use Rattle.std.proofs.Common.{◌≡◌, true, cond, List, Option, None, Some, sym, ap, subst, ◌∙◌}
use Rattle.std.specs.Prelude.{slice_get}
use Rattle.block_spec.specs.Bodies.{is_imaged, rows_of}
use Rattle.block_spec.specs.Slots.{Row}
use Rattle.core_laws.specs.Frames.Shards.{CoreHolds}
use Rattle.core_parts.specs.Hands.{Has}
use Rattle.event_spec.specs.Parts.{BodyOf, CorePart, Parts, Shape, body_at}
use Rattle.hall_rule.specs.EventLog.{replay}
use Rattle.hall_rule.specs.Hands.{Agrees}
use Rattle.hall_steps.specs.Hall.{IsPass, first_of}
use Rattle.store_laws.specs.Logs.{store_meaning}
use Rattle.shared_store.specs.Making.{parts_seen}
use Rattle.shared_store.specs.Store.{shape_in}
use Rattle.shared_store.proofs.Hands.{agrees_with}
use Rattle.shared_store.proofs.Imagings.{body_here}
use Rattle.shared_store.proofs.Latched.{part_there}
use Rattle.shared_store.proofs.Lent.{entered_imaged, entered_within, held_lent, held_not, held_wanting, left_holds, left_parts, same_parts}
use Rattle.shared_store.proofs.Made.{one_hand}
use Rattle.shared_store.proofs.Shown.{by_hall, by_laws}
use Rattle.shared_store.proofs.store.Store.lend_held.Goals as goal

pub try_enter-requires-clause-pass : goal.try_enter-requires-clause-pass
try_enter-requires-clause-pass c κs =
    let s = c.args.pass.now in
    by_hall (λ M w. IsPass M w.id s.seat s.hands) c.self.inside.hall c.args.self.now c.self.invariant c.self.view_is c.requires.within.pass

pub try_enter-requires-clause-part : goal.try_enter-requires-clause-part
try_enter-requires-clause-part c κs =
    part_there c.self.inside.hall c.self.invariant (BodyOf c.args.table c.args.block) c.args.body
    (subst (λ (sh : Shape). slice_get (Rattle.event_spec.specs.Parts.names sh) c.args.body ≡ Some (BodyOf c.args.table c.args.block)) (sym (ap shape_in c.self.view_is)) c.requires.number)

pub returns-in-Err : goal.returns-in-Err
returns-in-Err c session own within =
    let st = c.args.self.now in
    let s = c.args.pass.now in
    let t = c.try_enter.new.pass in
    let there = by_laws (λ M w. IsPass M w.id t.seat t.hands) c.self.inside.hall st c.self.invariant c.self.view_is c.try_enter.ensures.pass in
    let e = c.in-Err.ensures.entered in
    let p = c.requires.holds in
    let h = c.in-Err.ensures.in_hand p.0 p.1 in
    let at = ap (λ l. slice_get (replay (store_meaning (shape_in st)) l) c.args.body) h.1 ∙ within.pass.of.1.agrees c.args.body p.0 p.1 in
    held_not st session s.seat t.seat s.hands t.hands own c.args.body e.0 within there e.2 h.1 c.args.table c.args.block c.requires.has c.requires.number p.0 at
    c.in-Err.field-0.word e.1.0 e.1.1 h.0 c.requires.free (ap first_of c.try_enter.ensures.hand)

pub shared-requires-clause-body : goal.shared-requires-clause-body
shared-requires-clause-body c =
    let st = c.args.self.now in
    let s = c.args.pass.now in
    let r = c.requires in
    let agrees = agrees_with st s.seat s.hands r.within.pass (one_hand st r.session s.seat s.hands r.own r.within) in
    let has : Has (shape_in st) (first_of s.hands) (BodyOf c.args.table c.args.block) =
    body_here (shape_in st) (first_of s.hands) (parts_seen (shape_in st) s.seat.me.0) c.args.table c.args.block r.covers agrees r.within.pass.of.1.sound r.has in
    subst (λ hand. Has c.shape.result.now hand (BodyOf c.args.table c.args.block)) (sym (c.hand.ensures ∙ ap first_of c.try_enter.ensures.hand))
    (subst (λ (sh : Shape). Has sh (first_of s.hands) (BodyOf c.args.table c.args.block)) (sym (c.shape.ensures ∙ c.self.invariant.shape ∙ ap shape_in c.self.view_is)) has)

pub shared-requires-clause-core : goal.shared-requires-clause-core
shared-requires-clause-core c =
    let st = c.args.self.now in
    let s = c.args.pass.now in
    let r = c.requires in
    let parts = parts_seen (shape_in st) s.seat.me.0 in
    let agrees = agrees_with st s.seat s.hands r.within.pass (one_hand st r.session s.seat s.hands r.own r.within) in (
      parts,
      subst (λ (sh : Shape). CoreHolds sh parts) (sym (c.shape.ensures ∙ c.self.invariant.shape ∙ ap shape_in c.self.view_is)) r.within.pass.of.1.sound,
      subst (λ hand. Agrees hand parts) (sym (c.hand.ensures ∙ ap first_of c.try_enter.ensures.hand)) agrees,
    )

-- what is shared of the parts that the pass's log leaves
pub unreachable-requires : goal.unreachable-requires
unreachable-requires c =
    let st = c.args.self.now in
    let s = c.args.pass.now in
    let t = c.try_enter.new.pass in
    let r = c.requires in
    let there = by_laws (λ M w. IsPass M w.id t.seat t.hands) c.self.inside.hall st c.self.invariant c.self.view_is c.try_enter.ensures.pass in
    let e = c.in-Ok.ensures.entered in
    let p = r.holds in
    let h = c.in-Ok.ensures.in_hand p.0 p.1 in
    let at = ap (λ l. slice_get (replay (store_meaning (shape_in st)) l) c.args.body) h.1 ∙ r.within.pass.of.1.agrees c.args.body p.0 p.1 in
    let within = entered_within st r.session s.seat t.seat s.hands t.hands r.own c.args.body e.0 r.within there e.2 h.1 in
    let lp = left_parts st r.session t.seat t.hands r.own within in
    let imaged = entered_imaged st r.session s.seat t.seat s.hands t.hands r.own c.args.body e.0 r.within there e.2 h.1 c.args.table c.args.block r.has r.number p.0 at h.0 in
    let agrees = subst (Agrees (first_of t.hands)) (same_parts st r.session t.seat t.hands r.own within) (agrees_with st t.seat t.hands there (one_hand st r.session t.seat t.hands r.own within)) in
    let same = c.shape.ensures ∙ c.self.invariant.shape ∙ ap shape_in c.self.view_is in
    let told = c.in-Ok-None.ensures lp (subst (λ sh. CoreHolds sh lp) (sym same) (left_holds st r.session t.seat t.hands r.own within)) (subst (λ hand. Agrees hand lp) (sym c.hand.ensures) agrees) in
    none_some (rows_of (body_at c.shape.result.now lp c.args.table c.args.block))
    (sym c.in-Ok-None.field-0-is ∙ told ∙ ap (λ b. cond {A = Option (List Row)} b (Some (rows_of (body_at c.shape.result.now lp c.args.table c.args.block))) None)
    (subst (λ sh. is_imaged (body_at sh lp c.args.table c.args.block).phase ≡ true) (sym same) imaged))
  where
    none_some : (rows : List Row) → None ≡ Some rows → ⊥
    none_some rows e = cc

pub returns-in-Ok-Some : goal.returns-in-Ok-Some
returns-in-Ok-Some c session own within =
    let st = c.args.self.now in
    let s = c.args.pass.now in
    let t = c.try_enter.new.pass in
    let there = by_laws (λ M w. IsPass M w.id t.seat t.hands) c.self.inside.hall st c.self.invariant c.self.view_is c.try_enter.ensures.pass in
    let e = c.in-Ok.ensures.entered in
    let p = c.requires.holds in
    let h = c.in-Ok.ensures.in_hand p.0 p.1 in
    let at = ap (λ l. slice_get (replay (store_meaning (shape_in st)) l) c.args.body) h.1 ∙ within.pass.of.1.agrees c.args.body p.0 p.1 in
    let within' = entered_within st session s.seat t.seat s.hands t.hands own c.args.body e.0 within there e.2 h.1 in
    let lp = left_parts st session t.seat t.hands own within' in
    let imaged = entered_imaged st session s.seat t.seat s.hands t.hands own c.args.body e.0 within there e.2 h.1 c.args.table c.args.block c.requires.has c.requires.number p.0 at h.0 in
    let agrees = subst (Agrees (first_of t.hands)) (same_parts st session t.seat t.hands own within') (agrees_with st t.seat t.hands there (one_hand st session t.seat t.hands own within')) in
    let same = c.shape.ensures ∙ c.self.invariant.shape ∙ ap shape_in c.self.view_is in
    let told = c.in-Ok-Some.ensures lp (subst (λ sh. CoreHolds sh lp) (sym same) (left_holds st session t.seat t.hands own within')) (subst (λ hand. Agrees hand lp) (sym c.hand.ensures) agrees) in
    let shown = sym c.in-Ok-Some.field-0-is ∙ told ∙ ap (λ b. cond {A = Option (List Row)} b (Some (rows_of (body_at c.shape.result.now lp c.args.table c.args.block))) None)
    (subst (λ sh. is_imaged (body_at sh lp c.args.table c.args.block).phase ≡ true) (sym same) imaged) in
    held_lent st session s.seat t.seat s.hands t.hands own c.args.body e.0 within there e.2 h.1 c.args.table c.args.block c.requires.has c.requires.number p.0 at
    e.1.1 h.0 _ e.1.0
    (ap (λ sh. rows_of (body_at sh lp c.args.table c.args.block)) (sym same) ∙ sym (some_is c.in-Ok-Some.rows (rows_of (body_at c.shape.result.now lp c.args.table c.args.block)) shown) ∙ sym c.in-Ok-Some.rows-is)
    (ap first_of c.try_enter.ensures.hand)
  where
    some_is : (a b : List Row) → Some a ≡ Some b → a ≡ b
    some_is a b e = cc

pub returns-in-Err-shared : goal.returns-in-Err-shared
returns-in-Err-shared c session own within =
    let st = c.args.self.now in
    let s = c.args.pass.now in
    let t = c.try_enter.new.pass in
    let w = c.leave.new.pass in
    let there = by_laws (λ M w. IsPass M w.id t.seat t.hands) c.self.inside.hall st c.self.invariant c.self.view_is c.try_enter.ensures.pass in
    let gone = by_laws (λ M x. IsPass M x.id w.seat w.hands) c.self.inside.hall st c.self.invariant c.self.view_is c.leave.ensures.pass in
    let e = c.in-Ok.ensures.entered in
    let p = c.requires.holds in
    let h = c.in-Ok.ensures.in_hand p.0 p.1 in
    let at = ap (λ l. slice_get (replay (store_meaning (shape_in st)) l) c.args.body) h.1 ∙ within.pass.of.1.agrees c.args.body p.0 p.1 in
    held_wanting st session s.seat t.seat s.hands t.hands own c.args.body e.0 within there e.2 h.1 c.args.table c.args.block c.requires.has c.requires.number p.0 at
    w.seat w.hands gone c.leave.ensures.view h.0 (ap first_of (c.leave.ensures.hand ∙ c.try_enter.ensures.hand))
