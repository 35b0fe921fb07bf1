use Rattle.std.proofs.Common.{◌≡◌, List, sym, ap, subst, ◌∙◌, arith}
use Rattle.std.specs.Prelude.{All, IfOk}
use Rattle.std.proofs.lemmas.List.Elements.{All-nil}
use Rattle.compact_plan.proofs.Planned.{looks_have_places}
use Rattle.compact_plan.specs.Laws.{IsLookAt}
use Rattle.compact_plan.specs.Looks.{HasPlaces}
use Rattle.event_spec.specs.Parts.{Shape, below, blocks_of}
use Rattle.event_spec.specs.Plans.{BlockLook, plan_of}
use Rattle.event_spec.specs.Sound.{IsShape}
use Rattle.shared_store.specs.Compacting.{Looks}
use Rattle.shared_store.specs.Store.{StoreView, shape_in}
use Rattle.shared_store.proofs.Compacted.{blocks_in, looks_begin, looks_count, looks_go_on, looks_lost, planned, unplanned}
use Rattle.shared_store.proofs.store.Store.plan_table.Goals as goal

pub loop-block-init : goal.loop-block-init
loop-block-init g c = record {
  looked = subst (λ (looks : List BlockLook). Looks c.args.self.now c.args.session.now c.args.session.now c.args.table 0 looks) (sym c.new-looks.ensures.items)
      (looks_begin c.args.self.now c.args.table c.args.session.now c.requires.session);
  seen = subst (λ (looks : List BlockLook). All (IsLookAt (shape_in c.args.self.now) c.args.table) looks) (sym c.new-looks.ensures.items) (All-nil (IsLookAt (shape_in c.args.self.now) c.args.table));
  blocks = ap blocks_in c.new-looks.ensures.items;
}

pub look_into-requires-clause-session : goal.look_into-requires-clause-session
look_into-requires-clause-session g c = c.loop-block.invariant.looked.went.session

pub look_into-requires-clause-room : goal.look_into-requires-clause-room
look_into-requires-clause-room g c =
    let count = looks_count c.args.self.now c.args.table c.loop-block.block c.args.session.now c.loop-block.session c.loop-block.looks.items c.loop-block.invariant.looked in
    let room = c.requires.room in
    let few = c.blocks-block-end.ensures.few in
    let below' = c.loop-block-test.true in
    let end' = c.loop-block.auto.block-end in
    omega (arith, count, room, few, below', end')

pub returns-in_err-look_into-clause-session : goal.returns-in_err-look_into-clause-session
returns-in_err-look_into-clause-session g c = c.look_into.ensures.alone.session

pub returns-in_err-look_into-clause-same : goal.returns-in_err-look_into-clause-same
returns-in_err-look_into-clause-same g c = c.look_into.ensures.alone.same ∙ c.loop-block.invariant.looked.went.same

pub returns-in_err-look_into-clause-plans : goal.returns-in_err-look_into-clause-plans
returns-in_err-look_into-clause-plans g c =
    let st = c.args.self.now in
    let t = c.args.table in
    let blocks : c.blocks-block-end.result ≡ blocks_of (shape_in st) t = c.blocks-block-end.ensures.blocks ∙ ap (λ (sh : Shape). blocks_of sh t) (c.shape-shape.ensures ∙ c.self.invariant.shape ∙ ap shape_in c.self.view_is) in
    let below' = c.loop-block-test.true in
    let end' = c.loop-block.auto.block-end in
    unplanned st c.args.session.now c.look_into.new.session t c.from_residual.result c.from_residual.ensures.0
    (looks_lost st t c.args.session.now c.loop-block.session c.look_into.new.session c.loop-block.block c.loop-block.looks.items c.look_into.ensures.told c.requires.session
    (omega (arith, blocks, below', end')) c.loop-block.invariant.looked c.look_into.ensures.alone)

pub returns-in_err-look_into-clause-made : goal.returns-in_err-look_into-clause-made
returns-in_err-look_into-clause-made g c =
    let count = looks_count c.args.self.now c.args.table c.loop-block.block c.args.session.now c.loop-block.session c.loop-block.looks.items c.loop-block.invariant.looked in
    let one = c.look_into.ensures.alone.makes.count in
    let few = c.blocks-block-end.ensures.few in
    let below' = c.loop-block-test.true in
    let end' = c.loop-block.auto.block-end in
    omega (arith, count, one, few, below', end')

pub loop-block-preserved : goal.loop-block-preserved
loop-block-preserved g c =
    let st = c.args.self.now in
    let t = c.args.table in
    let k = c.loop-block.block in
    let inv = c.loop-block.invariant in
    let blocks : c.blocks-block-end.result ≡ blocks_of (shape_in st) t = c.blocks-block-end.ensures.blocks ∙ ap (λ (sh : Shape). blocks_of sh t) (c.shape-shape.ensures ∙ c.self.invariant.shape ∙ ap shape_in c.self.view_is) in
    let below' = c.loop-block-test.true in
    let end' = c.loop-block.auto.block-end in
    let on = looks_go_on st t c.args.session.now c.loop-block.session c.look_into.new.session k c.loop-block.looks.items c.look_into.new.looks.items c.in_ok-look_into.ensures.told inv.looked inv.seen inv.blocks
    c.in_ok-look_into.ensures.alone c.in_ok-look_into.ensures.added (omega (arith, blocks, below', end')) in
    record { looked = on.0; seen = on.1; blocks = on.2 }

pub plan-requires : goal.plan-requires
plan-requires g c =
    let st = c.args.self.now in
    let measures : IsShape (shape_in st) = subst (λ (w : StoreView). IsShape (shape_in w)) c.self.view_is c.self.invariant.opening.measures in
    subst (λ (looks : List BlockLook). All HasPlaces looks) (sym c.deref.ensures.value)
    (looks_have_places (shape_in st) c.args.table c.loop-block.looks.items (measures.slots c.args.table c.requires.table).1 c.loop-block.invariant.seen)

pub returns-clause-session : goal.returns-clause-session
returns-clause-session g c = c.loop-block.invariant.looked.went.session

pub returns-clause-same : goal.returns-clause-same
returns-clause-same g c = c.loop-block.invariant.looked.went.same

pub returns-clause-made : goal.returns-clause-made
returns-clause-made g c =
    let count = looks_count c.args.self.now c.args.table c.loop-block.block c.args.session.now c.loop-block.session c.loop-block.looks.items c.loop-block.invariant.looked in
    let few = c.blocks-block-end.ensures.few in
    let end' = c.loop-block.auto.block-end in
    omega (arith, count, few, end')

pub returns-clause-plans : goal.returns-clause-plans
returns-clause-plans g c =
    let st = c.args.self.now in
    let t = c.args.table in
    let inv = c.loop-block.invariant in
    let looks = c.loop-block.looks.items in
    let measures : IsShape (shape_in st) = subst (λ (w : StoreView). IsShape (shape_in w)) c.self.view_is c.self.invariant.opening.measures in
    let blocks : c.blocks-block-end.result ≡ blocks_of (shape_in st) t = c.blocks-block-end.ensures.blocks ∙ ap (λ (sh : Shape). blocks_of sh t) (c.shape-shape.ensures ∙ c.self.invariant.shape ∙ ap shape_in c.self.view_is) in
    let done = c.loop-block-test.false in
    let end' = c.loop-block.auto.block-end in
    let all : c.loop-block.block ≡ blocks_of (shape_in st) t = omega (arith, blocks, done, end') in
    planned st t c.args.session.now c.loop-block.session looks c.plan.result c.requires.session c.requires.table (measures.slots t c.requires.table).1
    (subst (λ k. Looks st c.args.session.now c.loop-block.session t k looks) all inv.looked) inv.seen (subst (λ k. blocks_in looks ≡ below k) all inv.blocks)
    (subst (λ (seen : List BlockLook). IfOk c.plan.result (λ pairs. pairs ≡ plan_of seen)) c.deref.ensures.value c.plan.ensures)
