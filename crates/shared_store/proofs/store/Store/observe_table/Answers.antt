use Rattle.std.proofs.Common.{◌≡◌, cond, List, [], length, map, refl, ap, subst, ◌∙◌, arith}
use Rattle.event_spec.specs.Effects.{CoreEvent}
use Rattle.event_spec.specs.Lawful.{HasBlock}
use Rattle.event_spec.specs.Parts.{Shape, below, blocks_of}
use Rattle.hall_rule.specs.declared.view.Entry.{Entry}
use Rattle.run_spec.specs.Asked.{at_all_blocks}
use Rattle.shared_store.specs.Keeping.{beside_observe, rested}
use Rattle.shared_store.specs.Observing.{HaveTurned, ObservesMore, observing}
use Rattle.shared_store.specs.Store.{own_of, shape_in}
use Rattle.shared_store.specs.declared.session.Session.{Session}
use Rattle.shared_store.proofs.Observed.{byte_is, observes_on, turned_few}
use Rattle.shared_store.proofs.Rested.{keeping_starts, sweeps_given, sweeps_rested}
use Rattle.shared_store.proofs.Swept.{sweeps_no_more}
use Rattle.shared_store.proofs.store.Store.observe_table.Goals as goal

pub loop-block-init : goal.loop-block-init
loop-block-init g c =
    let st = c.args.self.now in
    let s = c.args.session.now in
    record {
      keeping = keeping_starts st (beside_observe c.args.table) 0 s c.requires.session refl;
      made = omega arith;
      few = omega arith;
      observes = sweeps_rested st (at_all_blocks (shape_in st) observing) HaveTurned s s [] 0 (sweeps_no_more st (at_all_blocks (shape_in st) observing) HaveTurned s) c.requires.session.stands.within c.requires.session.fits;
    }

pub loop-block-preserved : goal.loop-block-preserved
loop-block-preserved g c =
    let st = c.args.self.now in
    let t = c.args.table in
    let k = c.loop-block.block in
    let inv = c.loop-block.invariant in
    let count = inv.made in
    let few = inv.few in
    let m = c.observe_block.ensures.observes in
    let one = m.makes.count in
    let blocks : c.blocks-block-end.result ≡ blocks_of (shape_in st) t = c.blocks-block-end.ensures.blocks ∙ ap (λ (sh : Shape). blocks_of sh t) (c.shape.ensures ∙ c.self.invariant.shape ∙ ap shape_in c.self.view_is) in
    let below' = c.loop-block-test.true in
    let end' = c.loop-block.auto.block-end in
    let has : HasBlock (shape_in st) t k = (c.requires.table, omega (arith, blocks, below', end')) in
    let told : c.from-turned.result ≡ cond c.observe_block.result 1 0 = c.from-turned.ensures ∙ byte_is c.observe_block.result in
    let at_most = turned_few c.observe_block.result in
    record {
      keeping = c.observe_block.ensures.keeping;
      made = omega (arith, count, one);
      few = omega (arith, few, told, at_most);
      observes = observes_on st c.args.session.now (rested c.loop-block.session) (rested c.observe_block.new.session) t k c.loop-block.turned c.from-turned.result c.observe_block.result inv.observes m has told;
    }

pub give_back-requires : goal.give_back-requires
give_back-requires g c =
    let s = c.loop-block.session in
    (s.session, own_of s, c.loop-block.invariant.keeping.within)

pub returns-clause-observes : goal.returns-clause-observes
returns-clause-observes g c =
    let st = c.args.self.now in
    let t = c.args.table in
    let s = c.loop-block.session in
    let new : Session = record { pass = c.give_back.new.pass; session = s.session; snapshot = s.snapshot; writes = s.writes; reads = s.reads; kept = s.kept } in
    let blocks : c.blocks-block-end.result ≡ blocks_of (shape_in st) t = c.blocks-block-end.ensures.blocks ∙ ap (λ (sh : Shape). blocks_of sh t) (c.shape.ensures ∙ c.self.invariant.shape ∙ ap shape_in c.self.view_is) in
    let done = c.loop-block-test.false in
    let end' = c.loop-block.auto.block-end in
    let all : c.loop-block.block ≡ blocks_of (shape_in st) t = omega (arith, blocks, done, end') in
    sweeps_given st (at_all_blocks (shape_in st) observing) HaveTurned c.args.session.now s new (map (observing t) (below (blocks_of (shape_in st) t))) c.loop-block.turned
    (subst (λ n. ObservesMore st c.args.session.now (rested s) (map (observing t) (below n)) c.loop-block.turned) all c.loop-block.invariant.observes)
    refl refl (refl, c.loop-block.invariant.keeping.fits) (c.give_back.ensures s.session (own_of s) c.loop-block.invariant.keeping.within)

pub returns-clause-made : goal.returns-clause-made
returns-clause-made g c =
    let s = c.loop-block.session in
    let gives = c.give_back.ensures s.session (own_of s) c.loop-block.invariant.keeping.within in
    let mine = ap (λ (es : List (Entry CoreEvent)). length es) gives.mine in
    let made = c.loop-block.invariant.made in
    let end' = c.loop-block.auto.block-end in
    let few = c.blocks-block-end.ensures.few in
    omega (arith, mine, made, end', few)

pub returns-clause-few : goal.returns-clause-few
returns-clause-few g c =
    let low = c.loop-block.invariant.few in
    let end' = c.loop-block.auto.block-end in
    let few = c.blocks-block-end.ensures.few in
    omega (arith, low, end', few)
