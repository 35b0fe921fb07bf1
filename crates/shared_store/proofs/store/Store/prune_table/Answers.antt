use Rattle.std.proofs.Common.{◌≡◌, List, [], length, map, refl, sym, ap, subst, ◌∙◌, arith}
use Rattle.event_spec.specs.Effects.{CoreEvent}
use Rattle.event_spec.specs.Lawful.{HasBlock, IsOldest}
use Rattle.event_spec.specs.Parts.{Shape, below, blocks_of}
use Rattle.hall_rule.specs.EventLog.{replay}
use Rattle.hall_rule.specs.declared.view.Entry.{Entry}
use Rattle.store_laws.specs.Logs.{store_meaning}
use Rattle.shared_store.specs.Keeping.{beside_prune, rested}
use Rattle.shared_store.specs.Pruning.{HaveDropped, PrunesMore, asked_by, pruning}
use Rattle.shared_store.specs.Store.{own_of, shape_in}
use Rattle.shared_store.specs.declared.session.Session.{Session}
use Rattle.shared_store.proofs.Pruned.{prunes_on}
use Rattle.shared_store.proofs.Rested.{keeping_starts, sweeps_given, sweeps_rested}
use Rattle.shared_store.proofs.Swept.{sweeps_no_more}
use Rattle.shared_store.proofs.store.Store.prune_table.Goals as goal

pub loop-block-init : goal.loop-block-init
loop-block-init g c =
    let st = c.args.self.now in
    let s = c.args.session.now in
    let asked = asked_by (shape_in st) c.args.oldest in
    record {
      keeping = keeping_starts st (beside_prune c.args.table) 0 s c.requires.session refl;
      oldest = c.requires.oldest;
      made = omega arith;
      few = omega arith;
      prunes = sweeps_rested st asked (HaveDropped c.args.oldest) s s [] 0 (sweeps_no_more st asked (HaveDropped c.args.oldest) s) c.requires.session.stands.within c.requires.session.fits;
    }

pub loop-block-preserved : goal.loop-block-preserved
loop-block-preserved g c =
    let st = c.args.self.now in
    let t = c.args.table in
    let k = c.loop-block.block in
    let inv = c.loop-block.invariant in
    let made = inv.made in
    let few = inv.few in
    let m = c.prune_block-dropped.ensures.prunes in
    let one = m.makes.count in
    let more = c.prune_block-dropped.ensures.few in
    let blocks : c.blocks-block-end.result ≡ blocks_of (shape_in st) t = c.blocks-block-end.ensures.blocks ∙ ap (λ (sh : Shape). blocks_of sh t) (c.shape.ensures ∙ c.self.invariant.shape ∙ ap shape_in c.self.view_is) in
    let below' = c.loop-block-test.true in
    let end' = c.loop-block.auto.block-end in
    let has : HasBlock (shape_in st) t k = (c.requires.table, omega (arith, blocks, below', end')) in
    record {
      keeping = c.prune_block-dropped.ensures.keeping;
      oldest = m.makes.lasting c.args.oldest inv.oldest;
      made = omega (arith, made, one);
      few = omega (arith, few, more);
      prunes = prunes_on st c.args.oldest c.args.session.now (rested c.loop-block.session) (rested c.prune_block-dropped.new.session) t k c.loop-block.dropped c.prune_block-dropped.result inv.prunes m has;
    }

pub give_back-requires : goal.give_back-requires
give_back-requires g c =
    let s = c.loop-block.session in
    (s.session, own_of s, c.loop-block.invariant.keeping.within)

pub returns-clause-prunes : goal.returns-clause-prunes
returns-clause-prunes g c =
    let st = c.args.self.now in
    let t = c.args.table in
    let s = c.loop-block.session in
    let new : Session = record { pass = c.give_back.new.pass; session = s.session; snapshot = s.snapshot; writes = s.writes; reads = s.reads; kept = s.kept } in
    let blocks : c.blocks-block-end.result ≡ blocks_of (shape_in st) t = c.blocks-block-end.ensures.blocks ∙ ap (λ (sh : Shape). blocks_of sh t) (c.shape.ensures ∙ c.self.invariant.shape ∙ ap shape_in c.self.view_is) in
    let done = c.loop-block-test.false in
    let end' = c.loop-block.auto.block-end in
    let all : c.loop-block.block ≡ blocks_of (shape_in st) t = omega (arith, blocks, done, end') in
    sweeps_given st (asked_by (shape_in st) c.args.oldest) (HaveDropped c.args.oldest) c.args.session.now s new (map (pruning c.args.oldest t) (below (blocks_of (shape_in st) t))) c.loop-block.dropped
    (subst (λ n. PrunesMore st c.args.oldest c.args.session.now (rested s) (map (pruning c.args.oldest t) (below n)) c.loop-block.dropped) all c.loop-block.invariant.prunes)
    refl refl (refl, c.loop-block.invariant.keeping.fits) (c.give_back.ensures s.session (own_of s) c.loop-block.invariant.keeping.within)

pub returns-clause-oldest : goal.returns-clause-oldest
returns-clause-oldest g c =
    let s = c.loop-block.session in
    let st = c.args.self.now in
    let gives = c.give_back.ensures s.session (own_of s) c.loop-block.invariant.keeping.within in
    subst (λ (l : List (Entry CoreEvent)). IsOldest (shape_in st) c.args.oldest (replay (store_meaning (shape_in st)) l)) (sym gives.log) c.loop-block.invariant.oldest

pub returns-clause-made : goal.returns-clause-made
returns-clause-made g c =
    let s = c.loop-block.session in
    let gives = c.give_back.ensures s.session (own_of s) c.loop-block.invariant.keeping.within in
    let mine = ap (λ (es : List (Entry CoreEvent)). length es) gives.mine in
    let made = c.loop-block.invariant.made in
    let end' = c.loop-block.auto.block-end in
    let few = c.blocks-block-end.ensures.few in
    omega (arith, mine, made, end', few)
