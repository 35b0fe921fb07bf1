use Rattle.std.proofs.Common.{sym, ap, ◌∙◌, subst, rules, Vec, Global}
use Rattle.cell_model.specs.Schemas.{IsSchema}
use Rattle.core_sweeps.proofs.Keeping.{has_pair_keys, is_among, kept_as, skipped_as}
use Rattle.core_sweeps.proofs.Moves.{has_source, has_target, has_the_head}
use Rattle.core_sweeps.specs.MoveSteps.{holds_in}
use Rattle.event_spec.specs.declared.event.MovePair.{MovePair}
use Rattle.core_sweeps.proofs.judging.held_pairs.Goals.{then-holds, else-holds}
use Rattle.core_sweeps.proofs.judging.held_pairs.Goals as goal

pub holds-requires-clause-head : goal.holds-requires-clause-head
holds-requires-clause-head c = has_the_head c.args.shape.now c.args.table c.args.moves c.args.held.now c.requires

pub holds-requires-clause-source : goal.holds-requires-clause-source
holds-requires-clause-source c =
    has_source c.args.shape.now c.args.table c.args.moves c.args.held.now c.requires c.index.result.now
    (is_among (holds_in c.args.shape.now c.args.held.now c.args.table) c.args.moves c.loop-at.pairs.items c.loop-at.at c.loop-at.kept c.index.result.now c.loop-at.invariant (search rules) c.index.ensures)

pub holds-requires-clause-target : goal.holds-requires-clause-target
holds-requires-clause-target c =
    has_target c.args.shape.now c.args.table c.args.moves c.args.held.now c.requires c.index.result.now
    (is_among (holds_in c.args.shape.now c.args.held.now c.args.table) c.args.moves c.loop-at.pairs.items c.loop-at.at c.loop-at.kept c.index.result.now c.loop-at.invariant (search rules) c.index.ensures)

pub holds-requires-clause-keys : goal.holds-requires-clause-keys
holds-requires-clause-keys c =
    has_pair_keys c.args.shape.now c.args.table c.args.moves c.args.held.now c.requires c.index.result.now
    (is_among (holds_in c.args.shape.now c.args.held.now c.args.table) c.args.moves c.loop-at.pairs.items c.loop-at.at c.loop-at.kept c.index.result.now c.loop-at.invariant (search rules) c.index.ensures)
    (subst IsSchema c.schema.ensures.columns c.schema.ensures.schema)

pub loop-at-preserved : goal.loop-at-preserved
loop-at-preserved c = elim c.if-holds.branch [
  | then-holds w ↦ kept_as (holds_in c.args.shape.now c.args.held.now c.args.table) c.args.moves c.if-holds.pairs.items c.loop-at.pairs.items c.loop-at.at c.loop-at.kept c.if-holds.kept c.index.result.now c.loop-at.invariant (search rules) c.index.ensures
      (sym c.holds.ensures ∙ w.if-holds.true) (ap (λ (v : Vec MovePair Global). v.items) w.pairs-is) w.kept-is
  | else-holds w ↦ skipped_as (holds_in c.args.shape.now c.args.held.now c.args.table) c.args.moves c.if-holds.pairs.items c.loop-at.pairs.items c.loop-at.at c.loop-at.kept c.if-holds.kept c.index.result.now c.loop-at.invariant (search rules) c.index.ensures
      (sym c.holds.ensures ∙ w.if-holds.false) (ap (λ (v : Vec MovePair Global). v.items) w.pairs-is) w.kept-is
]
