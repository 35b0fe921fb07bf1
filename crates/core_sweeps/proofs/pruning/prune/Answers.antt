use Rattle.std.proofs.Common.{sym, ◌∙◌}
use Rattle.block_spec.specs.Bodies.{pruned_in}
use Rattle.core_sweeps.proofs.Handing.{has_still, room_still}
use Rattle.core_sweeps.proofs.Prunes.{ends, has_body_mid, has_head_mid, has_the_body, room_mid, slots_mid}
use Rattle.core_sweeps.proofs.Quiet.{quiet_prune}
use Rattle.core_sweeps.specs.SweepSteps.{body_changed}
use Rattle.event_spec.specs.Parts.{BodyOf, HeadOf}
use Rattle.core_sweeps.proofs.pruning.prune.Goals as goal

pub body-requires : goal.body-requires
body-requires c = has_the_body c.args.shape.now c.args.table c.args.block c.args.oldest c.args.held.now c.requires

pub returns-then-is_quiet : goal.returns-then-is_quiet
returns-then-is_quiet c =
    quiet_prune c.args.shape.now c.args.table c.args.block c.args.oldest c.args.held.now c.body.result.now c.of.result c.requires c.body.ensures
    (sym c.is_quiet.ensures ∙ c.if-is_quiet.true) c.of.ensures

pub prune_body-dropped-requires-clause-body : goal.prune_body-dropped-requires-clause-body
prune_body-dropped-requires-clause-body c = has_body_mid c.args.shape.now c.args.table c.args.block c.args.oldest c.args.held.now c.drop_left.new.held c.drop_left.ensures

pub prune_body-dropped-requires-clause-slots : goal.prune_body-dropped-requires-clause-slots
prune_body-dropped-requires-clause-slots c = slots_mid c.args.shape.now c.args.table c.args.block c.args.oldest c.args.held.now c.drop_left.new.held c.drop_left.ensures

pub prune_body-dropped-requires-clause-room : goal.prune_body-dropped-requires-clause-room
prune_body-dropped-requires-clause-room c = room_mid c.args.shape.now c.args.table c.args.block c.args.oldest c.args.held.now c.drop_left.new.held c.drop_left.ensures

pub tell_empty-requires-clause-head : goal.tell_empty-requires-clause-head
tell_empty-requires-clause-head c =
    has_still c.args.shape.now (body_changed c.args.table c.args.block (pruned_in c.args.oldest)) c.drop_left.new.held c.prune_body-dropped.new.held (HeadOf c.args.table) c.prune_body-dropped.ensures.pruned
    (has_head_mid c.args.shape.now c.args.table c.args.block c.args.oldest c.args.held.now c.drop_left.new.held c.drop_left.ensures)

pub tell_empty-requires-clause-body : goal.tell_empty-requires-clause-body
tell_empty-requires-clause-body c =
    has_still c.args.shape.now (body_changed c.args.table c.args.block (pruned_in c.args.oldest)) c.drop_left.new.held c.prune_body-dropped.new.held (BodyOf c.args.table c.args.block) c.prune_body-dropped.ensures.pruned
    (has_body_mid c.args.shape.now c.args.table c.args.block c.args.oldest c.args.held.now c.drop_left.new.held c.drop_left.ensures)

pub tell_empty-requires-clause-room : goal.tell_empty-requires-clause-room
tell_empty-requires-clause-room c =
    room_still c.args.shape.now (body_changed c.args.table c.args.block (pruned_in c.args.oldest)) c.drop_left.new.held c.prune_body-dropped.new.held c.prune_body-dropped.ensures.pruned
    (room_mid c.args.shape.now c.args.table c.args.block c.args.oldest c.args.held.now c.drop_left.new.held c.drop_left.ensures)

pub returns : goal.returns
returns c =
    ends c.args.shape.now c.args.table c.args.block c.args.oldest c.args.held.now c.drop_left.new.held c.drop_left.ensures c.prune_body-dropped.new.held c.tell_empty.new.held c.of-2.result
    c.prune_body-dropped.ensures.pruned (c.of-2.ensures ∙ c.prune_body-dropped.ensures.count) c.tell_empty.ensures
