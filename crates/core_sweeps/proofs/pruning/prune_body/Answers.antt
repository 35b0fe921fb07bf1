use Rattle.std.proofs.Common.{None, ap, ◌∙◌}
use Rattle.block_spec.specs.Bodies.{pruned_in}
use Rattle.core_parts.proofs.Telling.{body_there}
use Rattle.core_sweeps.proofs.Handing.{body_back, room_taken}
use Rattle.event_spec.specs.Parts.{BodyOf}
use Rattle.core_sweeps.proofs.pruning.prune_body.Goals as goal

pub lay_body-requires-clause-block : goal.lay_body-requires-clause-block
lay_body-requires-clause-block c = body_there c.args.shape.now c.args.held.now c.args.table c.args.block c.requires.body

pub lay_body-requires-clause-room : goal.lay_body-requires-clause-room
lay_body-requires-clause-room c = room_taken c.args.shape.now c.args.held.now c.take_body-body.new.held (BodyOf c.args.table c.args.block) None c.take_body-body.ensures.taken c.requires.room

pub returns-clause-pruned : goal.returns-clause-pruned
returns-clause-pruned c =
    body_back c.args.shape.now c.args.table c.args.block (pruned_in c.args.oldest) c.args.held.now c.take_body-body.new.held c.lay_body.new.held
    c.take_body-body.result.value c.prune-dropped.new.self c.take_body-body.ensures.part c.take_body-body.ensures.taken
    (c.prune-dropped.ensures.pruned ∙ ap (pruned_in c.args.oldest) c.deref_mut.ensures.value) c.lay_body.ensures
