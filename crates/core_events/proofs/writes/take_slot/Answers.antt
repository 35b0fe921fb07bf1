use Rattle.std.proofs.Common.{ap, ◌∙◌}
use Rattle.core_parts.proofs.Telling.{head_there}
use Rattle.event_spec.specs.Effects.{taken_by}
use Rattle.event_spec.specs.Parts.{HeadOf, slots_of}
use Rattle.core_events.proofs.Taking.{head_made, still_room}
use Rattle.core_events.proofs.writes.take_slot.Goals as goal

pub slots-requires : goal.slots-requires
slots-requires c = head_there c.args.shape.now c.args.held.now c.args.table c.requires.head

pub lay_head-requires-clause-table : goal.lay_head-requires-clause-table
lay_head-requires-clause-table c = head_there c.args.shape.now c.args.held.now c.args.table c.requires.head

pub lay_head-requires-clause-room : goal.lay_head-requires-clause-room
lay_head-requires-clause-room c = still_room c.args.shape.now c.args.held.now c.take_head-head.new.held (HeadOf c.args.table) c.requires.room c.take_head-head.ensures.taken

pub returns : goal.returns
returns c =
    head_made c.args.shape.now c.args.held.now c.take_head-head.new.held c.lay_head.new.held c.args.table c.take_head-head.result.value c.take.new.self c.deref_mut.result.now
    (taken_by (slots_of c.args.shape.now c.args.table)) c.take_head-head.ensures.part c.take_head-head.ensures.taken c.lay_head.ensures c.deref_mut.ensures.value
    (c.take.ensures ∙ ap (λ n. taken_by n c.deref_mut.result.now) c.slots.ensures.slots)
