use Rattle.std.proofs.Common.{None, ap, ◌∙◌}
use Rattle.core_parts.proofs.Telling.{head_there}
use Rattle.core_sweeps.proofs.Handing.{head_back, room_taken}
use Rattle.event_spec.specs.Parts.{HeadOf}
use Rattle.core_parts.specs.Heads.{gained}
use Rattle.core_sweeps.proofs.sweeping.gain_block.Goals as goal

pub lay_head-requires-clause-table : goal.lay_head-requires-clause-table
lay_head-requires-clause-table c = head_there c.args.shape.now c.args.held.now c.args.table c.requires.head

pub lay_head-requires-clause-room : goal.lay_head-requires-clause-room
lay_head-requires-clause-room c = room_taken c.args.shape.now c.args.held.now c.take_head-head.new.held (HeadOf c.args.table) None c.take_head-head.ensures.taken c.requires.room

pub returns : goal.returns
returns c =
    head_back c.args.shape.now c.args.table (gained c.args.block) c.args.held.now c.take_head-head.new.held c.lay_head.new.held
    c.take_head-head.result.value c.gain.new.self c.take_head-head.ensures.part c.take_head-head.ensures.taken
    (c.gain.ensures ∙ ap (gained c.args.block) c.deref_mut.ensures.value) c.lay_head.ensures
