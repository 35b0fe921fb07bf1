use Rattle.std.proofs.Common.{List, length, subst, sym, ap, ◌∙◌, rules}
use Rattle.core_sweeps.proofs.Moves.{begins, nothing_moves}
use Rattle.core_sweeps.proofs.Whole.{all_moved, is_nil, not_nil, told, whole_desk, whole_ends, whole_room, whole_stamp}
use Rattle.core_sweeps.specs.MoveSteps.{AreMoved}
use Rattle.event_spec.specs.declared.event.MovePair.{MovePair}
use Rattle.core_parts.specs.Hands.{Makes}
use Rattle.event_spec.specs.declared.event.Event.TheVariants as event
use Rattle.event_spec.specs.declared.reply.Reply.TheVariants as reply
use Rattle.core_sweeps.proofs.moving.move_rows.Goals as goal

pub returns-then-is_empty-clause-ok : goal.returns-then-is_empty-clause-ok
returns-then-is_empty-clause-ok c =
    nothing_moves c.args.shape.now c.args.table c.args.moves c.args.held.now c.requires c.held_pairs-pairs.result.items c.held_pairs-pairs.ensures (is_nil c.held_pairs-pairs.result.items (search rules))

pub move_all-requires : goal.move_all-requires
move_all-requires c = (
  c.args.moves,
  subst (λ (ps : List MovePair). AreMoved c.args.shape.now c.args.table c.args.moves c.args.held.now c.args.held.now ps 0) (sym c.as_slice.ensures.value)
      (begins c.args.shape.now c.args.table c.args.moves c.args.held.now c.requires c.held_pairs-pairs.result.items c.held_pairs-pairs.ensures),
)

pub take_desk-desk-requires : goal.take_desk-desk-requires
take_desk-desk-requires c = whole_desk c.args.shape.now c.args.table c.args.moves c.args.held.now c.requires c.held_pairs-pairs.result.items c.held_pairs-pairs.ensures c.move_all.new.held (all_moved c.args.shape.now c.args.table c.args.held.now c.held_pairs-pairs.result.items c.as_slice.result.now c.as_slice.ensures.value c.move_all.new.held c.in_ok-move_all.ensures.ok)

pub tick-requires : goal.tick-requires
tick-requires c =
    whole_stamp c.args.shape.now c.args.table c.args.moves c.args.held.now c.requires c.held_pairs-pairs.result.items c.held_pairs-pairs.ensures c.move_all.new.held (all_moved c.args.shape.now c.args.table c.args.held.now c.held_pairs-pairs.result.items c.as_slice.result.now c.as_slice.ensures.value c.move_all.new.held c.in_ok-move_all.ensures.ok) c.deref_mut.result.now
    (told c.args.shape.now c.move_all.new.held c.take_desk-desk.result.value c.deref_mut.result.now c.take_desk-desk.ensures.part c.deref_mut.ensures.value)

pub lay_desk-requires : goal.lay_desk-requires
lay_desk-requires c = record {
  room = whole_room c.args.shape.now c.args.table c.args.moves c.args.held.now c.requires c.held_pairs-pairs.result.items c.held_pairs-pairs.ensures c.move_all.new.held (all_moved c.args.shape.now c.args.table c.args.held.now c.held_pairs-pairs.result.items c.as_slice.result.now c.as_slice.ensures.value c.move_all.new.held c.in_ok-move_all.ensures.ok) c.take_desk-desk.new.held c.take_desk-desk.ensures.taken;
}

pub returns-clause-ok : goal.returns-clause-ok
returns-clause-ok c =
    subst (λ n. Makes c.args.shape.now (event.Move c.args.table c.args.moves) c.args.held.now c.lay_desk.new.held (reply.Moved n)) (sym (c.len.ensures ∙ sym c.as_slice.ensures.len ∙ ap (λ (l : List MovePair). length l) c.as_slice.ensures.value))
    (whole_ends c.args.shape.now c.args.table c.args.moves c.args.held.now c.requires c.held_pairs-pairs.result.items c.held_pairs-pairs.ensures c.move_all.new.held (all_moved c.args.shape.now c.args.table c.args.held.now c.held_pairs-pairs.result.items c.as_slice.result.now c.as_slice.ensures.value c.move_all.new.held c.in_ok-move_all.ensures.ok) (not_nil c.held_pairs-pairs.result.items (search rules)) c.take_desk-desk.new.held c.lay_desk.new.held c.deref_mut.result.now c.tick.new.self
    (told c.args.shape.now c.move_all.new.held c.take_desk-desk.result.value c.deref_mut.result.now c.take_desk-desk.ensures.part c.deref_mut.ensures.value) c.take_desk-desk.ensures.taken
    (c.tick.ensures.changed ∙ ap (λ n. record c.deref_mut.result.now { newest = n }) c.tick.ensures.taken) c.lay_desk.ensures)
