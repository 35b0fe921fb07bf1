use Rattle.std.proofs.Common.{None, ap, ◌∙◌, sym, subst}
use Rattle.core_sweeps.proofs.Aborts.{ends, has_the_desk, is_open, pass_there, room_now, still}
use Rattle.core_sweeps.proofs.Handing.{room_taken}
use Rattle.std.specs.Prelude.{IsSome}
use Rattle.event_spec.specs.Effects.{closed}
use Rattle.event_spec.specs.Parts.{TheDesk}
use Rattle.txn_desk.specs.Desk.{DeskState}
use Rattle.txn_desk.specs.Oldest.{HasPass, snapshot_of}
use Rattle.core_sweeps.proofs.aborting.abort.Goals as goal

pub take_desk-desk-requires : goal.take_desk-desk-requires
take_desk-desk-requires c =
    still c.args.shape.now c.args.own.now c.args.held.now c.undo_all.new.held c.args.own.now.writes c.undo_all.ensures TheDesk
    (has_the_desk c.args.shape.now c.args.own.now c.args.held.now c.requires)

pub end-requires-clause-pass : goal.end-requires-clause-pass
end-requires-clause-pass c =
    subst (λ (x : DeskState). HasPass x c.args.own.now.session) (sym c.deref_mut.ensures.value)
    (pass_there c.args.shape.now c.args.own.now c.args.held.now c.undo_all.new.held c.undo_all.ensures c.take_desk-desk.result.value c.take_desk-desk.ensures.part)

pub end-requires-clause-open : goal.end-requires-clause-open
end-requires-clause-open c =
    subst (λ (x : DeskState). IsSome (snapshot_of x c.args.own.now.session)) (sym c.deref_mut.ensures.value)
    (is_open c.args.shape.now c.args.own.now c.args.held.now c.undo_all.new.held c.undo_all.ensures c.take_desk-desk.result.value c.take_desk-desk.ensures.part)

pub lay_desk-requires : goal.lay_desk-requires
lay_desk-requires c = record {
  room = room_taken c.args.shape.now c.undo_all.new.held c.take_desk-desk.new.held TheDesk None c.take_desk-desk.ensures.taken
      (room_now c.args.shape.now c.args.own.now c.args.held.now c.undo_all.new.held c.args.own.now.writes c.undo_all.ensures);
}

pub returns : goal.returns
returns c =
    ends c.args.shape.now c.args.own.now c.args.held.now c.undo_all.new.held c.undo_all.ensures c.take_desk-desk.new.held c.lay_desk.new.held c.take_desk-desk.result.value c.end.new.self
    c.take_desk-desk.ensures.part c.take_desk-desk.ensures.taken (c.end.ensures.closed ∙ ap (closed c.args.own.now.session) c.deref_mut.ensures.value) c.lay_desk.ensures
