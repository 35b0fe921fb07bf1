use Rattle.std.proofs.Common.{◌≡◌, ◌-◌, ℕ, set, Some, length, ap, ◌∙◌, sym, refl, arith}
use Rattle.core_events.proofs.Alone.{one_desk, room_taken}
use Rattle.core_events.proofs.Desks.{no_snapshot}
use Rattle.core_parts.proofs.Telling.{desk_is, has_desk}
use Rattle.event_spec.specs.declared.event.Event.TheVariants as event
use Rattle.event_spec.specs.declared.reply.Reply.TheVariants as reply
use Rattle.event_spec.specs.Effects.{opened}
use Rattle.event_spec.specs.Parts.{TheDesk}
use Rattle.txn_desk.specs.Oldest.{snapshot_of}
use Rattle.txn_desk.specs.declared.Snapshot.{Snapshot}
use Rattle.txn_desk.specs.Desk.{DeskState}
use Rattle.core_events.proofs.sessions.begin.Goals as goal

abbrev snapshot_at : DeskState → Snapshot
snapshot_at desk = record { stamp = desk.newest; number = desk.commits }

-- the desk after a begin
abbrev begun : DeskState → ℕ → Snapshot → DeskState
begun desk session snapshot = record desk { open_snapshots = set desk.open_snapshots (session - 1) (Some snapshot) }

pub take_desk-desk-requires : goal.take_desk-desk-requires
take_desk-desk-requires c = has_desk c.args.shape.now (event.Begin c.args.session) c.args.held.now c.requires refl

pub begin-snapshot-requires-clause-pass : goal.begin-snapshot-requires-clause-pass
begin-snapshot-requires-clause-pass c =
    let low = c.requires.lawful.0.0 in
    let is = desk_is c.args.shape.now c.args.held.now c.requires.parts c.requires.agrees c.take_desk-desk.result.value c.take_desk-desk.ensures.part in
    let passes = c.requires.holds.sound.sessions in
    let same = ap (λ (d : DeskState). length d.open_snapshots) is in
    let here : length c.deref_mut.result.now.open_snapshots ≡ length c.take_desk-desk.result.value.open_snapshots = ap (λ (d : DeskState). length d.open_snapshots) c.deref_mut.ensures.value in
    let top = low.1 in (low.0, omega (arith, top, passes, same, here))

pub begin-snapshot-requires-clause-idle : goal.begin-snapshot-requires-clause-idle
begin-snapshot-requires-clause-idle c =
    let is = desk_is c.args.shape.now c.args.held.now c.requires.parts c.requires.agrees c.take_desk-desk.result.value c.take_desk-desk.ensures.part in
    let low = c.requires.lawful.0.0 in
    ap (λ (d : DeskState). snapshot_of d c.args.session) (c.deref_mut.ensures.value ∙ sym is) ∙ no_snapshot c.args.shape.now c.requires.parts c.args.session low.0 c.requires.lawful.0.1

pub lay_desk-requires : goal.lay_desk-requires
lay_desk-requires c = record { room = room_taken c.args.shape.now (event.Begin c.args.session) c.args.held.now c.requires TheDesk c.take_desk-desk.new.held c.take_desk-desk.ensures.taken }

pub returns : goal.returns
returns c =
    let is = desk_is c.args.shape.now c.args.held.now c.requires.parts c.requires.agrees c.take_desk-desk.result.value c.take_desk-desk.ensures.part in
    one_desk c.args.shape.now (event.Begin c.args.session) c.args.held.now c.requires c.take_desk-desk.new.held c.lay_desk.new.held c.take_desk-desk.result.value c.begin-snapshot.new.self
    (opened c.args.session) (reply.Begun c.begin-snapshot.result) c.take_desk-desk.ensures.part c.take_desk-desk.ensures.taken c.lay_desk.ensures
    (c.begin-snapshot.ensures.opened ∙ ap (begun c.deref_mut.result.now c.args.session) c.begin-snapshot.ensures.snapshot ∙ ap (opened c.args.session) c.deref_mut.ensures.value) refl
    (ap reply.Begun (c.begin-snapshot.ensures.snapshot ∙ ap snapshot_at (c.deref_mut.ensures.value ∙ sym is)))
