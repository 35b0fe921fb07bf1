use Rattle.std.proofs.Common.{List, length, refl, sym, ap, subst, ◌∙◌, ◌==◌}
use mathlib.Core.Logic.{inr}
use Rattle.std.specs.declared.alloc.AllocError.{AllocError}
use Rattle.event_spec.specs.declared.event.Event.TheVariants as event
use Rattle.event_spec.specs.declared.event.MovePair.{MovePair}
use Rattle.event_spec.specs.declared.reply.Reply.TheVariants as reply
use Rattle.event_spec.specs.Effects.{CoreEvent}
use Rattle.std.specs.Prelude.{Ok, Err}
use Rattle.shared_store.specs.Making.{MayMake}
use Rattle.shared_store.specs.Store.{own_of}
use Rattle.shared_store.specs.declared.session.Session.{Session}
use Rattle.shared_store.proofs.Calls.{may_make, told_or_memory}
use Rattle.shared_store.proofs.Compacted.{moves_none, moves_some, moves_tell, no_pairs, some_pairs}
use Rattle.shared_store.proofs.Swept.{made_alone, made_by}
use Rattle.shared_store.proofs.store.Store.move_rows.Goals as goal

pub returns-then-is_empty : goal.returns-then-is_empty
returns-then-is_empty g c =
    moves_none c.args.self.now c.args.session.now c.args.table AllocError c.args.moves
    (no_pairs c.args.moves c.is_empty.result (c.is_empty.ensures ∙ ap (λ (pairs : List MovePair). length pairs == 0) c.as_slice.ensures) c.if-is_empty.true)

pub make-requires : goal.make-requires
make-requires g c =
    let st = c.args.self.now in
    let s = c.args.session.now in
    let e : CoreEvent = event.Move c.args.table c.args.moves in
    subst (MayMake st s.pass.seat s.pass.hands) (sym c.new-event.ensures)
    (may_make st s e c.requires.session c.requires.room (inr refl) refl tt (λ parts holds stamp. (c.requires.table, c.requires.fits.places, c.requires.fits.apart, stamp)))

pub unreachable-requires : goal.unreachable-requires
unreachable-requires g c =
    let st = c.args.self.now in
    let s = c.args.session.now in
    let e : CoreEvent = event.Move c.args.table c.args.moves in
    let m = made_by st s c.make.new.pass.seat c.make.new.pass.hands e c.new-event.result c.make.result c.requires.session refl c.new-event.ensures c.make.ensures in
    moves_tell c.make.result _ (told_or_memory st s.session s.pass.seat c.make.new.pass.seat c.make.new.pass.hands (own_of s) e c.make.result m)
    c.in_default.not-Moved c.in_default.not-Memory

pub returns-in-Moved : goal.returns-in-Moved
returns-in-Moved g c =
    let st = c.args.self.now in
    let s = c.args.session.now in
    let e : CoreEvent = event.Move c.args.table c.args.moves in
    let new : Session = record { pass = c.make.new.pass; session = s.session; snapshot = s.snapshot; writes = s.writes; reads = s.reads; kept = s.kept } in
    let m = made_by st s c.make.new.pass.seat c.make.new.pass.hands e c.new-event.result c.make.result c.requires.session refl c.new-event.ensures c.make.ensures in
    moves_some {E = AllocError} st s new c.args.table c.args.moves (Ok c.in-Moved.count)
    (some_pairs c.args.moves c.is_empty.result (c.is_empty.ensures ∙ ap (λ (pairs : List MovePair). length pairs == 0) c.as_slice.ensures) c.if-is_empty.false)
    (made_alone st s new e c.make.result (reply.Moved c.in-Moved.count) m c.in-Moved.is refl refl (refl, c.requires.session.fits) refl)

pub returns-in-Memory : goal.returns-in-Memory
returns-in-Memory g c =
    let st = c.args.self.now in
    let s = c.args.session.now in
    let e : CoreEvent = event.Move c.args.table c.args.moves in
    let new : Session = record { pass = c.make.new.pass; session = s.session; snapshot = s.snapshot; writes = s.writes; reads = s.reads; kept = s.kept } in
    let m = made_by st s c.make.new.pass.seat c.make.new.pass.hands e c.new-event.result c.make.result c.requires.session refl c.new-event.ensures c.make.ensures in
    moves_some {E = AllocError} st s new c.args.table c.args.moves (Err _)
    (some_pairs c.args.moves c.is_empty.result (c.is_empty.ensures ∙ ap (λ (pairs : List MovePair). length pairs == 0) c.as_slice.ensures) c.if-is_empty.false)
    (made_alone st s new e c.make.result reply.Memory m c.in-Memory.is refl refl (refl, c.requires.session.fits) refl)
