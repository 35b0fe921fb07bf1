use Rattle.std.proofs.Common.{refl, sym, subst}
use Rattle.event_spec.specs.declared.reply.Reply.TheVariants as reply
use Rattle.event_spec.specs.Effects.{CoreEvent}
use Rattle.shared_store.specs.Alone.{IsOnBody}
use Rattle.shared_store.specs.Compacting.{looking}
use Rattle.shared_store.specs.Store.{own_of, shape_in}
use Rattle.shared_store.specs.declared.session.Session.{Session}
use Rattle.shared_store.proofs.Alone.{look_on_body}
use Rattle.shared_store.proofs.Calls.{told_or_memory}
use Rattle.shared_store.proofs.Compacted.{look_seen, looks_tell}
use Rattle.shared_store.proofs.Swept.{made_alone, made_by}
use Rattle.shared_store.proofs.store.Store.look.Goals as goal

pub make_on_body-requires-clause-alone : goal.make_on_body-requires-clause-alone
make_on_body-requires-clause-alone g c =
    let st = c.args.self.now in
    subst (IsOnBody (shape_in st) c.args.table c.args.block) (sym c.new-event.ensures) (look_on_body (shape_in st) c.args.table c.args.block)

pub unreachable-requires : goal.unreachable-requires
unreachable-requires g c =
    let st = c.args.self.now in
    let s = c.args.session.now in
    let e : CoreEvent = looking c.args.table c.args.block in
    let m = made_by st s c.make_on_body.new.pass.seat c.make_on_body.new.pass.hands e c.new-event.result c.make_on_body.result c.requires.session refl c.new-event.ensures c.make_on_body.ensures in
    looks_tell c.make_on_body.result _ (told_or_memory st s.session s.pass.seat c.make_on_body.new.pass.seat c.make_on_body.new.pass.hands (own_of s) e c.make_on_body.result m)
    c.in_default.not-Looked c.in_default.not-Memory

pub returns-in-Looked : goal.returns-in-Looked
returns-in-Looked g c =
    let st = c.args.self.now in
    let s = c.args.session.now in
    let e : CoreEvent = looking c.args.table c.args.block in
    let new : Session = record { pass = c.make_on_body.new.pass; session = s.session; snapshot = s.snapshot; writes = s.writes; reads = s.reads; kept = s.kept } in
    let m = made_by st s c.make_on_body.new.pass.seat c.make_on_body.new.pass.hands e c.new-event.result c.make_on_body.result c.requires.session refl c.new-event.ensures c.make_on_body.ensures in
    let alone = made_alone st s new e c.make_on_body.result (reply.Looked c.in-Looked.look) m c.in-Looked.is refl refl (refl, c.requires.session.fits) refl in
    record { alone = alone; seen = look_seen st s new c.args.table c.args.block c.in-Looked.look c.requires.block alone }

pub returns-in-Memory : goal.returns-in-Memory
returns-in-Memory g c =
    let st = c.args.self.now in
    let s = c.args.session.now in
    let e : CoreEvent = looking c.args.table c.args.block in
    let new : Session = record { pass = c.make_on_body.new.pass; session = s.session; snapshot = s.snapshot; writes = s.writes; reads = s.reads; kept = s.kept } in
    let m = made_by st s c.make_on_body.new.pass.seat c.make_on_body.new.pass.hands e c.new-event.result c.make_on_body.result c.requires.session refl c.new-event.ensures c.make_on_body.ensures in
    record { alone = made_alone st s new e c.make_on_body.result reply.Memory m c.in-Memory.is refl refl (refl, c.requires.session.fits) refl; seen = tt }
