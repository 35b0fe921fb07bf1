use Rattle.std.proofs.Common.{refl}
use Rattle.event_spec.specs.declared.event.Event.TheVariants as event
use Rattle.event_spec.specs.declared.reply.Reply.TheVariants as reply
use Rattle.event_spec.specs.Effects.{CoreEvent}
use Rattle.shared_store.specs.Store.{own_of}
use Rattle.shared_store.specs.declared.session.Session.{Session}
use Rattle.shared_store.proofs.Calls.{told_always}
use Rattle.shared_store.proofs.Pruned.{oldest_known}
use Rattle.shared_store.proofs.Swept.{made_alone, made_by}
use Rattle.shared_store.proofs.store.Store.oldest.Goals as goal

pub unreachable-requires : goal.unreachable-requires
unreachable-requires g c =
    let st = c.args.self.now in
    let s = c.args.session.now in
    let e : CoreEvent = event.Oldest in
    let m = made_by st s c.make.new.pass.seat c.make.new.pass.hands e c.new-event.result c.make.result c.requires.session refl c.new-event.ensures c.make.ensures in
    c.in_default.not-Oldest _ (told_always st s.session s.pass.seat c.make.new.pass.seat c.make.new.pass.hands (own_of s) e c.make.result m refl)

pub returns : goal.returns
returns g c =
    let st = c.args.self.now in
    let s = c.args.session.now in
    let e : CoreEvent = event.Oldest in
    let new : Session = record { pass = c.make.new.pass; session = s.session; snapshot = s.snapshot; writes = s.writes; reads = s.reads; kept = s.kept } in
    let m = made_by st s c.make.new.pass.seat c.make.new.pass.hands e c.new-event.result c.make.result c.requires.session refl c.new-event.ensures c.make.ensures in
    let asks = made_alone st s new e c.make.result (reply.Oldest c.in-Oldest.oldest) m c.in-Oldest.is refl refl (refl, c.requires.session.fits) refl in
    record { asks = asks; oldest = oldest_known st s new c.in-Oldest.oldest asks }
