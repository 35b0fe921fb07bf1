use Rattle.std.proofs.Common.{arith, Option, None, Some, refl, sym, ap, subst, ◌∙◌}
use mathlib.Core.Logic.{inl}
use Rattle.event_spec.specs.declared.event.Event.TheVariants as event
use Rattle.event_spec.specs.declared.own.OwnTransaction.{OwnTransaction}
use Rattle.event_spec.specs.Effects.{CoreEvent}
use Rattle.event_spec.specs.Lawful.{session_of}
use Rattle.event_spec.specs.Replies.{CoreReply}
use Rattle.run_spec.specs.Asked.{events_of}
use Rattle.run_spec.specs.Told.{refusal_of}
use Rattle.store_laws.specs.Laws.{IsOfSession, TellsLine}
use Rattle.workload_spec.specs.declared.command.Command.TheVariants as command
use Rattle.workload_spec.specs.declared.reply.Said.TheVariants as said
use Rattle.shared_store.specs.Making.{Makes}
use Rattle.shared_store.specs.Reads.{ReadsFit}
use Rattle.shared_store.specs.Store.{own_of, shape_in}
use Rattle.shared_store.specs.declared.session.Session.{Session}
use Rattle.shared_store.specs.Store.{wrote_of}
use Rattle.shared_store.proofs.Noted.{wrote_abort}
use Rattle.shared_store.proofs.Calls.{one_event, own_stands, told_always}
use Rattle.shared_store.proofs.store.Store.abort.Goals as goal

pub unreachable-requires : goal.unreachable-requires
unreachable-requires g c =
    let s = c.args.session.now in
    let t = c.own_all-own.result in
    let owns = own_stands c.args.self.now s t c.requires.session c.own_all-own.ensures in
    let mine : IsOfSession s.session c.ending-event.result = inl (ap session_of c.ending-event.ensures ∙ ap Some owns.0) in
    let m = subst (λ (e : CoreEvent). Makes c.args.self.now s.session s.pass.seat c.make_at_desk.new.pass.seat c.make_at_desk.new.pass.hands (own_of s) e c.make_at_desk.result) c.ending-event.ensures
    (c.make_at_desk.ensures s.session (own_of s) c.requires.session.stands mine) in
    c.in_default.not-Aborted (told_always c.args.self.now s.session s.pass.seat c.make_at_desk.new.pass.seat c.make_at_desk.new.pass.hands (own_of s) (event.Abort t) c.make_at_desk.result m refl)

pub returns : goal.returns
returns g c =
    let s = c.args.session.now in
    let t = c.own_all-own.result in
    let owns = own_stands c.args.self.now s t c.requires.session c.own_all-own.ensures in
    let mine : IsOfSession s.session c.ending-event.result = inl (ap session_of c.ending-event.ensures ∙ ap Some owns.0) in
    let m = subst (λ (e : CoreEvent). Makes c.args.self.now s.session s.pass.seat c.make_at_desk.new.pass.seat c.make_at_desk.new.pass.hands (own_of s) e c.make_at_desk.result) c.ending-event.ensures
    (c.make_at_desk.ensures s.session (own_of s) c.requires.session.stands mine) in
    let new : Session = record { pass = c.make_at_desk.new.pass; session = s.session; snapshot = None; writes = s.writes; reads = c.forget.new.self; kept = c.abort.new.self } in
    let both = one_event c.args.self.now s new command.Abort (event.Abort t) c.make_at_desk.result said.Aborted c.requires.session refl m refl refl c.forget.ensures
    (wrote_abort t c.make_at_desk.result s.session c.abort.new.self (wrote_of s) c.abort.ensures)
    (subst (ReadsFit (shape_in c.args.self.now)) (sym c.forget.ensures) tt)
    (ap (refusal_of command.Abort) c.own_all-own.ensures) (λ made. ap (λ (o : Option OwnTransaction). events_of (shape_in c.args.self.now) o s.reads s.session command.Abort made) c.own_all-own.ensures)
    (subst (λ (r : CoreReply). TellsLine (own_of s) command.Abort r said.Aborted) (sym c.in-Aborted.is) refl) in
    let count = m.count in
    record {
      session = both.0;
      same = refl;
      answers = both.1;
      rests = refl;
      few = omega (arith, count);
    }
