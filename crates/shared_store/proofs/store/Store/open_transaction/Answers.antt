use Rattle.std.proofs.Common.{arith, Some, refl, sym, ap, subst, ◌∙◌}
use mathlib.Core.Logic.{inl}
use Rattle.event_spec.specs.declared.event.Event.TheVariants as event
use Rattle.event_spec.specs.Effects.{CoreEvent}
use Rattle.event_spec.specs.Lawful.{session_of}
use Rattle.event_spec.specs.Replies.{CoreReply}
use Rattle.run_spec.specs.Opened.{begun_by}
use Rattle.run_spec.specs.Told.{refusal_of}
use Rattle.store_laws.specs.Laws.{IsOfSession, TellsLine}
use Rattle.store_laws.specs.Own.{MakesOne}
use Rattle.workload_spec.specs.declared.command.Command.TheVariants as command
use Rattle.workload_spec.specs.declared.reply.Said.TheVariants as said
use Rattle.shared_store.specs.Making.{Makes}
use Rattle.shared_store.specs.Store.{opened_at, own_of, seen, shape_in}
use Rattle.shared_store.specs.declared.session.Session.{Session}
use Rattle.shared_store.specs.Store.{wrote_of}
use Rattle.shared_store.proofs.Noted.{still}
use Rattle.shared_store.proofs.Calls.{begin_refused, no_event, none_open, one_event, told_always}
use Rattle.shared_store.proofs.Open.{begins_open, busy_of}
use Rattle.shared_store.proofs.ReadSets.{begun_fit}
use Rattle.shared_store.specs.Reads.{ReadsFit}
use Rattle.shared_store.proofs.store.Store.open_transaction.Goals as goal

pub unreachable-requires : goal.unreachable-requires
unreachable-requires g c =
    let s = c.args.session.now in
    let mine : IsOfSession s.session c.new-event.result = inl (ap session_of c.new-event.ensures) in
    let m = subst (λ (e : CoreEvent). Makes c.args.self.now s.session s.pass.seat c.make_at_desk.new.pass.seat c.make_at_desk.new.pass.hands (own_of s) e c.make_at_desk.result) c.new-event.ensures
    (c.make_at_desk.ensures s.session (own_of s) c.requires.session.stands mine) in
    c.in_default.not-Begun _ (told_always c.args.self.now s.session s.pass.seat c.make_at_desk.new.pass.seat c.make_at_desk.new.pass.hands (own_of s) (event.Begin s.session) c.make_at_desk.result m refl)

pub returns : goal.returns
returns g c =
    let s = c.args.session.now in
    let none' = none_open s (sym c.is_some.ensures ∙ c.if-is_some.false) in
    let mine : IsOfSession s.session c.new-event.result = inl (ap session_of c.new-event.ensures) in
    let m = subst (λ (e : CoreEvent). Makes c.args.self.now s.session s.pass.seat c.make_at_desk.new.pass.seat c.make_at_desk.new.pass.hands (own_of s) e c.make_at_desk.result) c.new-event.ensures
    (c.make_at_desk.ensures s.session (own_of s) c.requires.session.stands mine) in
    let new : Session = record { pass = c.make_at_desk.new.pass; session = s.session; snapshot = Some c.in-Begun.snapshot; writes = c.clear.new.self; reads = c.start.new.self; kept = s.kept } in
    let both = one_event c.args.self.now s new (command.Begin c.args.checked) (event.Begin s.session) c.make_at_desk.result (said.At c.in-Begun.snapshot.number) c.requires.session refl m refl
    (ap (λ w. Some (opened_at s.session w c.in-Begun.snapshot)) c.clear.ensures ∙ ap (begun_by s.session (own_of s)) (sym c.in-Begun.is))
    c.start.ensures (still (event.Begin s.session) refl s.session c.make_at_desk.result (wrote_of s)) (subst (ReadsFit (shape_in c.args.self.now)) (sym c.start.ensures) (begun_fit (shape_in c.args.self.now) c.args.checked))
    (ap (refusal_of (command.Begin c.args.checked)) none') (λ made. refl)
    (subst (λ (r : CoreReply). TellsLine (own_of s) (command.Begin c.args.checked) r (said.At c.in-Begun.snapshot.number)) (sym c.in-Begun.is) refl) in
    let count = m.count in
    record {
      session = both.0;
      same = refl;
      answers = both.1;
      opens = begins_open c.args.self.now s new c.in-Begun.snapshot c.requires.session both.0 refl
          (subst (λ (r : CoreReply). MakesOne (shape_in c.args.self.now) s.session (seen s) (seen new) (event.Begin s.session) r) c.in-Begun.is m.makes) none' refl;
      few = omega (arith, count);
    }

pub returns-then-is_some-clause-answers : goal.returns-then-is_some-clause-answers
returns-then-is_some-clause-answers g c =
    let s = c.args.session.now in
    no_event c.args.self.now s (command.Begin c.args.checked) said.InTransaction c.requires.session (begin_refused s c.args.checked (sym c.is_some.ensures ∙ c.if-is_some.true)) refl

pub returns-then-is_some-clause-opens : goal.returns-then-is_some-clause-opens
returns-then-is_some-clause-opens g c =
    record { busy = busy_of c.args.session.now (sym c.is_some.ensures ∙ c.if-is_some.true); stays = refl }
