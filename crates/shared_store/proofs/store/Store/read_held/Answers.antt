use Rattle.std.proofs.Common.{◌≡◌, ◌⊎◌, List, Some, sym, ap, subst}
use mathlib.Core.Logic.{inl, inr}
use Rattle.block_spec.specs.Slots.{Row}
use Rattle.event_spec.specs.declared.event.Event.TheVariants as event
use Rattle.event_spec.specs.declared.reply.Reply.TheVariants as reply
use Rattle.event_spec.specs.Effects.{CoreEvent}
use Rattle.event_spec.specs.Replies.{CoreReply}
use Rattle.store_laws.specs.Laws.{IsOfSession}
use Rattle.shared_store.specs.Making.{MakesHeld, MayMakeHeld}
use Rattle.shared_store.proofs.Seeing.{held_told}
use Rattle.shared_store.proofs.store.Store.read_held.Goals as goal

pub make_held-requires : goal.make_held-requires
make_held-requires g c =
    let s = c.args.pass.now in
    let r = c.requires in
    subst (MayMakeHeld c.args.self.now s.seat s.hands) (sym c.new-event.ensures)
    (record {
      session = r.session;
      own = Some c.args.own;
      within = r.within;
      mine = inl (ap Some r.within.knows.opened.0);
      covers = r.covers;
      stands = r.within.knows.opened.1;
      fits = r.has;
      few = r.few;
    })

pub returns-in-Rows-clause-reads : goal.returns-in-Rows-clause-reads
returns-in-Rows-clause-reads g c session within =
    let s = c.args.pass.now in
    let u = c.make_held.new.pass in
    let e : CoreEvent = event.Read c.args.own c.args.table c.args.block in
    let mine : IsOfSession session e = inl (ap Some within.knows.opened.0) in
    subst (λ (r : CoreReply). MakesHeld c.args.self.now session s.seat u.seat s.hands u.hands (Some c.args.own) e r) c.in-Rows.is
    (subst (λ (e : CoreEvent). MakesHeld c.args.self.now session s.seat u.seat s.hands u.hands (Some c.args.own) e c.make_held.result) c.new-event.ensures
    (c.make_held.ensures.made 0 session (Some c.args.own) within (subst (IsOfSession session) (sym c.new-event.ensures) mine)))

pub returns-in-Memory-clause-reads : goal.returns-in-Memory-clause-reads
returns-in-Memory-clause-reads g c session within =
    let s = c.args.pass.now in
    let u = c.make_held.new.pass in
    let e : CoreEvent = event.Read c.args.own c.args.table c.args.block in
    let mine : IsOfSession session e = inl (ap Some within.knows.opened.0) in
    subst (λ (r : CoreReply). MakesHeld c.args.self.now session s.seat u.seat s.hands u.hands (Some c.args.own) e r) c.in-Memory.is
    (subst (λ (e : CoreEvent). MakesHeld c.args.self.now session s.seat u.seat s.hands u.hands (Some c.args.own) e c.make_held.result) c.new-event.ensures
    (c.make_held.ensures.made 0 session (Some c.args.own) within (subst (IsOfSession session) (sym c.new-event.ensures) mine)))

pub unreachable-requires : goal.unreachable-requires
unreachable-requires g c =
    let s = c.args.pass.now in
    let u = c.make_held.new.pass in
    let r = c.requires in
    let e : CoreEvent = event.Read c.args.own c.args.table c.args.block in
    let mine : IsOfSession r.session e = inl (ap Some r.within.knows.opened.0) in
    let made = subst (λ (e : CoreEvent). MakesHeld c.args.self.now r.session s.seat u.seat s.hands u.hands (Some c.args.own) e c.make_held.result) c.new-event.ensures
    (c.make_held.ensures.made 0 r.session (Some c.args.own) r.within (subst (IsOfSession r.session) (sym c.new-event.ensures) mine)) in
    go _ (held_told c.args.self.now r.session s.seat u.seat s.hands u.hands c.args.own c.args.table c.args.block c.make_held.result r.within r.covers r.loose made) c.in_default.not-Memory c.in_default.not-Rows
  where
    go : (rows : List Row) → (c.make_held.result ≡ reply.Memory) ⊎ (c.make_held.result ≡ reply.Rows rows) → (c.make_held.result ≡ reply.Memory → ⊥) → ((x : List Row) → c.make_held.result ≡ reply.Rows x → ⊥) → ⊥
    go rows (inl is) memory other = memory is
    go rows (inr is) memory other = other rows is
