use Rattle.std.proofs.Common.{◌≡◌, ◌≤◌, ◌+◌, ℕ, sym, subst}
use Rattle.std.specs.Prelude.{MatchBool}
use Rattle.core_laws.specs.Words.Words.{thawed_part}
use Rattle.engine_core.specs.Core.{is_memory}
use Rattle.engine_core.specs.Costs.{cost_of}
use Rattle.event_spec.specs.Effects.{CoreEvent}
use Rattle.event_spec.specs.Lawful.{FitsIn, Opened}
use Rattle.event_spec.specs.Parts.{CorePart, Shape}
use Rattle.event_spec.specs.Replies.{reply_to}
use Rattle.hall_rule.specs.EventLog.{replay}
use Rattle.hall_rule.specs.Meaning.{Meaning}
use Rattle.hall_rule.specs.Views.{entry_of}
use Rattle.hall_steps.specs.Hall.{Extends, IsPass, IsPassAt, first_of, thawed_by}
use Rattle.shared_store.specs.Making.{MakesHeld, MayMakeHeld, ReadsFew}
use Rattle.shared_store.specs.Store.{IsWithinAt, StoreView, shape_in}
use Rattle.shared_store.proofs.Made.{made_event, reads_few}
use Rattle.shared_store.proofs.Sessions.{hall_meaning, is_meaning}
use Rattle.shared_store.proofs.store.Store.make_held.Goals as goal

pub event-requires-clause-pass : goal.event-requires-clause-pass
event-requires-clause-pass g c κs within =
    let h = c.self.inside.hall in
    let s = c.args.pass.now in
    let may = subst (λ (st : StoreView). MayMakeHeld st s.seat s.hands c.args.event) (sym c.self.view_is) c.requires in
    let there = subst (λ (m : Meaning CorePart CoreEvent Opened ℕ). IsPassAt m (thawed_by (thawed_part h.core.shape c.args.event)) h.id s.seat s.hands) (sym (is_meaning h c.self.invariant)) may.within.pass in
    subst (λ (sh : Shape). IsPassAt (hall_meaning h) (thawed_by (thawed_part sh c.args.event)) h.id s.seat s.hands) (sym c.self.invariant.shape) there

pub event-requires-clause-fits : goal.event-requires-clause-fits
event-requires-clause-fits g c κs within =
    let h = c.self.inside.hall in
    let s = c.args.pass.now in
    let may = subst (λ (st : StoreView). MayMakeHeld st s.seat s.hands c.args.event) (sym c.self.view_is) c.requires in
    let in_hall = subst (λ (m : Meaning CorePart CoreEvent Opened ℕ). FitsIn h.core.shape c.args.event (replay m s.seat.me.0.log)) (sym (is_meaning h c.self.invariant)) may.fits in
    subst (λ (sh : Shape). FitsIn sh c.args.event (replay (hall_meaning h) s.seat.me.0.log)) (sym c.self.invariant.shape) in_hall

pub returns-clause-made : goal.returns-clause-made
returns-clause-made g c thawing session own within mine =
    let h = c.self.inside.hall in
    let t = c.args.pass.now in
    let u = c.event.new.pass in
    let e = c.args.event in
    let told = c.event.result in
    let same = is_meaning h c.self.invariant in
    let log = c.event.ensures.log in
    let made = subst (λ (m : Meaning CorePart CoreEvent Opened ℕ). IsPass m h.id u.seat u.hands) same c.event.ensures.pass in
    let extends = subst (λ (m : Meaning CorePart CoreEvent Opened ℕ). Extends m t.seat log.0 (entry_of t.seat.id t.seat.me.0 (is_memory told) e) u.seat) same log.1 in
    let said_here = subst (λ (sh : Shape). MatchBool (is_memory told) (first_of u.hands ≡ first_of t.hands) (told ≡ reply_to sh (replay (hall_meaning h) log.0) e)) c.self.invariant.shape log.2 in
    let said = subst (λ (m : Meaning CorePart CoreEvent Opened ℕ). MatchBool (is_memory told) (first_of u.hands ≡ first_of t.hands) (told ≡ reply_to h.core.shape (replay m log.0) e)) same said_here in
    let here = subst (λ (st : StoreView). IsWithinAt thawing st session t.seat t.hands own) (sym c.self.view_is) within in
    subst (λ (st : StoreView). MakesHeld st session t.seat u.seat t.hands u.hands own e told) c.self.view_is
    (made_event h c.self.invariant t.seat u.seat t.hands u.hands e told made c.event.ensures.room log.0 extends (first_of u.hands ≡ first_of t.hands) said thawing session own here mine)

pub returns-clause-steps : goal.returns-clause-steps
returns-clause-steps g c =
    let h = c.self.inside.hall in
    let t = c.args.pass.now in
    let u = c.event.new.pass in
    let e = c.args.event in
    let told = c.event.result in
    let same = is_meaning h c.self.invariant in
    let log = c.event.ensures.log in
    let made = subst (λ (m : Meaning CorePart CoreEvent Opened ℕ). IsPass m h.id u.seat u.hands) same c.event.ensures.pass in
    let extends = subst (λ (m : Meaning CorePart CoreEvent Opened ℕ). Extends m t.seat log.0 (entry_of t.seat.id t.seat.me.0 (is_memory told) e) u.seat) same log.1 in
    let said_here = subst (λ (sh : Shape). MatchBool (is_memory told) (first_of u.hands ≡ first_of t.hands) (told ≡ reply_to sh (replay (hall_meaning h) log.0) e)) c.self.invariant.shape log.2 in
    let said = subst (λ (m : Meaning CorePart CoreEvent Opened ℕ). MatchBool (is_memory told) (first_of u.hands ≡ first_of t.hands) (told ≡ reply_to h.core.shape (replay m log.0) e)) same said_here in
    let few_here = subst (λ (sh : Shape). c.event.new.steps ≤ c.args.steps.now + cost_of sh e (replay (hall_meaning h) log.0)) c.self.invariant.shape log.3 in
    let few = subst (λ (m : Meaning CorePart CoreEvent Opened ℕ). c.event.new.steps ≤ c.args.steps.now + cost_of h.core.shape e (replay m log.0)) same few_here in
    let may = subst (λ (st : StoreView). MayMakeHeld st t.seat t.hands e) (sym c.self.view_is) c.requires in
    subst (λ (st : StoreView). ReadsFew (shape_in st) u.seat.me.0 e told c.args.steps.now c.event.new.steps) c.self.view_is
    (reads_few h c.self.invariant t.seat u.seat t.hands u.hands e told made c.event.ensures.room log.0 extends (first_of u.hands ≡ first_of t.hands) said
    (thawed_by (thawed_part h.core.shape e)) may.session may.own may.within may.mine c.args.steps.now c.event.new.steps few)
