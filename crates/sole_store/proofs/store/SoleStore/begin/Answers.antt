use Rattle.std.proofs.Common.{ℕ, Some, refl, sym, ap, ◌∙◌, subst}
use mathlib.Core.Logic.{inl}
use Rattle.event_spec.specs.declared.event.Event.TheVariants as event
use Rattle.event_spec.specs.declared.own.OwnTransaction.{OwnTransaction}
use Rattle.event_spec.specs.declared.reply.Reply.TheVariants as reply
use Rattle.isolation_spec.specs.Contents.{PlaceMap}
use Rattle.sole_store.specs.Sole.{IsSole, Makes, SoleState, store_of}
use Rattle.sole_store.proofs.Ending.{ended, may_begin}
use Rattle.sole_store.proofs.Told.{none_open}
use Rattle.txn_desk.specs.declared.Snapshot.{Snapshot}
use Rattle.sole_store.proofs.store.SoleStore.begin.Goals.{After-of}
use Rattle.sole_store.proofs.store.SoleStore.begin.Goals as goal

-- A transaction that wrote these rows.
with_rows : Snapshot → PlaceMap ℕ → OwnTransaction
with_rows snapshot writes = record { session = 1; snapshot = snapshot; writes = writes }

-- What the begin leaves of the store.
begun : (c : After-of) → IsSole c.self.inside.shape c.make.new.hand (Some c.of.result)
    × Makes (store_of c.self.inside.shape c.self.inside.hand c.self.inside.opened) (store_of c.self.inside.shape c.make.new.hand (Some c.of.result)) (event.Begin 1) (reply.Begun c.in-Begun.snapshot)
unfolding with_rows
begun c =
    let i = c.self.inside in
    let none = none_open i.opened (sym c.is_some.ensures ∙ c.if-is_some.false) in
    ended i.shape i.hand c.make.new.hand i.opened c.new-event.result c.make.result c.self.invariant c.make.ensures.whole c.make.ensures.parts c.make.ensures.told c.make.ensures.memory
    (event.Begin 1) (reply.Begun c.in-Begun.snapshot) (Some c.of.result) c.new-event.ensures c.in-Begun.is (may_begin i.shape i.hand i.opened c.self.invariant none) (inl refl)
    (ap (λ (own : OwnTransaction). Some own) (c.of.ensures ∙ ap (λ (writes : PlaceMap ℕ). with_rows c.in-Begun.snapshot writes) c.in-Ok.ensures))

pub invariant_of-self : goal.invariant_of-self
invariant_of-self c = (begun (goal.at.invariant_of-self c).After-of).0

pub returns : goal.returns
returns c =
    let i = c.self.inside in (
      c.in-Begun.snapshot.stamp,
      subst (λ (s : SoleState). Makes s (store_of i.shape c.make.new.hand (Some c.of.result)) (event.Begin 1) (reply.Begun c.in-Begun.snapshot)) c.self.view_is
          (begun (goal.at.returns c).After-of).1,
    )
