-- Laws of logs, by induction on them.
use Rattle.std.proofs.Common.{◌≡◌, ℕ, Bool, true, false, cond, List, [], ◌∷◌, is_some, fold, refl, ap}
use mathlib.Core.Logic.{inl, inr}
use Rattle.std.specs.Prelude.{IsSome}
use Rattle.core_laws.proofs.Events.Owners.{all_open, key_open}
use Rattle.core_laws.proofs.Events.Steps.{steps}
use Rattle.core_laws.specs.Events.Laws.{IsStep, command_in}
use Rattle.core_laws.specs.Events.Named.{FollowsMachine}
use Rattle.event_spec.specs.declared.event.Event.TheVariants as event
use Rattle.event_spec.specs.declared.reply.Reply.TheVariants as reply
use Rattle.event_spec.specs.Effects.{CoreEvent, effect}
use Rattle.event_spec.specs.Lawful.{IsLawful, reads_handed, takes_memory}
use Rattle.event_spec.specs.Parts.{Parts, Shape, desk_at}
use Rattle.event_spec.specs.Replay.{IsLawfulFrom, Made, after, opening, reply_after}
use Rattle.event_spec.specs.Replies.{reply_to}
use Rattle.event_spec.specs.Sound.{IsShape, Sound}
use Rattle.core_laws.specs.Following.Owned.{HasOpen}
use Rattle.isolation_spec.specs.Contents.{key_of}
use Rattle.isolation_spec.specs.Machine.{IsolationMachine, transaction_of}
use Rattle.isolation_spec.specs.Machine as machine
use Rattle.core_laws.proofs.Logs.Opening.{opening_follows, sound}
use Rattle.core_laws.specs.Logs.Laws.{IsAnsweredFrom, Opens, Reaches, RepliesAsTheMachine}
use Rattle.txn_desk.specs.declared.Snapshot.{Snapshot}
use Rattle.core_laws.proofs.Sound.Invariant.{keeps}

-- one event that was made keeps the invariant
pub made_keeps : (sh : Shape) (s : Parts) (made : Made) → IsShape sh → Sound sh s → IsLawful sh made.event s → Sound sh (after sh s made)
made_keeps sh s made shape ok lawful = go made.refused
  where
    go : (b : Bool) → Sound sh (cond b s (effect sh s made.event))
    go true = ok
    go false = keeps sh s made.event shape ok lawful

-- from a sound state a lawful log reaches a sound one
pub reaches_from : (sh : Shape) (log : List Made) (s : Parts) → IsShape sh → Sound sh s → IsLawfulFrom sh s log → Sound sh (fold (after sh) s log)
reaches_from sh [] s shape ok lawful = ok
reaches_from sh (made ∷ log) s shape ok lawful = reaches_from sh log (after sh s made) shape (made_keeps sh s made shape ok lawful.0) lawful.2

-- The opening core is sound.
pub opens : Opens
opens sh shape = sound sh shape

-- Each state that a lawful log reaches is sound.
pub reaches : Reaches
reaches sh log shape lawful = reaches_from sh log (opening sh) shape (sound sh shape) lawful

-- ---- replies

module _ (sh : Shape) (s : Parts) (ok : Sound sh s) (m : IsolationMachine) (f : FollowsMachine sh s m) where
  -- A session with an open snapshot at the desk has a transaction in the machine.
  has_one : (q : ℕ) (snapshot : Snapshot) → HasOpen (desk_at sh s) q snapshot → IsSome (transaction_of q m)
  has_one q snapshot has =
      let old = f.follows.desked.begun q snapshot has.counted has.is_open in
      ap is_some old.1

  -- an event refused for memory is a refusal to the machine as well
  memory_step : (e : CoreEvent) → IsLawful sh e s → takes_memory e ≡ true → IsStep (command_in e) (reads_handed e) m reply.Memory m
  memory_step (event.Begin q) lawful takes = cc
  memory_step (event.Get own t key) lawful takes = (inl tt, has_one own.session own.snapshot (key_open sh s ok own t key lawful.0), refl)
  memory_step (event.Insert own t row) lawful takes = (inr (inr tt), has_one own.session own.snapshot (key_open sh s ok own t (key_of row) lawful.0), refl)
  memory_step (event.Update own t row) lawful takes = (inr (inl tt), has_one own.session own.snapshot (key_open sh s ok own t (key_of row) lawful.0), refl)
  memory_step (event.Delete own t key) lawful takes = (inr (inl tt), has_one own.session own.snapshot (key_open sh s ok own t key lawful.0), refl)
  memory_step (event.Read own t b) lawful takes = refl
  memory_step (event.Range own t low high) lawful takes = (inl tt, has_one own.session own.snapshot (all_open sh s ok own lawful.0), refl)
  memory_step (event.Commit own reads) lawful takes = cc
  memory_step (event.Abort own) lawful takes = cc
  memory_step event.Oldest lawful takes = refl
  memory_step (event.Observe t b) lawful takes = refl
  memory_step (event.Prune t b oldest) lawful takes = refl
  memory_step (event.Look t b) lawful takes = refl
  memory_step (event.Move t moves) lawful takes = refl
  memory_step (event.Seal t b) lawful takes = refl
  memory_step (event.Image t b image) lawful takes = refl
  memory_step (event.Thaw t b) lawful takes = refl

-- an event as it was made, be it refused for memory, is a step of the machine or none
pub made_step : (sh : Shape) (s : Parts) (made : Made) (m : IsolationMachine) → IsShape sh → Sound sh s → FollowsMachine sh s m → IsLawful sh made.event s
    → (made.refused ≡ true → takes_memory made.event ≡ true)
    → (next : IsolationMachine) × IsStep (command_in made.event) (reads_handed made.event) m (reply_after sh s made) next × FollowsMachine sh (after sh s made) next
made_step sh s made m shape ok f lawful memory = go made.refused memory
  where
    go : (b : Bool) → (b ≡ true → takes_memory made.event ≡ true)
        → (next : IsolationMachine) × IsStep (command_in made.event) (reads_handed made.event) m (cond b reply.Memory (reply_to sh s made.event)) next × FollowsMachine sh (cond b s (effect sh s made.event)) next
    go true memory = (m, memory_step sh s ok m f made.event lawful (memory refl), f)
    go false memory = steps sh s made.event shape ok lawful m f

-- From a sound core that follows a machine the machine answers a lawful log.
answered_from : (sh : Shape) (log : List Made) (s : Parts) (m : IsolationMachine) → IsShape sh → Sound sh s → FollowsMachine sh s m → IsLawfulFrom sh s log
    → IsAnsweredFrom sh s m log
answered_from sh [] s m shape ok f lawful = tt
answered_from sh (made ∷ log) s m shape ok f lawful =
    let step = made_step sh s made m shape ok f lawful.0 lawful.1 in
    (step.0, step.1, answered_from sh log (after sh s made) step.0 shape (made_keeps sh s made shape ok lawful.0) step.2 lawful.2)

-- The replies of a lawful log to its sessions' commands are the machine's.
pub replies_as_the_machine : RepliesAsTheMachine
replies_as_the_machine sh log shape lawful =
    answered_from sh log (opening sh) (machine.opening_from sh.first) shape (sound sh shape) (opening_follows sh shape) lawful
