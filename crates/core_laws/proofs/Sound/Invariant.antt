-- Each lawful event keeps the invariant.
use Rattle.std.proofs.Common.{◌-◌, ℕ, Option, None, Some}
use Rattle.std.proofs.lemmas.List.{length-set}
use Rattle.core_laws.proofs.Events.Naming.{follows_machine}
use Rattle.core_laws.proofs.Events.Steps.{steps}
use Rattle.event_spec.specs.declared.event.Event.TheVariants as event
use Rattle.event_spec.specs.Effects.{CoreEvent, after_judged, effect, opened, stale_in}
use Rattle.event_spec.specs.Lawful.{IsLawful}
use Rattle.event_spec.specs.Parts.{Parts, Shape, each_changed, names}
use Rattle.event_spec.specs.Sound.{IsShape, Sound}
use Rattle.isolation_spec.specs.declared.read.Read.{Read}
use Rattle.core_laws.proofs.Sound.Keeps.{abort_keeps, commit_keeps, delete_keeps, desk_keeps, image_keeps, insert_keeps, nothing_keeps, observe_keeps, prune_keeps, seal_keeps, shaped, thaw_keeps, update_keeps}
use Rattle.core_laws.proofs.Sound.Moves.{move_keeps}
use Rattle.core_laws.specs.Sound.Laws.{Keeps}
use Rattle.core_laws.specs.Sound.Shaped.{Shaped}

module _ (sh : Shape) (s : Parts) (shape : IsShape sh) (ok : Sound sh s) where
  -- A lawful event, whichever it is, keeps what holds of heads and bodies.
  keeps_shaped : (e : CoreEvent) → IsLawful sh e s → Shaped sh (effect sh s e)
  keeps_shaped (event.Begin q) lawful = desk_keeps sh s (shaped sh s ok) (opened q) (λ desk. length-set desk.open_snapshots (q - 1) (Some (record { stamp = desk.newest; number = desk.commits })))
  keeps_shaped (event.Get own t key) lawful = nothing_keeps sh s (shaped sh s ok)
  keeps_shaped (event.Insert own t row) lawful = insert_keeps sh s shape ok own t row lawful
  keeps_shaped (event.Update own t row) lawful = update_keeps sh s shape ok own t row lawful
  keeps_shaped (event.Delete own t key) lawful = delete_keeps sh s shape ok own t key lawful
  keeps_shaped (event.Read own t b) lawful = nothing_keeps sh s (shaped sh s ok)
  keeps_shaped (event.Range own t low high) lawful = nothing_keeps sh s (shaped sh s ok)
  keeps_shaped (event.Commit own reads) lawful = judged (stale_in sh s own reads)
    where
      judged : (found : Option (Read × ℕ)) → Shaped sh (each_changed (after_judged sh s own found) (names sh) s)
      judged None = commit_keeps sh s shape ok own
      judged (Some stale) = nothing_keeps sh s (shaped sh s ok)
  keeps_shaped (event.Abort own) lawful = abort_keeps sh s shape ok own
  keeps_shaped event.Oldest lawful = nothing_keeps sh s (shaped sh s ok)
  keeps_shaped (event.Observe t b) lawful = observe_keeps sh s shape ok t b lawful.1
  keeps_shaped (event.Prune t b oldest) lawful = prune_keeps sh s shape ok t b oldest
  keeps_shaped (event.Look t b) lawful = nothing_keeps sh s (shaped sh s ok)
  keeps_shaped (event.Move t moves) lawful = move_keeps sh s ok t moves lawful
  keeps_shaped (event.Seal t b) lawful = seal_keeps sh s shape ok t b lawful.1
  keeps_shaped (event.Image t b image) lawful = image_keeps sh s shape ok t b image lawful.1.0
  keeps_shaped (event.Thaw t b) lawful = thaw_keeps sh s shape ok t b lawful.1.0

-- a lawful event keeps the invariant
pub keeps : Keeps
keeps sh s e shape ok lawful =
    let after = keeps_shaped sh s shape ok e lawful in
    let next = steps sh s e shape ok lawful ok.follows.0 (follows_machine sh s ok) in
    record {
      follows = (next.0, next.2.follows);
      count = after.count;
      kinds = after.kinds;
      heads = after.heads;
      bodies = after.bodies;
      no_head = after.no_head;
      sessions = after.sessions;
    }
