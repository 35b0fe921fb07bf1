-- What changes no part, and what changes the desk alone.
use Rattle.std.proofs.Common.{◌≡◌, List, [], ◌∷◌, refl, sym, ap, ◌∙◌, subst}
use Rattle.block_layout.specs.Place.{block_of}
use Rattle.core_laws.proofs.Events.ByKind.{nothing_changes}
use Rattle.core_laws.proofs.Events.States.{kinds_after, shards_after, desk_after, desk_at_after, slot_after, places_stay, carried}
use Rattle.core_laws.specs.Events.Named.{FollowsMachine}
use Rattle.event_spec.specs.Follows.{Follows}
use Rattle.event_spec.specs.Parts.{Parts, Shape, Name, ShardOf, BodyOf, nothing, each_changed, names, slot_at, places_at, desk_at, shard_of}
use Rattle.isolation_spec.specs.Machine.{IsolationMachine}
use Rattle.txn_desk.specs.Desk.{DeskState}

-- what changes nothing leaves all parts
pub all_stay : (ns : List Name) (s : Parts) → each_changed nothing ns s ≡ s
all_stay [] s = refl
all_stay (n ∷ ns) [] = refl
all_stay (n ∷ ns) (piece ∷ s) = ap (λ x. x ∷ each_changed nothing ns s) (nothing_changes n piece) ∙ ap (λ xs. piece ∷ xs) (all_stay ns s)

-- Parts that nothing changes follow the machine as before.
pub stays : (sh : Shape) (s : Parts) (m : IsolationMachine) → FollowsMachine sh s m → FollowsMachine sh (each_changed nothing (names sh) s) m
stays sh s m f = subst (λ s'. FollowsMachine sh s' m) (sym (all_stay (names sh) s)) f

-- where the desk alone changes, its follower does
pub desk_follows : (sh : Shape) (s : Parts) (m m' : IsolationMachine) (g : DeskState → DeskState) → FollowsMachine sh s m
    → Follows (slot_at sh s) (places_at sh s) (g (desk_at sh s)) m' → FollowsMachine sh (each_changed (record nothing { desk = g }) (names sh) s) m'
desk_follows sh s m m' g f after = record {
  kinds = kinds_after sh s (record nothing { desk = g }) f.kinds;
  desk = (g f.desk.0, desk_after sh s (record nothing { desk = g }) f.desk.0 f.desk.1);
  shards = shards_after sh s (record nothing { desk = g }) f.shards;
  follows = carried m'
      (λ t p. slot_after sh s (record nothing { desk = g }) (λ x. x) refl t p (f.kinds (BodyOf t (block_of p))) refl)
      (λ t key. places_stay sh s (record nothing { desk = g }) (λ t i places. refl) t key (f.kinds (ShardOf t (shard_of key))))
      (desk_at_after sh s (record nothing { desk = g }) f.desk.0 f.desk.1)
      after;
}
