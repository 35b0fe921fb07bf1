-- Upkeep that leaves all slots as they are.
use Rattle.event_spec.specs.Parts.{Parts, Shape, BodyOf, ShardOf, names, Changes, nothing, each_changed, body_at, shard_of}
use Rattle.core_laws.specs.Events.Named.{FollowsMachine}
use Rattle.std.proofs.Common.{◌≡◌, ℕ, Bool, true, false, cond, ◌&&◌, ◌==◌, refl, ap}
use Rattle.block_layout.specs.Place.{block_of, slot_of}
use Rattle.isolation_spec.specs.Machine.{IsolationMachine}
use Rattle.block_spec.specs.Bodies.{Body, slot_in}
use Rattle.event_spec.specs.Effects.{at_both}
use Rattle.core_laws.proofs.Events.States.{kinds_after, shards_after, desk_after, desk_at_after, slot_after, places_stay, carried}

-- a change of one body that keeps its slots
abbrev pub one_body : ℕ → ℕ → (Body → Body) → Changes
one_body t b g = record nothing { body = at_both t b g }

-- Where a body changes but its slots do not, the parts follow the machine as before.
pub slots_kept : (sh : Shape) (s : Parts) (t b : ℕ) (g : Body → Body) → ((body : Body) → (g body).slots ≡ body.slots) → (m : IsolationMachine) → FollowsMachine sh s m
    → FollowsMachine sh (each_changed (one_body t b g) (names sh) s) m
slots_kept sh s t b g same m f = record {
  kinds = kinds_after sh s (one_body t b g) f.kinds;
  desk = (f.desk.0, desk_after sh s (one_body t b g) f.desk.0 f.desk.1);
  shards = shards_after sh s (one_body t b g) f.shards;
  follows = carried m
      (λ u p. slot_after sh s (one_body t b g) (λ x. x) refl u p (f.kinds (BodyOf u (block_of p))) (at u (block_of p) (body_at sh s u (block_of p)) (slot_of p)))
      (λ u key. places_stay sh s (one_body t b g) (λ t i x. refl) u key (f.kinds (ShardOf u (shard_of key))))
      (desk_at_after sh s (one_body t b g) f.desk.0 f.desk.1) f.follows;
}
  where
    at : (u x : ℕ) (body : Body) (j : ℕ) → slot_in (at_both t b g u x body) j ≡ slot_in body j
    at u x body j = go ((u == t) && (x == b))
      where
        go : (y : Bool) → slot_in (cond y (g body) body) j ≡ slot_in body j
        go true = ap (λ slots. Rattle.std.specs.Prelude.slice_index_or slots j Rattle.block_spec.specs.Slots.bare) (same body)
        go false = refl
