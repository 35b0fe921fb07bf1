-- The parts that an event on a key touches are in the hand.
use Rattle.std.proofs.Common.{◌≡◌, ℕ, ◌<◌, ℤ, pos, negsuc, true, Option, None, Some, length, refl, sym, ap, ◌∙◌, subst, arith}
use Rattle.std.specs.Prelude.{IfSome}
use Rattle.block_layout.specs.Place.{block_of, slot_of}
use Rattle.core_parts.proofs.Telling.{a_shard, has_body, has_shard, places_are}
use Rattle.core_parts.specs.Hands.{Has, Held, MayRun}
use Rattle.core_laws.proofs.Events.Owners.{key_slot}
use Rattle.event_spec.specs.declared.own.OwnKey.{OwnKey}
use Rattle.event_spec.specs.Effects.{CoreEvent}
use Rattle.event_spec.specs.Lawful.{Among, HasTable, OwnsKey}
use Rattle.event_spec.specs.Parts.{Parts, Shape, places_at, ShardOf, BodyOf, body_from, shard_from, shard_of}
use Rattle.core_laws.proofs.Frames.Looks.{look, touches}
use Rattle.hall_rule.specs.Hands.{Agrees}
use Rattle.core_events.specs.Candidates.{candidates_in}
use Rattle.key_index.specs.Candidates.{candidates_of}
use Rattle.core_events.specs.Slots.{HasSlot, HasSlots}
use Rattle.core_laws.proofs.Sound.Written.{filled_there}

-- a key's shard is one of eight
pub small_shard : (key : ℤ) → shard_of key < 8
small_shard (pos n) = omega arith
small_shard (negsuc n) = omega arith

module _ (sh : Shape) (e : CoreEvent) (hand : Held) (m : MayRun sh e hand) (t : ℕ) (key : ℤ) (has : HasTable sh t)
    (shard : touches sh e hand (ShardOf t (shard_of key)) ≡ true)
    (bodies : (p : ℕ) → Among p (candidates_in sh hand t key) → touches sh e hand (BodyOf t (block_of p)) ≡ true) where
  -- The shard of a key that is touched is in the hand,
  pub shard_there : Has sh hand (ShardOf t (shard_of key))
  shard_there = has_shard sh e hand m t (shard_of key) has (small_shard key) shard

  -- its candidates are the core's,
  pub told_there : (s : Parts) → Agrees hand s → places_at sh s t key ≡ candidates_in sh hand t key
  told_there s agrees = let x = a_shard sh hand t (shard_of key) shard_there in places_are sh hand s agrees t key x.0 x.1 ∙ ap (λ o. candidates_of (shard_from o) key) (sym x.1)

  -- and so are their slots.
  pub slots_there : HasSlots sh hand t (candidates_in sh hand t key)
  slots_there p a =
      let there = filled_there sh m.parts m.holds.sound t p (m.holds.sound.follows.1.index.filled t p key (subst (Among p) (sym (told_there m.parts m.agrees)) a)) in
      let same = look sh e hand m.parts (BodyOf t (block_of p)) m.covers m.agrees (bodies p a) in
      record {
        body = has_body sh e hand m t (block_of p) there.0 (bodies p a);
        slot = subst (λ o. slot_of p < length (body_from o).slots) (sym same) there.1;
      }

module _ (sh : Shape) (e : CoreEvent) (hand : Held) (m : MayRun sh e hand) (own : OwnKey) (t : ℕ) (key : ℤ) (has : HasTable sh t) (owns : OwnsKey sh own t key m.parts)
    (shard : touches sh e hand (ShardOf t (shard_of key)) ≡ true)
    (bodies : (p : ℕ) → Among p (candidates_in sh hand t key) → touches sh e hand (BodyOf t (block_of p)) ≡ true) where
  -- the key's shard is in the hand
  pub the_shard : Has sh hand (ShardOf t (shard_of key))
  the_shard = shard_there sh e hand m t key has shard bodies

  -- the slots of the key's candidates are in the hand
  pub the_slots : HasSlots sh hand t (candidates_in sh hand t key)
  the_slots = slots_there sh e hand m t key has shard bodies

  -- they are the core's
  pub candidates_are : (s : Parts) → Agrees hand s → places_at sh s t key ≡ candidates_in sh hand t key
  candidates_are = told_there sh e hand m t key has shard bodies

  -- the slot of the own write is one of the key's
  pub own_slot : IfSome own.written (HasSlot sh hand t)
  own_slot = go own.written refl
    where
      go : (w : Option ℕ) → own.written ≡ w → IfSome w (HasSlot sh hand t)
      go None is = tt
      go (Some p) is =
          the_slots p (subst (Among p) (candidates_are m.parts m.agrees) ((key_slot sh m.parts m.holds.sound own t key owns).there p is).0)
