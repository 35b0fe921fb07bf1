-- What updates, deletes and inserts touch.
use Rattle.std.proofs.Common.{◌≡◌, ℕ, ℤ, ◌++◌, false, ◌==◌, Option, Some, option_to_list, refl, sym, ap, ◌∙◌, subst}
use mathlib.Core.Logic.{inl}
use Rattle.std.specs.Prelude.{IfSome}
use Rattle.std.specs.List.{list_any}
use Rattle.std.specs.Option.{option_or}
use Rattle.std.proofs.lemmas.Bool.{or_left, and_from}
use Rattle.block_layout.specs.Place.{block_of}
use Rattle.block_spec.specs.Slots.{Row}
use Rattle.core_parts.proofs.Telling.{has_body, has_head}
use Rattle.core_parts.specs.Hands.{Has, Held, MayRun}
use Rattle.core_laws.proofs.Events.Lists.{in_left}
use Rattle.core_laws.proofs.Events.Slots.{num_refl}
use Rattle.event_spec.specs.declared.event.Event.TheVariants as event
use Rattle.event_spec.specs.declared.own.OwnKey.{OwnKey}
use Rattle.event_spec.specs.Judged.{next_place}
use Rattle.event_spec.specs.Lawful.{Among, HasBlock}
use Rattle.event_spec.specs.Parts.{Parts, Shape, HeadOf, ShardOf, BodyOf, head_at, head_from, names, places_at, shard_of, slots_of}
use Rattle.event_spec.specs.Touched.{held_next}
use Rattle.core_laws.proofs.Frames.Fitness.{body_touched, shard_touched}
use Rattle.core_laws.proofs.Frames.Looks.{block_among, look}
use Rattle.hall_rule.specs.Hands.{Agrees}
use Rattle.isolation_spec.specs.Contents.{key_of}
use Rattle.core_events.proofs.Keys.{candidates_are, own_slot, the_shard, the_slots}
use Rattle.core_events.specs.Candidates.{candidates_in}
use Rattle.core_events.specs.Slots.{HasSlot, HasSlots}
use Rattle.event_spec.specs.Parts.{held_named}

module _ (sh : Shape) (hand : Held) (own : OwnKey) (t : ℕ) (key : ℤ) (m : MayRun sh (event.Delete own t key) hand) where
  -- of a delete the key's shard is in the hand
  pub delete_shard : Has sh hand (ShardOf t (shard_of key))
  delete_shard = the_shard sh (event.Delete own t key) hand m own t key m.lawful.1.0 m.lawful.0
      (shard_touched t key (option_to_list own.written ++ candidates_in sh hand t key)) (body_touched t key (option_to_list own.written) (candidates_in sh hand t key))

  -- of a delete the slots of the key's candidates are in the hand
  pub delete_slots : HasSlots sh hand t (candidates_in sh hand t key)
  delete_slots = the_slots sh (event.Delete own t key) hand m own t key m.lawful.1.0 m.lawful.0
      (shard_touched t key (option_to_list own.written ++ candidates_in sh hand t key)) (body_touched t key (option_to_list own.written) (candidates_in sh hand t key))

  -- of a delete the slot of the own write is in the hand, if there is one
  pub delete_own : IfSome own.written (HasSlot sh hand t)
  delete_own = own_slot sh (event.Delete own t key) hand m own t key m.lawful.1.0 m.lawful.0
      (shard_touched t key (option_to_list own.written ++ candidates_in sh hand t key)) (body_touched t key (option_to_list own.written) (candidates_in sh hand t key))

  -- of a delete the core's candidates of the key are the hand's
  pub delete_same : (s : Parts) → Agrees hand s → places_at sh s t key ≡ candidates_in sh hand t key
  delete_same = candidates_are sh (event.Delete own t key) hand m own t key m.lawful.1.0 m.lawful.0
      (shard_touched t key (option_to_list own.written ++ candidates_in sh hand t key)) (body_touched t key (option_to_list own.written) (candidates_in sh hand t key))

module _ (sh : Shape) (hand : Held) (own : OwnKey) (t : ℕ) (row : Row) (m : MayRun sh (event.Update own t row) hand) where
  -- of an update the key's shard is in the hand
  pub update_shard : Has sh hand (ShardOf t (shard_of (key_of row)))
  update_shard = the_shard sh (event.Update own t row) hand m own t (key_of row) m.lawful.1.0 m.lawful.0
      (shard_touched t (key_of row) (option_to_list own.written ++ candidates_in sh hand t (key_of row))) (body_touched t (key_of row) (option_to_list own.written) (candidates_in sh hand t (key_of row)))

  -- of an update the slots of the key's candidates are in the hand
  pub update_slots : HasSlots sh hand t (candidates_in sh hand t (key_of row))
  update_slots = the_slots sh (event.Update own t row) hand m own t (key_of row) m.lawful.1.0 m.lawful.0
      (shard_touched t (key_of row) (option_to_list own.written ++ candidates_in sh hand t (key_of row))) (body_touched t (key_of row) (option_to_list own.written) (candidates_in sh hand t (key_of row)))

  -- of an update the slot of the own write is in the hand, if there is one
  pub update_own : IfSome own.written (HasSlot sh hand t)
  update_own = own_slot sh (event.Update own t row) hand m own t (key_of row) m.lawful.1.0 m.lawful.0
      (shard_touched t (key_of row) (option_to_list own.written ++ candidates_in sh hand t (key_of row))) (body_touched t (key_of row) (option_to_list own.written) (candidates_in sh hand t (key_of row)))

  -- of an update the core's candidates of the key are the hand's
  pub update_same : (s : Parts) → Agrees hand s → places_at sh s t (key_of row) ≡ candidates_in sh hand t (key_of row)
  update_same = candidates_are sh (event.Update own t row) hand m own t (key_of row) m.lawful.1.0 m.lawful.0
      (shard_touched t (key_of row) (option_to_list own.written ++ candidates_in sh hand t (key_of row))) (body_touched t (key_of row) (option_to_list own.written) (candidates_in sh hand t (key_of row)))

module _ (sh : Shape) (hand : Held) (own : OwnKey) (t : ℕ) (row : Row) (m : MayRun sh (event.Insert own t row) hand) where
  -- The slot that the insert takes, as the hand tells: the own write's, else the head's next.
  abbrev taken : Option ℕ
  taken = option_or own.written (held_next sh (held_named (names sh) hand) t)

  -- of an insert the key's shard is in the hand
  pub insert_shard : Has sh hand (ShardOf t (shard_of (key_of row)))
  insert_shard = the_shard sh (event.Insert own t row) hand m own t (key_of row) m.lawful.1.0 m.lawful.0
      (shard_touched t (key_of row) (option_to_list taken ++ candidates_in sh hand t (key_of row))) (body_touched t (key_of row) (option_to_list taken) (candidates_in sh hand t (key_of row)))

  -- of an insert the slots of the key's candidates are in the hand
  pub insert_slots : HasSlots sh hand t (candidates_in sh hand t (key_of row))
  insert_slots = the_slots sh (event.Insert own t row) hand m own t (key_of row) m.lawful.1.0 m.lawful.0
      (shard_touched t (key_of row) (option_to_list taken ++ candidates_in sh hand t (key_of row))) (body_touched t (key_of row) (option_to_list taken) (candidates_in sh hand t (key_of row)))

  -- of an insert the slot of the own write is in the hand, if there is one
  pub insert_own : IfSome own.written (HasSlot sh hand t)
  insert_own = own_slot sh (event.Insert own t row) hand m own t (key_of row) m.lawful.1.0 m.lawful.0
      (shard_touched t (key_of row) (option_to_list taken ++ candidates_in sh hand t (key_of row))) (body_touched t (key_of row) (option_to_list taken) (candidates_in sh hand t (key_of row)))

  -- of an insert the core's candidates of the key are the hand's
  pub insert_same : (s : Parts) → Agrees hand s → places_at sh s t (key_of row) ≡ candidates_in sh hand t (key_of row)
  insert_same = candidates_are sh (event.Insert own t row) hand m own t (key_of row) m.lawful.1.0 m.lawful.0
      (shard_touched t (key_of row) (option_to_list taken ++ candidates_in sh hand t (key_of row))) (body_touched t (key_of row) (option_to_list taken) (candidates_in sh hand t (key_of row)))

  -- of an insert the table's head is in the hand
  pub insert_head : Has sh hand (HeadOf t)
  insert_head = has_head sh (event.Insert own t row) hand m t m.lawful.1.0 (or_left (t == t) false (num_refl t))

  -- the body of the slot that it takes
  pub insert_body : (p : ℕ) → option_or own.written (next_place (head_at sh m.parts t) (slots_of sh t)) ≡ Some p → HasBlock sh t (block_of p) → Has sh hand (BodyOf t (block_of p))
  insert_body p goes there = has_body sh (event.Insert own t row) hand m t (block_of p) there
      (and_from (t == t) (list_any (λ place. block_of place == block_of p) (option_to_list taken ++ candidates_in sh hand t (key_of row))) (num_refl t)
      (block_among (option_to_list taken ++ candidates_in sh hand t (key_of row)) p (in_left (option_to_list taken) (candidates_in sh hand t (key_of row)) p
      (subst (λ o. Among p (option_to_list o)) (sym (same ∙ goes)) (inl refl)))))
    where
      same : taken ≡ option_or own.written (next_place (head_at sh m.parts t) (slots_of sh t))
      same = ap (λ o. option_or own.written (next_place (head_from o) (slots_of sh t))) (look sh (event.Insert own t row) hand m.parts (HeadOf t) m.covers m.agrees (or_left (t == t) false (num_refl t)))
