use Rattle.std.proofs.Common.{◌≡◌, ◌++◌, ℕ, ℤ, List, option_to_list, rules, to_z, of_z, w64, length, refl, sym, ap, ◌∙◌, subst, arith}
use Rattle.std.proofs.Math.Facts.{to_z-of_z}
use Rattle.std.specs.Prelude.{IfSome}
use Rattle.core_parts.proofs.Telling.{only_told}
use Rattle.core_parts.specs.Hands.{Has, Held, MayRun}
use Rattle.event_spec.specs.declared.event.Event.TheVariants as event
use Rattle.event_spec.specs.declared.own.OwnKey.{OwnKey}
use Rattle.event_spec.specs.declared.reply.Reply.TheVariants as reply
use Rattle.event_spec.specs.Judged.{found_by}
use Rattle.event_spec.specs.Parts.{Parts, Shape, ShardOf, places_at, shard_of, slot_at}
use Rattle.core_laws.proofs.Frames.Fitness.{body_touched, shard_touched}
use Rattle.hall_rule.specs.Hands.{Agrees}
use Rattle.core_events.proofs.Keys.{candidates_are, own_slot, the_shard, the_slots}
use Rattle.core_events.proofs.Decided.{found_few}
use Rattle.core_events.specs.Candidates.{candidates_in, deciding}
use Rattle.core_events.proofs.Places.{ok_more}
use Rattle.core_events.specs.Slots.{HasSlot, HasSlots}
use Rattle.core_events.proofs.reads.get.Goals as goal

module _ (sh : Shape) (hand : Held) (own : OwnKey) (t : ℕ) (key : ℤ) (m : MayRun sh (event.Get own t key) hand) where
  shard_is : Has sh hand (ShardOf t (shard_of key))
  shard_is = the_shard sh (event.Get own t key) hand m own t key m.lawful.1 m.lawful.0
      (shard_touched t key (option_to_list own.written ++ candidates_in sh hand t key)) (body_touched t key (option_to_list own.written) (candidates_in sh hand t key))

  slots_are : HasSlots sh hand t (candidates_in sh hand t key)
  slots_are = the_slots sh (event.Get own t key) hand m own t key m.lawful.1 m.lawful.0
      (shard_touched t key (option_to_list own.written ++ candidates_in sh hand t key)) (body_touched t key (option_to_list own.written) (candidates_in sh hand t key))

  own_is : IfSome own.written (HasSlot sh hand t)
  own_is = own_slot sh (event.Get own t key) hand m own t key m.lawful.1 m.lawful.0
      (shard_touched t key (option_to_list own.written ++ candidates_in sh hand t key)) (body_touched t key (option_to_list own.written) (candidates_in sh hand t key))

  same : (s : Parts) → Agrees hand s → places_at sh s t key ≡ candidates_in sh hand t key
  same = candidates_are sh (event.Get own t key) hand m own t key m.lawful.1 m.lawful.0
      (shard_touched t key (option_to_list own.written ++ candidates_in sh hand t key)) (body_touched t key (option_to_list own.written) (candidates_in sh hand t key))

pub candidates-requires : goal.candidates-requires
candidates-requires g c =
    let key : to_z w64 (of_z w64 c.args.key) ≡ c.args.key = to_z-of_z {w = w64} (search rules) in
    subst (λ (k : ℤ). Has c.args.shape.now c.args.held.now (ShardOf c.args.table (shard_of k))) (sym key) (shard_is c.args.shape.now c.args.held.now c.args.own.now c.args.table c.args.key c.requires)

pub deciding-places-requires : goal.deciding-places-requires
deciding-places-requires g c =
    let key : to_z w64 (of_z w64 c.args.key) ≡ c.args.key = to_z-of_z {w = w64} (search rules) in
    subst (HasSlots c.args.shape.now c.args.held.now c.args.table) (sym (c.candidates.ensures ∙ ap (candidates_in c.args.shape.now c.args.held.now c.args.table) key)) (slots_are c.args.shape.now c.args.held.now c.args.own.now c.args.table c.args.key c.requires)

pub found-requires-clause-places : goal.found-requires-clause-places
found-requires-clause-places g c = c.deciding-places.ensures.slots

pub found-requires-clause-own : goal.found-requires-clause-own
found-requires-clause-own g c = own_is c.args.shape.now c.args.held.now c.args.own.now c.args.table c.args.key c.requires

pub returns-clause-reply : goal.returns-clause-reply
returns-clause-reply g c =
    let key : to_z w64 (of_z w64 c.args.key) ≡ c.args.key = to_z-of_z {w = w64} (search rules) in
    ok_more c.found.result _ _ c.found.ensures.row (λ row is.
    only_told c.args.shape.now (event.Get c.args.own.now c.args.table c.args.key) c.args.held.now (reply.Found row) c.requires refl
    (ap reply.Found (is c.requires.parts c.requires.agrees
    ∙ ap (λ (ps : List ℕ). found_by (slot_at c.args.shape.now c.requires.parts c.args.table) ps c.args.own.now)
    (c.deciding-places.ensures.deciding c.requires.parts c.requires.agrees
    ∙ ap (λ (ps : List ℕ). deciding (slot_at c.args.shape.now c.requires.parts c.args.table) c.args.own.now.snapshot.stamp ps)
    (c.candidates.ensures ∙ ap (candidates_in c.args.shape.now c.args.held.now c.args.table) key ∙ sym (same c.args.shape.now c.args.held.now c.args.own.now c.args.table c.args.key c.requires c.requires.parts c.requires.agrees)))
    ∙ found_few c.args.shape.now c.requires.parts c.requires.holds.sound c.args.own.now c.args.table c.args.key)))

pub returns-clause-steps : goal.returns-clause-steps
returns-clause-steps g c = λ s agrees.
    let key : to_z w64 (of_z w64 c.args.key) ≡ c.args.key = to_z-of_z {w = w64} (search rules) in
    let steps = c.found.ensures.steps in
    let few = c.deciding-places.ensures.few in
    let many = ap length (c.candidates.ensures ∙ ap (candidates_in c.args.shape.now c.args.held.now c.args.table) key ∙ sym (same c.args.shape.now c.args.held.now c.args.own.now c.args.table c.args.key c.requires s agrees)) in omega (arith, steps, few, many)
