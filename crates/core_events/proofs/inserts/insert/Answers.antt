use Rattle.std.proofs.Common.{◌≡◌, ℕ, ℤ, List, rules, to_z, of_z, w64, refl, sym, ap, ◌∙◌, subst}
use Rattle.std.proofs.Math.Facts.{to_z-of_z}
use Rattle.std.specs.Prelude.{Result}
use Rattle.block_spec.specs.declared.change.Change.TheVariants as change
use Rattle.block_spec.specs.Slots.{Row}
use Rattle.core_parts.specs.Hands.{Has, Held, MayRun, after}
use Rattle.event_spec.specs.declared.event.Event.TheVariants as event
use Rattle.event_spec.specs.declared.own.OwnKey.{OwnKey}
use Rattle.event_spec.specs.declared.reply.WriteFault.{WriteFault}
use Rattle.event_spec.specs.Effects.{after_insert, insert_judged}
use Rattle.event_spec.specs.Judged.{judged_insert}
use Rattle.event_spec.specs.Parts.{Shape, ShardOf, head_at, names, shard_of, slot_at, slots_of}
use Rattle.isolation_spec.specs.Contents.{key_of}
use Rattle.core_events.proofs.Changing.{refused, written_once}
use Rattle.core_events.proofs.Takes.{fine, insert_takes, takes_at}
use Rattle.core_events.proofs.Touched.{insert_body, insert_head, insert_own, insert_same, insert_shard, insert_slots}
use Rattle.core_events.proofs.Decided.{insert_few}
use Rattle.core_events.specs.Candidates.{candidates_in, deciding}
use Rattle.core_events.specs.Slots.{HasSlots}
use Rattle.core_parts.proofs.Placing.{in_state}
use Rattle.core_parts.proofs.Telling.{a_shard}
use Rattle.core_parts.specs.Hands.{in_hand}
use Rattle.event_spec.specs.declared.part.Part.TheVariants as part
use Rattle.event_spec.specs.Parts.{shard_from}
use Rattle.core_laws.specs.Frames.Shards.{ShardHolds}
use Rattle.core_events.specs.Puts.{put_changes}
use Rattle.core_events.proofs.inserts.insert.Goals as goal

pub candidates-requires : goal.candidates-requires
candidates-requires c =
    let key : to_z w64 (of_z w64 c.key_of-key.result) ≡ key_of c.args.row = to_z-of_z {w = w64} (search rules) ∙ c.key_of-key.ensures in
    subst (λ (k : ℤ). Has c.args.shape.now c.args.held.now (ShardOf c.args.table (shard_of k))) (sym key) (insert_shard c.args.shape.now c.args.held.now c.args.own.now c.args.table c.args.row c.requires)

pub judge_insert-requires-clause-head : goal.judge_insert-requires-clause-head
judge_insert-requires-clause-head c = λ none. insert_head c.args.shape.now c.args.held.now c.args.own.now c.args.table c.args.row c.requires

pub deciding-places-requires : goal.deciding-places-requires
deciding-places-requires c =
    let key : to_z w64 (of_z w64 c.key_of-key.result) ≡ key_of c.args.row = to_z-of_z {w = w64} (search rules) ∙ c.key_of-key.ensures in
    subst (HasSlots c.args.shape.now c.args.held.now c.args.table) (sym (c.candidates.ensures ∙ ap (candidates_in c.args.shape.now c.args.held.now c.args.table) key)) (insert_slots c.args.shape.now c.args.held.now c.args.own.now c.args.table c.args.row c.requires)

pub judge_insert-requires-clause-places : goal.judge_insert-requires-clause-places
judge_insert-requires-clause-places c = c.deciding-places.ensures.slots

pub judge_insert-requires-clause-own : goal.judge_insert-requires-clause-own
judge_insert-requires-clause-own c = insert_own c.args.shape.now c.args.held.now c.args.own.now c.args.table c.args.row c.requires

-- what is judged is what is judged in the core
judged_is : (sh : Shape) (hand : Held) (own : OwnKey) (t : ℕ) (row : Row) (m : MayRun sh (event.Insert own t row) hand) (places : List ℕ) (said : Result ℕ WriteFault)
    → said ≡ judged_insert (slot_at sh m.parts t) places (head_at sh m.parts t) (slots_of sh t) own → places ≡ deciding (slot_at sh m.parts t) own.snapshot.stamp (candidates_in sh hand t (key_of row)) → insert_judged sh m.parts own t (key_of row) ≡ said
judged_is sh hand own t row m places said is at =
    sym (insert_few sh m.parts m.holds.sound own t (key_of row) (head_at sh m.parts t) (slots_of sh t))
    ∙ ap (λ (ps : List ℕ). judged_insert (slot_at sh m.parts t) ps (head_at sh m.parts t) (slots_of sh t) own)
    (ap (λ (ps : List ℕ). deciding (slot_at sh m.parts t) own.snapshot.stamp ps) (insert_same sh hand own t row m m.parts m.agrees) ∙ sym at) ∙ sym is

-- the key's shard is in order
in_order : (sh : Shape) (hand : Held) (own : OwnKey) (t : ℕ) (row : Row) (m : MayRun sh (event.Insert own t row) hand) → ShardHolds (shard_of (key_of row)) (shard_from (in_hand sh hand (ShardOf t (shard_of (key_of row)))))
in_order sh hand own t row m =
    let x = a_shard sh hand t (shard_of (key_of row)) (insert_shard sh hand own t row m) in
    subst (λ o. ShardHolds (shard_of (key_of row)) (shard_from o)) (sym x.1)
    (m.holds.shards t (shard_of (key_of row)) x.0 (in_state (names sh) hand m.parts (ShardOf t (shard_of (key_of row))) (part.Shard x.0) m.agrees x.1))

pub returns-in-Err-clause-ok : goal.returns-in-Err-clause-ok
returns-in-Err-clause-ok c =
    let key : to_z w64 (of_z w64 c.key_of-key.result) ≡ key_of c.args.row = to_z-of_z {w = w64} (search rules) ∙ c.key_of-key.ensures in
    let is = judged_is c.args.shape.now c.args.held.now c.args.own.now c.args.table c.args.row c.requires c.deciding-places.result.now c.judge_insert.result (c.judge_insert.ensures c.requires.parts c.requires.agrees) (c.deciding-places.ensures.deciding c.requires.parts c.requires.agrees ∙ ap (λ (ps : List ℕ). deciding (slot_at c.args.shape.now c.requires.parts c.args.table) c.args.own.now.snapshot.stamp ps) (c.candidates.ensures ∙ ap (candidates_in c.args.shape.now c.args.held.now c.args.table) key)) ∙ c.in-Err.is in
    refused c.args.shape.now (event.Insert c.args.own.now c.args.table c.args.row) c.args.held.now c.requires (insert_judged c.args.shape.now c.requires.parts c.args.own.now c.args.table (key_of c.args.row)) c.in-Err.fault
    (after_insert c.args.shape.now c.requires.parts c.args.own.now c.args.table c.args.row) is refl refl refl

pub put-requires-clause-shard : goal.put-requires-clause-shard
put-requires-clause-shard c =
    let key : to_z w64 (of_z w64 c.key_of-key.result) ≡ key_of c.args.row = to_z-of_z {w = w64} (search rules) ∙ c.key_of-key.ensures in
    subst (λ (k : ℤ). Has c.args.shape.now c.args.held.now (ShardOf c.args.table (shard_of k))) (sym key) (insert_shard c.args.shape.now c.args.held.now c.args.own.now c.args.table c.args.row c.requires)

pub put-requires-clause-order : goal.put-requires-clause-order
put-requires-clause-order c =
    let key : to_z w64 (of_z w64 c.key_of-key.result) ≡ key_of c.args.row = to_z-of_z {w = w64} (search rules) ∙ c.key_of-key.ensures in
    subst (λ (k : ℤ). ShardHolds (shard_of k) (shard_from (in_hand c.args.shape.now c.args.held.now (ShardOf c.args.table (shard_of k))))) (sym key) (in_order c.args.shape.now c.args.held.now c.args.own.now c.args.table c.args.row c.requires)

pub put-requires-clause-takes : goal.put-requires-clause-takes
put-requires-clause-takes c =
    let key : to_z w64 (of_z w64 c.key_of-key.result) ≡ key_of c.args.row = to_z-of_z {w = w64} (search rules) ∙ c.key_of-key.ensures in
    let sh = c.args.shape.now in let s = c.requires.parts in let own = c.args.own.now in
    let is = judged_is c.args.shape.now c.args.held.now c.args.own.now c.args.table c.args.row c.requires c.deciding-places.result.now c.judge_insert.result (c.judge_insert.ensures c.requires.parts c.requires.agrees) (c.deciding-places.ensures.deciding c.requires.parts c.requires.agrees ∙ ap (λ (ps : List ℕ). deciding (slot_at c.args.shape.now c.requires.parts c.args.table) c.args.own.now.snapshot.stamp ps) (c.candidates.ensures ∙ ap (candidates_in c.args.shape.now c.args.held.now c.args.table) key)) ∙ c.in-Ok.is in
    let takes = insert_takes sh s c.requires.holds.measures c.requires.holds.sound own c.args.table c.args.row c.requires.lawful c.in-Ok.place is in
    takes_at sh c.args.held.now s c.args.table c.in-Ok.place own.session (change.Put c.args.row) c.requires.agrees
    (insert_body c.args.shape.now c.args.held.now c.args.own.now c.args.table c.args.row c.requires c.in-Ok.place (fine sh s c.requires.holds.measures c.requires.holds.sound own c.args.table c.args.row c.requires.lawful c.in-Ok.place is).1 takes.0) takes.1

pub put-requires-clause-head : goal.put-requires-clause-head
put-requires-clause-head c = insert_head c.args.shape.now c.args.held.now c.args.own.now c.args.table c.args.row c.requires

pub returns-clause-ok : goal.returns-clause-ok
returns-clause-ok c =
    let key : to_z w64 (of_z w64 c.key_of-key.result) ≡ key_of c.args.row = to_z-of_z {w = w64} (search rules) ∙ c.key_of-key.ensures in
    let is = judged_is c.args.shape.now c.args.held.now c.args.own.now c.args.table c.args.row c.requires c.deciding-places.result.now c.judge_insert.result (c.judge_insert.ensures c.requires.parts c.requires.agrees) (c.deciding-places.ensures.deciding c.requires.parts c.requires.agrees ∙ ap (λ (ps : List ℕ). deciding (slot_at c.args.shape.now c.requires.parts c.args.table) c.args.own.now.snapshot.stamp ps) (c.candidates.ensures ∙ ap (candidates_in c.args.shape.now c.args.held.now c.args.table) key)) ∙ c.in-Ok.is in
    written_once c.args.shape.now (event.Insert c.args.own.now c.args.table c.args.row) c.args.held.now c.requires (insert_judged c.args.shape.now c.requires.parts c.args.own.now c.args.table (key_of c.args.row)) c.in-Ok.place
    (after_insert c.args.shape.now c.requires.parts c.args.own.now c.args.table c.args.row) c.put.new.held is refl
    (c.in_ok-put.ensures.ok ∙ ap (λ (k : ℤ). after c.args.shape.now (put_changes c.args.shape.now c.args.own.now c.args.table k c.in-Ok.place c.args.row) c.args.held.now) key) refl
