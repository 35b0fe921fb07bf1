use Rattle.std.proofs.Common.{◌≡◌, ◌∙◌, ℕ, ℤ, List, Option, ap, arith, length, of_z, rules, subst, sym, to_z, w64}
use Rattle.std.proofs.Math.Facts.{to_z-of_z}
use Rattle.std.specs.Prelude.{IfSome}
use Rattle.core_events.proofs.Decided.{found_few}
use Rattle.core_events.proofs.Places.{ok_more}
use Rattle.core_events.proofs.Ranging.{key_places}
use Rattle.core_events.specs.Candidates.{candidates_in, deciding}
use Rattle.core_events.specs.Slots.{HasSlot, HasSlots}
use Rattle.core_parts.specs.Hands.{Has}
use Rattle.event_spec.specs.declared.own.OwnKey.{OwnKey}
use Rattle.event_spec.specs.Judged.{found_by}
use Rattle.event_spec.specs.Parts.{ShardOf, places_at, shard_of, slot_at}
use Rattle.isolation_spec.specs.Contents.{at_place, place_at}
use Rattle.core_events.proofs.ranges.row_of.Goals as goal

pub candidates-requires : goal.candidates-requires
candidates-requires g c =
    let key : to_z w64 (of_z w64 c.args.key) ≡ c.args.key = to_z-of_z {w = w64} (search rules) in
    subst (λ (k : ℤ). Has c.args.shape.now c.args.held.now (ShardOf c.args.table (shard_of k))) (sym key) c.requires.got.shard

pub deciding-places-requires : goal.deciding-places-requires
deciding-places-requires g c =
    let key : to_z w64 (of_z w64 c.args.key) ≡ c.args.key = to_z-of_z {w = w64} (search rules) in
    subst (HasSlots c.args.shape.now c.args.held.now c.args.table) (sym (c.candidates.ensures ∙ ap (candidates_in c.args.shape.now c.args.held.now c.args.table) key)) c.requires.got.slots

pub found-requires-clause-places : goal.found-requires-clause-places
found-requires-clause-places g c = c.deciding-places.ensures.slots

pub found-requires-clause-own : goal.found-requires-clause-own
found-requires-clause-own g c =
    let key : to_z w64 (of_z w64 c.args.key) ≡ c.args.key = to_z-of_z {w = w64} (search rules) in
    let written = c.slot_written.ensures ∙ ap (λ (k : ℤ). at_place c.args.own.now.writes (place_at c.args.table k)) key in
    subst (λ o. IfSome o (HasSlot c.args.shape.now c.args.held.now c.args.table)) (sym written) c.requires.written

pub returns-clause-row : goal.returns-clause-row
returns-clause-row g c =
    let key : to_z w64 (of_z w64 c.args.key) ≡ c.args.key = to_z-of_z {w = w64} (search rules) in
    let sh = c.args.shape.now in
    let t = c.args.table in
    let handed : Option ℕ → OwnKey = λ w. record { session = c.args.own.now.session; snapshot = c.args.own.now.snapshot; written = w } in
    let own = handed c.slot_written.result in
    let written = c.slot_written.ensures ∙ ap (λ (k : ℤ). at_place c.args.own.now.writes (place_at t k)) key in
    ok_more c.found.result _ _ c.found.ensures.row (λ row is s sound agrees.
    is s agrees
    ∙ ap (λ (ps : List ℕ). found_by (slot_at sh s t) ps own)
    (c.deciding-places.ensures.deciding s agrees
    ∙ ap (λ (ps : List ℕ). deciding (slot_at sh s t) own.snapshot.stamp ps)
    (c.candidates.ensures ∙ ap (candidates_in sh c.args.held.now t) key ∙ sym (key_places sh c.args.held.now s t c.args.key c.requires.got agrees)))
    ∙ found_few sh s sound own t c.args.key
    ∙ ap (λ w. found_by (slot_at sh s t) (places_at sh s t c.args.key) (handed w)) written)

pub returns-clause-steps : goal.returns-clause-steps
returns-clause-steps g c =
    let key : to_z w64 (of_z w64 c.args.key) ≡ c.args.key = to_z-of_z {w = w64} (search rules) in
    let steps = c.found.ensures.steps in
    let few = c.deciding-places.ensures.few in
    let many = ap length (c.candidates.ensures ∙ ap (candidates_in c.args.shape.now c.args.held.now c.args.table) key) in
    let some = c.requires.some in omega (arith, steps, few, many, some)
