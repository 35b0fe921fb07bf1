use Rattle.std.proofs.Common.{◌∙◌, ℤ, [], ap, subst}
use Rattle.std.specs.Int.{w64}
use Rattle.std.proofs.lemmas.Int.{to_z-of_z}
use Rattle.std.specs.Option.{option_map_or}
use Rattle.std.specs.Prelude.{option_to_list}
use Rattle.core_parts.specs.Hands.{in_hand}
use Rattle.core_parts.specs.Least.{offered_all}
use Rattle.core_parts.specs.Touched.{bodies_at}
use Rattle.core_parts.proofs.Ascending.{in_order_offered}
use Rattle.core_parts.proofs.Numbered.{offered_twice}
use Rattle.event_spec.specs.Touched.{held_places}
use Rattle.isolation_spec.specs.Contents.{at_place, place_at}
use Rattle.key_index.specs.Candidates.{IsInOrder}
use Rattle.core_parts.proofs.touching.offer_bodies_on.Goals as goal

pub returns : goal.returns
returns c =
    let sh = c.args.shape.now in
    let table = c.args.table in
    let held = held_places sh (in_hand sh c.args.held.now) table c.args.key in
    let own = at_place (option_map_or (λ writes. writes.now) c.args.writes []) (place_at table c.args.key) in
    let written = c.slot_written.ensures ∙ ap (λ (k : ℤ). at_place (option_map_or (λ writes. writes.now) c.args.writes []) (place_at table k)) (to_z-of_z w64 c.args.key c.ranges.key) in
    let listed = subst (λ (k : ℤ). IsInOrder (held_places sh (in_hand sh c.args.held.now) table k) c.candidates.result.now) (to_z-of_z w64 c.args.key c.ranges.key) c.candidates.ensures in
    offered_twice sh (bodies_at table (option_to_list own)) (bodies_at table held) c.args.least.now c.offer_place.new.least c.offer_ascending.new.least
    (c.offer_place.ensures ∙ ap (λ place. offered_all sh (bodies_at table (option_to_list place)) c.args.least.now) written)
    (c.offer_ascending.ensures ∙ in_order_offered sh table held c.candidates.result.now c.offer_place.new.least listed)
