use Rattle.std.proofs.Common.{rules, ◌≡◌, ◌∙◌}
use Rattle.core_parts.specs.Hands.{in_hand}
use Rattle.core_parts.specs.Least.{offered_all}
use Rattle.core_parts.specs.Touched.{bodies_at, names_on_key}
use Rattle.event_spec.specs.Touched.{held_places}
use Rattle.key_index.specs.Candidates.{IsInOrder}
use Rattle.core_parts.proofs.Ascending.{in_order_offered}
use Rattle.core_parts.proofs.touching.offer_on_key.Goals as goal

pub returns : goal.returns
returns c =
    let sh = c.args.shape.now in
    let table = c.args.table in
    let held = held_places sh (in_hand sh c.args.held.now) table c.args.key in
    let rest : offered_all sh (bodies_at table held) c.offer_place.new.least ≡ offered_all sh (names_on_key sh (in_hand sh c.args.held.now) table c.args.key c.args.place) c.args.least.now = search rules in
    let is : IsInOrder held c.candidates.result.now = search rules in
    c.offer_ascending.ensures ∙ in_order_offered sh table held c.candidates.result.now c.offer_place.new.least is ∙ rest
