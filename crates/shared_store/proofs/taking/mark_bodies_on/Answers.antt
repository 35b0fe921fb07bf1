use Rattle.std.proofs.Common.{ℕ, ℤ, Option, [], ap, subst, ◌∙◌}
use Rattle.std.specs.Int.{w64}
use Rattle.std.proofs.lemmas.Int.{to_z-of_z}
use Rattle.std.specs.Option.{option_map_or}
use Rattle.std.specs.Prelude.{option_to_list}
use Rattle.core_parts.specs.Hands.{in_hand}
use Rattle.core_parts.specs.Touched.{bodies_at}
use Rattle.event_spec.specs.Touched.{held_places}
use Rattle.isolation_spec.specs.Contents.{at_place, place_at}
use Rattle.shared_store.specs.Taking.{Marked}
use Rattle.shared_store.proofs.Marking.{marked_on}
use Rattle.shared_store.proofs.taking.mark_bodies_on.Goals as goal

pub mark_candidates-requires : goal.mark_candidates-requires
mark_candidates-requires c = c.mark_place.ensures.room ∙ c.requires

pub returns : goal.returns
returns c =
    let sh = c.args.shape.now in
    let key = to_z-of_z w64 c.args.key c.ranges.key in
    let own = at_place (option_map_or (λ writes. writes.now) c.args.writes []) (place_at c.args.table c.args.key) in
    let written = c.slot_written.ensures ∙ ap (λ (k : ℤ). at_place (option_map_or (λ writes. writes.now) c.args.writes []) (place_at c.args.table k)) key in
    let place = subst (λ (o : Option ℕ). Marked sh (bodies_at c.args.table (option_to_list o)) c.args.marks.now c.mark_place.new.marks) written c.mark_place.ensures in
    let found = subst (λ (k : ℤ). Marked sh (bodies_at c.args.table (held_places sh (in_hand sh c.args.held.now) c.args.table k)) c.mark_place.new.marks c.mark_candidates.new.marks) key c.mark_candidates.ensures in
    marked_on sh (bodies_at c.args.table (option_to_list own)) (bodies_at c.args.table (held_places sh (in_hand sh c.args.held.now) c.args.table c.args.key)) c.args.marks.now c.mark_place.new.marks c.mark_candidates.new.marks place found
