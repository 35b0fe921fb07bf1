use Rattle.std.proofs.Common.{◌≡◌, ℤ, List, ◌∙◌, pos, [], ◌∷◌, ◌++◌, ◌||◌, false, filter, map, None, option_to_list}
use Rattle.std.specs.List.{list_any}
use Rattle.block_layout.specs.Place.{place_of}
use Rattle.event_spec.specs.declared.event.Event.TheVariants as event
use Rattle.event_spec.specs.declared.own.OwnTransaction.{OwnTransaction}
use Rattle.event_spec.specs.Effects.{range_keys}
use Rattle.event_spec.specs.Examples.{parts_of, shape, whole}
use Rattle.event_spec.specs.Parts.{ShardOf, below, names, places_at}
use Rattle.event_spec.specs.RangeExamples.{first, held_parts_of, ranged, second}
use Rattle.event_spec.specs.Touched.{is_body_of, is_shard_in, seen_places}
use Rattle.event_spec.proofs.Ranged.{at_eight, at_five, at_nine, keys_are, none_held}
use Rattle.event_spec.proofs.examples.ranges_touch_parts.Goals as goal
use Rattle.isolation_spec.specs.Contents.{at_place, place_at}

over : (own : OwnTransaction) (low high : ℤ) (keys : List ℤ) → range_keys shape ranged 0 low high ≡ keys
    → held_parts_of (event.Range own 0 low high)
    ≡ filter (λ name. is_shard_in 0 name || list_any (λ key. is_body_of 0 (option_to_list (at_place own.writes (place_at 0 key)) ++ places_at shape ranged 0 key) name) keys) (names shape)
over own low high keys is i = filter (λ name. is_shard_in 0 name || list_any (λ key. is_body_of 0 (option_to_list (at_place own.writes (place_at 0 key)) ++ places_at shape ranged 0 key) name) (is i)) (names shape)

pub returns : goal.returns
returns c =
    let alone : parts_of (event.Range first 0 (pos 5) (pos 9)) ≡ map (ShardOf 0) (below 8) =
    (λ i. filter (λ name. is_shard_in 0 name || list_any (λ key. is_body_of 0 (seen_places shape (λ name. None) first 0 key) name) (none_held (pos 5) (pos 9) i)) (names shape)) in
    let both = over second (pos 5) (pos 9) _ (keys_are (pos 5) (pos 9))
    ∙ (λ i. filter (λ name. is_shard_in 0 name || (is_body_of 0 (at_eight i) name || (is_body_of 0 (at_nine i) name || (is_body_of 0 (at_five i) name || false)))) (names shape)) in
    let mine = over (whole ((place_at 0 (pos 5), place_of 1 0) ∷ [])) (pos 5) (pos 5) _ (keys_are (pos 5) (pos 5))
    ∙ (λ i. filter (λ name. is_shard_in 0 name || (is_body_of 0 (place_of 1 0 ∷ at_five i) name || false)) (names shape)) in
    (alone, both, mine, over first (pos 6) (pos 7) _ (keys_are (pos 6) (pos 7)))
