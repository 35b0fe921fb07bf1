use Rattle.std.proofs.Common.{◌≡◌, ℕ, ℤ, List, ap, ◌∙◌, pos, [], ◌∷◌, ◌++◌, ◌||◌, false, filter, None, option_map, option_to_list}
use Rattle.std.specs.List.{flat_map, list_any}
use Rattle.std.specs.Option.{option_or}
use Rattle.event_spec.specs.Effects.{range_keys}
use Rattle.event_spec.specs.Examples.{shape, whole}
use Rattle.event_spec.specs.Parts.{TheDesk, names, places_at, same_name, slot_at}
use Rattle.event_spec.specs.RangeExamples.{held_parts_of, ranged, ranging}
use Rattle.event_spec.specs.Replies.{CoreReply, reply_to, reply_to_commit}
use Rattle.event_spec.specs.Touched.{is_body_of, is_body_written, is_shard_in}
use Rattle.event_spec.proofs.Ranged.{at_eight, at_five, at_nine, at_thirteen, keys_are}
use Rattle.event_spec.proofs.examples.ranges_are_stale.Goals as goal
use Rattle.isolation_spec.specs.Contents.{PlaceMap, place_at}
use Rattle.isolation_spec.specs.declared.read.Read.TheVariants as read
use Rattle.undo_chain.specs.Conflict.{largest, numbers_above}

abbrev mine : PlaceMap ℕ
mine = (place_at 1 (pos 6), 0) ∷ []

-- the numbers of the commits among the entries at a key's places
abbrev number_in : List ℕ → List ℕ
number_in places = option_to_list (largest (flat_map (λ place. numbers_above (slot_at shape ranged 0 place).entries 0) places))

-- the reply to the commit whose range has these numbers
abbrev answered : ℕ → ℕ → List ℕ → CoreReply
answered low high numbers = reply_to_commit shape ranged (whole mine)
    (option_or (option_map (λ number. (read.Range 0 (pos low) (pos high), number)) (largest numbers)) None)

answered_by : (low high : ℕ) (keys : List ℤ) → range_keys shape ranged 0 (pos low) (pos high) ≡ keys
    → reply_to shape ranged (ranging low high) ≡ answered low high (flat_map (λ key. number_in (places_at shape ranged 0 key)) keys)
answered_by low high keys is = ap (λ ks. answered low high (flat_map (λ key. number_in (places_at shape ranged 0 key)) ks)) is

touched_by : (low high : ℕ) (keys : List ℤ) → range_keys shape ranged 0 (pos low) (pos high) ≡ keys
    → held_parts_of (ranging low high)
    ≡ filter (λ name. is_body_written mine name || (false || (is_shard_in 0 name || list_any (λ key. is_body_of 0 (places_at shape ranged 0 key) name) keys) || false) || same_name TheDesk name) (names shape)
touched_by low high keys is i = filter (λ name. is_body_written mine name || (false || (is_shard_in 0 name || list_any (λ key. is_body_of 0 (places_at shape ranged 0 key) name) (is i)) || false) || same_name TheDesk name) (names shape)

pub returns : goal.returns
returns c =
    let stale = answered_by 9 13 _ (keys_are (pos 9) (pos 13)) ∙ (λ i. answered 9 13 (number_in (at_nine i) ++ (number_in (at_thirteen i) ++ []))) in
    let passes = answered_by 5 12 _ (keys_are (pos 5) (pos 12)) ∙ (λ i. answered 5 12 (number_in (at_eight i) ++ (number_in (at_nine i) ++ (number_in (at_five i) ++ [])))) in
    let bodies = touched_by 5 9 _ (keys_are (pos 5) (pos 9))
    ∙ (λ i. filter (λ name. is_body_written mine name || (false || (is_shard_in 0 name || (is_body_of 0 (at_eight i) name || (is_body_of 0 (at_nine i) name || (is_body_of 0 (at_five i) name || false)))) || false) || same_name TheDesk name) (names shape)) in
    ((λ i. stale i ∷ passes i ∷ []), bodies, touched_by 6 7 _ (keys_are (pos 6) (pos 7)))
