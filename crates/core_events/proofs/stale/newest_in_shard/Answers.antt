use Rattle.std.proofs.Common.{rules, ◌≡◌, ◌∙◌, ℤ, List, ℕ, ap, length, map, of_z, option_to_list, subst, sym, to_z, w64}
use Rattle.std.proofs.Math.Facts.{to_z-of_z}
use Rattle.std.proofs.lemmas.Map.Iter.{iter_end, iter_turn}
use Rattle.std.specs.List.{flat_map}
use Rattle.std.specs.Map.Iter.{deref}
use Rattle.core_events.proofs.Judging.{key_told}
use Rattle.core_events.proofs.Ranging.{larger_more, more_keys}
use Rattle.core_events.specs.Candidates.{candidates_in}
use Rattle.core_events.specs.Ranges.{keys_in}
use Rattle.core_events.specs.Slots.{HasSlots}
use Rattle.core_events.specs.Stale.{larger, newest_at}
use Rattle.core_laws.proofs.Frames.Looks.{got_among}
use Rattle.core_parts.specs.Hands.{Has}
use Rattle.event_spec.specs.Newest.{keys_within}
use Rattle.event_spec.specs.Parts.{ShardOf, shard_from, shard_of}
use Rattle.isolation_spec.specs.Contents.{place_at}
use Rattle.isolation_spec.specs.declared.read.Read.TheVariants as read
use Rattle.undo_chain.specs.Conflict.{largest}
use Rattle.core_events.proofs.stale.newest_in_shard.Goals as goal

pub candidates-places-requires : goal.candidates-places-requires
candidates-places-requires c =
    let key : to_z w64 (of_z w64 c.in-Some.key.now) ≡ c.in-Some.key.now = to_z-of_z {w = w64} (search rules) in
    let first : c.into_iter-key-iterator.result ≡ keys_within c.args.range.now.low c.args.range.now.high c.shard.result.now = search rules in
    let start : c.into_iter-key-iterator.result ≡ keys_in c.args.shape.now c.args.held.now c.args.range.now c.args.number = first ∙ ap (λ o. keys_within c.args.range.now.low c.args.range.now.high (shard_from o)) (sym c.shard.ensures) in
    let turn = iter_turn deref (keys_in c.args.shape.now c.args.held.now c.args.range.now c.args.number) c.loop-key.yielded c.into_iter-key-iterator.result c.loop-key.key-iterator c.next.new.self c.next.result start c.loop-key.yielded_by c.in-Some.key c.in-Some.is c.next.ensures.steps in
    let has = c.requires.keys c.in-Some.key.now (got_among (keys_in c.args.shape.now c.args.held.now c.args.range.now c.args.number) (length c.loop-key.yielded) c.in-Some.key.now turn.1) in
    subst (λ (k : ℤ). Has c.args.shape.now c.args.held.now (ShardOf c.args.range.now.table (shard_of k))) (sym key) has.shard

pub newest_among-requires : goal.newest_among-requires
newest_among-requires c =
    let key : to_z w64 (of_z w64 c.in-Some.key.now) ≡ c.in-Some.key.now = to_z-of_z {w = w64} (search rules) in
    let first : c.into_iter-key-iterator.result ≡ keys_within c.args.range.now.low c.args.range.now.high c.shard.result.now = search rules in
    let start : c.into_iter-key-iterator.result ≡ keys_in c.args.shape.now c.args.held.now c.args.range.now c.args.number = first ∙ ap (λ o. keys_within c.args.range.now.low c.args.range.now.high (shard_from o)) (sym c.shard.ensures) in
    let turn = iter_turn deref (keys_in c.args.shape.now c.args.held.now c.args.range.now c.args.number) c.loop-key.yielded c.into_iter-key-iterator.result c.loop-key.key-iterator c.next.new.self c.next.result start c.loop-key.yielded_by c.in-Some.key c.in-Some.is c.next.ensures.steps in
    let has = c.requires.keys c.in-Some.key.now (got_among (keys_in c.args.shape.now c.args.held.now c.args.range.now c.args.number) (length c.loop-key.yielded) c.in-Some.key.now turn.1) in
    subst (HasSlots c.args.shape.now c.args.held.now c.args.range.now.table) (sym (c.candidates-places.ensures ∙ ap (candidates_in c.args.shape.now c.args.held.now c.args.range.now.table) key)) has.slots

pub loop-key-preserved : goal.loop-key-preserved
loop-key-preserved c = λ s agrees.
    let key : to_z w64 (of_z w64 c.in-Some.key.now) ≡ c.in-Some.key.now = to_z-of_z {w = w64} (search rules) in
    let first : c.into_iter-key-iterator.result ≡ keys_within c.args.range.now.low c.args.range.now.high c.shard.result.now = search rules in
    let start : c.into_iter-key-iterator.result ≡ keys_in c.args.shape.now c.args.held.now c.args.range.now c.args.number = first ∙ ap (λ o. keys_within c.args.range.now.low c.args.range.now.high (shard_from o)) (sym c.shard.ensures) in
    let turn = iter_turn deref (keys_in c.args.shape.now c.args.held.now c.args.range.now c.args.number) c.loop-key.yielded c.into_iter-key-iterator.result c.loop-key.key-iterator c.next.new.self c.next.result start c.loop-key.yielded_by c.in-Some.key c.in-Some.is c.next.ensures.steps in
    let has = c.requires.keys c.in-Some.key.now (got_among (keys_in c.args.shape.now c.args.held.now c.args.range.now c.args.number) (length c.loop-key.yielded) c.in-Some.key.now turn.1) in
    let told = key_told c.args.shape.now c.args.held.now s c.args.snapshot (place_at c.args.range.now.table c.in-Some.key.now) has agrees c.candidates-places.result.now
    (c.candidates-places.ensures ∙ ap (candidates_in c.args.shape.now c.args.held.now c.args.range.now.table) key) c.newest_among.result (c.newest_among.ensures s agrees) in
    let f : ℤ → List ℕ = λ key. option_to_list (newest_at c.args.shape.now s c.args.snapshot (read.Key c.args.range.now.table key)) in
    let numbers = flat_map f (map (λ key. key.now) c.loop-key.yielded) in
    c.larger-newest.ensures ∙ ap (λ o. larger o c.newest_among.result) (c.loop-key.invariant s agrees)
    ∙ ap (larger (largest numbers)) (sym told) ∙ larger_more numbers (newest_at c.args.shape.now s c.args.snapshot (read.Key c.args.range.now.table c.in-Some.key.now))
    ∙ ap largest (sym (more_keys f (λ key. key.now) c.loop-key.yielded c.in-Some.key))

pub returns : goal.returns
returns c = λ s agrees.
    let first : c.into_iter-key-iterator.result ≡ keys_within c.args.range.now.low c.args.range.now.high c.shard.result.now = search rules in
    let start : c.into_iter-key-iterator.result ≡ keys_in c.args.shape.now c.args.held.now c.args.range.now c.args.number = first ∙ ap (λ o. keys_within c.args.range.now.low c.args.range.now.high (shard_from o)) (sym c.shard.ensures) in
    let all = (iter_end deref (keys_in c.args.shape.now c.args.held.now c.args.range.now c.args.number) c.loop-key.yielded c.into_iter-key-iterator.result c.loop-key.key-iterator c.next.new.self c.next.result start c.loop-key.yielded_by c.in-None.is c.next.ensures.steps).0 in
    c.loop-key.invariant s agrees
    ∙ ap (λ keys. largest (flat_map (λ key. option_to_list (newest_at c.args.shape.now s c.args.snapshot (read.Key c.args.range.now.table key))) keys)) all
