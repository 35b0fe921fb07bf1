use Rattle.std.proofs.Common.{rules, ◌≡◌, ◌∙◌, [], ap, sym}
use Rattle.std.specs.List.{flat_map}
use Rattle.std.specs.Map.Iter.{deref}
use Rattle.std.proofs.lemmas.Map.Iter.{iter_end}
use Rattle.std.specs.Option.{option_map_or}
use Rattle.core_parts.specs.Hands.{in_hand}
use Rattle.core_parts.specs.Least.{offered_all}
use Rattle.core_parts.specs.Touched.{bodies_on}
use Rattle.core_parts.proofs.Held.{no_keys}
use Rattle.core_parts.proofs.Numbered.{offered_more}
use Rattle.event_spec.specs.Newest.{keys_within}
use Rattle.core_parts.proofs.touching.offer_keys_of.Goals as goal

pub returns-in_default : goal.returns-in_default
returns-in_default c =
    let sh = c.args.shape.now in
    let f = bodies_on sh (in_hand sh c.args.held.now) (option_map_or (λ writes. writes.now) c.args.writes []) c.args.range.now.table in
    sym (ap (λ places. offered_all sh (flat_map f (keys_within c.args.range.now.low c.args.range.now.high places)) c.args.least.now) (c.in_default.ensures {u = tt})
    ∙ ap (λ keys. offered_all sh (flat_map f keys) c.args.least.now) (no_keys c.args.range.now.low c.args.range.now.high))

pub loop-key-preserved : goal.loop-key-preserved
loop-key-preserved c =
    let sh = c.args.shape.now in
    let f = bodies_on sh (in_hand sh c.args.held.now) (option_map_or (λ writes. writes.now) c.args.writes []) c.args.range.now.table in
    let step : c.offer_bodies_on.new.least ≡ offered_all sh (f c.in-Some-key.key.now) c.loop-key.least = search rules in
    offered_more sh f (λ key. key.now) c.loop-key.yielded c.in-Some-key.key c.args.least.now c.loop-key.least c.offer_bodies_on.new.least c.loop-key.invariant step

pub returns : goal.returns
returns c =
    let sh = c.args.shape.now in
    let f = bodies_on sh (in_hand sh c.args.held.now) (option_map_or (λ writes. writes.now) c.args.writes []) c.args.range.now.table in
    let start : c.into_iter-key-iterator.result ≡ keys_within c.args.range.now.low c.args.range.now.high c.in-Some.index.now = search rules in
    let all = (iter_end deref (keys_within c.args.range.now.low c.args.range.now.high c.in-Some.index.now) c.loop-key.yielded c.into_iter-key-iterator.result c.loop-key.key-iterator c.next.new.self c.next.result
    start c.loop-key.yielded_by c.in-None.is c.next.ensures.steps).0 in
    c.loop-key.invariant ∙ ap (λ keys. offered_all sh (flat_map f keys) c.args.least.now) (all ∙ ap (keys_within c.args.range.now.low c.args.range.now.high) (sym (c.in-Some.ensures {u = tt})))
