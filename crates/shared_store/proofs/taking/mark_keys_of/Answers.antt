use Rattle.std.proofs.Common.{rules, ◌≡◌, ◌∙◌, ℤ, List, [], ◌∷◌, ap, map, sym, subst}
use Rattle.std.specs.List.{flat_map}
use Rattle.std.specs.Map.Iter.{deref}
use Rattle.std.proofs.lemmas.Map.Iter.{iter_end}
use Rattle.std.specs.Option.{option_map_or}
use Rattle.core_parts.specs.Hands.{in_hand}
use Rattle.core_parts.specs.Touched.{bodies_on}
use Rattle.core_parts.proofs.Held.{no_keys}
use Rattle.event_spec.specs.Newest.{keys_within}
use Rattle.shared_store.specs.Taking.{Marked}
use Rattle.shared_store.proofs.Marking.{map-join, marked_flat, still_marked}
use Rattle.shared_store.proofs.taking.mark_keys_of.Goals as goal

pub returns-in_default : goal.returns-in_default
returns-in_default c =
    let sh = c.args.shape.now in
    let f = bodies_on sh (in_hand sh c.args.held.now) (option_map_or (λ writes. writes.now) c.args.writes []) c.args.range.now.table in
    let none = ap (keys_within c.args.range.now.low c.args.range.now.high) (c.in_default.ensures {u = tt}) ∙ no_keys c.args.range.now.low c.args.range.now.high in
    subst (λ (keys : List ℤ). Marked sh (flat_map f keys) c.args.marks.now c.args.marks.now) (sym none) (still_marked sh c.args.marks.now)

pub loop-key-init : goal.loop-key-init
loop-key-init c = still_marked c.args.shape.now c.args.marks.now

pub mark_bodies_on-requires : goal.mark_bodies_on-requires
mark_bodies_on-requires c = c.loop-key.invariant.room ∙ c.requires.room

pub loop-key-preserved : goal.loop-key-preserved
loop-key-preserved c =
    let sh = c.args.shape.now in
    let f = bodies_on sh (in_hand sh c.args.held.now) (option_map_or (λ writes. writes.now) c.args.writes []) c.args.range.now.table in
    let one : Marked sh (f c.in-Some-key.key.now) c.loop-key.marks c.mark_bodies_on.new.marks = search rules in
    subst (λ (keys : List ℤ). Marked sh (flat_map f keys) c.args.marks.now c.mark_bodies_on.new.marks)
    (sym (map-join deref c.loop-key.yielded (c.in-Some-key.key ∷ [])))
    (marked_flat sh f (map deref c.loop-key.yielded) c.in-Some-key.key.now c.args.marks.now c.loop-key.marks c.mark_bodies_on.new.marks c.loop-key.invariant one)

pub returns : goal.returns
returns c =
    let sh = c.args.shape.now in
    let f = bodies_on sh (in_hand sh c.args.held.now) (option_map_or (λ writes. writes.now) c.args.writes []) c.args.range.now.table in
    let start : c.into_iter-key-iterator.result ≡ keys_within c.args.range.now.low c.args.range.now.high c.in-Some.index.now = search rules in
    let all = (iter_end deref (keys_within c.args.range.now.low c.args.range.now.high c.in-Some.index.now) c.loop-key.yielded c.into_iter-key-iterator.result c.loop-key.key-iterator c.next.new.self c.next.result
    start c.loop-key.yielded_by c.in-None.is c.next.ensures.steps).0 in
    subst (λ (keys : List ℤ). Marked sh (flat_map f keys) c.args.marks.now c.loop-key.marks)
    (all ∙ ap (keys_within c.args.range.now.low c.args.range.now.high) (sym (c.in-Some.ensures {u = tt}))) c.loop-key.invariant
