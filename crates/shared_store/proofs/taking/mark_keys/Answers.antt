use Rattle.std.proofs.Common.{◌≡◌, List, None, [], ◌∷◌, ℤ, map, rules, of_z, to_z, w64, sym, subst, ◌∙◌}
use Rattle.std.proofs.Math.Facts.{to_z-of_z}
use Rattle.std.specs.List.{flat_map}
use Rattle.std.specs.Map.Iter.{deref}
use Rattle.core_parts.specs.Hands.{in_hand}
use Rattle.core_parts.specs.Touched.{names_got, names_on_key}
use Rattle.isolation_spec.specs.declared.place.Place.{Place}
use Rattle.shared_store.specs.Taking.{Marked}
use Rattle.shared_store.proofs.Marking.{map-join, marked_flat, still_marked}
use Rattle.shared_store.proofs.taking.mark_keys.Goals as goal

pub loop-place-init : goal.loop-place-init
loop-place-init c = still_marked c.args.shape.now c.args.marks.now

pub mark_got-requires : goal.mark_got-requires
mark_got-requires c = c.loop-place.invariant.room ∙ c.requires

pub loop-place-preserved : goal.loop-place-preserved
loop-place-preserved c =
    let sh = c.args.shape.now in
    let got = names_got sh (in_hand sh c.args.held.now) in
    let key : to_z w64 (of_z w64 c.in-Some.place.now.key) ≡ c.in-Some.place.now.key = to_z-of_z {w = w64} (search rules) in
    let one = subst (λ (k : ℤ). Marked sh (names_on_key sh (in_hand sh c.args.held.now) c.in-Some.place.now.table k None) c.loop-place.marks c.mark_got.new.marks) key c.mark_got.ensures in
    subst (λ (ps : List Place). Marked sh (flat_map got ps) c.args.marks.now c.mark_got.new.marks)
    (sym (map-join deref c.loop-place.yielded (c.in-Some.place ∷ [])))
    (marked_flat sh got (map deref c.loop-place.yielded) c.in-Some.place.now c.args.marks.now c.loop-place.marks c.mark_got.new.marks c.loop-place.invariant one)
