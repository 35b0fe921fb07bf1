use Rattle.std.proofs.Common.{◌==◌, ap, sym, ◌∙◌, to_z, of_z, w64}
use Rattle.std.proofs.Math.Facts.{to_z-of_z}
use Rattle.std.specs.List.{list_any}
use Rattle.core_parts.proofs.Shards.{drop_begins, drop_ends, drop_goes_on, drop_smaller}
use Rattle.core_parts.proofs.shard_changes.drop_place.Goals as goal

pub loop-place-init : goal.loop-place-init
loop-place-init c = drop_begins c.args.index.now c.drop_one.new.self (to_z w64 (of_z w64 c.args.key)) c.args.place c.drop_one.ensures

pub loop-place-smaller : goal.loop-place-smaller
loop-place-smaller c =
    drop_smaller c.loop-place.index c.drop_one-in-loop-place.new.self (to_z w64 (of_z w64 c.args.key)) c.args.place c.drop_one-in-loop-place.ensures
    (sym (ap (list_any (λ other. other == c.args.place)) c.candidates.ensures) ∙ sym c.contains.ensures.value ∙ c.loop-place-test.true)

pub loop-place-preserved : goal.loop-place-preserved
loop-place-preserved c =
    drop_goes_on c.args.index.now c.loop-place.index c.drop_one-in-loop-place.new.self (to_z w64 (of_z w64 c.args.key)) c.args.place c.loop-place.invariant c.drop_one-in-loop-place.ensures

pub returns : goal.returns
returns c =
    drop_ends c.args.index.now c.loop-place.index c.args.key (to_z w64 (of_z w64 c.args.key)) c.args.place (to_z-of_z c.ranges.key) c.loop-place.invariant
    (sym (ap (list_any (λ other. other == c.args.place)) c.candidates.ensures) ∙ sym c.contains.ensures.value ∙ c.loop-place-test.false)
