use Rattle.std.proofs.Common.{◌≡◌, ℤ, false, ◌&&◌, ap, ◌∙◌, arith, int_cmp, filter, w64, to_z, of_z}
use Rattle.std.proofs.lemmas.Int.{ints, to_z-of_z}
use Rattle.std.specs.BTreeMap.Range.{range_contains}
use Rattle.std.specs.Prelude.{int_le}
use Rattle.std.specs.Range.{range_inclusive_end}
use Rattle.std.specs.declared.ops.Bound.TheVariants.{Included, Excluded}
use Rattle.range_index.proofs.Held.{both_ends, keys_are, turned_ends}
use Rattle.range_index.proofs.Ordered.keys_between.Goals as goal

pub returns-then-low-high : goal.returns-then-low-high
returns-then-low-high c =
    let low : to_z w64 (of_z w64 c.args.low) ≡ c.args.low = to_z-of_z w64 c.args.low c.ranges.low in
    let high : to_z w64 (of_z w64 c.args.high) ≡ c.args.high = to_z-of_z w64 c.args.high c.ranges.high in
    let chosen : c.range.result ≡ filter (λ key. int_le c.args.low key && int_le key c.args.high) c.self.inside.keys.keys =
    c.range.ensures.between c.new.ensures.exhausted
    ∙ ap (λ (first : ℤ). filter (range_contains int_cmp (Included first) (Included (range_inclusive_end c.new.result))) c.self.inside.keys.keys) (c.new.ensures.start ∙ low)
    ∙ ap (λ (last : ℤ). filter (range_contains int_cmp (Included c.args.low) (Included last)) c.self.inside.keys.keys) (c.new.ensures.end ∙ high)
    ∙ both_ends c.args.low c.args.high c.self.inside.keys.keys in
    rw (← c.self.view_is)
    (chosen ∙ ap (filter (λ key. int_le c.args.low key && int_le key c.args.high)) (keys_are c.self.inside.keys c.self.inside.index c.range.ensures.ordered c.self.invariant))

pub returns-else-low-high : goal.returns-else-low-high
returns-else-low-high c =
    let low : to_z w64 (of_z w64 c.args.low) ≡ c.args.low = to_z-of_z w64 c.args.low c.ranges.low in
    let turned : int_le c.args.low c.args.high ≡ false = grind (arith, ints) in
    let chosen : c.range-else-low-high.result ≡ filter (λ key. int_le c.args.low key && int_le key c.args.high) c.self.inside.keys.keys =
    c.range-else-low-high.ensures.between tt
    ∙ ap (λ (end : ℤ). filter (range_contains int_cmp (Included end) (Excluded end)) c.self.inside.keys.keys) low
    ∙ turned_ends c.args.low c.args.high c.self.inside.keys.keys turned in
    rw (← c.self.view_is)
    (chosen ∙ ap (filter (λ key. int_le c.args.low key && int_le key c.args.high)) (keys_are c.self.inside.keys c.self.inside.index c.range-else-low-high.ensures.ordered c.self.invariant))
