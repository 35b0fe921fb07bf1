use Rattle.std.proofs.Common.{◌≡◌, ◌∙◌, ◌+◌, ℤ, Some, ap, drop, get_or, map, of_z, pos, rules, sym, to_z, w64}
use Rattle.std.proofs.Math.Facts.{to_z-of_z}
use Rattle.core_events.proofs.Judging.{first_behind, first_is}
use Rattle.core_events.proofs.Ranging.{drop_or}
use Rattle.core_events.specs.Stale.{newest_at, range_read}
use Rattle.isolation_spec.specs.declared.read.KeyRange.{KeyRange}
use Rattle.isolation_spec.specs.declared.read.Read.TheVariants as read
use Rattle.isolation_spec.specs.Reads.{first_stale}
use Rattle.core_events.proofs.stale.stale_range.Goals as goal

pub newest_in-requires : goal.newest_in-requires
newest_in-requires c = c.requires c.loop-range.range-index _ c.loop-range-test.true

pub returns-in-Some : goal.returns-in-Some
returns-in-Some c = λ s agrees.
    let i = c.loop-range.range-index in
    let d : KeyRange = record { table = 0; low = pos 0; high = pos 0 } in
    let r : KeyRange = get_or c.args.ranges.now i d in
    let low : to_z w64 (of_z w64 r.low) ≡ r.low = to_z-of_z {w = w64} (search rules) in
    let high : to_z w64 (of_z w64 r.high) ≡ r.high = to_z-of_z {w = w64} (search rules) in
    let last = newest_at c.args.shape.now s c.args.snapshot in
    ap (λ (k : ℤ). Some (read.Range r.table k (to_z w64 (of_z w64 r.high)), c.in-Some.number)) low
    ∙ ap (λ (k : ℤ). Some (read.Range r.table r.low k, c.in-Some.number)) high
    ∙ sym (first_is last (range_read r) (map range_read (drop (i + 1) c.args.ranges.now)) c.in-Some.number (sym (c.newest_in.ensures s agrees) ∙ c.in-Some.is))
    ∙ ap (λ rs. first_stale last (map range_read rs)) (sym (drop_or c.args.ranges.now i d c.loop-range-test.true))
    ∙ c.loop-range.invariant s agrees

pub loop-range-preserved : goal.loop-range-preserved
loop-range-preserved c = λ s agrees.
    let i = c.loop-range.range-index in
    let d : KeyRange = record { table = 0; low = pos 0; high = pos 0 } in
    let r : KeyRange = get_or c.args.ranges.now i d in
    let last = newest_at c.args.shape.now s c.args.snapshot in
    sym (first_behind last (range_read r) (map range_read (drop (i + 1) c.args.ranges.now)) (sym (c.newest_in.ensures s agrees) ∙ c.in_default.is))
    ∙ ap (λ rs. first_stale last (map range_read rs)) (sym (drop_or c.args.ranges.now i d c.loop-range-test.true))
    ∙ c.loop-range.invariant s agrees
