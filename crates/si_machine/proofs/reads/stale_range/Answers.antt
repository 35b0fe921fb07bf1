use mir.Syntax.{w64}
use mir.Val.{of_z, to_z}
use Rattle.std.proofs.Common.{◌≡◌, ◌∙◌, ◌+◌, ℕ, ℤ, pos, List, map, drop, get_or, drop-cons, suc, Option, None, ap, sym, arith, rules}
use Rattle.std.specs.Prelude.{option_map}
use Rattle.std.specs.Option.{option_or}
use Rattle.std.proofs.lemmas.Int.{to_z-of_z}
use Rattle.isolation_spec.specs.Contents.{History}
use Rattle.isolation_spec.specs.Reads.{first_stale, last_meeting}
use Rattle.isolation_spec.specs.declared.read.KeyRange.{KeyRange}
use Rattle.isolation_spec.specs.declared.read.Read.{Read}
use Rattle.isolation_spec.specs.declared.read.Read.TheVariants as read
use Rattle.si_machine.specs.Kept.{history_in}
use Rattle.si_machine.proofs.reads.stale_range.Goals as goal

-- the read of a range
abbrev of_range : KeyRange → Read
of_range range = read.Range range.table range.low range.high

pub loop-range-preserved : goal.loop-range-preserved
loop-range-preserved c =
    let history : History = history_in c.args.commits.now in
    let ranges : List KeyRange = c.args.ranges.now in
    let index : ℕ = c.loop-range.range-index in
    let none_there : KeyRange = record { table = 0; low = pos 0; high = pos 0 } in
    let range : KeyRange = get_or ranges index none_there in
    let last_of = last_meeting history c.args.snapshot in
    let low_is : to_z w64 (of_z w64 range.low) ≡ range.low = to_z-of_z w64 range.low (search rules) in
    let high_is : to_z w64 (of_z w64 range.high) ≡ range.high = to_z-of_z w64 range.high (search rules) in
    let none : last_of (of_range range) ≡ None =
    ap (λ (low : ℤ). last_of (read.Range range.table low range.high)) (sym low_is)
    ∙ ap (λ (high : ℤ). last_of (read.Range range.table (to_z w64 (of_z w64 range.low)) high)) (sym high_is)
    ∙ sym c.last_meeting.ensures ∙ c.in_default.is in
    let next : index + 1 ≡ suc index = omega arith in
    ap (λ (i : ℕ). first_stale last_of (map of_range (drop i ranges))) next
    ∙ ap (λ (found : Option ℕ). option_or (option_map (λ (number : ℕ). (of_range range, number)) found) (first_stale last_of (map of_range (drop (suc index) ranges)))) (sym none)
    ∙ ap (λ (rs : List KeyRange). first_stale last_of (map of_range rs)) (sym (drop-cons ranges index none_there c.loop-range-test.true))
    ∙ c.loop-range.invariant
