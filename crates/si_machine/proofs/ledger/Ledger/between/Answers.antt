use mir.Val.{of_z, to_z}
use Rattle.std.proofs.Common.{◌≡◌, int_lt, true, w64, arith, rules, ◌∙◌, ◌++◌, ◌∷◌, [], ap, sym, List, Option, Some, append_assoc, append-nil}
use Rattle.std.specs.BTreeMap.Range.{entries_between}
use Rattle.std.specs.Range.{range_inclusive_end}
use Rattle.std.specs.declared.ops.Bound.TheVariants.{Included}
use Rattle.std.specs.List.{filter_map, cons_option}
use Rattle.std.proofs.lemmas.Int.{ints, to_z-of_z}
use Rattle.cell_model.specs.declared.cell.Cell.{Cell}
use Rattle.isolation_spec.specs.Contents.{State, at_place, place_at, place_cmp}
use Rattle.isolation_spec.specs.declared.place.Place.{Place}
use Rattle.isolation_spec.specs.Machine.{seen_rows}
use Rattle.si_machine.specs.Kept.{machine_in, open_at}
use Rattle.si_machine.proofs.Ranges.{nothing-between, scanned}
use Rattle.si_machine.proofs.ledger.Ledger.between.Goals as goal

pub loop-place-init : goal.loop-place-init
loop-place-init c = λ none. ap (λ rows. rows ++ filter_map (λ entry. at_place (seen_rows (machine_in c.args.self.now) (open_at c.args.self.now c.args.at none)) entry.0) c.into_iter-place-iterator.result) c.new-rows.ensures.items

pub loop-place-preserved-in_ok-push : goal.loop-place-preserved-in_ok-push
loop-place-preserved-in_ok-push c = λ none.
    let seen : State = seen_rows (machine_in c.args.self.now) (open_at c.args.self.now c.args.at none) in
    let rest = filter_map (λ entry. at_place seen entry.0) c.next.new.self in
    ap (λ rows. rows ++ rest) c.in_ok-push.ensures.items
    ∙ append_assoc c.loop-place.rows.items (c.in_ok-clone.field-0 ∷ []) rest
    ∙ ap (λ (o : Option (List Cell)). c.loop-place.rows.items ++ cons_option o rest) (ap Some c.in_ok-clone.ensures.cases ∙ c.in-Some-seen.ensures none)
    ∙ ap (λ left. c.loop-place.rows.items ++ filter_map (λ entry. at_place seen entry.0) left) (sym c.in-Some.ensures.steps)
    ∙ c.loop-place.invariant none

pub loop-place-preserved : goal.loop-place-preserved
loop-place-preserved c = λ none.
    let seen : State = seen_rows (machine_in c.args.self.now) (open_at c.args.self.now c.args.at none) in
    let rest = filter_map (λ entry. at_place seen entry.0) c.next.new.self in
    ap (λ (o : Option (List Cell)). c.loop-place.rows.items ++ cons_option o rest) (c.in_default.ensures none)
    ∙ ap (λ left. c.loop-place.rows.items ++ filter_map (λ entry. at_place seen entry.0) left) (sym c.in-Some.ensures.steps)
    ∙ c.loop-place.invariant none

pub returns-then-low-high : goal.returns-then-low-high
returns-then-low-high c = λ none.
    let turned : int_lt c.args.high c.args.low ≡ true = grind (arith, ints) in
    c.new-rows.ensures.items
    ∙ sym (nothing-between c.args.table c.args.low c.args.high (seen_rows (machine_in c.args.self.now) (open_at c.args.self.now c.args.at none)) turned)

pub returns : goal.returns
returns c = λ none.
    let seen : State = seen_rows (machine_in c.args.self.now) (open_at c.args.self.now c.args.at none) in
    let low : to_z w64 (of_z w64 c.args.low) ≡ c.args.low = to_z-of_z w64 c.args.low (search rules) in
    let high : to_z w64 (of_z w64 c.args.high) ≡ c.args.high = to_z-of_z w64 c.args.high (search rules) in
    sym (append-nil c.loop-place.rows.items)
    ∙ ap (λ left. c.loop-place.rows.items ++ filter_map (λ entry. at_place seen entry.0) left) (sym c.in-None.ensures.steps.0)
    ∙ c.loop-place.invariant none
    ∙ ap (filter_map (λ entry. at_place seen entry.0)) (c.into_iter-place-iterator.ensures.into_iter_gives ∙ c.range-place-items.ensures.between c.new.ensures.exhausted)
    ∙ ap (λ (first : Place). filter_map (λ entry. at_place seen entry.0) (entries_between place_cmp (Included first) (Included (range_inclusive_end c.new.result)) c.args.self.now.writers.places.entries))
    (c.new.ensures.start ∙ ap (place_at c.args.table) low)
    ∙ ap (λ (last : Place). filter_map (λ entry. at_place seen entry.0) (entries_between place_cmp (Included (place_at c.args.table c.args.low)) (Included last) c.args.self.now.writers.places.entries))
    (c.new.ensures.end ∙ ap (place_at c.args.table) high)
    ∙ scanned c.args.self.now c.args.at none c.args.table c.args.low c.args.high c.requires.kept c.requires.there c.range-place-items.ensures.ordered
