use Rattle.std.proofs.Common.{◌≡◌, ◌==◌, Some, ap, arith, length, rules}
use Rattle.std.specs.Prelude.{position}
use Rattle.std.proofs.lemmas.List.Quantifiers.{position-Some}
use Rattle.key_index.proofs.Ordered.{dropped_in_order, found_in_order}
use Rattle.key_index.proofs.several.Several.drop_first.Goals as goal

pub remove-requires-2 : goal.remove-requires-2
remove-requires-2 c =
    let added = c.self.inside.added.items in
    let ascending = c.self.inside.ascending.items in
    let place = c.args.place in
    let stands : position (λ other. other == place) added ≡ Some c.in-Some.at = search rules in
    let here = position-Some (λ other. other == place) added c.in-Some.at 0 stands in
    let point = rw c.as_slice-2.ensures.value at c.first_from-at.ensures.point in
    let less = (found_in_order added ascending c.in-Some.at c.first_from-at.result place c.self.invariant here.0 here.1 point).0 in
    let same = ap length c.as_slice-2.ensures.value in
    let long = c.as_slice-2.ensures.len in
    omega (arith, less, same, long)

pub invariant_of-self : goal.invariant_of-self
invariant_of-self c =
    let added = c.self.inside.added.items in
    let ascending = c.self.inside.ascending.items in
    let place = c.args.place in
    let at = c.first_from-at.result in
    let stands : position (λ other. other == place) added ≡ Some c.in-Some.at = search rules in
    let here = position-Some (λ other. other == place) added c.in-Some.at 0 stands in
    let point = rw c.as_slice-2.ensures.value at c.first_from-at.ensures.point in
    let found = found_in_order added ascending c.in-Some.at at place c.self.invariant here.0 here.1 point in
    rw (c.remove.ensures.items, c.remove-2.ensures.items) (dropped_in_order added ascending c.in-Some.at at place c.self.invariant here.0 here.1 found.0 found.1)
