use Rattle.std.proofs.Common.{rules, ◌≡◌, map, ap, subst, ◌∙◌}
use Rattle.std.specs.List.Sorted.{IsPermutation}
use Rattle.std.specs.Map.Iter.{deref_pair}
use Rattle.std.proofs.lemmas.List.Sorted.{IsNonDecreasingBy-from_sort, IsPermutation-map}
use Rattle.std.proofs.lemmas.Map.Iter.{iter_end}
use Rattle.core_parts.specs.Written.{name_on, name_written}
use Rattle.core_parts.proofs.written.Spots.of.Goals as goal

pub invariant_of-result : goal.invariant_of-result
invariant_of-result c = IsNonDecreasingBy-from_sort (λ x. x) c.sort_unstable.new.self.items c.sort_unstable.ensures.sorted

pub returns : goal.returns
returns c =
    let rows : map deref_pair c.loop-row.yielded ≡ c.by_row-rows.result.now.entries = search (rules, iter_end) in
    let all : map deref_pair c.loop-row.yielded ≡ c.args.writes.now = rows ∙ c.by_row-rows.ensures in
    subst (λ ws. IsPermutation ws (map (name_on c.args.kind) c.sort_unstable.new.self.items)) (c.loop-row.invariant ∙ ap (map (name_written c.args.kind)) all)
    (IsPermutation-map (name_on c.args.kind) c.loop-row.spots.items c.sort_unstable.new.self.items c.sort_unstable.ensures.permutation)
