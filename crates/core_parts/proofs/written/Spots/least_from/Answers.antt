use Rattle.std.proofs.Common.{◌≡◌, ◌<◌, ◌≤◌, ℕ, List, true, false, Some, nat_lt, rules, arith, get_or, subst, sym, ◌∙◌}
use Rattle.std.specs.List.Sorted.{IsNonDecreasing, IsPartitionedBy}
use Rattle.std.proofs.lemmas.Bool.Decides.{nat_tests}
use Rattle.std.proofs.lemmas.List.Sorted.{IsPartitionedBy-ltb, IsPartitionPoint-from_clause}
use Rattle.core_parts.specs.Written.{IsLeastOn}
use Rattle.core_parts.proofs.Founds.{found, passed_first, passed_more}
use Rattle.core_parts.proofs.written.Spots.least_from.Goals as goal

below : (a b : ℕ) → nat_lt a b ≡ true → a < b
below a b e = grind (arith, nat_tests)

above : (a b : ℕ) → nat_lt a b ≡ false → b ≤ a
above a b e = grind (arith, nat_tests)

pub loop-index-init : goal.loop-index-init
loop-index-init c =
    let xs : List ℕ = c.as_slice-spots.result.now in
    let first : ℕ = c.first_spot-first.result in
    let rise : IsNonDecreasing xs = subst IsNonDecreasing (sym c.as_slice-spots.ensures.value) c.self.invariant in
    let parted : IsPartitionedBy (λ n. nat_lt n first) xs = IsPartitionedBy-ltb (λ n. n) xs first rise in
    let point = IsPartitionPoint-from_clause (λ n. nat_lt n first) xs c.partition_point-start.result c.partition_point-start.ensures.partitioned parted (λ a r f' t. search rules) in
    passed_first c.args.shape.now c.args.kind c.args.from first xs c.partition_point-start.result c.first_spot-first.ensures
    (λ k l. below (get_or xs k 0) first (point.0 k 0 (omega arith) l))

pub returns-in-Some : goal.returns-in-Some
returns-in-Some c =
    let xs : List ℕ = c.as_slice-spots.result.now in
    let first : ℕ = c.first_spot-first.result in
    let i : ℕ = c.loop-index.index in
    let rise : IsNonDecreasing xs = subst IsNonDecreasing (sym c.as_slice-spots.ensures.value) c.self.invariant in
    let parted : IsPartitionedBy (λ n. nat_lt n first) xs = IsPartitionedBy-ltb (λ n. n) xs first rise in
    let point = IsPartitionPoint-from_clause (λ n. nat_lt n first) xs c.partition_point-start.result c.partition_point-start.ensures.partitioned parted (λ a r f' t. search rules) in
    let same : xs ≡ c.args.self.now = search rules in
    subst (λ ys. IsLeastOn c.args.kind c.args.shape.now c.args.from ys (Some c.in-Some.number)) same
    (found c.args.shape.now c.args.kind c.args.from first xs i c.in-Some.number rise c.first_spot-first.ensures c.loop-index.invariant (omega arith)
    (above (get_or xs i 0) first (point.1 i 0 (omega arith) (omega arith))) (sym c.number_at.ensures ∙ c.in-Some.is))

pub loop-index-preserved : goal.loop-index-preserved
loop-index-preserved c =
    passed_more c.args.shape.now c.args.kind c.args.from c.as_slice-spots.result.now c.loop-index.index c.loop-index.invariant (sym c.number_at.ensures ∙ c.in_default.is)
