use Rattle.std.proofs.Common.{ℕ, List, nat_lt, rules}
use Rattle.std.specs.List.Sorted.{IsPartitionedBy}
use Rattle.std.proofs.lemmas.List.Sorted.{IsPartitionedBy-ltb, IsPartitionPoint-from_clause}
use Rattle.mark_index.proofs.Parted.{passed-count}
use Rattle.outcome_judge.proofs.commits.count_below.Goals as goal

pub returns : goal.returns
returns c =
    let xs : List ℕ = c.args.numbers.now in
    let bound : ℕ = c.args.bound in
    let parted : IsPartitionedBy (λ n. nat_lt n bound) xs = IsPartitionedBy-ltb (λ n. n) xs bound c.requires in
    passed-count (λ n. nat_lt n bound) xs c.partition_point.result c.partition_point.ensures.bound
    (IsPartitionPoint-from_clause (λ n. nat_lt n bound) xs c.partition_point.result c.partition_point.ensures.partitioned parted (λ a r f' t. search rules))
