use Rattle.std.proofs.Common.{ℕ, List, nat_le, rules}
use Rattle.std.specs.List.Sorted.{IsPartitionedBy}
use Rattle.std.proofs.lemmas.List.Sorted.{IsPartitionedBy-leb, IsPartitionPoint-from_clause}
use Rattle.mark_index.proofs.Parted.{passed-count}
use Rattle.outcome_judge.proofs.writes.count_up_to.Goals as goal

pub returns : goal.returns
returns c =
    let xs : List ℕ = c.args.times.now in
    let bound : ℕ = c.args.bound in
    let parted : IsPartitionedBy (λ n. nat_le n bound) xs = IsPartitionedBy-leb (λ n. n) xs bound c.requires in
    passed-count (λ n. nat_le n bound) xs c.partition_point.result c.partition_point.ensures.bound
    (IsPartitionPoint-from_clause (λ n. nat_le n bound) xs c.partition_point.result c.partition_point.ensures.partitioned parted (λ a r f' t. search rules))
