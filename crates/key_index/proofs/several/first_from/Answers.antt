use Rattle.std.proofs.Common.{rules, nat_lt}
use Rattle.std.proofs.lemmas.List.Sorted.{IsPartitionedBy-ltb, IsPartitionPoint-from_clause}
use Rattle.key_index.proofs.Ordered.{first_from}
use Rattle.key_index.proofs.several.first_from.Goals as goal

pub returns-clause-point : goal.returns-clause-point
returns-clause-point c =
    let xs = c.args.places.now in
    let place = c.args.place in
    first_from xs place c.partition_point.result
    (IsPartitionPoint-from_clause (λ n. nat_lt n place) xs c.partition_point.result c.partition_point.ensures.partitioned (IsPartitionedBy-ltb (λ n. n) xs place c.requires) (λ a r f' t. search rules))
