use Rattle.std.proofs.Common.{◌≡◌, ◌∙◌, ap, sym, ℕ, List, None, take, nat_le, rules}
use Rattle.std.specs.List.{filter, last_or}
use Rattle.std.specs.List.Sorted.{IsPartitionedBy}
use Rattle.std.proofs.lemmas.List.Sorted.{IsPartitionedBy-leb, IsPartitionPoint-from_clause}
use Rattle.mark_index.proofs.Parted.{passed-front, last-get}
use Rattle.outcome_judge.specs.declared.writes.Left.{Left}
use Rattle.outcome_judge.proofs.writes.last_up_to.Goals as goal

pub returns : goal.returns
returns c =
    let xs : List Left = c.args.left.now in
    let bound : ℕ = c.args.bound in
    let count : ℕ = c.partition_point-count.result in
    let parted : IsPartitionedBy (λ left. nat_le left.time bound) xs = IsPartitionedBy-leb (λ (left : Left). left.time) xs bound c.requires in
    let front : filter (λ left. nat_le left.time bound) xs ≡ take count xs =
    passed-front (λ left. nat_le left.time bound) xs count c.partition_point-count.ensures.bound
    (IsPartitionPoint-from_clause (λ (left : Left). nat_le left.time bound) xs count c.partition_point-count.ensures.partitioned parted (λ a r f' t. search rules)) in
    c.copied.ensures ∙ c.last.ensures.value ∙ last-get (take count xs) ∙ ap (last_or None) (sym front)
