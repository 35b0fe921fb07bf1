use Rattle.std.proofs.Common.{◌≡◌, ◌∙◌, ap, sym, ℕ, List, None, take, nat_lt, rules}
use Rattle.std.specs.List.{filter, last_or}
use Rattle.std.specs.List.Sorted.{IsPartitionedBy}
use Rattle.std.proofs.lemmas.List.Sorted.{IsPartitionedBy-ltb, IsPartitionPoint-from_clause}
use Rattle.outcome_judge.specs.declared.leads.Lead.{Lead}
use Rattle.mark_index.proofs.Parted.{passed-front, last-get}
use Rattle.outcome_judge.proofs.leads.lead_below.Goals as goal

pub returns : goal.returns
returns c =
    let xs : List Lead = c.args.leads.now in
    let place : ℕ = c.args.place in
    let count : ℕ = c.partition_point-count.result in
    let parted : IsPartitionedBy (λ lead. nat_lt lead.place place) xs = IsPartitionedBy-ltb (λ (lead : Lead). lead.place) xs place c.requires in
    let front : filter (λ lead. nat_lt lead.place place) xs ≡ take count xs =
    passed-front (λ lead. nat_lt lead.place place) xs count c.partition_point-count.ensures.bound
    (IsPartitionPoint-from_clause (λ (lead : Lead). nat_lt lead.place place) xs count c.partition_point-count.ensures.partitioned parted (λ a r f' t. search rules)) in
    c.copied.ensures ∙ c.last.ensures.value ∙ last-get (take count xs) ∙ ap (last_or None) (sym front)
