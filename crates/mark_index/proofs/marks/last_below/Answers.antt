use Rattle.std.proofs.Common.{◌≡◌, ◌∙◌, ap, sym, ℕ, List, None, take, nat_lt, rules}
use Rattle.std.specs.List.{filter, last_or}
use Rattle.std.specs.List.Sorted.{IsPartitionedBy}
use Rattle.std.proofs.lemmas.List.Sorted.{IsPartitionedBy-ltb, IsPartitionPoint-from_clause}
use Rattle.mark_index.specs.declared.marks.Peak.{Peak}
use Rattle.mark_index.proofs.Parted.{passed-front, last-get}
use Rattle.mark_index.proofs.marks.last_below.Goals as goal

pub returns : goal.returns
returns c =
    let xs : List Peak = c.args.peaks.now in
    let place : ℕ = c.args.place in
    let count : ℕ = c.partition_point-count.result in
    let parted : IsPartitionedBy (λ peak. nat_lt peak.place place) xs = IsPartitionedBy-ltb (λ (peak : Peak). peak.place) xs place c.requires in
    let front : filter (λ peak. nat_lt peak.place place) xs ≡ take count xs =
    passed-front (λ peak. nat_lt peak.place place) xs count c.partition_point-count.ensures.bound
    (IsPartitionPoint-from_clause (λ (peak : Peak). nat_lt peak.place place) xs count c.partition_point-count.ensures.partitioned parted (λ a r f' t. search rules)) in
    c.copied.ensures ∙ c.last.ensures.value ∙ last-get (take count xs) ∙ ap (last_or None) (sym front)
