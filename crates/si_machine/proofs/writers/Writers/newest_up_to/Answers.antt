use Rattle.std.proofs.Common.{◌≡◌, ◌∙◌, [], ℕ, List, None, Option, Vec, Global, nat_le, take, ap, sym, subst, rules, true, false, arith}
use Rattle.std.specs.List.{filter, last_or}
use Rattle.std.specs.List.Sorted.{IsNonDecreasing, IsPartitionPoint, IsPartitionedBy}
use Rattle.std.specs.Option.{option_map_or}
use Rattle.std.proofs.lemmas.List.Sorted.{IsPartitionedBy-leb, IsPartitionPoint-from_clause}
use Rattle.si_machine.specs.Kept.{numbers_at}
use Rattle.si_machine.proofs.Parts.{last-get, filter-take}
use Rattle.si_machine.proofs.writers.Writers.newest_up_to.Goals as goal

pub returns : goal.returns
returns c =
    let xs : List ℕ = c.deref.result.now in
    let bound : ℕ = c.args.bound in
    let same : xs ≡ numbers_at c.args.self.now c.args.place.now =
    c.deref.ensures.value ∙ ap (λ (o : Option (Vec ℕ Global)). option_map_or (λ (numbers : Vec ℕ Global). numbers.items) o []) c.in_ok-numbers.ensures.value in
    let rises : IsNonDecreasing xs = subst IsNonDecreasing (sym same) c.requires in
    let parted : IsPartitionedBy (λ n. nat_le n bound) xs = IsPartitionedBy-leb (λ n. n) xs bound rises in
    let point : IsPartitionPoint (λ n. nat_le n bound ≡ true) (λ n. nat_le n bound ≡ false) xs c.partition_point-count.result =
    IsPartitionPoint-from_clause (λ n. nat_le n bound) xs c.partition_point-count.result c.partition_point-count.ensures.partitioned parted (λ a r f' t. search rules) in
    let front : filter (λ n. nat_le n bound) xs ≡ take c.partition_point-count.result xs =
    filter-take (λ n. nat_le n bound) xs c.partition_point-count.result 0 c.partition_point-count.ensures.bound
    (λ k below. point.0 k 0 (omega arith) below) (λ k from below. point.1 k 0 from below) in
    c.copied.ensures ∙ c.last.ensures.value ∙ last-get (take c.partition_point-count.result c.deref-2.result.now)
    ∙ ap (λ (ys : List ℕ). last_or None (take c.partition_point-count.result ys)) (c.deref-2.ensures.value ∙ sym c.deref.ensures.value)
    ∙ ap (last_or None) (sym front)
    ∙ ap (λ (ys : List ℕ). last_or None (filter (λ n. nat_le n bound) ys)) same
