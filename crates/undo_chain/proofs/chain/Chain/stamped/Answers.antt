use Rattle.std.proofs.Common.{◌≡◌, is_some, reverse, rules, take}
use Rattle.undo_chain.specs.declared.undo.Undo.{Undo}
use Rattle.undo_chain.specs.Lawful.{IsLawful}
use Rattle.std.proofs.lemmas.List.Sorted.{IsPartitionPoint-from_clause}
use Rattle.undo_chain.proofs.Stamps.{stamped_first, stamped_lawful, stamped_numbers}
use Rattle.undo_chain.proofs.chain.Chain.stamped.Goals as goal

pub returns : goal.returns
returns g c =
    let D = g.row.D.Denot in
    let xs = c.self.inside.oldest_first.items in
    let count = c.partition_point-count.result in
    let lawful : IsLawful (reverse xs) = rw (← c.self.view_is) at c.requires in
    let same : c.as_slice-entries.result.now ≡ xs = c.as_slice-entries.ensures.value in
    let front : c.split_at.result.0.now ≡ take count xs = search rules in
    let parted = rw same at c.partition_point-count.ensures.partitioned in
    let point = IsPartitionPoint-from_clause (λ (undo : Undo D). is_some undo.stamp) xs count parted (stamped_first xs lawful) (λ a r f' t. search rules) in
    record {
      lawful = rw front (stamped_lawful xs count lawful);
      numbers = λ stamp. rw (front, ← c.self.view_is) (stamped_numbers xs count stamp (λ k d le l. point.1 k d le l));
    }
