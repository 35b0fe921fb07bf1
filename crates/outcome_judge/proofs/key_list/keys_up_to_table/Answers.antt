use Rattle.std.proofs.Common.{ℕ, List, nat_le, sym, rules}
use Rattle.std.proofs.lemmas.List.Sorted.{IsPartitionPoint-from_clause}
use Rattle.mark_index.proofs.Parted.{passed-front}
use Rattle.outcome_judge.specs.declared.keys.RowKey.{RowKey}
use Rattle.outcome_judge.proofs.KeyLists.{parted-up-to-table}
use Rattle.outcome_judge.proofs.key_list.keys_up_to_table.Goals as goal

pub returns : goal.returns
returns c =
    let keys : List RowKey = c.args.keys.now in
    let at : ℕ = c.partition_point.result in
    sym (passed-front (λ (of : RowKey). nat_le of.table c.args.table) keys at c.partition_point.ensures.bound
    (IsPartitionPoint-from_clause (λ (of : RowKey). nat_le of.table c.args.table) keys at c.partition_point.ensures.partitioned (parted-up-to-table c.args.table keys c.requires) (λ a r f' t. search rules)))
