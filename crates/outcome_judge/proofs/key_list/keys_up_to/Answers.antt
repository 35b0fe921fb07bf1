use Rattle.std.proofs.Common.{ℕ, List, sym, rules}
use Rattle.std.specs.Ordering.{is_le}
use Rattle.std.proofs.lemmas.List.Sorted.{IsPartitionPoint-from_clause}
use Rattle.mark_index.proofs.Parted.{passed-front}
use Rattle.outcome_judge.specs.HistoryKept.{key_cmp}
use Rattle.outcome_judge.specs.declared.keys.RowKey.{RowKey}
use Rattle.outcome_judge.proofs.KeyLists.{parted-up-to}
use Rattle.outcome_judge.proofs.key_list.keys_up_to.Goals as goal

pub returns : goal.returns
returns c =
    let keys : List RowKey = c.args.keys.now in
    let at : ℕ = c.partition_point.result in
    sym (passed-front (λ (of : RowKey). is_le (key_cmp of c.args.last)) keys at c.partition_point.ensures.bound
    (IsPartitionPoint-from_clause (λ (of : RowKey). is_le (key_cmp of c.args.last)) keys at c.partition_point.ensures.partitioned (parted-up-to c.args.last keys c.requires) (λ a r f' t. search rules)))
