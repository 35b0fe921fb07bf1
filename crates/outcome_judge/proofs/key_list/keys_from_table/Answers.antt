use Rattle.std.proofs.Common.{◌≡◌, ◌∙◌, ◌-◌, ℕ, List, drop, take_all, length, nat_lt, sym, rules, arith}
use Rattle.std.proofs.lemmas.List.{length-drop}
use Rattle.std.proofs.lemmas.List.Sorted.{IsPartitionPoint-from_clause}
use Rattle.outcome_judge.specs.declared.keys.RowKey.{RowKey}
use Rattle.outcome_judge.proofs.KeyLists.{failed-rest, parted-table}
use Rattle.outcome_judge.proofs.key_list.keys_from_table.Goals as goal

pub returns : goal.returns
returns c =
    let keys : List RowKey = c.args.keys.now in
    let at : ℕ = c.partition_point.result in
    let long : length (drop at keys) ≡ length keys - at = length-drop at keys in
    take_all (length keys - at) (drop at keys) (omega (arith, long))
    ∙ sym (failed-rest (λ (of : RowKey). nat_lt of.table c.args.table) keys at c.partition_point.ensures.bound
    (IsPartitionPoint-from_clause (λ (of : RowKey). nat_lt of.table c.args.table) keys at c.partition_point.ensures.partitioned (parted-table c.args.table keys c.requires) (λ a r f' t. search rules)))
