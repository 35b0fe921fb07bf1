use Rattle.std.proofs.Common.{◌∙◌, ap, sym, subst, List}
use Rattle.std.specs.List.Sorted.{IsStrictlySortedBy}
use Rattle.outcome_judge.specs.HistoryKept.{key_cmp}
use Rattle.outcome_judge.specs.KeyLists.{keys_from_table, keys_up_to_table}
use Rattle.outcome_judge.specs.declared.keys.RowKey.{RowKey}
use Rattle.outcome_judge.proofs.KeyLists.{from-table-rises, of-table-is}
use Rattle.outcome_judge.proofs.key_list.KeyList.of_table.Goals as goal

pub keys_up_to_table-requires : goal.keys_up_to_table-requires
keys_up_to_table-requires c =
    subst (IsStrictlySortedBy key_cmp) (sym (c.keys_from_table-not_below.ensures ∙ ap (keys_from_table c.args.table) c.as_slice.ensures.value)) (from-table-rises c.args.table c.args.self.now.keys.items c.requires)

pub returns : goal.returns
returns c =
    let keys : List RowKey = c.args.self.now.keys.items in
    c.keys_up_to_table.ensures
    ∙ ap (keys_up_to_table c.args.table) (c.keys_from_table-not_below.ensures ∙ ap (keys_from_table c.args.table) c.as_slice.ensures.value)
    ∙ of-table-is c.args.table keys
