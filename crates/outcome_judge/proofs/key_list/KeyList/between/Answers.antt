use mir.Syntax.{w64}
use Rattle.std.proofs.Common.{◌∙◌, ap, sym, subst, List, rules}
use Rattle.std.proofs.lemmas.Int.{to_z-of_z}
use Rattle.std.specs.List.Sorted.{IsStrictlySortedBy}
use Rattle.outcome_judge.specs.HistoryKept.{key_cmp}
use Rattle.outcome_judge.specs.KeyLists.{keys_from, keys_up_to, row_key}
use Rattle.outcome_judge.specs.declared.keys.RowKey.{RowKey}
use Rattle.outcome_judge.proofs.KeyLists.{between-is, from-rises}
use Rattle.outcome_judge.proofs.key_list.KeyList.between.Goals as goal

pub keys_up_to-requires : goal.keys_up_to-requires
keys_up_to-requires c =
    subst (IsStrictlySortedBy key_cmp) (sym (c.keys_from-not_below.ensures ∙ ap (keys_from c.row_key.result) c.as_slice.ensures.value)) (from-rises c.row_key.result c.args.self.now.keys.items c.requires)

pub returns : goal.returns
returns c =
    let keys : List RowKey = c.args.self.now.keys.items in
    c.keys_up_to.ensures
    ∙ ap (keys_up_to c.row_key-2.result) (c.keys_from-not_below.ensures ∙ ap (keys_from c.row_key.result) c.as_slice.ensures.value ∙ ap (λ (of : RowKey). keys_from of keys) (c.row_key.ensures ∙ ap (row_key c.args.table) (to_z-of_z w64 c.args.low (search rules))))
    ∙ ap (λ (of : RowKey). keys_up_to of (keys_from (row_key c.args.table c.args.low) keys)) (c.row_key-2.ensures ∙ ap (row_key c.args.table) (to_z-of_z w64 c.args.high (search rules)))
    ∙ between-is c.args.table c.args.low c.args.high keys
