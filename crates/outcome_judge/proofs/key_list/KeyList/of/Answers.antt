use Rattle.std.proofs.Common.{◌∙◌, ap, sym, List}
use Rattle.std.specs.List.{list_any}
use Rattle.std.proofs.lemmas.List.Filters.{dedup_is}
use Rattle.std.proofs.lemmas.List.Kept.{IsStrictlySortedBy-dedup}
use Rattle.isolation_spec.specs.Contents.{is_place}
use Rattle.outcome_judge.specs.KeyLists.{has_key}
use Rattle.outcome_judge.specs.declared.keys.RowKey.{RowKey}
use Rattle.outcome_judge.proofs.KeyLists.{among-places, kept-once, key-ties, keys-total}
use Rattle.outcome_judge.proofs.key_list.KeyList.of.Goals as goal

pub returns : goal.returns
returns c =
    let is = dedup_is _ _ _ c.dedup.ensures.filtered in
    record {
      rise = rw is (IsStrictlySortedBy-dedup keys-total key-ties _ c.sort_unstable.ensures.sorted);
      all = λ place written. ap (λ (ks : List RowKey). has_key ks place) is ∙ kept-once _ key-ties c.in_ok-keys.keys.items c.sort_unstable.new.self.items c.sort_unstable.ensures.permutation place
          (sym (among-places c.in_ok-keys.keys.items place) ∙ ap (list_any (is_place place)) c.in_ok-keys.ensures ∙ written);
    }
