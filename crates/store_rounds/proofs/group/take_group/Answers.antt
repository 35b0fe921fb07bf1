use Rattle.std.proofs.Common.{List, ◌++◌, ap, sym, subst, ◌∙◌, rules}
use Rattle.std.proofs.lemmas.List.Sorted.{IsNonDecreasingBy-from_sort_by_key}
use Rattle.run_spec.specs.declared.commit.Commit.{Commit}
use Rattle.shared_store.specs.declared.session.Session.{Session}
use Rattle.store_rounds.specs.Grouped.{MayHaveHandedOver, kept_in}
use Rattle.store_rounds.proofs.AddedGroups.{took_group}
use Rattle.store_rounds.proofs.HandedOver.{taken_in_front}
use Rattle.store_rounds.proofs.group.take_group.Goals as goal

pub returns-in_err-take_from_all-clause-left : goal.returns-in_err-take_from_all-clause-left
returns-in_err-take_from_all-clause-left c =
    let cut = c.split_at_mut-owners in
    subst (λ (row : List Session). MayHaveHandedOver row (c.take_from_all.new.row ++ cut.result.1.now)) (sym cut.ensures.value)
    (taken_in_front cut.result.0.now c.take_from_all.new.row cut.result.1.now c.take_from_all.ensures.left)

pub returns-clause-group : goal.returns-clause-group
returns-clause-group c =
    let cut = c.split_at_mut-owners in
    took_group c.args.sessions cut.result.0.now c.take_from_all.new.row cut.result.1.now c.args.row.now c.take_from_all.new.commits.items c.sort_unstable_by_key.new.self.items c.sets_of.result
    cut.ensures.value cut.ensures.front cut.ensures.front_len c.in_ok-take_from_all.ensures.taken
    (c.in_ok-take_from_all.ensures.commits ∙ ap (λ (commits : List Commit). commits ++ kept_in cut.result.0.now) c.new-commits.ensures.items)
    c.sort_unstable_by_key.ensures.permutation
    (IsNonDecreasingBy-from_sort_by_key (λ (commit : Commit). commit.number) _ c.sort_unstable_by_key.ensures.sorted (λ a r q k. search rules))
    c.sets_of.ensures

pub returns-clause-left : goal.returns-clause-left
returns-clause-left c =
    let cut = c.split_at_mut-owners in
    subst (λ (row : List Session). MayHaveHandedOver row (c.take_from_all.new.row ++ cut.result.1.now)) (sym cut.ensures.value)
    (taken_in_front cut.result.0.now c.take_from_all.new.row cut.result.1.now c.take_from_all.ensures.left)
