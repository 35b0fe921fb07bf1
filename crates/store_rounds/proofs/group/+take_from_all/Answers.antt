use Rattle.std.proofs.Common.{List, ◌∷◌, sym, subst}
use Rattle.shared_store.specs.declared.session.Session.{Session}
use Rattle.store_rounds.specs.Grouped.{MayHaveHandedOver}
use Rattle.store_rounds.proofs.HandedOver.{handed, none_taken, taken_on}
use Rattle.store_rounds.proofs.group.+take_from_all.Goals as goal

pub returns-in_err-append-clause-left : goal.returns-in_err-append-clause-left
returns-in_err-append-clause-left t c =
    subst (λ (row : List Session). MayHaveHandedOver row (c.take_commits-own.new.self ∷ c.in-Some.others.now)) (sym c.in-Some.ensures.cases.0)
    (taken_on c.in-Some.one.now c.take_commits-own.new.self c.in-Some.others.now c.in-Some.others.now
    (handed c.in-Some.one.now c.take_commits-own.new.self c.take_commits-own.ensures.left) (none_taken c.in-Some.others.now))

pub returns-clause-left : goal.returns-clause-left
returns-clause-left t c =
    subst (λ (row : List Session). MayHaveHandedOver row (c.take_commits-own.new.self ∷ c.take_from_all.new.row)) (sym c.in-Some.ensures.cases.0)
    (taken_on c.in-Some.one.now c.take_commits-own.new.self c.in-Some.others.now c.take_from_all.new.row
    (handed c.in-Some.one.now c.take_commits-own.new.self c.take_commits-own.ensures.left) c.take_from_all.ensures.left)
