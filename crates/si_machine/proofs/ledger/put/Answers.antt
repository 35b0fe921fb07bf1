use Rattle.std.proofs.Common.{◌∙◌, ap, sym, map, get_or}
use Rattle.std.proofs.Math.ListN.{set}
use Rattle.std.proofs.lemmas.List.{get_or_default}
use Rattle.isolation_spec.specs.Contents.{WriteSet}
use Rattle.isolation_spec.specs.Machine.{entered}
use Rattle.si_machine.specs.declared.ledger.OpenTransaction.{OpenTransaction}
use Rattle.si_machine.specs.Kept.{transaction_in}
use Rattle.si_machine.proofs.Parts.{get-map, on-err, set-map, set-same}
use Rattle.si_machine.proofs.ledger.put.Goals as goal

pub returns-in_err-insert-clause-err : goal.returns-in_err-insert-clause-err
returns-in_err-insert-clause-err c =
    let xs = c.args.transactions.now in
    let t = c.index-transactions-at.result in
    on-err c.from_residual.result
    (set-map transaction_in xs c.args.at _
    ∙ ap (λ (own : WriteSet). set (map transaction_in xs) c.args.at (record (transaction_in (get_or xs c.args.at t)) { own = own })) (c.in_err-insert.ensures.err)
    ∙ ap (set (map transaction_in xs) c.args.at) (sym (get-map transaction_in xs c.args.at t))
    ∙ set-same (map transaction_in xs) c.args.at (transaction_in t))

pub returns-clause-ok : goal.returns-clause-ok
returns-clause-ok c = λ none.
    let xs = c.args.transactions.now in
    let t = c.index-transactions-at.result in
    set-map transaction_in xs c.args.at _
    ∙ ap (λ (own : WriteSet). set (map transaction_in xs) c.args.at (record (transaction_in (get_or xs c.args.at t)) { own = own })) c.in_ok-insert.ensures.entries
    ∙ ap (λ (u : OpenTransaction). set (map transaction_in xs) c.args.at (entered c.args.place c.args.change (transaction_in u))) (get_or_default xs c.args.at t none c.requires)
