use Rattle.std.proofs.Common.{◌∙◌, ap, sym, subst, map, List}
use Rattle.isolation_spec.specs.Machine.{Transaction}
use Rattle.si_machine.specs.Kept.{Belongs, machine_in, open_at, transaction_in}
use Rattle.si_machine.proofs.Steps.{belongs-without, own-ended}
use Rattle.si_machine.proofs.ledger.Ledger.end.Goals as goal

pub returns-clause-kept : goal.returns-clause-kept
returns-clause-kept c =
    let before = c.args.self.now in
    let none = c.remove-own.result in
    let gone = ap (map transaction_in) c.remove-own.ensures.items ∙ own-ended before c.args.at none c.requires.kept c.requires.there in
    subst (λ (ts : List Transaction). Belongs (record (machine_in before) { open_transactions = ts }) before.writers) (sym gone)
    (belongs-without (open_at before c.args.at none).session (machine_in before) before.writers c.requires.kept)

pub returns-clause-machine : goal.returns-clause-machine
returns-clause-machine c = λ none.
    ap (λ (ts : List Transaction). record (machine_in c.args.self.now) { open_transactions = ts })
    (ap (map transaction_in) c.remove-own.ensures.items ∙ own-ended c.args.self.now c.args.at none c.requires.kept c.requires.there)
