use Rattle.std.proofs.Common.{◌≡◌, ◌∙◌, ap, sym, None, eqb}
use Rattle.std.specs.Prelude.{option_map}
use Rattle.std.proofs.lemmas.Result.{IfOk-weaker}
use Rattle.isolation_spec.specs.Machine.{Transaction, step_of, transaction_of}
use Rattle.si_machine.specs.declared.ledger.OpenTransaction.{OpenTransaction}
use Rattle.si_machine.specs.Kept.{machine_in, transaction_in}
use Rattle.si_machine.proofs.Parts.{find-map, missed-at}
use Rattle.si_machine.proofs.Steps.{step-within}
use Rattle.si_machine.proofs.ledger.Ledger.step.Goals as goal

pub step_without-requires-clause-none : goal.step_without-requires-clause-none
step_without-requires-clause-none c =
    find-map transaction_in (λ (t : Transaction). eqb t.session c.args.session) c.args.self.now.transactions.items
    ∙ ap (option_map transaction_in) (missed-at (λ (t : OpenTransaction). eqb t.session c.args.session) c.args.self.now.transactions.items (sym c.in-None.ensures))

pub returns-in-None-clause-ok : goal.returns-in-None-clause-ok
returns-in-None-clause-ok c =
    let machine = machine_in c.args.self.now in
    let none : transaction_of c.args.session machine ≡ None =
    find-map transaction_in (λ (t : Transaction). eqb t.session c.args.session) c.args.self.now.transactions.items
    ∙ ap (option_map transaction_in) (missed-at (λ (t : OpenTransaction). eqb t.session c.args.session) c.args.self.now.transactions.items (sym c.in-None.ensures)) in
    IfOk-weaker c.step_without.result _ _ (λ said h. ap (step_of machine (record { session = c.args.session; act = c.args.act })) none ∙ h) c.step_without.ensures.ok

pub returns-in-Some-clause-ok : goal.returns-in-Some-clause-ok
returns-in-Some-clause-ok c =
    step-within c.args.self.now c.step_within.new.self c.args.session c.args.act c.in-Some.at c.step_within.result (sym c.in-Some.ensures) c.step_within.ensures.answer
