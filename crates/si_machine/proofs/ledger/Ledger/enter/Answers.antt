use Rattle.std.proofs.Common.{◌≡◌, ◌∙◌, ap, sym, subst, map, List, get_or, length, arith}
use Rattle.std.proofs.Math.ListN.{set}
use Rattle.std.specs.Vec.{with_items}
use Rattle.std.proofs.lemmas.List.{with_items_is}
use Rattle.isolation_spec.specs.Machine.{Transaction, entered}
use Rattle.si_machine.specs.declared.ledger.OpenTransaction.{OpenTransaction}
use Rattle.si_machine.specs.Kept.{Belongs, machine_in, open_at, transaction_in}
use Rattle.si_machine.proofs.Parts.{element-at, on-err}
use Rattle.si_machine.proofs.Steps.{belongs-added, belongs-entered, own-entered}
use Rattle.si_machine.proofs.ledger.Ledger.enter.Goals as goal

pub returns-in_err-register-clause-kept : goal.returns-in_err-register-clause-kept
returns-in_err-register-clause-kept c =
    belongs-added (machine_in c.args.self.now) c.args.self.now.writers c.register.new.self c.requires.kept c.register.ensures.numbers c.register.ensures.stays c.args.place c.requires.key c.register.ensures.only

pub returns-in_err-put-clause-kept : goal.returns-in_err-put-clause-kept
returns-in_err-put-clause-kept c =
    let before = c.args.self.now in
    let count : length c.put.new.transactions ≡ before.transactions.len = omega (arith, c.put.auto.transactions, ap length c.deref_mut.ensures.value, before.transactions.ok.0) in
    let items : (with_items before.transactions c.put.new.transactions).items ≡ c.put.new.transactions = with_items_is before.transactions c.put.new.transactions count in
    subst (λ (ts : List Transaction). Belongs (record (machine_in before) { open_transactions = ts }) c.register.new.self)
    (sym (ap (map transaction_in) items ∙ c.in_err-put.ensures.err ∙ ap (map transaction_in) c.deref_mut.ensures.value))
    (belongs-added (machine_in before) before.writers c.register.new.self c.requires.kept c.register.ensures.numbers c.register.ensures.stays c.args.place c.requires.key c.register.ensures.only)

pub returns-in_err-put-clause-err : goal.returns-in_err-put-clause-err
returns-in_err-put-clause-err c =
    let before = c.args.self.now in
    let count : length c.put.new.transactions ≡ before.transactions.len = omega (arith, c.put.auto.transactions, ap length c.deref_mut.ensures.value, before.transactions.ok.0) in
    let items : (with_items before.transactions c.put.new.transactions).items ≡ c.put.new.transactions = with_items_is before.transactions c.put.new.transactions count in
    on-err c.from_residual-in_err-put.result (ap (λ (ts : List Transaction). record (machine_in before) { open_transactions = ts })
    (ap (map transaction_in) items ∙ c.in_err-put.ensures.err ∙ ap (map transaction_in) c.deref_mut.ensures.value))

pub returns-clause-kept : goal.returns-clause-kept
returns-clause-kept c =
    let before = c.args.self.now in
    let none = element-at before.transactions.items c.args.at c.requires.there in
    let count : length c.put.new.transactions ≡ before.transactions.len = omega (arith, c.put.auto.transactions, ap length c.deref_mut.ensures.value, before.transactions.ok.0) in
    let items : (with_items before.transactions c.put.new.transactions).items ≡ c.put.new.transactions = with_items_is before.transactions c.put.new.transactions count in
    subst (λ (ts : List Transaction). Belongs (record (machine_in before) { open_transactions = ts }) c.register.new.self)
    (sym (ap (map transaction_in) items ∙ c.in_ok-put.ensures.ok none
    ∙ ap (λ (ts : List OpenTransaction). set (map transaction_in ts) c.args.at (entered c.args.place c.args.change (transaction_in (get_or ts c.args.at none)))) c.deref_mut.ensures.value
    ∙ own-entered before c.args.at none c.args.place c.args.change c.requires.kept c.requires.there))
    (belongs-entered (machine_in before) before.writers c.register.new.self c.requires.kept c.register.ensures.numbers c.register.ensures.stays (open_at before c.args.at none).session c.args.place c.args.change c.requires.key c.register.ensures.only c.in_ok-register.ensures.there)

pub returns-clause-ok : goal.returns-clause-ok
returns-clause-ok c = λ none.
    let before = c.args.self.now in
    let count : length c.put.new.transactions ≡ before.transactions.len = omega (arith, c.put.auto.transactions, ap length c.deref_mut.ensures.value, before.transactions.ok.0) in
    let items : (with_items before.transactions c.put.new.transactions).items ≡ c.put.new.transactions = with_items_is before.transactions c.put.new.transactions count in
    ap (λ (ts : List Transaction). record (machine_in before) { open_transactions = ts })
    (ap (map transaction_in) items ∙ c.in_ok-put.ensures.ok none
    ∙ ap (λ (ts : List OpenTransaction). set (map transaction_in ts) c.args.at (entered c.args.place c.args.change (transaction_in (get_or ts c.args.at none)))) c.deref_mut.ensures.value
    ∙ own-entered before c.args.at none c.args.place c.args.change c.requires.kept c.requires.there)
