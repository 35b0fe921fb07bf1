use Rattle.std.proofs.Common.{◌∙◌, ℕ, ap, sym, None, Option}
use Rattle.std.specs.List.{last_or}
use Rattle.std.proofs.lemmas.List.{get_or_default}
use Rattle.isolation_spec.specs.Machine.{conflict_of}
use Rattle.si_machine.specs.declared.ledger.OpenTransaction.{OpenTransaction}
use Rattle.si_machine.specs.Kept.{machine_in, numbers_at, transaction_in}
use Rattle.si_machine.proofs.Conflicts.{conflict-is, conflict_by, commit-old, commit-new}
use Rattle.si_machine.proofs.ledger.Ledger.conflict.Goals as goal

pub returns-in-Some : goal.returns-in-Some
returns-in-Some c = λ none.
    let t = c.index-t.result.now in
    ap (λ (o : Option ℕ). conflict_by t.snapshot o (last_or None (numbers_at c.args.self.now.writers c.args.place.now))) c.in-Some.ensures
    ∙ sym (conflict-is c.args.self.now t c.args.place.now c.requires.kept)
    ∙ ap (λ (u : OpenTransaction). conflict_of (machine_in c.args.self.now) (transaction_in u) c.args.place.now) (c.index-t.ensures ∙ get_or_default c.args.self.now.transactions.items c.args.at t none c.requires.there)

pub returns-in_err-newest : goal.returns-in_err-newest
returns-in_err-newest c = λ none.
    let t = c.index-t.result.now in
    c.from_residual.ensures
    ∙ ap (conflict_by t.snapshot None) c.in_err-newest.ensures
    ∙ ap (λ (o : Option ℕ). conflict_by t.snapshot o (last_or None (numbers_at c.args.self.now.writers c.args.place.now))) c.in_default.ensures
    ∙ sym (conflict-is c.args.self.now t c.args.place.now c.requires.kept)
    ∙ ap (λ (u : OpenTransaction). conflict_of (machine_in c.args.self.now) (transaction_in u) c.args.place.now) (c.index-t.ensures ∙ get_or_default c.args.self.now.transactions.items c.args.at t none c.requires.there)

pub returns-then-newest-t : goal.returns-then-newest-t
returns-then-newest-t c = λ none.
    let t = c.index-t.result.now in
    commit-old t.snapshot c.in_ok-newest.newest c.if-newest-t.true
    ∙ ap (conflict_by t.snapshot None) c.in_ok-newest.ensures
    ∙ ap (λ (o : Option ℕ). conflict_by t.snapshot o (last_or None (numbers_at c.args.self.now.writers c.args.place.now))) c.in_default.ensures
    ∙ sym (conflict-is c.args.self.now t c.args.place.now c.requires.kept)
    ∙ ap (λ (u : OpenTransaction). conflict_of (machine_in c.args.self.now) (transaction_in u) c.args.place.now) (c.index-t.ensures ∙ get_or_default c.args.self.now.transactions.items c.args.at t none c.requires.there)

pub returns : goal.returns
returns c = λ none.
    let t = c.index-t.result.now in
    commit-new t.snapshot c.in_ok-newest.newest c.if-newest-t.false
    ∙ ap (conflict_by t.snapshot None) c.in_ok-newest.ensures
    ∙ ap (λ (o : Option ℕ). conflict_by t.snapshot o (last_or None (numbers_at c.args.self.now.writers c.args.place.now))) c.in_default.ensures
    ∙ sym (conflict-is c.args.self.now t c.args.place.now c.requires.kept)
    ∙ ap (λ (u : OpenTransaction). conflict_of (machine_in c.args.self.now) (transaction_in u) c.args.place.now) (c.index-t.ensures ∙ get_or_default c.args.self.now.transactions.items c.args.at t none c.requires.there)
