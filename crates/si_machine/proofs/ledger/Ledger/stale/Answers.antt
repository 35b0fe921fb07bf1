use Rattle.std.proofs.Common.{◌≡◌, ◌∙◌, true, false, Some, ap, sym}
use Rattle.isolation_spec.specs.Reads.{first_stale, last_meeting, reads_in}
use Rattle.si_machine.specs.Kept.{history_in, machine_in, transaction_in}
use Rattle.si_machine.proofs.Stales.{refused-at, refused-first, refused-idle, refused-none}
use Rattle.si_machine.proofs.ledger.Ledger.stale.Goals as goal

pub returns-in_err-transaction_of : goal.returns-in_err-transaction_of
returns-in_err-transaction_of c =
    c.from_residual.ensures ∙ sym (refused-none c.args.self.now c.args.session (Some c.args.reads.now) (sym c.transaction_of.ensures ∙ c.in_err-transaction_of.was))

pub returns-then-is_empty : goal.returns-then-is_empty
returns-then-is_empty c =
    let t = c.index-t.result.now in
    sym
    (refused-at c.args.self.now c.args.session c.in_ok-transaction_of.field-0 t (Some c.args.reads.now) (sym c.transaction_of.ensures ∙ c.in_ok-transaction_of.was) c.index-t.ensures
    ∙ refused-idle (machine_in c.args.self.now) (transaction_in t) t.own.entries (Some c.args.reads.now) (c.is_empty.ensures.0 c.if-is_empty.true))

pub returns : goal.returns
returns c =
    let t = c.index-t.result.now in
    c.first_stale.ensures
    ∙ ap (λ commits. first_stale (last_meeting (history_in commits) t.snapshot) (reads_in c.args.reads.now)) c.deref.ensures.value
    ∙ sym
    (refused-at c.args.self.now c.args.session c.in_ok-transaction_of.field-0 t (Some c.args.reads.now) (sym c.transaction_of.ensures ∙ c.in_ok-transaction_of.was) c.index-t.ensures
    ∙ refused-first (machine_in c.args.self.now) (transaction_in t) t.own.entries c.args.reads.now
    (λ none. let e : false ≡ true = sym c.if-is_empty.false ∙ c.is_empty.ensures.1 none in let never : ⊥ = cc in never))
