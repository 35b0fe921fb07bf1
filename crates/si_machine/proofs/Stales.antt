-- Why a commit is refused, by what the program keeps.
use Rattle.std.proofs.Common.{◌≡◌, ◌∙◌, ℕ, [], ◌∷◌, length, get_or, eqb, Option, None, Some, refl, sym, ap, arith}
use Rattle.std.specs.Prelude.{option_map, position}
use Rattle.isolation_spec.specs.Checked.{stale_of, stale_read}
use Rattle.isolation_spec.specs.Contents.{WriteSet}
use Rattle.isolation_spec.specs.Machine.{IsolationMachine, Transaction}
use Rattle.isolation_spec.specs.Reads.{ReadSet, first_stale, last_meeting, reads_in}
use Rattle.isolation_spec.specs.declared.command.Act.TheVariants as act
use Rattle.isolation_laws.proofs.Checked.{stale-closed, stale-open}
use Rattle.si_machine.specs.declared.ledger.Ledger.{Ledger}
use Rattle.si_machine.specs.declared.ledger.OpenTransaction.{OpenTransaction}
use Rattle.si_machine.specs.Kept.{machine_in, transaction_in}
use Rattle.si_machine.proofs.Parts.{find-map, found-at, missed-at}

-- a session without a transaction is not refused
pub refused-none : (ledger : Ledger) (session : ℕ) (reads : Option ReadSet) → position (λ (t : OpenTransaction). eqb t.session session) ledger.transactions.items ≡ None
    → stale_of (machine_in ledger) reads session act.Commit ≡ None
refused-none ledger session reads none =
    stale-closed (machine_in ledger) reads session
    (find-map transaction_in (λ (t : Transaction). eqb t.session session) ledger.transactions.items ∙ ap (option_map transaction_in) (missed-at (λ (t : OpenTransaction). eqb t.session session) ledger.transactions.items none))

-- why the commit of a kept transaction is refused
pub refused-at : (ledger : Ledger) (session at : ℕ) (t : OpenTransaction) (reads : Option ReadSet) → position (λ (u : OpenTransaction). eqb u.session session) ledger.transactions.items ≡ Some at
    → t ≡ get_or ledger.transactions.items at t → stale_of (machine_in ledger) reads session act.Commit ≡ stale_read (machine_in ledger) (transaction_in t) t.own.entries reads
refused-at ledger session at t reads is same =
    let found = found-at (λ (u : OpenTransaction). eqb u.session session) ledger.transactions.items at is in
    stale-open (machine_in ledger) reads session (transaction_in t)
    (find-map transaction_in (λ (u : Transaction). eqb u.session session) ledger.transactions.items ∙ ap (option_map transaction_in) found.found
    ∙ ap (λ (u : OpenTransaction). Some (transaction_in u)) (sym (found.there t) ∙ sym same))

-- one without writes is not refused
pub refused-idle : (machine : IsolationMachine) (t : Transaction) (own : WriteSet) (reads : Option ReadSet) → length own ≡ 0 → stale_read machine t own reads ≡ None
refused-idle machine t [] reads none = refl
refused-idle machine t (first ∷ rest) reads none = absurd (omega (arith, none))

-- one with writes is so for its first stale read
pub refused-first : (machine : IsolationMachine) (t : Transaction) (own : WriteSet) (reads : ReadSet) → (length own ≡ 0 → ⊥)
    → stale_read machine t own (Some reads) ≡ first_stale (last_meeting machine.history t.snapshot) (reads_in reads)
refused-first machine t [] reads some = absurd (some refl)
refused-first machine t (first ∷ rest) reads some = refl
