-- What a write conflicts with, by the rivals and the numbers that are kept.
use Rattle.std.proofs.Common.{◌≡◌, ◌∙◌, ◌+◌, ◌≤◌, ◌<◌, ℕ, nat_le, true, false, not, ◌&&◌, eqb, List, Option, None, Some, refl, sym, ap, arith}
use Rattle.std.specs.Prelude.{option_map, drop}
use Rattle.std.specs.Option.{option_or}
use Rattle.std.specs.List.{find, last_or}
use Rattle.std.proofs.lemmas.Bool.Decides.{nat_tests}
use Rattle.isolation_spec.specs.declared.place.Place.{Place}
use Rattle.isolation_spec.specs.declared.command.Answer.{Answer}
use Rattle.isolation_spec.specs.declared.command.Answer.TheVariants as answer
use Rattle.isolation_spec.specs.Machine.{IsolationMachine, Transaction, conflict_of, later_writers, rival_of, writes_place}
use Rattle.isolation_laws.proofs.Later.{last_writer, last-later}
use Rattle.si_machine.specs.declared.ledger.Ledger.{Ledger}
use Rattle.si_machine.specs.declared.ledger.OpenTransaction.{OpenTransaction}
use Rattle.si_machine.specs.declared.writers.Writers.{Writers}
use Rattle.si_machine.specs.Kept.{Belongs, machine_in, numbers_at, transaction_in}
use Rattle.si_machine.proofs.Latest.{from_on, last-behind, last-numbers}
use Rattle.si_machine.proofs.Parts.{find-map}

-- the rivals that are kept
abbrev pub kept_rival : ℕ → Place → List OpenTransaction → Option OpenTransaction
kept_rival session place ts = find (λ t. not (eqb t.session session) && writes_place place t.own.entries) ts

-- A conflict told by the machine's transaction is one told by the kept one's session.
session-by : (o : Option OpenTransaction) → option_map (λ (rival : Transaction). answer.ConflictSession rival.session) (option_map transaction_in o)
    ≡ option_map answer.ConflictSession (option_map (λ (t : OpenTransaction). t.session) o)
session-by None = refl
session-by (Some t) = refl

-- The conflict with the machine's rival for a place is that with the kept one's session.
rival-is : (ledger : Ledger) (session : ℕ) (place : Place)
    → option_map (λ (rival : Transaction). answer.ConflictSession rival.session) (rival_of (machine_in ledger) session place)
    ≡ option_map answer.ConflictSession (option_map (λ (t : OpenTransaction). t.session) (kept_rival session place ledger.transactions.items))
rival-is ledger session place =
    ap (option_map (λ (rival : Transaction). answer.ConflictSession rival.session))
    (find-map transaction_in (λ (t : Transaction). not (eqb t.session session) && writes_place place t.own) ledger.transactions.items)
    ∙ session-by (kept_rival session place ledger.transactions.items)

-- the last of the later writers, by the numbers that are kept
later-is : (machine : IsolationMachine) (writers : Writers) (n : ℕ) (place : Place) → Belongs machine writers
    → last_or None (later_writers machine.history n place) ≡ from_on (1 + n) (last_or None (numbers_at writers place))
later-is machine writers n place h =
    let turned : n + 1 ≡ 1 + n = omega arith in
    last-later machine.history n place
    ∙ ap (λ (at : ℕ). last_writer place at (drop n machine.history)) turned
    ∙ last-behind place 1 n machine.history
    ∙ ap (from_on (1 + n)) (sym (last-numbers place 1 machine.history) ∙ sym (ap (last_or None) (h.numbers place)))

-- A conflict by the session of a rival, if there is one, and by the newest number.
abbrev pub conflict_by : ℕ → Option ℕ → Option ℕ → Option Answer
conflict_by snapshot rival newest = option_or (option_map answer.ConflictSession rival) (option_map answer.ConflictCommit (from_on (1 + snapshot) newest))

-- what a write conflicts with is told by the rivals and the numbers that are kept
pub conflict-is : (ledger : Ledger) (t : OpenTransaction) (place : Place) → Belongs (machine_in ledger) ledger.writers
    → conflict_of (machine_in ledger) (transaction_in t) place
    ≡ conflict_by t.snapshot (option_map (λ (u : OpenTransaction). u.session) (kept_rival t.session place ledger.transactions.items)) (last_or None (numbers_at ledger.writers place))
conflict-is ledger t place h =
    ap (λ (o : Option Answer). option_or o (option_map (λ (number : ℕ). answer.ConflictCommit number) (last_or None (later_writers (machine_in ledger).history t.snapshot place)))) (rival-is ledger t.session place)
    ∙ ap (λ (o : Option ℕ). option_or (option_map answer.ConflictSession (option_map (λ (u : OpenTransaction). u.session) (kept_rival t.session place ledger.transactions.items))) (option_map answer.ConflictCommit o))
    (later-is (machine_in ledger) ledger.writers t.snapshot place h)

-- a commit within the snapshot is no conflict
pub commit-old : (snapshot number : ℕ) → number ≤ snapshot → None ≡ conflict_by snapshot None (Some number)
commit-old snapshot number low = let past : nat_le (1 + snapshot) number ≡ false = grind (arith, nat_tests, low) in rw past refl

-- a commit behind the snapshot is the conflict that is answered
pub commit-new : (snapshot number : ℕ) → snapshot < number → Some (answer.ConflictCommit number) ≡ conflict_by snapshot None (Some number)
commit-new snapshot number above = let within : nat_le (1 + snapshot) number ≡ true = grind (arith, nat_tests, above) in rw within refl
