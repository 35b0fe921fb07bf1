-- What a commit that hands in reads leaves.
use Rattle.std.proofs.Common.{◌≡◌, ℕ, ◌+◌, [], ◌∷◌, length, Option, None, Some, refl, sym, ap, ◌∙◌}
use Rattle.isolation_laws.proofs.Checked.{commit-refused, commit-stands}
use Rattle.isolation_spec.specs.Checked.{stale_of, step_with}
use Rattle.isolation_spec.specs.Contents.{WriteSet}
use Rattle.isolation_spec.specs.declared.command.Act.TheVariants as act
use Rattle.isolation_spec.specs.declared.command.Answer.{Answer}
use Rattle.isolation_spec.specs.declared.command.Answer.TheVariants as answer
use Rattle.isolation_spec.specs.declared.command.Command.{Command}
use Rattle.isolation_spec.specs.declared.read.Read.{Read}
use Rattle.isolation_spec.specs.Machine.{IsolationMachine, Transaction, commit, step, step_of, transaction_of}
use Rattle.isolation_spec.specs.Reads.{ReadSet}

-- a session commits
abbrev commits : ℕ → Command
commits q = record { session = q; act = act.Commit }

-- An answer of the machine, with the machine behind it.
abbrev answered : Answer → IsolationMachine → Answer × IsolationMachine
answered said after = (said, after)

-- Steps that are the same have the same answer.
said_is : (a b : Answer) (m n : IsolationMachine) → answered a m ≡ answered b n → a ≡ b
said_is a b m n e = ap (λ (p : Answer × IsolationMachine). p.0) e

-- a read that was found stale, with the commit that met it
abbrev found : Read → ℕ → Read × ℕ
found what number = (what, number)

-- That a commit is stale is not the answer that it stands.
not_stands : (what : Read) (number : ℕ) (committed : Option ℕ) → answer.Stale what number ≡ answer.Committed committed → ⊥
not_stands what number committed e = cc

-- That there is no transaction is not the answer that a commit is stale.
not_without : (what : Read) (number : ℕ) → answer.NoTransaction ≡ answer.Stale what number → ⊥
not_without what number e = cc

module _ (m next : IsolationMachine) (reads : Option ReadSet) (q : ℕ) where
  -- a commit that stands is the plain machine's
  pub committed_is : (number : Option ℕ) → step_with m reads (commits q) ≡ answered (answer.Committed number) next
      → step m (commits q) ≡ answered (answer.Committed number) next
  committed_is number h = go (stale_of m reads q act.Commit) refl
    where
      go : (o : Option (Read × ℕ)) → stale_of m reads q act.Commit ≡ o → step m (commits q) ≡ answered (answer.Committed number) next
      go None is = sym (commit-stands m reads q is) ∙ h
      go (Some stale) is = absurd (not_stands stale.0 stale.1 number
          (said_is (answer.Stale stale.0 stale.1) (answer.Committed number) m next (sym (commit-refused m reads q stale is) ∙ h)))

  -- one that is stale is so by what it handed in
  pub stale_is : (what : Read) (number : ℕ) → step_with m reads (commits q) ≡ answered (answer.Stale what number) next → stale_of m reads q act.Commit ≡ Some (what, number)
  stale_is what number h = go (stale_of m reads q act.Commit) refl
    where
      never : (t : Transaction) (own : WriteSet) → commit m t own ≡ answered (answer.Stale what number) next → ⊥
      never t [] e = not_stands what number None (sym (said_is (answer.Committed None) (answer.Stale what number) (commit m t []).1 next e))
      never t (first ∷ rest) e = not_stands what number (Some (length m.history + 1))
          (sym (said_is (commit m t (first ∷ rest)).0 (answer.Stale what number) (commit m t (first ∷ rest)).1 next e))

      by_open : (o : Option Transaction) → step_of m (commits q) o ≡ answered (answer.Stale what number) next → ⊥
      by_open None e = not_without what number (said_is answer.NoTransaction (answer.Stale what number) m next e)
      by_open (Some t) e = never t t.own e

      same : (a b : Read) (k n : ℕ) → answer.Stale a k ≡ answer.Stale b n → found a k ≡ found b n
      same a b k n e = cc

      go : (o : Option (Read × ℕ)) → stale_of m reads q act.Commit ≡ o → o ≡ Some (what, number)
      go None is = absurd (by_open (transaction_of q m) (sym (commit-stands m reads q is) ∙ h))
      go (Some stale) is = ap Some (same stale.0 what stale.1 number
          (said_is (answer.Stale stale.0 stale.1) (answer.Stale what number) m next (sym (commit-refused m reads q stale is) ∙ h)))

  -- and leaves the machine
  pub stale_stays : (what : Read) (number : ℕ) → step_with m reads (commits q) ≡ answered (answer.Stale what number) next → next ≡ m
  stale_stays what number h = ap (λ (p : Answer × IsolationMachine). p.1) (sym h ∙ commit-refused m reads q (what, number) (stale_is what number h))
