-- Where nothing is handed in, the machine's step is the plain one.
use Rattle.std.proofs.Common.{◌≡◌, ℕ, [], ◌∷◌, Option, None, Some, option_and_then, refl, ap}
use Rattle.isolation_spec.specs.Checked.{stale_of, stale_read, step_with}
use Rattle.isolation_spec.specs.Contents.{WriteSet}
use Rattle.isolation_spec.specs.declared.command.Act.{Act}
use Rattle.isolation_spec.specs.declared.command.Act.TheVariants as act
use Rattle.isolation_spec.specs.declared.command.Answer.TheVariants as answer
use Rattle.isolation_spec.specs.declared.command.Command.{Command}
use Rattle.isolation_spec.specs.declared.read.Read.{Read}
use Rattle.isolation_spec.specs.Machine.{IsolationMachine, Transaction, step, transaction_of}

-- Nothing that was not read is stale.
none_stale : (m : IsolationMachine) (q : ℕ) (what : Act) → stale_of m None q what ≡ None
none_stale m q (act.Begin checked) = refl
none_stale m q (act.Get table key) = refl
none_stale m q (act.Scan table) = refl
none_stale m q (act.Range table low high) = refl
none_stale m q (act.Total table column low high) = refl
none_stale m q (act.Insert table row) = refl
none_stale m q (act.Update table row) = refl
none_stale m q (act.Delete table key) = refl
none_stale m q act.Commit = go (transaction_of q m)
  where
    of : (t : Transaction) (own : WriteSet) → stale_read m t own None ≡ None
    of t [] = refl
    of t (w ∷ own) = refl

    go : (o : Option Transaction) → option_and_then (λ t. stale_read m t t.own None) o ≡ None
    go None = refl
    go (Some t) = of t t.own
none_stale m q act.Abort = refl

pub plain : (m : IsolationMachine) (command : Command) → step_with m None command ≡ step m command
plain m command =
    ap (λ (found : Option (Read × ℕ)). elim found [
      | Some stale ↦ (answer.Stale stale.0 stale.1, m)
      | None ↦ step m command
    ]) (none_stale m command.session command.act)
