use Rattle.std.proofs.Common.{◌≡◌, ℕ, ◌≤◌, nat_le, true, false, Some, refl, arith}
use Rattle.std.proofs.lemmas.Bool.Decides.{nat_tests}
use Rattle.isolation_spec.specs.Machine.{IsolationMachine, opening_from, step}
use Rattle.isolation_spec.specs.Store.{Answered, Full}
use Rattle.isolation_spec.specs.declared.command.Act.{Act}
use Rattle.isolation_spec.specs.declared.command.Act.TheVariants as act
use Rattle.isolation_spec.specs.declared.command.Answer.TheVariants as answer
use Rattle.outcome_spec.specs.Samples.{key_row}
use Rattle.timeline_spec.specs.Examples.{seven_rows}
use Rattle.timeline_spec.proofs.examples.a_full_table_comes_about.Goals as goal

-- a comparison that is computed
no_more : (a b : ℕ) → nat_le a b ≡ true → a ≤ b
no_more a b h = grind (arith, nat_tests, h)

abbrev behind : IsolationMachine → Act → IsolationMachine
behind machine act = (step machine (record { session = 1; act = act })).1

abbrev begun : IsolationMachine
begun = behind (opening_from seven_rows) (act.Begin false)

abbrev added : IsolationMachine
added = behind begun (act.Insert 0 (key_row 8))

pub returns : goal.returns
returns c = (
  (
    begun,
    record { outcome = Answered (answer.At 1); tells = refl; allows = refl },
    tt,
    (
      added,
      record { outcome = Answered answer.Accepted; tells = refl; allows = refl },
      tt,
      (
        added,
        record { outcome = Full; tells = refl; allows = (tt, refl, refl) },
        no_more _ _ refl,
        (
          behind added act.Commit,
          record { outcome = Answered (answer.Committed (Some 2)); tells = refl; allows = refl },
          tt,
          tt,
        ),
      ),
    ),
  ),
  λ full. absurd (omega (arith, full)),
)
