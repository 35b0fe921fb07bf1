use Rattle.std.proofs.Common.{◌≡◌, ℕ, ◌<◌, nat_lt, true, false, pos, None, Some, codes, refl, arith, inl, inr}
use Rattle.std.proofs.lemmas.Bool.Decides.{nat_tests}
use Rattle.isolation_spec.specs.Machine.{IsolationMachine, opening, step}
use Rattle.isolation_spec.specs.Store.{Answered}
use Rattle.isolation_spec.specs.declared.command.Act.{Act}
use Rattle.isolation_spec.specs.declared.command.Act.TheVariants as act
use Rattle.isolation_spec.specs.declared.command.Answer.TheVariants as answer
use Rattle.isolation_spec.specs.declared.read.Read.TheVariants as read
use Rattle.outcome_spec.specs.Samples.{text_row}
use Rattle.timeline_spec.proofs.examples.a_stale_commit_comes_about.Goals as goal

-- a comparison that is computed
less : (a b : ℕ) → nat_lt a b ≡ true → a < b
less a b h = grind (arith, nat_tests, h)

abbrev behind : IsolationMachine → ℕ → Act → IsolationMachine
behind machine session act = (step machine (record { session = session; act = act })).1

abbrev after_0 : IsolationMachine
after_0 = behind opening 1 (act.Begin true)

abbrev after_2 : IsolationMachine
after_2 = behind after_0 1 (act.Insert 0 (text_row 1 (codes "x")))

abbrev after_3 : IsolationMachine
after_3 = behind after_2 2 (act.Begin false)

abbrev after_4 : IsolationMachine
after_4 = behind after_3 2 (act.Insert 0 (text_row 5 (codes "y")))

abbrev after_5 : IsolationMachine
after_5 = behind after_4 2 act.Commit

pub returns : goal.returns
returns c = (
  (
    (inr (less _ _ refl), refl),
    (
      (inl tt, refl),
      (
        (inl tt, refl),
        ((inr (less _ _ refl), refl), ((inl tt, refl), ((inl (less _ _ refl), refl), ((inl (refl, less _ _ refl), refl), tt)))),
      ),
    ),
  ),
  (
    after_0,
    record { outcome = Answered (answer.At 0); tells = refl; allows = refl },
    tt,
    (
      after_0,
      record { outcome = Answered (answer.Found None); tells = refl; allows = refl },
      tt,
      (
        after_2,
        record { outcome = Answered answer.Accepted; tells = refl; allows = refl },
        tt,
        (
          after_3,
          record { outcome = Answered (answer.At 0); tells = refl; allows = refl },
          tt,
          (
            after_4,
            record { outcome = Answered answer.Accepted; tells = refl; allows = refl },
            tt,
            (
              after_5,
              record { outcome = Answered (answer.Committed (Some 1)); tells = refl; allows = refl },
              tt,
              (
                after_5,
                record { outcome = Answered (answer.Stale (read.Key 0 (pos 5)) 1); tells = refl; allows = refl },
                tt,
                tt,
              ),
            ),
          ),
        ),
      ),
    ),
  ),
)
