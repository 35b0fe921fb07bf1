-- Worked examples of transactions one behind the other.
use Rattle.std.specs.Prelude.{◌≡◌, true, false, List, [], ◌∷◌, ◌++◌, codes, pos, Some}
use Rattle.isolation_spec.specs.declared.command.Act.TheVariants as act
use Rattle.isolation_spec.specs.declared.command.Answer.TheVariants as answer
use Rattle.workload_spec.specs.Words.{lines_text}
use Rattle.outcome_spec.specs.BegunExamples.{behind_two}
use Rattle.outcome_spec.specs.CheckedExamples.{skewed, skewed_lines}
use Rattle.outcome_spec.specs.Explained.{run_in}
use Rattle.outcome_spec.specs.Samples.{begin, begin_checked, commit, get, text_row, update}
use Rattle.serial_laws.specs.Alone.{Step, serial_steps, step_of}

-- The first transaction writes the keys 1 and 2. Of two checked ones that see it, the one that
-- committed stands behind it as the second, and the other, which was refused and aborted, as one
-- that left nothing, right behind the commit that it saw.
abbrev pub first_steps : List Step
first_steps = step_of 1 (act.Begin false, answer.At 0)
    ∷ step_of 1 (act.Insert 0 (text_row 1 (codes "x")), answer.Accepted)
    ∷ step_of 1 (act.Insert 0 (text_row 2 (codes "x")), answer.Accepted)
    ∷ step_of 1 (act.Commit, answer.Committed (Some 1)) ∷ []

abbrev pub refused_steps : List Step
refused_steps = step_of 1 (act.Begin true, answer.At 1)
    ∷ step_of 1 (act.Get 0 (pos 2), answer.Found (Some (text_row 2 (codes "x"))))
    ∷ step_of 1 (act.Update 0 (text_row 1 (codes "y")), answer.Accepted)
    ∷ step_of 1 (act.Abort, answer.Aborted) ∷ []

abbrev pub second_steps : List Step
second_steps = step_of 2 (act.Begin true, answer.At 1)
    ∷ step_of 2 (act.Get 0 (pos 1), answer.Found (Some (text_row 1 (codes "x"))))
    ∷ step_of 2 (act.Update 0 (text_row 2 (codes "y")), answer.Accepted)
    ∷ step_of 2 (act.Commit, answer.Committed (Some 2)) ∷ []

abbrev pub RefusedSkewIsOneRun : Type 0
RefusedSkewIsOneRun = serial_steps (run_in (skewed (begin_checked 1))
    (lines_text (skewed_lines ++ codes "4 1 1 stale a 2 #2" ∷ codes "4 1 2 aborted" ∷ [])))
    ≡ first_steps ++ refused_steps ++ second_steps

-- Over a store that begins with two commits: one session sees them alone, and another, which saw
-- them too, commits as the third.
abbrev pub ReadersOfTheFirstStandInFront : Type 0
ReadersOfTheFirstStandInFront =
    serial_steps (run_in (behind_two
    ((begin_checked 1 ∷ get 1 1 ∷ update 1 1 (codes "z") ∷ commit 1 ∷ begin 2 ∷ get 2 1 ∷ []) ∷ []))
    (lines_text (codes "1 1 1 at 2" ∷ codes "1 1 2 row 1 \"y\"" ∷ codes "1 1 3 ok"
    ∷ codes "1 1 4 committed 3" ∷ codes "1 2 1 at 2" ∷ codes "1 2 2 row 1 \"y\"" ∷ [])))
    ≡ step_of 2 (act.Begin false, answer.At 2)
    ∷ step_of 2 (act.Get 0 (pos 1), answer.Found (Some (text_row 1 (codes "y"))))
    ∷ step_of 2 (act.Abort, answer.Aborted)
    ∷ step_of 1 (act.Begin true, answer.At 2)
    ∷ step_of 1 (act.Get 0 (pos 1), answer.Found (Some (text_row 1 (codes "y"))))
    ∷ step_of 1 (act.Update 0 (text_row 1 (codes "z")), answer.Accepted)
    ∷ step_of 1 (act.Commit, answer.Committed (Some 3))
    ∷ []
