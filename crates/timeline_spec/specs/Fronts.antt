-- The front of a workload: its first rounds, and of the next round the first lines, session by
-- session.
use Rattle.std.specs.Prelude.{ℕ, zero, suc, ◌==◌, nat_lt, List, [], ◌∷◌, ◌++◌, take, get_or}
use Rattle.std.specs.Prelude.{if◌then◌else◌}
use Rattle.workload_spec.specs.declared.script.Line.{Line}
use Rattle.workload_spec.specs.declared.script.Script.{Script}

-- The workload of the first rounds.
abbrev pub first_rounds : ℕ → Script → Script
first_rounds count script = record script { rounds = take count script.rounds }

-- the lines of the sessions below this one, and the first so many of its own
abbrev pub lines_up_to : ℕ → ℕ → List Line → List Line
lines_up_to session count [] = []
lines_up_to session zero (line ∷ lines) =
    if nat_lt line.session session then line ∷ lines_up_to session zero lines
    else lines_up_to session zero lines
lines_up_to session (suc count) (line ∷ lines) =
    if nat_lt line.session session then line ∷ lines_up_to session (suc count) lines
    else if line.session == session then line ∷ lines_up_to session count lines
    else lines_up_to session (suc count) lines

-- The workload of the first rounds, and of the next round the lines up to some of a session's, in
-- the order in which they are answered where sessions take turns.
abbrev pub front_of : ℕ → ℕ → ℕ → Script → Script
front_of rounds session count script =
    record script {
      rounds = take rounds script.rounds
          ++ lines_up_to session count (get_or script.rounds rounds []) ∷ [];
    }
