-- The front of a round, by how many of its commands each session carried out.
use Rattle.std.specs.Prelude.{◌≡◌, ℕ, ◌==◌, nat_lt, ◌-◌, true, List, [], ◌∷◌, ◌++◌, filter, take}
use Rattle.std.specs.Prelude.{if◌then◌else◌}
use Rattle.outcome_spec.specs.Forms.{commands_of}
use Rattle.workload_spec.specs.Valid.{is_valid}
use Rattle.workload_spec.specs.declared.script.Line.{Line}
use Rattle.workload_spec.specs.declared.script.Script.{Script}

-- the workload with these rounds in place of its own
abbrev pub with_rounds : List (List Line) → Script → Script
with_rounds rounds script = record script { rounds = rounds }

-- the lines of a session in a round
abbrev pub lines_of : ℕ → List Line → List Line
lines_of session lines = filter (λ line. line.session == session) lines

-- the lines are the first ones of each session in a round
abbrev pub AreFirstLines : List Line → List Line → Type 0
AreFirstLines lines round =
    (session : ℕ) → (rest : List Line) × (lines_of session round ≡ lines_of session lines ++ rest)

-- the counts of sessions, one less for this one
abbrev pub one_less : ℕ → (ℕ → ℕ) → ℕ → ℕ
one_less session counts other = if session == other then counts other - 1 else counts other

-- Of a round's lines the first so many of each session.
abbrev pub first_lines : (ℕ → ℕ) → List Line → List Line
first_lines counts [] = []
first_lines counts (line ∷ lines) =
    if nat_lt 0 (counts line.session)
    then line ∷ first_lines (one_less line.session counts) lines
    else first_lines counts lines

-- They are the first lines of each session, and ask each session its first so many commands.
abbrev pub FirstLinesAreSo : Type 0
FirstLinesAreSo = (counts : ℕ → ℕ) (lines : List Line)
    → AreFirstLines (first_lines counts lines) lines

abbrev pub FirstLinesAsk : Type 0
FirstLinesAsk = (counts : ℕ → ℕ) (lines : List Line) (session : ℕ)
    → commands_of session (first_lines counts lines)
    ≡ take (counts session) (commands_of session lines)

-- The first rounds of a workload, at least one, are a workload, and so they are with first lines of
-- the next.
abbrev pub FirstRoundsAreValid : Type 0
FirstRoundsAreValid = (script : Script) (first : List Line) (whole rest : List (List Line))
    → script.rounds ≡ (first ∷ whole) ++ rest
    → is_valid script ≡ true
    → is_valid (with_rounds (first ∷ whole) script) ≡ true

abbrev pub FrontsAreValid : Type 0
FrontsAreValid = (script : Script) (counts : ℕ → ℕ) (round : List Line)
    (whole rest : List (List Line))
    → script.rounds ≡ whole ++ round ∷ rest
    → is_valid script ≡ true
    → is_valid (with_rounds (whole ++ first_lines counts round ∷ []) script) ≡ true
