-- The rounds of a workload, line by line.
use Rattle.std.proofs.Common.{◌≡◌, ℕ, ◌+◌, ◌<◌, Bool, true, false, List, [], ◌∷◌, ◌++◌, length, refl, sym, ap, ◌∙◌, append_assoc, arith}
use Rattle.std.specs.Prelude.{◌&&◌, ◌||◌, bytes_eq, codes, Result, Ok, Err}
use Rattle.std.proofs.lemmas.List.{append-nil}
use Rattle.cell_model.specs.declared.table.TableDecl.{TableDecl}
use Rattle.workload_spec.specs.declared.extent.Extent.{Extent}
use Rattle.workload_spec.specs.declared.script.Line.{Line}
use Rattle.workload_spec.specs.Reading.{onto_first, parts, words_of}
use Rattle.workload_spec.specs.Valid.{is_export}
use Rattle.workload_spec.specs.Words.{line_feed}
use Rattle.workload_spec.specs.Grammar.{◌>>=◌, Fault, line_of, rounds_from}
use Rattle.script_text.specs.declared.fault.WordFault.{WordFault}
use Rattle.script_text.specs.declared.fault.WordFault.TheVariants as word
use Rattle.script_text.specs.Answers.{Fails, LineFails, fault_on_line}
use Rattle.script_text.proofs.NextLines.{parts_some}
use Rattle.workload_laws.proofs.Results.{chosen, passed}
use Rattle.workload_laws.proofs.NarrowRounds.{rounds_some, behind_line, behind_parting}

-- rounds that are done and lines of a round that is not, before the rounds of the lines that are
-- left
abbrev pub with_front : List (List Line) → List Line → List (List Line) → List (List Line)
with_front done lines [] = done ++ lines ∷ []
with_front done lines (first ∷ others) = done ++ (lines ++ first) ∷ others

-- what is read with those before it
abbrev pub Read : Extent → List TableDecl → ℕ → ℕ → Bool → List (List ℕ) → List (List Line) → List Line → Result (List (List Line)) Fault
Read extent tables sessions at exported all done lines = rounds_from extent tables sessions at exported all >>= λ more. Ok (with_front done lines more)

-- A line that parts no rounds is read as a line of the round.
line_step : (extent : Extent) (tables : List TableDecl) (sessions at : ℕ) (exported : Bool) (line : List ℕ) (rest : List (List ℕ)) → 0 < length rest → (extent.parts_rounds && bytes_eq line (codes "--")) ≡ false
    → rounds_from extent tables sessions at exported (line ∷ rest) ≡ behind_line extent tables sessions at exported line rest
line_step extent tables sessions at exported line [] some is = absurd (omega (arith, some))
line_step extent tables sessions at exported [] (next ∷ rest) some is =
    passed (extent.parts_rounds && bytes_eq [] (codes "--")) (behind_parting extent tables sessions at exported (next ∷ rest)) (behind_line extent tables sessions at exported [] (next ∷ rest)) is
line_step extent tables sessions at exported (byte ∷ bytes) (next ∷ rest) some is =
    passed (extent.parts_rounds && bytes_eq (byte ∷ bytes) (codes "--")) (behind_parting extent tables sessions at exported (next ∷ rest)) (behind_line extent tables sessions at exported (byte ∷ bytes) (next ∷ rest)) is

-- A line that parts rounds ends its round.
parting_step : (extent : Extent) (tables : List TableDecl) (sessions at : ℕ) (exported : Bool) (line : List ℕ) (rest : List (List ℕ)) → 0 < length rest → (extent.parts_rounds && bytes_eq line (codes "--")) ≡ true
    → rounds_from extent tables sessions at exported (line ∷ rest) ≡ behind_parting extent tables sessions at exported rest
parting_step extent tables sessions at exported line [] some is = absurd (omega (arith, some))
parting_step extent tables sessions at exported [] (next ∷ rest) some is =
    chosen (extent.parts_rounds && bytes_eq [] (codes "--")) (behind_parting extent tables sessions at exported (next ∷ rest)) (behind_line extent tables sessions at exported [] (next ∷ rest)) is
parting_step extent tables sessions at exported (byte ∷ bytes) (next ∷ rest) some is =
    chosen (extent.parts_rounds && bytes_eq (byte ∷ bytes) (codes "--")) (behind_parting extent tables sessions at exported (next ∷ rest)) (behind_line extent tables sessions at exported (byte ∷ bytes) (next ∷ rest)) is

-- A line in front of what is read joins the lines of its round.
line_front : (done : List (List Line)) (lines : List Line) (read : Line) (more : List (List Line)) → with_front done lines (onto_first read more) ≡ with_front done (lines ++ read ∷ []) more
line_front done lines read [] = refl
line_front done lines read (first ∷ others) = ap (λ (round : List Line). done ++ round ∷ others) (sym (append_assoc lines (read ∷ []) first))

-- A line that is read joins those of its round before or after the others are read.
lines_regrouped : (done : List (List Line)) (lines : List Line) (read : Line) (behind : Result (List (List Line)) Fault)
    → ((behind >>= λ rounds. Ok (onto_first read rounds)) >>= λ more. Ok (with_front done lines more)) ≡ (behind >>= λ more. Ok (with_front done (lines ++ read ∷ []) more))
lines_regrouped done lines read (Ok more) = ap (λ (all : List (List Line)). Ok all) (line_front done lines read more)
lines_regrouped done lines read (Err fault) = refl

-- a line that is read joins those before it
pub line_read : (extent : Extent) (tables : List TableDecl) (sessions at : ℕ) (exported : Bool) (line behind : List ℕ) (done : List (List Line)) (lines : List Line) (read : Line)
    → (extent.parts_rounds && bytes_eq line (codes "--")) ≡ false → line_of extent tables sessions exported (words_of line) ≡ Ok read
    → Read extent tables sessions at exported (line ∷ parts line_feed behind) done lines ≡ Read extent tables sessions (at + 1) (exported || is_export read.command) (parts line_feed behind) done (lines ++ read ∷ [])
line_read extent tables sessions at exported line behind done lines read other is =
    let step = line_step extent tables sessions at exported line (parts line_feed behind) (parts_some line_feed behind) other in
    rw (step, is) (lines_regrouped done lines read (rounds_from extent tables sessions (at + 1) (exported || is_export read.command) (parts line_feed behind)))

-- a line that is none is the fault
pub line_bad : (extent : Extent) (tables : List TableDecl) (sessions at : ℕ) (exported : Bool) (line behind : List ℕ) (done : List (List Line)) (lines : List Line) (fault : WordFault)
    → (extent.parts_rounds && bytes_eq line (codes "--")) ≡ false → Fails fault (line_of extent tables sessions exported (words_of line))
    → LineFails (fault_on_line at fault) (Read extent tables sessions at exported (line ∷ parts line_feed behind) done lines)
line_bad extent tables sessions at exported line behind done lines (word.Bad cause) other fails =
    let step = line_step extent tables sessions at exported line (parts line_feed behind) (parts_some line_feed behind) other in
    rw (step, fails) refl
line_bad extent tables sessions at exported line behind done lines (word.Memory refused) other fails = tt

-- A round that ends in front of what is read joins the rounds that are done.
round_front : (done : List (List Line)) (lines : List Line) (more : List (List Line)) → 0 < length more → with_front done lines ([] ∷ more) ≡ with_front (done ++ lines ∷ []) [] more
round_front done lines [] some = absurd (omega (arith, some))
round_front done lines (first ∷ others) some = ap (λ (round : List Line). done ++ round ∷ first ∷ others) (append-nil lines) ∙ sym (append_assoc done (lines ∷ []) (first ∷ others))

-- A round that ends joins those that are done before or after the others are read.
rounds_regrouped : (done : List (List Line)) (lines : List Line) (behind : Result (List (List Line)) Fault) → ((more : List (List Line)) → behind ≡ Ok more → 0 < length more)
    → ((behind >>= λ rounds. Ok ([] ∷ rounds)) >>= λ more. Ok (with_front done lines more)) ≡ (behind >>= λ more. Ok (with_front (done ++ lines ∷ []) [] more))
rounds_regrouped done lines (Ok more) some = ap (λ (all : List (List Line)). Ok all) (round_front done lines more (some more refl))
rounds_regrouped done lines (Err fault) some = refl

-- a line `--` ends the round
pub round_read : (extent : Extent) (tables : List TableDecl) (sessions at : ℕ) (exported : Bool) (line behind : List ℕ) (done : List (List Line)) (lines : List Line)
    → (extent.parts_rounds && bytes_eq line (codes "--")) ≡ true
    → Read extent tables sessions at exported (line ∷ parts line_feed behind) done lines ≡ Read extent tables sessions (at + 1) exported (parts line_feed behind) (done ++ lines ∷ []) []
round_read extent tables sessions at exported line behind done lines is =
    let step = parting_step extent tables sessions at exported line (parts line_feed behind) (parts_some line_feed behind) is in
    rw step (rounds_regrouped done lines (rounds_from extent tables sessions (at + 1) exported (parts line_feed behind))
    (λ more e. rounds_some extent tables sessions (at + 1) exported (parts line_feed behind) more e))

-- With nothing read before them the rounds that are read are all.
begun_by : (all : Result (List (List Line)) Fault) → ((more : List (List Line)) → all ≡ Ok more → 0 < length more) → all ≡ (all >>= λ more. Ok (with_front [] [] more))
begun_by (Ok []) some = absurd (omega (arith, some [] refl))
begun_by (Ok (first ∷ others)) some = refl
begun_by (Err fault) some = refl

-- before the first line nothing is read
pub begun : (extent : Extent) (tables : List TableDecl) (sessions at : ℕ) (exported : Bool) (all : List (List ℕ)) → rounds_from extent tables sessions at exported all ≡ Read extent tables sessions at exported all [] []
begun extent tables sessions at exported all = begun_by (rounds_from extent tables sessions at exported all) (λ more e. rounds_some extent tables sessions at exported all more e)
