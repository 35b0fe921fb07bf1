-- Rounds are read back from their lines.
use Rattle.std.proofs.Common.{◌≡◌, ℕ, ◌+◌, ◌<◌, ◌≤◌, Bool, true, false, cond, List, [], ◌∷◌, ◌++◌, length, map, refl, sym, ap, ◌∙◌, subst, arith, length-append}
use Rattle.std.specs.Prelude.{◌&&◌, ◌||◌, bytes_eq, codes, Ok}
use Rattle.std.specs.List.{list_all}
use Rattle.std.proofs.lemmas.List.Sums.{sum_by-cons}
use Rattle.std.proofs.lemmas.List.Folds.{list_all-append}
use Rattle.std.proofs.lemmas.Bool.{and_parts}
use Rattle.cell_model.specs.declared.table.TableDecl.{TableDecl}
use Rattle.workload_spec.specs.declared.script.Line.{Line}
use Rattle.workload_spec.specs.Words.{line_feed, lines_text}
use Rattle.workload_spec.specs.ScriptText.{line_text, round_lines}
use Rattle.workload_spec.specs.Reading.{onto_first, parts, words_of}
use Rattle.workload_spec.specs.Valid.{is_within, is_table, have_own_names, is_command, is_export}
use Rattle.workload_spec.specs.Extents.{whole}
use Rattle.workload_spec.specs.Grammar.{◌>>=◌, on_line, line_of, rounds_from}
use Rattle.workload_laws.specs.Bytes.{has_only_bytes, written_row}
use Rattle.workload_laws.proofs.Results.{gives, chosen, passed}
use Rattle.workload_laws.proofs.Lists.{joined}
use Rattle.workload_laws.proofs.Apart.{is_whole, line_first_part}
use Rattle.workload_laws.proofs.Rounds.{is_line_of, lines_of, exports_of, round_first, line_first}
use Rattle.workload_laws.proofs.CommandsBack.{LineBack, line_back}

-- a line of these sessions and tables, whose cells of bytes have bytes
abbrev pub is_fine : List TableDecl → ℕ → Line → Bool
is_fine tables sessions line = is_line_of tables sessions line && list_all has_only_bytes (written_row line.command)

-- lines of rounds, with at most one export
pub record AreFine (tables : List TableDecl) (sessions : ℕ) (exported : Bool) (lines : List Line) : Type 0 where
  pub each : list_all (is_fine tables sessions) lines ≡ true
  pub once : cond exported 1 0 + exports_of lines ≤ 1

-- tables and sessions of a workload
pub record Head (tables : List TableDecl) (sessions : ℕ) : Type 0 where
  pub each : list_all is_table tables ≡ true
  pub own : have_own_names tables ≡ true
  pub few : sessions ≤ 64

-- Where at most one exports, not both flags are set, and either counts as one.
once_by : (exported export : Bool) (n : ℕ) → cond exported 1 0 + (cond export 1 0 + n) ≤ 1 → ((exported && export) ≡ false) × (cond (exported || export) 1 0 + n ≤ 1)
once_by true true n le = absurd (omega (arith, le))
once_by true false n le = (refl, omega (arith, le))
once_by false true n le = (refl, omega (arith, le))
once_by false false n le = (refl, omega (arith, le))

-- the first of such lines, and the others behind it
record FirstFine (tables : List TableDecl) (sessions : ℕ) (exported : Bool) (line : Line) (lines : List Line) : Type 0 where
  pub back : LineBack tables sessions exported line
  pub others : AreFine tables sessions (exported || is_export line.command) lines

-- The first of fine lines is read back, and the others are fine behind it.
first_fine : (tables : List TableDecl) (sessions : ℕ) (exported : Bool) (line : Line) (lines : List Line) → Head tables sessions → AreFine tables sessions exported (line ∷ lines) → FirstFine tables sessions exported line lines
first_fine tables sessions exported line lines head fine =
    let o = once_by exported (is_export line.command) (exports_of lines) (subst (λ (n : ℕ). cond exported 1 0 + n ≤ 1) (sum_by-cons (λ (l : Line). cond (is_export l.command) 1 0) line lines) fine.once) in
    let e = and_parts (is_fine tables sessions line) (list_all (is_fine tables sessions) lines) fine.each in
    let f = and_parts (is_line_of tables sessions line) (list_all has_only_bytes (written_row line.command)) e.0 in
    let l = and_parts (is_within 1 sessions line.session) (is_command tables line.command) f.0 in
    record {
      back = line_back tables sessions exported line head.each head.own head.few l.0 l.1 f.1 o.0;
      others = record { each = e.1; once = o.1 };
    }

-- A line that parts rounds puts an empty round in front of the others.
parting_next : (tables : List TableDecl) (sessions at : ℕ) (exported : Bool) (line : List ℕ) (rest : List (List ℕ)) (rounds : List (List Line)) → 0 < length rest → bytes_eq line (codes "--") ≡ true
    → rounds_from whole tables sessions (at + 1) exported rest ≡ Ok rounds → rounds_from whole tables sessions at exported (line ∷ rest) ≡ Ok ([] ∷ rounds)
parting_next tables sessions at exported line [] rounds some is read = absurd (omega (arith, some))
parting_next tables sessions at exported line (next ∷ rest) rounds some is read =
    chosen (bytes_eq line (codes "--")) (rounds_from whole tables sessions (at + 1) exported (next ∷ rest) >>= (λ rounds. Ok ([] ∷ rounds)))
    (on_line at (line_of whole tables sessions exported (words_of line)) >>= (λ read. rounds_from whole tables sessions (at + 1) (exported || is_export read.command) (next ∷ rest) >>= (λ rounds. Ok (onto_first read rounds)))) is
    ∙ gives (rounds_from whole tables sessions (at + 1) exported (next ∷ rest)) _ (Ok ([] ∷ rounds)) rounds read refl

-- A line that is read goes to the front of the first round.
line_next : (tables : List TableDecl) (sessions at : ℕ) (exported : Bool) (line : List ℕ) (rest : List (List ℕ)) (first : Line) (round : List Line) (rounds : List (List Line)) → 0 < length rest → bytes_eq line (codes "--") ≡ false
    → line_of whole tables sessions exported (words_of line) ≡ Ok first → rounds_from whole tables sessions (at + 1) (exported || is_export first.command) rest ≡ Ok (round ∷ rounds)
    → rounds_from whole tables sessions at exported (line ∷ rest) ≡ Ok ((first ∷ round) ∷ rounds)
line_next tables sessions at exported line [] first round rounds some is one read = absurd (omega (arith, some))
line_next tables sessions at exported line (next ∷ rest) first round rounds some is one read =
    passed (bytes_eq line (codes "--")) (rounds_from whole tables sessions (at + 1) exported (next ∷ rest) >>= (λ rounds. Ok ([] ∷ rounds)))
    (on_line at (line_of whole tables sessions exported (words_of line)) >>= (λ read. rounds_from whole tables sessions (at + 1) (exported || is_export read.command) (next ∷ rest) >>= (λ rounds. Ok (onto_first read rounds)))) is
    ∙ gives (on_line at (line_of whole tables sessions exported (words_of line))) _ (Ok ((first ∷ round) ∷ rounds)) first (ap (on_line at) one)
    (gives (rounds_from whole tables sessions (at + 1) (exported || is_export first.command) (next ∷ rest)) _ (Ok ((first ∷ round) ∷ rounds)) (round ∷ rounds) read refl)

-- the lines of rounds and the end behind them
abbrev pub ended : List (List ℕ) → List (List ℕ)
ended lines = lines ++ [] ∷ []

-- rounds that are read back
abbrev pub AreBack : List TableDecl → ℕ → List (List Line) → Type 0
AreBack tables sessions rounds = (at : ℕ) (exported : Bool) → AreFine tables sessions exported (lines_of rounds) → rounds_from whole tables sessions at exported (ended (round_lines tables rounds)) ≡ Ok rounds

-- Lines with the end behind them are at least one.
end_behind : (lines : List (List ℕ)) → 0 < length (ended lines)
end_behind lines = omega (arith, length-append lines ([] ∷ []))

-- Where rounds with an empty first one are read back, so are those with any first.
round_back : (tables : List TableDecl) (sessions : ℕ) (others : List (List Line)) → Head tables sessions → AreBack tables sessions ([] ∷ others) → (first : List Line) → AreBack tables sessions (first ∷ others)
round_back tables sessions others head behind [] = behind
round_back tables sessions others head behind (line ∷ first) = λ at exported fine.
    let one = first_fine tables sessions exported line (lines_of (first ∷ others)) head fine in
    ap (λ (lines : List (List ℕ)). rounds_from whole tables sessions at exported (ended lines)) (round_first tables line first others)
    ∙ line_next tables sessions at exported (line_text tables line) (ended (round_lines tables (first ∷ others))) line first others (end_behind (round_lines tables (first ∷ others))) one.back.other one.back.back
    (round_back tables sessions others head behind first (at + 1) (exported || is_export line.command) one.others)

-- rounds are read back from their lines, up to the end of the text
pub rounds_back : (tables : List TableDecl) (sessions : ℕ) → Head tables sessions → (others : List (List Line)) (first : List Line) → AreBack tables sessions (first ∷ others)
rounds_back tables sessions head [] first = round_back tables sessions [] head (λ at exported fine. refl) first
rounds_back tables sessions head (next ∷ others) first = round_back tables sessions (next ∷ others) head
    (λ at exported fine. parting_next tables sessions at exported (codes "--") (ended (round_lines tables (next ∷ others))) (next ∷ others) (end_behind (round_lines tables (next ∷ others))) refl (rounds_back tables sessions head others next (at + 1) exported fine))
    first

-- the lines of rounds are whole
round_whole : (tables : List TableDecl) (sessions : ℕ) → Head tables sessions → (lines : List Line) → list_all (is_fine tables sessions) lines ≡ true → list_all is_whole (map (line_text tables) lines) ≡ true
round_whole tables sessions head [] fine = refl
round_whole tables sessions head (line ∷ lines) fine =
    let e = and_parts (is_fine tables sessions line) (list_all (is_fine tables sessions) lines) fine in
    let f = and_parts (is_line_of tables sessions line) (list_all has_only_bytes (written_row line.command)) e.0 in
    let l = and_parts (is_within 1 sessions line.session) (is_command tables line.command) f.0 in
    let one = line_back tables sessions false line head.each head.own head.few l.0 l.1 f.1 refl in
    joined one.whole (round_whole tables sessions head lines e.1)

-- none of the lines of rounds has a line feed in it
pub rounds_whole : (tables : List TableDecl) (sessions : ℕ) → Head tables sessions → (rounds : List (List Line)) → list_all (is_fine tables sessions) (lines_of rounds) ≡ true → list_all is_whole (round_lines tables rounds) ≡ true
rounds_whole tables sessions head [] fine = refl
rounds_whole tables sessions head (round ∷ []) fine =
    round_whole tables sessions head round (and_parts (list_all (is_fine tables sessions) round) true (sym (list_all-append (is_fine tables sessions) round []) ∙ fine)).0
rounds_whole tables sessions head (round ∷ next ∷ rounds) fine =
    let f = and_parts (list_all (is_fine tables sessions) round) (list_all (is_fine tables sessions) (lines_of (next ∷ rounds))) (sym (list_all-append (is_fine tables sessions) round (lines_of (next ∷ rounds))) ∙ fine) in
    list_all-append is_whole (map (line_text tables) round) (codes "--" ∷ round_lines tables (next ∷ rounds)) ∙ joined (round_whole tables sessions head round f.0) (rounds_whole tables sessions head (next ∷ rounds) f.1)

-- whole lines are parted again
pub lines_apart : (lines : List (List ℕ)) → list_all is_whole lines ≡ true → parts line_feed (lines_text lines) ≡ ended lines
lines_apart [] are = refl
lines_apart (line ∷ lines) are =
    let w = and_parts (is_whole line) (list_all is_whole lines) are in
    ap (parts line_feed) (line_first line lines) ∙ line_first_part line (lines_text lines) w.0 ∙ ap (λ (ls : List (List ℕ)). line ∷ ls) (lines_apart lines w.1)
