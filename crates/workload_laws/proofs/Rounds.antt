-- Rounds that are read are the lines that are left.
use Rattle.std.proofs.Common.{◌≡◌, ℕ, ◌+◌, ◌<◌, ◌≤◌, Bool, true, false, cond, List, [], ◌∷◌, ◌++◌, length, refl, sym, ap, ◌∙◌, subst, arith, append_assoc}
use Rattle.std.specs.Prelude.{◌&&◌, ◌||◌, bytes_eq, codes, flat_map, count_by, Result, Ok}
use Rattle.std.specs.List.{list_all, join_with_byte}
use Rattle.std.proofs.lemmas.List.Sums.{sum_by-cons}
use Rattle.cell_model.specs.declared.table.TableDecl.{TableDecl}
use Rattle.workload_spec.specs.declared.script.Line.{Line}
use Rattle.workload_spec.specs.Words.{spaced, line_feed, lines_text}
use Rattle.workload_spec.specs.ScriptText.{line_text, round_lines}
use Rattle.workload_spec.specs.Reading.{onto_first, words_of}
use Rattle.workload_spec.specs.Valid.{is_within, is_table, is_command, is_export}
use Rattle.workload_spec.specs.Extents.{whole}
use Rattle.workload_spec.specs.Grammar.{◌>>=◌, Fault, on_line, line_of, rounds_from}
use Rattle.workload_laws.specs.Bytes.{has_only_bytes, written_row}
use Rattle.workload_laws.proofs.Results.{step, on_line_is, eq_of}
use Rattle.workload_laws.proofs.Lists.{joined}
use Rattle.workload_laws.proofs.Parts.{line_joined}
use Rattle.workload_laws.proofs.Commands.{ReadsLine, line_is}

-- lines that are left, with a line feed between each two
abbrev pub rest_text : List (List ℕ) → List ℕ
rest_text lines = join_with_byte line_feed lines

-- a line of these sessions and tables
abbrev pub is_line_of : List TableDecl → ℕ → Line → Bool
is_line_of tables sessions line = is_within 1 sessions line.session && is_command tables line.command

-- the line writes no cells of bytes, or they have bytes
abbrev pub has_bytes : Line → Bool
has_bytes line = list_all has_only_bytes (written_row line.command)

-- the lines of the rounds, one round behind the other
abbrev pub lines_of : List (List Line) → List Line
lines_of rounds = flat_map (λ round. round) rounds

-- how many of the lines export
abbrev pub exports_of : List Line → ℕ
exports_of lines = count_by (λ line. is_export line.command) lines

-- rounds that are read
pub record ReadsRounds (tables : List TableDecl) (sessions : ℕ) (exported : Bool) (lines : List (List ℕ)) (rounds : List (List Line)) : Type 0 where
  pub text : lines_text (round_lines tables rounds) ≡ rest_text lines
  pub some : 0 < length rounds
  pub each : list_all (is_line_of tables sessions) (lines_of rounds) ≡ true
  pub bytes : list_all has_bytes (lines_of rounds) ≡ true
  pub once : cond exported 1 0 + exports_of (lines_of rounds) ≤ 1

-- Where no lines are left, one round without lines is read.
none_read : (tables : List TableDecl) (sessions : ℕ) (exported : Bool) (lines : List (List ℕ)) (rounds : List (List Line)) → rest_text lines ≡ [] → ([] ∷ []) ≡ rounds → ReadsRounds tables sessions exported lines rounds
none_read tables sessions exported lines rounds empty e = subst (ReadsRounds tables sessions exported lines) e (record { text = sym empty; some = omega arith; each = refl; bytes = refl; once = least exported })
  where
    least : (b : Bool) → cond b 1 0 + 0 ≤ 1
    least true = omega arith
    least false = omega arith

-- the text of lines is the first, its line feed, and that of the others
pub line_first : (line : List ℕ) (lines : List (List ℕ)) → lines_text (line ∷ lines) ≡ line ++ line_feed ∷ lines_text lines
line_first line lines = append_assoc line (line_feed ∷ []) (lines_text lines)

-- a line `--` before the rounds
parted_read : (tables : List TableDecl) (sessions : ℕ) (exported : Bool) (line next : List ℕ) (rest : List (List ℕ)) (rounds : List (List Line)) → line ≡ codes "--" → ReadsRounds tables sessions exported (next ∷ rest) rounds
    → ReadsRounds tables sessions exported (line ∷ next ∷ rest) ([] ∷ rounds)
parted_read tables sessions exported line next rest [] is all = absurd (omega (arith, all.some))
parted_read tables sessions exported line next rest (first ∷ rounds) is all = record {
  text = ap (λ (text : List ℕ). codes "--\n" ++ text) all.text ∙ ap (λ (first : List ℕ). first ++ line_feed ∷ rest_text (next ∷ rest)) (sym is);
  some = omega arith;
  each = all.each;
  bytes = all.bytes;
  once = all.once;
}

-- Exports that are one by either flag are one apart, where not both flags are set.
once_by : (exported export : Bool) (n : ℕ) → (exported && export) ≡ false → cond (exported || export) 1 0 + n ≤ 1 → cond exported 1 0 + (cond export 1 0 + n) ≤ 1
once_by true true n none le = absurd cc
once_by true false n none le = omega (arith, le)
once_by false true n none le = omega (arith, le)
once_by false false n none le = omega (arith, le)

-- the first line of the first round stands in front of the others
pub round_first : (tables : List TableDecl) (read : Line) (first : List Line) (others : List (List Line)) → round_lines tables ((read ∷ first) ∷ others) ≡ line_text tables read ∷ round_lines tables (first ∷ others)
round_first tables read first [] = refl
round_first tables read first (next ∷ others) = refl

-- a line before the first round's others
line_read : (tables : List TableDecl) (sessions : ℕ) (exported : Bool) (line next : List ℕ) (rest : List (List ℕ)) (read : Line) (rounds : List (List Line)) → ReadsLine tables sessions exported (words_of line) read
    → ReadsRounds tables sessions (exported || is_export read.command) (next ∷ rest) rounds → ReadsRounds tables sessions exported (line ∷ next ∷ rest) (onto_first read rounds)
line_read tables sessions exported line next rest read [] one all = absurd (omega (arith, all.some))
line_read tables sessions exported line next rest read (first ∷ others) one all = record {
  text = ap lines_text (round_first tables read first others) ∙ line_first (line_text tables read) (round_lines tables (first ∷ others))
      ∙ ap (λ (text : List ℕ). line_text tables read ++ line_feed ∷ text) all.text
      ∙ ap (λ (text : List ℕ). text ++ line_feed ∷ rest_text (next ∷ rest)) (ap spaced (sym one.text) ∙ line_joined line);
  some = omega arith;
  each = joined (joined one.session one.is) all.each;
  bytes = joined one.bytes all.bytes;
  once = subst (λ (n : ℕ). cond exported 1 0 + n ≤ 1) (sym (sum_by-cons (λ (l : Line). cond (is_export l.command) 1 0) read (lines_of (first ∷ others))))
      (once_by exported (is_export read.command) (exports_of (lines_of (first ∷ others))) one.once all.once);
}

-- Behind a first line that parts rounds or not, the rounds are the lines left.
rounds_by : (tables : List TableDecl) (sessions at : ℕ) (exported : Bool) (line next : List ℕ) (rest : List (List ℕ)) (rounds : List (List Line)) (b : Bool) → bytes_eq line (codes "--") ≡ b → list_all is_table tables ≡ true
    → ((seen : Bool) (read : List (List Line)) → rounds_from whole tables sessions (at + 1) seen (next ∷ rest) ≡ Ok read → ReadsRounds tables sessions seen (next ∷ rest) read)
    → elim b as (λ c. Result (List (List Line)) Fault) [
      | true ↦ rounds_from whole tables sessions (at + 1) exported (next ∷ rest) >>= (λ rounds. Ok ([] ∷ rounds))
      | false ↦ on_line at (line_of whole tables sessions exported (words_of line)) >>= (λ read.
          rounds_from whole tables sessions (at + 1) (exported || is_export read.command) (next ∷ rest) >>= (λ rounds. Ok (onto_first read rounds)))
    ] ≡ Ok rounds
    → ReadsRounds tables sessions exported (line ∷ next ∷ rest) rounds
rounds_by tables sessions at exported line next rest rounds true is tables_are later e =
    step (rounds_from whole tables sessions (at + 1) exported (next ∷ rest)) _ rounds e (λ read is1 e1.
    let same : ([] ∷ read) ≡ rounds = cc in
    subst (ReadsRounds tables sessions exported (line ∷ next ∷ rest)) same (parted_read tables sessions exported line next rest read (eq_of line (codes "--") is) (later exported read is1)))
rounds_by tables sessions at exported line next rest rounds false is tables_are later e =
    step (on_line at (line_of whole tables sessions exported (words_of line))) _ rounds e (λ first is1 e1.
    step (rounds_from whole tables sessions (at + 1) (exported || is_export first.command) (next ∷ rest)) _ rounds e1 (λ read is2 e2.
    let same : onto_first first read ≡ rounds = cc in
    subst (ReadsRounds tables sessions exported (line ∷ next ∷ rest)) same (line_read tables sessions exported line next rest first read
    (line_is tables sessions exported (words_of line) first tables_are (on_line_is at (line_of whole tables sessions exported (words_of line)) first is1))
    (later (exported || is_export first.command) read is2))))

-- rounds that are read are the lines that are left, and export once at most
pub rounds_are : (tables : List TableDecl) (sessions at : ℕ) (exported : Bool) (lines : List (List ℕ)) (rounds : List (List Line)) → list_all is_table tables ≡ true → rounds_from whole tables sessions at exported lines ≡ Ok rounds
    → ReadsRounds tables sessions exported lines rounds
rounds_are tables sessions at exported [] rounds tables_are e = none_read tables sessions exported [] rounds refl cc
rounds_are tables sessions at exported ([] ∷ []) rounds tables_are e = none_read tables sessions exported ([] ∷ []) rounds refl cc
rounds_are tables sessions at exported ((byte ∷ bytes) ∷ []) rounds tables_are e = absurd cc
rounds_are tables sessions at exported (line ∷ next ∷ rest) rounds tables_are e =
    rounds_by tables sessions at exported line next rest rounds (bytes_eq line (codes "--")) refl tables_are (λ seen read is. rounds_are tables sessions (at + 1) seen (next ∷ rest) read tables_are is) e
