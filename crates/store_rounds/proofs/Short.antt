-- A script whose text is short has few rounds and few lines.
use Rattle.std.proofs.Common.{ℕ, ◌+◌, ◌≤◌, ◌<◌, ◌^◌, List, [], ◌∷◌, ◌++◌, map, length, arith, length-append}
use Rattle.std.specs.List.{flat_map}
use Rattle.std.specs.Prelude.{codes, decimal}
use Rattle.std.proofs.lemmas.List.{length-map}
use Rattle.cell_model.specs.declared.table.TableDecl.{TableDecl}
use Rattle.workload_spec.specs.ScriptText.{line_text, round_lines, script_lines, script_text, table_text}
use Rattle.workload_spec.specs.Valid.{all_lines}
use Rattle.workload_spec.specs.Words.{lines_text, spaced}
use Rattle.workload_spec.specs.declared.script.Line.{Line}
use Rattle.workload_spec.specs.declared.script.Script.{Script}

-- each line of a text has a byte at least
line_by_line : (lines : List (List ℕ)) → length lines ≤ length (lines_text lines)
line_by_line [] = omega arith
line_by_line (line ∷ lines) =
    let rest = line_by_line lines in
    let parted = length-append (line ++ 10 ∷ []) (lines_text lines) in
    let own = length-append line (10 ∷ []) in
    omega (arith, rest, parted, own)

-- each round but the first has a line of its own before its lines
round_by_round : (tables : List TableDecl) (rounds : List (List Line))
    → length rounds + length (flat_map (λ (round : List Line). round) rounds) ≤ length (round_lines tables rounds) + 1
round_by_round tables [] = omega arith
round_by_round tables (round ∷ []) =
    let each = length-map round (line_text tables) in
    let parted = length-append {A = Line} round [] in
    omega (arith, each, parted)
round_by_round tables (round ∷ next ∷ rounds) =
    let rest = round_by_round tables (next ∷ rounds) in
    let each = length-map round (line_text tables) in
    let lines = length-append round (flat_map (λ (round : List Line). round) (next ∷ rounds)) in
    let text = length-append (map (line_text tables) round) (codes "--" ∷ round_lines tables (next ∷ rounds)) in
    omega (arith, rest, each, lines, text)

-- the lines of the rounds stand behind the head's
behind : (first : List ℕ) (tables : List (List ℕ)) (sessions workers go : List ℕ) (rest : List (List ℕ))
    → length rest + 1 ≤ length (first ∷ (tables ++ sessions ∷ workers ∷ go ∷ rest))
behind first tables sessions workers go rest =
    let parted = length-append tables (sessions ∷ workers ∷ go ∷ rest) in
    omega (arith, parted)

-- The lines of the rounds are fewer than those of the whole script.
behind_head : (script : Script) → length (round_lines script.tables script.rounds) + 1 ≤ length (script_lines script)
behind_head script =
    behind (spaced (codes "store" ∷ decimal script.version ∷ [])) (map table_text script.tables)
    (spaced (codes "sessions" ∷ decimal script.sessions ∷ []))
    (spaced (codes "workers" ∷ decimal script.workers ∷ decimal script.turns ∷ []))
    (codes "go") (round_lines script.tables script.rounds)

-- so a script of fewer than 2^32 bytes has fewer than 2^32 rounds and lines
pub few_rounds : (script : Script) → length (script_text script) < 2 ^ 32 → length script.rounds < 2 ^ 32
few_rounds script short =
    let bytes = line_by_line (script_lines script) in
    let head = behind_head script in
    let rounds = round_by_round script.tables script.rounds in
    omega (arith, short, bytes, head, rounds)

-- a script whose text fits 32 bits has few enough lines for 32 bits
pub few_lines : (script : Script) → length (script_text script) < 2 ^ 32 → length (all_lines script) < 2 ^ 32
few_lines script short =
    let bytes = line_by_line (script_lines script) in
    let head = behind_head script in
    let rounds = round_by_round script.tables script.rounds in
    omega (arith, short, bytes, head, rounds)
