-- Words with one space between each two.
use Rattle.std.proofs.Common.{◌≡◌, ℕ, List, [], ◌∷◌, ◌++◌, refl, sym, ap, ◌∙◌, append_assoc, map, ◌<◌, length, get_or, drop, arith}
use Rattle.std.proofs.lemmas.List.{append-nil}
use Rattle.std.proofs.lemmas.Grind.{flat_map-append}
use Rattle.std.specs.Prelude.{codes, decimal}
use Rattle.cell_model.specs.declared.table.TableDecl.{TableDecl}
use Rattle.workload_spec.specs.declared.script.Line.{Line}
use Rattle.workload_spec.specs.declared.script.Script.{Script}
use Rattle.workload_spec.specs.Words.{spaced, line_feed, lines_text}
use Rattle.workload_spec.specs.ScriptText.{column_text, table_text, line_text, round_lines, script_text}
use Rattle.script_text.specs.Rounds.{rounds_behind}
use Rattle.word_text.specs.Words.{behind_spaces}
use Rattle.word_text.proofs.Spaces.{spaced_first, behind_spaces-append}

-- the text of two lists of lines in a row
pub lines-append : (lines more : List (List ℕ)) → lines_text (lines ++ more) ≡ lines_text lines ++ lines_text more
lines-append lines more = flat_map-append (λ (line : List ℕ). line ++ line_feed ∷ []) lines more

-- rounds are the first one's lines, and the others behind lines `--`
pub rounds_first : (tables : List TableDecl) (round : List Line) (rounds : List (List Line)) → lines_text (round_lines tables (round ∷ rounds)) ≡ lines_text (map (line_text tables) round) ++ rounds_behind tables rounds
rounds_first tables round [] = sym (append-nil (lines_text (map (line_text tables) round)))
rounds_first tables round (next ∷ rounds) = lines-append (map (line_text tables) round) (codes "--" ∷ round_lines tables (next ∷ rounds))
    ∙ ap (λ (text : List ℕ). lines_text (map (line_text tables) round) ++ (codes "--\n" ++ text)) (rounds_first tables next rounds)

-- the text of rounds is that of the first one's lines, and those of the others behind it
pub rounds_split : (tables : List TableDecl) (rounds : List (List Line)) (first : List Line) (others : List (List Line)) → 0 < length rounds → first ≡ get_or rounds 0 first → others ≡ drop 1 rounds
    → lines_text (round_lines tables rounds) ≡ lines_text (map (line_text tables) first) ++ rounds_behind tables others
rounds_split tables [] first others some head rest = absurd (omega (arith, some))
rounds_split tables (round ∷ rounds) first others some head rest = rw (head, rest) (rounds_first tables round rounds)

-- the words of a table's line behind its columns
abbrev pub limits : TableDecl → List (List ℕ)
limits table = codes "slots" ∷ decimal table.slots ∷ codes "blocks" ∷ decimal table.blocks ∷ []

-- A table's line is its first word, its name, its columns and its limits, with spaces.
table_is : (table : TableDecl) → table_text table ≡ codes "table" ++ 32 ∷ (table.name ++ (behind_spaces (map column_text table.schema) ++ behind_spaces (limits table)))
table_is table = ap (λ (text : List ℕ). codes "table" ++ 32 ∷ text) (spaced_first table.name (map column_text table.schema ++ limits table)
    ∙ ap (λ (text : List ℕ). table.name ++ text) (behind_spaces-append (map column_text table.schema) (limits table)))

-- The pieces of a table's line that are put in turn are the line put at once.
regroup : (out first name columns last end : List ℕ) → ((((out ++ first) ++ 32 ∷ name) ++ columns) ++ last) ++ end ≡ out ++ ((first ++ 32 ∷ (name ++ (columns ++ last))) ++ end)
regroup out first name columns last end = simp append_assoc

-- what is put in turn makes the line
pub table_line : (table : TableDecl) (out a b c d e : List ℕ) → a ≡ out ++ codes "table" → b ≡ a ++ 32 ∷ table.name → c ≡ b ++ behind_spaces (map column_text table.schema)
    → d ≡ c ++ behind_spaces (limits table) → e ≡ d ++ 10 ∷ [] → e ≡ out ++ (table_text table ++ 10 ∷ [])
table_line table out a b c d e ea eb ec ed ee =
    let whole : e ≡ ((((out ++ codes "table") ++ 32 ∷ table.name) ++ behind_spaces (map column_text table.schema)) ++ behind_spaces (limits table)) ++ 10 ∷ [] = rw (ee, ed, ec, eb, ea) refl in
    whole ∙ regroup out (codes "table") table.name (behind_spaces (map column_text table.schema)) (behind_spaces (limits table)) (10 ∷ []) ∙ ap (λ (text : List ℕ). out ++ (text ++ 10 ∷ [])) (sym (table_is table))

-- a script's text, part by part
pub script_parts : (script : Script) → script_text script ≡ (spaced (codes "store" ∷ decimal script.version ∷ []) ++ 10 ∷ []) ++ (lines_text (map table_text script.tables)
    ++ ((spaced (codes "sessions" ∷ decimal script.sessions ∷ []) ++ 10 ∷ []) ++ ((spaced (codes "workers" ∷ decimal script.workers ∷ decimal script.turns ∷ []) ++ 10 ∷ [])
    ++ (codes "go\n" ++ lines_text (round_lines script.tables script.rounds)))))
script_parts script = ap (λ (text : List ℕ). (spaced (codes "store" ∷ decimal script.version ∷ []) ++ 10 ∷ []) ++ text)
    (lines-append (map table_text script.tables) (spaced (codes "sessions" ∷ decimal script.sessions ∷ []) ∷ spaced (codes "workers" ∷ decimal script.workers ∷ decimal script.turns ∷ []) ∷ codes "go" ∷ round_lines script.tables script.rounds))
