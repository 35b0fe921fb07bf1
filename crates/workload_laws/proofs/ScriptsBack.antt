-- Workloads are read back from their texts.
use Rattle.std.proofs.Common.{◌≡◌, ℕ, ◌+◌, ◌^◌, ◌<◌, ◌≤◌, true, false, List, [], ◌∷◌, ◌++◌, length, map, refl, sym, ap, ◌∙◌, arith, append_assoc, length-append}
use Rattle.std.specs.Prelude.{◌&&◌, nat_le, nat_lt, bytes_eq, codes, decimal, count_by, Result, Ok}
use Rattle.std.specs.List.{list_all}
use Rattle.std.proofs.lemmas.Bool.{ltb-true, leb-true, le-leb, and_parts}
use Rattle.std.proofs.lemmas.List.Folds.{list_all-append}
use Rattle.cell_model.specs.declared.table.TableDecl.{TableDecl}
use Rattle.workload_spec.specs.declared.extent.Extent.{Extent}
use Rattle.workload_spec.specs.declared.script.Cause.{Cause}
use Rattle.workload_spec.specs.declared.script.Cause.TheVariants as cause
use Rattle.workload_spec.specs.declared.script.Line.{Line}
use Rattle.workload_spec.specs.declared.script.Script.{Script}
use Rattle.workload_spec.specs.Words.{line_feed, spaced}
use Rattle.workload_spec.specs.ScriptText.{table_text, round_lines, script_lines, script_text}
use Rattle.workload_spec.specs.Reading.{parts, words_of}
use Rattle.workload_spec.specs.Valid.{is_within, is_table, have_own_names, is_line, takes_command, is_export, all_lines, is_version, takes_later_kinds, are_taken_kinds, has_version, has_head, is_valid, most_tables, most_sessions, most_workers, most_turns}
use Rattle.workload_spec.specs.Extents.{whole}
use Rattle.workload_spec.specs.Grammar.{rule, no_word, keyword, number, Fault, on_line, next_line, is_table_line, tables_from, rounds_from, sessions_of, workers_of, script_behind}
use Rattle.workload_laws.specs.Bytes.{has_only_bytes, written_row, writes_only_bytes}
use Rattle.workload_laws.proofs.Results.{gives, rule_back}
use Rattle.workload_laws.proofs.Lists.{joined, all_and, all_both}
use Rattle.workload_laws.proofs.Scripts.{store_words, version_by}
use Rattle.workload_laws.proofs.Tables.{table_words}
use Rattle.workload_laws.proofs.Apart.{AreWords, plain_word, words_apart, words_whole, is_whole}
use Rattle.workload_laws.proofs.Numbers.{keyword_back, number_back}
use Rattle.workload_laws.proofs.TablesBack.{within_high, number_word, table_are_words, table_apart, is_table_line_by, tables_back}
use Rattle.workload_laws.proofs.Rounds.{is_line_of, lines_of, exports_of}
use Rattle.workload_laws.proofs.RoundsBack.{AreFine, Head, ended, rounds_back, rounds_whole, lines_apart}

-- the next line is the first one, where others follow it
pub next_back : (at : ℕ) (cause : Cause) (line : List ℕ) (rest : List (List ℕ)) → 0 < length rest → next_line at cause (line ∷ rest) ≡ Ok (line, rest)
next_back at cause line [] some = absurd (omega (arith, some))
next_back at cause line (next ∷ rest) some = refl

-- The line of the sessions is read from its keyword and its number.
sessions_made : (words rest : List (List ℕ)) (sessions : ℕ × List (List ℕ)) → keyword cause.Sessions (codes "sessions") words ≡ Ok rest → number cause.Sessions 1 most_sessions rest ≡ Ok sessions → no_word cause.Sessions sessions.1 ≡ Ok tt → sessions_of whole words ≡ Ok sessions.0
sessions_made words rest sessions e1 e2 e3 =
    gives (keyword cause.Sessions (codes "sessions") words) _ (Ok sessions.0) rest e1 (gives (number cause.Sessions 1 most_sessions rest) _ (Ok sessions.0) sessions e2 (gives (no_word cause.Sessions sessions.1) _ (Ok sessions.0) tt e3 refl))

-- The line of the workers is read from its keyword and its two numbers.
workers_made : (words rest : List (List ℕ)) (workers turns : ℕ × List (List ℕ)) → keyword cause.Workers (codes "workers") words ≡ Ok rest → number cause.Workers 0 most_workers rest ≡ Ok workers → number cause.Workers 0 most_turns workers.1 ≡ Ok turns
    → no_word cause.Workers turns.1 ≡ Ok tt → workers_of whole words ≡ Ok (workers.0, turns.0)
workers_made words rest workers turns e1 e2 e3 e4 =
    gives (keyword cause.Workers (codes "workers") words) _ (Ok (workers.0, turns.0)) rest e1 (gives (number cause.Workers 0 most_workers rest) _ (Ok (workers.0, turns.0)) workers e2
    (gives (number cause.Workers 0 most_turns workers.1) _ (Ok (workers.0, turns.0)) turns e3 (gives (no_word cause.Workers turns.1) _ (Ok (workers.0, turns.0)) tt e4 refl)))

-- The words of the line that tells how many sessions there are.
abbrev sessions_words : ℕ → List (List ℕ)
sessions_words sessions = codes "sessions" ∷ decimal sessions ∷ []

-- The words of the line that tells how many workers and turns there are.
abbrev workers_words : ℕ → ℕ → List (List ℕ)
workers_words workers turns = codes "workers" ∷ decimal workers ∷ decimal turns ∷ []

-- The line of the sessions is of words.
sessions_are : (sessions : ℕ) → sessions < 2 ^ 64 → AreWords (sessions_words sessions)
sessions_are sessions small = (plain_word (codes "sessions") refl, (number_word sessions small, tt))

-- The line of the workers is of words.
workers_are : (workers turns : ℕ) → workers < 2 ^ 64 → turns < 2 ^ 64 → AreWords (workers_words workers turns)
workers_are workers turns small few = (plain_word (codes "workers") refl, (number_word workers small, (number_word turns few, tt)))

-- How many sessions there are is read back from their line.
sessions_back : (sessions : ℕ) → sessions < 2 ^ 64 → is_within 1 most_sessions sessions ≡ true → sessions_of whole (words_of (spaced (sessions_words sessions))) ≡ Ok sessions
sessions_back sessions small within =
    ap (sessions_of whole) (words_apart (codes "sessions") (decimal sessions ∷ []) (sessions_are sessions small))
    ∙ sessions_made (sessions_words sessions) (decimal sessions ∷ []) (sessions, []) (keyword_back cause.Sessions (codes "sessions") (decimal sessions ∷ [])) (number_back cause.Sessions 1 most_sessions sessions [] small within) refl

-- How many workers and turns there are is read back from their line.
workers_back : (workers turns : ℕ) → workers < 2 ^ 64 → turns < 2 ^ 64 → is_within 0 most_workers workers ≡ true → is_within 0 most_turns turns ≡ true → workers_of whole (words_of (spaced (workers_words workers turns))) ≡ Ok (workers, turns)
workers_back workers turns small few within also =
    ap (workers_of whole) (words_apart (codes "workers") (decimal workers ∷ decimal turns ∷ []) (workers_are workers turns small few))
    ∙ workers_made (workers_words workers turns) (decimal workers ∷ decimal turns ∷ []) (workers, decimal turns ∷ []) (turns, []) (keyword_back cause.Workers (codes "workers") (decimal workers ∷ decimal turns ∷ []))
    (number_back cause.Workers 0 most_workers workers (decimal turns ∷ []) small within) (number_back cause.Workers 0 most_turns turns [] few also) refl

-- a script, from what is read of its lines behind the first
pub assembled : (version : ℕ) (extent : Extent) (all : List (List ℕ)) (first : List ℕ × List (List ℕ)) (tables : List TableDecl × List (List ℕ)) (sessions_line : List ℕ × List (List ℕ)) (sessions : ℕ) (workers_line : List ℕ × List (List ℕ)) (workers : ℕ × ℕ)
    (go : List ℕ × List (List ℕ)) (rounds : List (List Line)) → next_line 2 cause.Table all ≡ Ok first → is_table_line first.0 ≡ true
    → tables_from extent 2 [] all ≡ Ok tables → next_line (length tables.0 + 2) cause.Sessions tables.1 ≡ Ok sessions_line → sessions_of extent (words_of sessions_line.0) ≡ Ok sessions
    → next_line (length tables.0 + 2 + 1) cause.Workers sessions_line.1 ≡ Ok workers_line → workers_of extent (words_of workers_line.0) ≡ Ok workers
    → next_line (length tables.0 + 2 + 2) cause.Go workers_line.1 ≡ Ok go → bytes_eq go.0 (codes "go") ≡ true → rounds_from extent tables.0 sessions (length tables.0 + 2 + 3) false go.1 ≡ Ok rounds
    → script_behind version extent all ≡ Ok (record { version = version; tables = tables.0; sessions = sessions; workers = workers.0; turns = workers.1; rounds = rounds; begun = [] })
assembled version extent all first tables sessions_line sessions workers_line workers go rounds e3 e4 e5 e6 e7 e8 e9 e10 e11 e12 =
    let made : Result Script Fault = Ok (record { version = version; tables = tables.0; sessions = sessions; workers = workers.0; turns = workers.1; rounds = rounds; begun = [] }) in
    gives (next_line 2 cause.Table all) _ made first e3
    (gives (on_line 2 (rule cause.Table (is_table_line first.0))) _ made tt (ap (on_line 2) (rule_back cause.Table (is_table_line first.0) e4))
    (gives (tables_from extent 2 [] all) _ made tables e5
    (gives (next_line (length tables.0 + 2) cause.Sessions tables.1) _ made sessions_line e6
    (gives (on_line (length tables.0 + 2) (sessions_of extent (words_of sessions_line.0))) _ made sessions (ap (on_line (length tables.0 + 2)) e7)
    (gives (next_line (length tables.0 + 2 + 1) cause.Workers sessions_line.1) _ made workers_line e8
    (gives (on_line (length tables.0 + 2 + 1) (workers_of extent (words_of workers_line.0))) _ made workers (ap (on_line (length tables.0 + 2 + 1)) e9)
    (gives (next_line (length tables.0 + 2 + 2) cause.Go workers_line.1) _ made go e10
    (gives (on_line (length tables.0 + 2 + 2) (rule cause.Go (bytes_eq go.0 (codes "go")))) _ made tt (ap (on_line (length tables.0 + 2 + 2)) (rule_back cause.Go (bytes_eq go.0 (codes "go")) e11))
    (gives (rounds_from extent tables.0 sessions (length tables.0 + 2 + 3) false go.1) _ made rounds e12 refl)))))))))

-- the parts of a workload
pub record ScriptParts (script : Script) : Type 0 where
  pub version : is_version script.version ≡ true
  pub kinds : list_all (λ table. are_taken_kinds (takes_later_kinds script.version) table.schema) script.tables ≡ true
  pub some : 0 < length script.tables
  pub tables : length script.tables ≤ 16
  pub head : Head script.tables script.sessions
  pub sessions : is_within 1 most_sessions script.sessions ≡ true
  pub workers : is_within 0 most_workers script.workers ≡ true
  pub turns : is_within 0 most_turns script.turns ≡ true
  pub rounds : 0 < length script.rounds
  pub lines : list_all (is_line_of script.tables script.sessions) (all_lines script) ≡ true
  pub taken : list_all (λ line. takes_command script.version line.command) (all_lines script) ≡ true
  pub once : exports_of (all_lines script) ≤ 1

-- a valid workload keeps the limits of each of its parts
pub script_parts : (script : Script) → is_valid script ≡ true → ScriptParts script
script_parts script valid =
    let a = and_parts (has_head script && nat_lt 0 (length script.rounds) && list_all (is_line script) (all_lines script)) (nat_le (count_by (λ line. is_export line.command) (all_lines script)) 1) valid in
    let b = and_parts (has_head script && nat_lt 0 (length script.rounds)) (list_all (is_line script) (all_lines script)) a.0 in
    let c = and_parts (has_head script) (nat_lt 0 (length script.rounds)) b.0 in
    let h6 = and_parts (has_version script && is_within 1 most_tables (length script.tables) && list_all is_table script.tables && have_own_names script.tables && is_within 1 most_sessions script.sessions && nat_le script.workers most_workers) (nat_le script.turns most_turns) c.0 in
    let h5 = and_parts (has_version script && is_within 1 most_tables (length script.tables) && list_all is_table script.tables && have_own_names script.tables && is_within 1 most_sessions script.sessions) (nat_le script.workers most_workers) h6.0 in
    let h4 = and_parts (has_version script && is_within 1 most_tables (length script.tables) && list_all is_table script.tables && have_own_names script.tables) (is_within 1 most_sessions script.sessions) h5.0 in
    let h3 = and_parts (has_version script && is_within 1 most_tables (length script.tables) && list_all is_table script.tables) (have_own_names script.tables) h4.0 in
    let h2 = and_parts (has_version script && is_within 1 most_tables (length script.tables)) (list_all is_table script.tables) h3.0 in
    let h1 = and_parts (has_version script) (is_within 1 most_tables (length script.tables)) h2.0 in
    let v = and_parts (is_version script.version) (list_all (λ table. are_taken_kinds (takes_later_kinds script.version) table.schema) script.tables) h1.0 in
    let each = all_both (is_line_of script.tables script.sessions) (λ line. takes_command script.version line.command) (all_lines script) b.1 in
    record {
      version = v.0;
      kinds = v.1;
      some = leb-true 1 (length script.tables) (and_parts (nat_le 1 (length script.tables)) (nat_le (length script.tables) most_tables) h1.1).0;
      tables = within_high 1 most_tables (length script.tables) h1.1;
      head = record { each = h2.1; own = h3.1; few = within_high 1 most_sessions script.sessions h4.1 };
      sessions = h4.1;
      workers = joined (le-leb 0 script.workers (omega arith)) h5.1;
      turns = joined (le-leb 0 script.turns (omega arith)) h6.1;
      rounds = ltb-true 0 (length script.rounds) c.1;
      lines = each.0;
      taken = each.1;
      once = leb-true (exports_of (all_lines script)) 1 a.1;
    }

-- The lines of a workload that writes only bytes are fine.
fine : (script : Script) → ScriptParts script → writes_only_bytes script ≡ true → AreFine script.tables script.sessions false (all_lines script)
fine script parts bytes = record {
  each = all_and (is_line_of script.tables script.sessions) (λ line. list_all has_only_bytes (written_row line.command)) (all_lines script) parts.lines bytes;
  once = omega (arith, parts.once);
}

-- Lines with the end behind them are not none.
end_some : (lines : List (List ℕ)) → 0 < length (ended lines)
end_some lines = omega (arith, length-append lines ([] ∷ []))

-- The line of a table is tested to be one.
first_table : (table : TableDecl) → is_table table ≡ true → is_table_line (table_text table) ≡ true
first_table table is = is_table_line_by (table_text table) (codes "table") _ (table_apart table is)

-- The line of the sessions is not one of a table.
no_table : (sessions : ℕ) → sessions < 2 ^ 64 → is_table_line (spaced (sessions_words sessions)) ≡ false
no_table sessions small = is_table_line_by (spaced (sessions_words sessions)) (codes "sessions") (decimal sessions ∷ []) (words_apart (codes "sessions") (decimal sessions ∷ []) (sessions_are sessions small))

-- numbers within their limits are small
small_of : (low high n : ℕ) → high < 2 ^ 64 → is_within low high n ≡ true → n < 2 ^ 64
small_of low high n fits within = omega (arith, within_high low high n within, fits)

-- the lines of these parts behind the first are read as them
parts_back : (version : ℕ) (table : TableDecl) (more : List TableDecl) (sessions workers turns : ℕ) (round : List Line) (others : List (List Line)) → length (table ∷ more) ≤ 16 → Head (table ∷ more) sessions → is_within 1 most_sessions sessions ≡ true
    → is_within 0 most_workers workers ≡ true → is_within 0 most_turns turns ≡ true → AreFine (table ∷ more) sessions false (lines_of (round ∷ others))
    → script_behind version whole (map table_text (table ∷ more) ++ spaced (sessions_words sessions) ∷ spaced (workers_words workers turns) ∷ codes "go" ∷ ended (round_lines (table ∷ more) (round ∷ others)))
    ≡ Ok (record { version = version; tables = table ∷ more; sessions = sessions; workers = workers; turns = turns; rounds = round ∷ others; begun = [] })
parts_back version table more sessions workers turns round others few head in_sessions in_workers in_turns are =
    let rounds : List (List ℕ) = ended (round_lines (table ∷ more) (round ∷ others)) in
    let go : List (List ℕ) = codes "go" ∷ rounds in
    let workers_line : List ℕ = spaced (workers_words workers turns) in
    let sessions_line : List ℕ = spaced (sessions_words sessions) in
    let tail : List (List ℕ) = sessions_line ∷ workers_line ∷ go in
    let tables : List (List ℕ) = map table_text (table ∷ more) ++ tail in
    let small = small_of 1 most_sessions sessions (omega arith) in_sessions in
    let few_workers = small_of 0 most_workers workers (omega arith) in_workers in
    let few_turns = small_of 0 most_turns turns (omega arith) in_turns in
    let at : ℕ = length (table ∷ more) + 2 in
    assembled version whole tables (table_text table, map table_text more ++ tail) (table ∷ more, tail) (sessions_line, workers_line ∷ go) sessions (workers_line, go) (workers, turns) (codes "go", rounds) (round ∷ others)
    (next_back 2 cause.Table (table_text table) (map table_text more ++ tail) (omega (arith, length-append (map table_text more) tail))) (first_table table (and_parts (is_table table) (list_all is_table more) head.each).0)
    (tables_back (table ∷ more) [] 2 sessions_line workers_line go (no_table sessions small) few head.each head.own)
    refl (sessions_back sessions small in_sessions) refl (workers_back workers turns few_workers few_turns in_workers in_turns)
    (next_back (at + 2) cause.Go (codes "go") rounds (end_some (round_lines (table ∷ more) (round ∷ others)))) refl
    (rounds_back (table ∷ more) sessions head others round (at + 3) false are)

-- the lines of a workload behind the first
abbrev pub behind_lines : Script → List (List ℕ)
behind_lines script = map table_text script.tables ++ spaced (sessions_words script.sessions) ∷ spaced (workers_words script.workers script.turns) ∷ codes "go" ∷ ended (round_lines script.tables script.rounds)

-- a workload has lines behind the first
pub some_behind : (script : Script) → 0 < length (behind_lines script)
some_behind script = omega (arith, length-append (map table_text script.tables) (spaced (sessions_words script.sessions) ∷ spaced (workers_words script.workers script.turns) ∷ codes "go" ∷ ended (round_lines script.tables script.rounds)))

-- A workload's lines are those of its version, tables, sessions, workers and rounds.
lines_are : (script : Script) → ended (script_lines script) ≡ spaced (store_words script.version) ∷ behind_lines script
lines_are script =
    ap (λ (lines : List (List ℕ)). spaced (store_words script.version) ∷ lines) (append_assoc (map table_text script.tables) (spaced (sessions_words script.sessions) ∷ spaced (workers_words script.workers script.turns) ∷ codes "go" ∷ round_lines script.tables script.rounds) ([] ∷ []))

-- the lines of a workload with these tables and rounds are read as it
abbrev IsBack : Script → List TableDecl → List (List Line) → Type 0
IsBack script tables rounds = length tables ≤ 16 → Head tables script.sessions → AreFine tables script.sessions false (lines_of rounds)
    → script_behind script.version whole (map table_text tables ++ spaced (sessions_words script.sessions) ∷ spaced (workers_words script.workers script.turns) ∷ codes "go" ∷ ended (round_lines tables rounds))
    ≡ Ok (record { version = script.version; tables = tables; sessions = script.sessions; workers = script.workers; turns = script.turns; rounds = rounds; begun = [] })

-- Where there are tables and rounds, a workload's lines with them are read as it.
back_by : (script : Script) (tables : List TableDecl) (rounds : List (List Line)) → ScriptParts script → 0 < length tables → 0 < length rounds → IsBack script tables rounds
back_by script [] rounds parts some many = absurd (omega (arith, some))
back_by script (table ∷ tables) [] parts some many = absurd (omega (arith, many))
back_by script (table ∷ tables) (round ∷ rounds) parts some many =
    λ few head are. parts_back script.version table tables script.sessions script.workers script.turns round rounds few head parts.sessions parts.workers parts.turns are

-- a workload whose cells of bytes have bytes, and whose store begins with nothing, is read back from
-- its lines behind the first
pub behind_back : (script : Script) → is_valid script ≡ true → script.begun ≡ [] → writes_only_bytes script ≡ true → script_behind script.version whole (behind_lines script) ≡ Ok script
behind_back script valid none bytes =
    let parts = script_parts script valid in
    back_by script script.tables script.rounds parts parts.some parts.rounds parts.tables parts.head (fine script parts bytes)
    ∙ ap (λ begun. Ok (record script { begun = begun })) (sym none)

-- The lines of tables have no line feed in them.
tables_whole : (tables : List TableDecl) → list_all is_table tables ≡ true → list_all is_whole (map table_text tables) ≡ true
tables_whole [] each = refl
tables_whole (table ∷ tables) each =
    let e = and_parts (is_table table) (list_all is_table tables) each in
    joined (words_whole (table_words table) (table_are_words table e.0)) (tables_whole tables e.1)

-- The lines of a workload have no line feed in them.
script_whole : (script : Script) → ScriptParts script → AreFine script.tables script.sessions false (all_lines script) → list_all is_whole (script_lines script) ≡ true
script_whole script parts are =
    let small = small_of 1 most_sessions script.sessions (omega arith) parts.sessions in
    let few_workers = small_of 0 most_workers script.workers (omega arith) parts.workers in
    let few_turns = small_of 0 most_turns script.turns (omega arith) parts.turns in
    let behind : List (List ℕ) = spaced (sessions_words script.sessions) ∷ spaced (workers_words script.workers script.turns) ∷ codes "go" ∷ round_lines script.tables script.rounds in
    joined (words_whole (store_words script.version) (plain_word (codes "store") refl, (number_word script.version (version_by (λ v. v < 2 ^ 64) (omega arith) (omega arith) script.version parts.version), tt)))
    (list_all-append is_whole (map table_text script.tables) behind
    ∙ joined (tables_whole script.tables parts.head.each)
    (joined (words_whole (sessions_words script.sessions) (sessions_are script.sessions small))
    (joined (words_whole (workers_words script.workers script.turns) (workers_are script.workers script.turns few_workers few_turns))
    (joined {t = list_all is_whole (round_lines script.tables script.rounds)} refl (rounds_whole script.tables script.sessions parts.head script.rounds are.each)))))

-- the text of a workload whose cells of bytes have bytes is its lines
pub text_apart : (script : Script) → is_valid script ≡ true → writes_only_bytes script ≡ true → parts line_feed (script_text script) ≡ spaced (store_words script.version) ∷ behind_lines script
text_apart script valid bytes =
    let parts = script_parts script valid in
    lines_apart (script_lines script) (script_whole script parts (fine script parts bytes)) ∙ lines_are script
