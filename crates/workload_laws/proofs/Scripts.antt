-- A script that is read behind its version is the lines, and is a workload.
use Rattle.std.proofs.Common.{◌≡◌, ℕ, ◌+◌, ◌<◌, inl, inr, Bool, true, false, List, [], ◌∷◌, ◌++◌, length, map, refl, sym, ap, ◌∙◌, subst, arith}
use Rattle.std.specs.Prelude.{◌==◌, nat_le, bytes_eq, codes, decimal, Some, None, Ok, if◌then◌else◌}
use Rattle.std.specs.List.{list_all}
use Rattle.std.proofs.lemmas.Bool.{eqb-true, lt-ltb, le-leb, and_parts, or_cases}
use Rattle.std.proofs.lemmas.Grind.{flat_map-append}
use Rattle.std.proofs.lemmas.Fmt.{decimal_digit}
use Rattle.cell_model.specs.declared.table.TableDecl.{TableDecl}
use Rattle.workload_spec.specs.declared.script.Cause.TheVariants as cause
use Rattle.workload_spec.specs.declared.script.Line.{Line}
use Rattle.workload_spec.specs.declared.script.Script.{Script}
use Rattle.workload_spec.specs.Words.{spaced, line_feed, lines_text}
use Rattle.workload_spec.specs.ScriptText.{table_text, round_lines, script_text}
use Rattle.workload_spec.specs.Reading.{words_of}
use Rattle.workload_spec.specs.Valid.{is_within, is_table, have_own_names, takes_command, all_lines, is_version, has_version, is_valid, most_tables, most_sessions, most_workers, most_turns}
use Rattle.workload_spec.specs.Extents.{whole}
use Rattle.workload_spec.specs.Grammar.{rule, no_word, keyword, number, on_line, next_line, is_table_line, tables_from, rounds_from, sessions_of, workers_of, version_of, script_behind}
use Rattle.workload_laws.specs.Bytes.{writes_only_bytes}
use Rattle.workload_laws.proofs.Results.{step, rule_of, on_line_is, no_word_is, keyword_is, number_is, eq_of}
use Rattle.workload_laws.proofs.Lists.{joined, all_and}
use Rattle.workload_laws.proofs.Parts.{line_joined}
use Rattle.workload_laws.proofs.Rounds.{rest_text, line_first, is_line_of, lines_of, ReadsRounds, rounds_are}
use Rattle.workload_laws.proofs.Heads.{next_is, tables_are, tables_some}

-- the line of sessions that is read, and its bounds
pub sessions_are : (words : List (List ℕ)) (sessions : ℕ) → sessions_of whole words ≡ Ok sessions → (words ≡ codes "sessions" ∷ decimal sessions ∷ []) × (is_within 1 most_sessions sessions ≡ true)
sessions_are words sessions e =
    step (keyword cause.Sessions (codes "sessions") words) _ sessions e (λ rest is1 e1.
    step (number cause.Sessions 1 most_sessions rest) _ sessions e1 (λ read is2 e2.
    step (no_word cause.Sessions read.1) _ sessions e2 (λ u is3 e3.
    let same : read.0 ≡ sessions = cc in
    let n = number_is cause.Sessions 1 most_sessions rest read is2 in
    (rw (keyword_is cause.Sessions (codes "sessions") words rest is1, n.0, no_word_is cause.Sessions read.1 u is3, same) refl, ap (is_within 1 most_sessions) (sym same) ∙ n.1))))

-- the line of workers that is read, and its bounds
pub workers_are : (words : List (List ℕ)) (workers : ℕ × ℕ) → workers_of whole words ≡ Ok workers
    → (words ≡ codes "workers" ∷ decimal workers.0 ∷ decimal workers.1 ∷ []) × (is_within 0 most_workers workers.0 ≡ true) × (is_within 0 most_turns workers.1 ≡ true)
workers_are words workers e =
    step (keyword cause.Workers (codes "workers") words) _ workers e (λ rest is1 e1.
    step (number cause.Workers 0 most_workers rest) _ workers e1 (λ read is2 e2.
    step (number cause.Workers 0 most_turns read.1) _ workers e2 (λ turns is3 e3.
    step (no_word cause.Workers turns.1) _ workers e3 (λ u is4 e4.
    let same : (read.0, turns.0) ≡ workers = cc in
    let n = number_is cause.Workers 0 most_workers rest read is2 in
    let m = number_is cause.Workers 0 most_turns read.1 turns is3 in
    subst (λ (w : ℕ × ℕ). (words ≡ codes "workers" ∷ decimal w.0 ∷ decimal w.1 ∷ []) × (is_within 0 most_workers w.0 ≡ true) × (is_within 0 most_turns w.1 ≡ true)) same
    (rw (keyword_is cause.Workers (codes "workers") words rest is1, n.0, m.0, no_word_is cause.Workers turns.1 u is4) refl, n.1, m.1)))))

-- the lines, one after the other
lines_whole : (store sessions workers go : List ℕ) (tables rounds : List (List ℕ)) (all a b c d f : List ℕ) → all ≡ store ++ line_feed ∷ a → a ≡ lines_text tables ++ b → b ≡ sessions ++ line_feed ∷ c → c ≡ workers ++ line_feed ∷ d → d ≡ go ++ line_feed ∷ f → lines_text rounds ≡ f
    → lines_text (store ∷ (tables ++ sessions ∷ workers ∷ go ∷ rounds)) ≡ all
lines_whole store sessions workers go tables rounds all a b c d f e1 e2 e3 e4 e5 e6 =
    line_first store (tables ++ sessions ∷ workers ∷ go ∷ rounds)
    ∙ ap (λ (text : List ℕ). store ++ line_feed ∷ text) (flat_map-append (λ (line : List ℕ). line ++ line_feed ∷ []) tables (sessions ∷ workers ∷ go ∷ rounds)
    ∙ ap (λ (text : List ℕ). lines_text tables ++ text) (line_first sessions (workers ∷ go ∷ rounds)
    ∙ ap (λ (text : List ℕ). sessions ++ line_feed ∷ text) (line_first workers (go ∷ rounds)
    ∙ ap (λ (text : List ℕ). workers ++ line_feed ∷ text) (line_first go rounds ∙ ap (λ (text : List ℕ). go ++ line_feed ∷ text) e6 ∙ sym e5) ∙ sym e4) ∙ sym e3) ∙ sym e2) ∙ sym e1

-- The line of a version.
abbrev pub store_words : ℕ → List (List ℕ)
store_words version = codes "store" ∷ decimal version ∷ []

-- what holds of each version
pub version_by : (P : ℕ → Type 0) → P 1 → P 2 → (version : ℕ) → is_version version ≡ true → P version
version_by P first second version is = elim (or_cases (version == 1) (version == 2) is) [
  | inl one ↦ subst P (sym (eqb-true version 1 one)) first
  | inr two ↦ subst P (sym (eqb-true version 2 two)) second
]

-- the version that a line names is one, and the line is that of it
pub version_is : (line : List ℕ) (version : ℕ) → version_of line ≡ Some version → (line ≡ spaced (store_words version)) × (is_version version ≡ true)
version_is line version e = by (bytes_eq line (codes "store 1")) (bytes_eq line (codes "store 2")) refl refl e
  where
    by : (b c : Bool) → bytes_eq line (codes "store 1") ≡ b → bytes_eq line (codes "store 2") ≡ c → (if b then Some 1 else if c then Some 2 else None) ≡ Some version → (line ≡ spaced (store_words version)) × (is_version version ≡ true)
    by true c first second f =
        let same : 1 ≡ version = cc in
        subst (λ (v : ℕ). (line ≡ spaced (store_words v)) × (is_version v ≡ true)) same (eq_of line (codes "store 1") first ∙ rw (decimal_digit 1 (omega arith)) refl, refl)
    by false true first second f =
        let same : 2 ≡ version = cc in
        subst (λ (v : ℕ). (line ≡ spaced (store_words v)) × (is_version v ≡ true)) same (eq_of line (codes "store 2") second ∙ rw (decimal_digit 2 (omega arith)) refl, refl)
    by false false first second f = absurd cc

-- a version is named by its line
pub version_back : (version : ℕ) → is_version version ≡ true → version_of (spaced (store_words version)) ≡ Some version
version_back version is = version_by (λ v. version_of (spaced (store_words v)) ≡ Some v) (rw (decimal_digit 1 (omega arith)) refl) (rw (decimal_digit 2 (omega arith)) refl) version is

-- a script of these parts is a workload, where its version is one that has the kinds of its columns
-- and takes its commands
valid : (version : ℕ) (tables : List TableDecl) (sessions workers turns : ℕ) (rounds : List (List Line)) (lines : List (List ℕ)) → 0 < length tables → nat_le (length tables) most_tables ≡ true → list_all is_table tables ≡ true → have_own_names tables ≡ true
    → is_within 1 most_sessions sessions ≡ true → is_within 0 most_workers workers ≡ true → is_within 0 most_turns turns ≡ true → ReadsRounds tables sessions false lines rounds
    → has_version (record { version = version; tables = tables; sessions = sessions; workers = workers; turns = turns; rounds = rounds; begun = [] }) ≡ true
    → list_all (λ line. takes_command version line.command) (lines_of rounds) ≡ true
    → is_valid (record { version = version; tables = tables; sessions = sessions; workers = workers; turns = turns; rounds = rounds; begun = [] }) ≡ true
valid version tables sessions workers turns rounds lines some few each own in_sessions in_workers in_turns all has taken =
    joined (joined (joined
    (joined (joined (joined (joined (joined (joined has (joined (le-leb 1 (length tables) some) few)) each) own) in_sessions) (and_parts (nat_le 0 workers) _ in_workers).1) (and_parts (nat_le 0 turns) _ in_turns).1)
    (lt-ltb 0 (length rounds) all.some)) (all_and (is_line_of tables sessions) (λ line. takes_command version line.command) (lines_of rounds) all.each taken)) (le-leb _ 1 (omega (arith, all.once)))

-- what lines behind the first that are read as a script of a version are: its text behind that
-- line, and it is a workload where it has its version and the version takes its commands
pub record ReadsBehind (version : ℕ) (lines : List (List ℕ)) (script : Script) : Type 0 where
  pub told : script.version ≡ version
  pub text : script_text script ≡ spaced (store_words version) ++ line_feed ∷ rest_text lines
  pub valid : has_version script ≡ true → list_all (λ line. takes_command script.version line.command) (all_lines script) ≡ true → is_valid script ≡ true
  pub bytes : writes_only_bytes script ≡ true
  pub none : script.begun ≡ []

-- the lines that are read as a script are its text behind the first, and it is a workload
pub lines_read : (version : ℕ) (all : List (List ℕ)) (script : Script) → script_behind version whole all ≡ Ok script → ReadsBehind version all script
lines_read version all script e =
    step (next_line 2 cause.Table all) _ script e (λ first is3 e3.
    step (on_line 2 (rule cause.Table (is_table_line first.0))) _ script e3 (λ v is4 e4.
    step (tables_from whole 2 [] all) _ script e4 (λ tables is5 e5.
    step (next_line (length tables.0 + 2) cause.Sessions tables.1) _ script e5 (λ sessions_line is6 e6.
    step (on_line (length tables.0 + 2) (sessions_of whole (words_of sessions_line.0))) _ script e6 (λ sessions is7 e7.
    step (next_line (length tables.0 + 2 + 1) cause.Workers sessions_line.1) _ script e7 (λ workers_line is8 e8.
    step (on_line (length tables.0 + 2 + 1) (workers_of whole (words_of workers_line.0))) _ script e8 (λ workers is9 e9.
    step (next_line (length tables.0 + 2 + 2) cause.Go workers_line.1) _ script e9 (λ go is10 e10.
    step (on_line (length tables.0 + 2 + 2) (rule cause.Go (bytes_eq go.0 (codes "go")))) _ script e10 (λ w is11 e11.
    step (rounds_from whole tables.0 sessions (length tables.0 + 2 + 3) false go.1) _ script e11 (λ rounds is12 e12.
    let same : record { version = version; tables = tables.0; sessions = sessions; workers = workers.0; turns = workers.1; rounds = rounds; begun = [] } ≡ script = cc in
    let n2 = next_is 2 cause.Table all first is3 in
    let n6 = next_is (length tables.0 + 2) cause.Sessions tables.1 sessions_line is6 in
    let n8 = next_is (length tables.0 + 2 + 1) cause.Workers sessions_line.1 workers_line is8 in
    let n10 = next_is (length tables.0 + 2 + 2) cause.Go workers_line.1 go is10 in
    let ts = tables_are 2 [] all tables is5 in
    let ss = sessions_are (words_of sessions_line.0) sessions (on_line_is _ (sessions_of whole (words_of sessions_line.0)) sessions is7) in
    let ws = workers_are (words_of workers_line.0) workers (on_line_is _ (workers_of whole (words_of workers_line.0)) workers is9) in
    let rs = rounds_are tables.0 sessions (length tables.0 + 2 + 3) false go.1 rounds (ts.each refl) is12 in
    subst (ReadsBehind version all) same (record {
      told = refl;
      text = lines_whole (spaced (store_words version)) (spaced (codes "sessions" ∷ decimal sessions ∷ [])) (spaced (codes "workers" ∷ decimal workers.0 ∷ decimal workers.1 ∷ [])) (codes "go")
          (map table_text tables.0) (round_lines tables.0 rounds) (spaced (store_words version) ++ line_feed ∷ rest_text all) (rest_text all) (rest_text tables.1) (rest_text sessions_line.1) (rest_text workers_line.1) (rest_text go.1)
          refl
          (ts.text ∙ ap (λ (read : List TableDecl). lines_text (map table_text read) ++ rest_text tables.1) (sym ts.behind))
          (n6.text ∙ ap (λ (line : List ℕ). line ++ line_feed ∷ rest_text sessions_line.1) (sym (line_joined sessions_line.0) ∙ ap spaced ss.0))
          (n8.text ∙ ap (λ (line : List ℕ). line ++ line_feed ∷ rest_text workers_line.1) (sym (line_joined workers_line.0) ∙ ap spaced ws.0))
          (n10.text ∙ ap (λ (line : List ℕ). line ++ line_feed ∷ rest_text go.1) (eq_of go.0 (codes "go") (rule_of cause.Go _ w (on_line_is _ _ w is11))))
          rs.text;
      valid = valid version tables.0 sessions workers.0 workers.1 rounds go.1
          (tables_some 2 [] first.0 first.1 tables (rule_of cause.Table _ v (on_line_is 2 _ v is4)) n2.more (ap (tables_from whole 2 []) (sym n2.is) ∙ is5))
          (ts.few refl) (ts.each refl) (ts.own refl) ss.1 ws.1 ws.2 rs;
      bytes = rs.bytes;
      none = refl;
    })))))))))))
