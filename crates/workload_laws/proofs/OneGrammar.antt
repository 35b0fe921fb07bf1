-- Reading line by line and printing describe the same texts.
use Rattle.std.proofs.Common.{◌≡◌, ℕ, ◌++◌, ◌∷◌, Bool, true, List, [], length, refl, sym, ap, ◌∙◌}
use Rattle.std.specs.Prelude.{nat_le, Ok}
use Rattle.std.specs.List.{list_all}
use Rattle.std.proofs.lemmas.Bool.{le-leb, and_parts}
use Rattle.cell_model.specs.Schemas.{begins_with_key, most_columns}
use Rattle.cell_model.specs.declared.table.TableDecl.{TableDecl}
use Rattle.workload_spec.specs.declared.command.Command.{Command}
use Rattle.workload_spec.specs.declared.command.Command.TheVariants as command
use Rattle.workload_spec.specs.declared.script.Cause.TheVariants as cause
use Rattle.workload_spec.specs.declared.script.Line.{Line}
use Rattle.workload_spec.specs.declared.script.Script.{Script}
use Rattle.workload_spec.specs.Extents.{extent_of, is_taken, RunsWithin}
use Rattle.workload_spec.specs.Grammar.{or_cause, on_line, next_line, version_of, script_of}
use Rattle.workload_spec.specs.Reading.{parts}
use Rattle.workload_spec.specs.ScriptText.{script_text}
use Rattle.workload_spec.specs.Valid.{IsWritten, is_table, takes_command, takes_later_kinds, are_taken_kinds, is_version, has_version, is_valid, all_lines, most_workers, most_turns}
use Rattle.workload_spec.specs.Words.{line_feed, spaced}
use Rattle.workload_laws.proofs.Results.{step, gives, some_of, on_line_is}
use Rattle.workload_laws.proofs.Lists.{joined, all_and}
use Rattle.workload_laws.proofs.Parts.{parts_joined}
use Rattle.workload_laws.proofs.Heads.{next_is}
use Rattle.workload_laws.proofs.Rounds.{rest_text}
use Rattle.workload_laws.proofs.Scripts.{store_words, version_is, version_back, lines_read}
use Rattle.workload_laws.proofs.TablesBack.{table_parts}
use Rattle.workload_laws.proofs.ScriptsBack.{next_back, some_behind, script_parts, behind_lines, behind_back, text_apart}
use Rattle.workload_laws.proofs.NarrowScripts.{kept, kinds_taken, commands_taken, extent_is, read_within}
use Rattle.workload_laws.proofs.ValidBytes.{valid_bytes}

-- What is read behind a version's line runs within the version's extent, and has its version.
has_read : (version : ℕ) (script : Script) → is_version version ≡ true → script.version ≡ version → RunsWithin (extent_of version) script → has_version script ≡ true
has_read version script is told within = joined (ap is_version told ∙ is)
    (ap (λ (v : ℕ). list_all (λ table. are_taken_kinds (takes_later_kinds v) table.schema) script.tables) told ∙ kinds_taken (extent_of version) script within)

-- An extent of a version takes the commands that the version takes.
command_taken : (version : ℕ) (asked : Command) → is_taken (extent_of version).commands asked ≡ takes_command version asked
command_taken version (command.Begin checked) = refl
command_taken version (command.Get table key) = refl
command_taken version (command.Scan table) = refl
command_taken version (command.Range table low high) = refl
command_taken version (command.Total table column low high) = refl
command_taken version (command.Insert table row) = refl
command_taken version (command.Update table row) = refl
command_taken version (command.Delete table key) = refl
command_taken version command.Commit = refl
command_taken version command.Abort = refl
command_taken version command.Observe = refl
command_taken version command.Prune = refl
command_taken version (command.Compact table) = refl
command_taken version (command.Seal table block) = refl
command_taken version (command.Gather table block) = refl
command_taken version (command.Export table) = refl

-- Lines whose commands an extent of a version takes are those that the version takes.
lines_taken : (version : ℕ) (lines : List Line) → list_all (λ line. is_taken (extent_of version).commands line.command) lines ≡ list_all (λ line. takes_command version line.command) lines
lines_taken version [] = refl
lines_taken version (line ∷ lines) = rw (command_taken version line.command, lines_taken version lines) refl

-- A workload that is read is one, and its text is what was read.
pub read_is_text : (bytes : List ℕ) (script : Script) → script_of bytes ≡ Ok script → (script_text script ≡ bytes) × IsWritten script
read_is_text bytes script e =
    step (next_line 1 cause.Version (parts line_feed bytes)) _ script e (λ store is1 e1.
    step (on_line 1 (or_cause cause.Version (version_of store.0))) _ script e1 (λ version is2 e2.
    let named = version_is store.0 version (some_of cause.Version (version_of store.0) version (on_line_is 1 (or_cause cause.Version (version_of store.0)) version is2)) in
    let within = (read_within version (extent_of version) store.1 script (extent_is version)).0 e2 in
    let read = lines_read version store.1 script within.0 in
    let first = next_is 1 cause.Version (parts line_feed bytes) store is1 in (
      read.text ∙ ap (λ (line : List ℕ). line ++ line_feed ∷ rest_text store.1) (sym named.0) ∙ sym first.text ∙ parts_joined line_feed bytes,
      record {
        valid = read.valid (has_read version script named.1 read.told within.1)
            (ap (λ (v : ℕ). list_all (λ line. takes_command v line.command) (all_lines script)) read.told ∙ sym (lines_taken version (all_lines script)) ∙ commands_taken (extent_of version) script within.1);
        begun = read.none;
      },
    )))

-- A workload runs within the extent of its version.

-- Where each that passes one test passes another, all of a list do.
all_through : {X : Type 0} (p q : X → Bool) (xs : List X) → ((x : X) → p x ≡ true → q x ≡ true) → list_all p xs ≡ true → list_all q xs ≡ true
all_through p q [] through all = refl
all_through p q (x ∷ xs) through all = let a = and_parts (p x) (list_all p xs) all in joined (through x a.0) (all_through p q xs through a.1)

-- A table has no more columns than the format takes.
few_columns : (table : TableDecl) → is_table table ≡ true → nat_le (length table.schema) most_columns ≡ true
few_columns table is = (and_parts (begins_with_key table.schema) (nat_le (length table.schema) most_columns) (and_parts _ _ (and_parts _ _ (table_parts table is).columns).0).0).1

-- A workload runs within the extent of its version.
valid_within : (script : Script) → is_valid script ≡ true → RunsWithin (extent_of script.version) script
valid_within script valid =
    let parts = script_parts script valid in
    let extent = extent_of script.version in
    kept extent script (record {
      tables = record {
        few = le-leb (length script.tables) 16 parts.tables;
        each = all_and (λ (table : TableDecl). nat_le (length table.schema) most_columns) (λ (table : TableDecl). are_taken_kinds (takes_later_kinds script.version) table.schema) script.tables
            (all_through is_table (λ (table : TableDecl). nat_le (length table.schema) most_columns) script.tables few_columns parts.head.each) parts.kinds;
      };
      sessions = (and_parts (nat_le 1 script.sessions) (nat_le script.sessions 64) parts.sessions).1;
      workers = (
        (and_parts (nat_le 0 script.workers) (nat_le script.workers most_workers) parts.workers).1,
        (and_parts (nat_le 0 script.turns) (nat_le script.turns most_turns) parts.turns).1,
      );
      rounds = record { few = refl; each = lines_taken script.version (all_lines script) ∙ parts.taken };
    })

-- A workload as it is written is read from its text.
pub text_is_read : (script : Script) → IsWritten script → script_of (script_text script) ≡ Ok script
text_is_read script written =
    let valid = written.valid in
    let bytes = valid_bytes script valid in
    let version = script.version in
    let line : List ℕ = spaced (store_words version) in
    let apart = text_apart script valid bytes in
    let back = (read_within version (extent_of version) (behind_lines script) script (extent_is version)).1 (behind_back script valid written.begun bytes, valid_within script valid) in
    gives (next_line 1 cause.Version (parts line_feed (script_text script))) _ (Ok script) (line, behind_lines script) (ap (next_line 1 cause.Version) apart ∙ next_back 1 cause.Version line (behind_lines script) (some_behind script))
    (gives (on_line 1 (or_cause cause.Version (version_of line))) _ (Ok script) version (ap (λ o. on_line 1 (or_cause cause.Version o)) (version_back version (script_parts script valid).version)) back)
