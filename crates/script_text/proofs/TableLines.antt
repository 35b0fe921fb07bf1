-- A table's line among the lines.
use Rattle.std.proofs.Common.{◌≡◌, ℕ, ◌+◌, ◌<◌, ◌≤◌, true, List, [], ◌∷◌, ◌++◌, length, refl, ◌∙◌, arith}
use Rattle.std.specs.Prelude.{nat_lt, Result, Ok, Err, length}
use Rattle.std.proofs.lemmas.Bool.{lt-ltb, le-ltb}
use Rattle.cell_model.specs.declared.table.TableDecl.{TableDecl}
use Rattle.workload_spec.specs.declared.extent.Extent.{Extent}
use Rattle.workload_spec.specs.declared.script.Cause.TheVariants as cause
use Rattle.workload_spec.specs.Reading.{words_of}
use Rattle.workload_spec.specs.Grammar.{◌>>=◌, rule, Fault, on_line, is_table_line, table_of, tables_from}
use Rattle.script_text.specs.declared.fault.WordFault.{WordFault}
use Rattle.script_text.specs.declared.fault.WordFault.TheVariants as word
use Rattle.script_text.specs.Answers.{Fails, LineFails, fault_on_line}
use Rattle.workload_laws.proofs.Results.{chosen}

-- what is read of a table's line and those behind it
abbrev behind_table : Extent → ℕ → List TableDecl → List ℕ → List (List ℕ) → Result (List TableDecl × List (List ℕ)) Fault
behind_table extent at tables line rest =
    on_line at (rule cause.Table (nat_lt (length tables) extent.tables)) >>= λ room.
    on_line at (table_of extent tables (words_of line)) >>= λ table. tables_from extent (at + 1) (tables ++ table ∷ []) rest

-- A table's line is read as a table where there is room for one, and then those behind.
table_line : (extent : Extent) (at : ℕ) (tables : List TableDecl) (line : List ℕ) (rest : List (List ℕ)) → 0 < length rest → is_table_line line ≡ true → tables_from extent at tables (line ∷ rest) ≡ behind_table extent at tables line rest
table_line extent at tables line [] some is = absurd (omega (arith, some))
table_line extent at tables line (next ∷ rest) some is = chosen (is_table_line line) (behind_table extent at tables line (next ∷ rest)) (Ok (tables, line ∷ next ∷ rest)) is

-- a table's line where there are as many tables as there may be is a fault
pub table_full : (extent : Extent) (at : ℕ) (tables : List TableDecl) (line : List ℕ) (rest : List (List ℕ)) → 0 < length rest → is_table_line line ≡ true → extent.tables ≤ length tables
    → tables_from extent at tables (line ∷ rest) ≡ Err (record { line = at; cause = cause.Table })
table_full extent at tables line rest some is full = table_line extent at tables line rest some is ∙ rw (le-ltb (length tables) extent.tables full) refl

-- a table's line that is read adds its table
pub table_next : (extent : Extent) (at : ℕ) (tables : List TableDecl) (line : List ℕ) (rest : List (List ℕ)) (table : TableDecl) → 0 < length rest → is_table_line line ≡ true → length tables < extent.tables
    → table_of extent tables (words_of line) ≡ Ok table → tables_from extent at tables (line ∷ rest) ≡ tables_from extent (at + 1) (tables ++ table ∷ []) rest
table_next extent at tables line rest table some is room read = table_line extent at tables line rest some is ∙ rw (lt-ltb (length tables) extent.tables room, read) refl

-- one that is not read is the fault, on its line
pub table_bad : (extent : Extent) (at : ℕ) (tables : List TableDecl) (line : List ℕ) (rest : List (List ℕ)) (fault : WordFault) → 0 < length rest → is_table_line line ≡ true → length tables < extent.tables
    → Fails fault (table_of extent tables (words_of line)) → LineFails (fault_on_line at fault) (tables_from extent at tables (line ∷ rest))
table_bad extent at tables line rest (word.Bad cause) some is room fails = table_line extent at tables line rest some is ∙ rw (lt-ltb (length tables) extent.tables room, fails) refl
table_bad extent at tables line rest (word.Memory refused) some is room fails = tt
