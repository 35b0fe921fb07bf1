-- The tables of a valid script.
use Rattle.std.proofs.Common.{◌≡◌, ℕ, zero, suc, ◌≤◌, ◌<◌, nat_le, true, false, ◌&&◌, List, [], ◌∷◌, length, Option, None, Some, is_none, is_some, refl, sym, ap, subst, arith}
use Rattle.std.specs.Prelude.{option_map, slice_get, unwrap_or}
use Rattle.std.specs.List.{list_all}
use Rattle.std.specs.Option.{option_map_or}
use Rattle.std.proofs.lemmas.Bool.{leb-true}
use Rattle.cell_model.specs.declared.column.Column.{Column}
use Rattle.cell_model.specs.declared.table.TableDecl.{TableDecl}
use Rattle.cell_model.specs.Schemas.{begins_with_key, first_twins, most_columns}
use Rattle.event_spec.specs.Parts.{Shape}
use Rattle.event_spec.specs.Replay.{columns_in}
use Rattle.run_laws.proofs.Explained.Scripts.{head}
use Rattle.outcome_spec.specs.Tables.{columns_at}
use Rattle.run_laws.proofs.Calls.Along.{and_first, and_second}
use Rattle.script_text.proofs.Schemas.{all_named}
use Rattle.stream_laws.specs.Laws.{AreTold}
use Rattle.workload_spec.specs.declared.script.Script.{Script}
use Rattle.workload_spec.specs.Valid.{are_blocks, are_columns, are_slots, have_own_names, is_name, is_table, is_valid, is_within, most_sessions, most_tables, most_turns, most_workers, has_version, is_column}

-- False and true are never the same.
false_true : false ≡ true → ⊥
false_true e = cc

-- the table at a place
table_at : (tables : List TableDecl) (t : ℕ) → list_all is_table tables ≡ true → is_some (slice_get tables t) ≡ true
    → (decl : TableDecl) × (slice_get tables t ≡ Some decl) × (is_table decl ≡ true)
table_at [] t all is = absurd (false_true is)
table_at (x ∷ tables) zero all is = (x, refl, and_first (is_table x) (list_all is_table tables) all)
table_at (x ∷ tables) (suc t) all is = table_at tables t (and_second (is_table x) (list_all is_table tables) all) is

-- Columns that begin with the key are at least one.
some_columns : (columns : List Column) → begins_with_key columns ≡ true → 0 < length columns
some_columns [] key = absurd (false_true key)
some_columns (column ∷ columns) key = omega arith

-- a stream can tell a table's columns
columns_told : (table : TableDecl) → is_table table ≡ true → AreTold table.schema
columns_told table is =
    let a = and_first (is_name table.name && are_columns table.schema && are_slots table.schema table.slots) (are_blocks table.blocks) is in
    let b = and_first (is_name table.name && are_columns table.schema) (are_slots table.schema table.slots) a in
    let c = and_second (is_name table.name) (are_columns table.schema) b in
    let named = and_second (begins_with_key table.schema && nat_le (length table.schema) most_columns && is_none (first_twins 0 table.schema)) (list_all is_column table.schema) c in
    let d = and_first (begins_with_key table.schema && nat_le (length table.schema) most_columns && is_none (first_twins 0 table.schema)) (list_all is_column table.schema) c in
    let e = and_first (begins_with_key table.schema && nat_le (length table.schema) most_columns) (is_none (first_twins 0 table.schema)) d in
    let few : length table.schema ≤ most_columns = leb-true (length table.schema) most_columns (and_second (begins_with_key table.schema) (nat_le (length table.schema) most_columns) e) in
    record {
      some = some_columns table.schema (and_first (begins_with_key table.schema) (nat_le (length table.schema) most_columns) e);
      few = omega (arith, few);
      named = record { each = all_named table.schema named };
    }

-- a table's columns, as the core has them
pub columns_same : (shape : Shape) (t : ℕ) → columns_at shape.tables t ≡ columns_in shape t
columns_same shape t = go (slice_get shape.tables t)
  where
    go : (o : Option TableDecl) → option_map_or (λ decl. decl.schema) o [] ≡ unwrap_or (option_map (λ (decl : TableDecl). decl.schema) o) []
    go None = refl
    go (Some decl) = refl

-- the columns of each table of a valid script can be told by a stream
pub are_told : (script : Script) → is_valid script ≡ true → (t : ℕ) → is_some (slice_get script.tables t) ≡ true → AreTold (columns_at script.tables t)
are_told script valid t has =
    let h = head script valid in
    let a = and_first (has_version script && is_within 1 most_tables (length script.tables) && list_all is_table script.tables && have_own_names script.tables && is_within 1 most_sessions script.sessions && nat_le script.workers most_workers) (nat_le script.turns most_turns) h in
    let b = and_first (has_version script && is_within 1 most_tables (length script.tables) && list_all is_table script.tables && have_own_names script.tables && is_within 1 most_sessions script.sessions) (nat_le script.workers most_workers) a in
    let c = and_first (has_version script && is_within 1 most_tables (length script.tables) && list_all is_table script.tables && have_own_names script.tables) (is_within 1 most_sessions script.sessions) b in
    let d = and_first (has_version script && is_within 1 most_tables (length script.tables) && list_all is_table script.tables) (have_own_names script.tables) c in
    let tables = and_second (has_version script && is_within 1 most_tables (length script.tables)) (list_all is_table script.tables) d in
    let at = table_at script.tables t tables has in
    subst AreTold (ap (λ (found : Option TableDecl). option_map_or (λ (decl : TableDecl). decl.schema) found []) (sym at.1)) (columns_told at.0 at.2)
