-- Columns and tables within an extent.
use Rattle.std.proofs.Common.{◌≡◌, ℕ, ◌+◌, ◌≤◌, Bool, true, false, List, [], ◌∷◌, ◌++◌, length, refl, sym, ap, ◌∙◌, subst, arith, length-append}
use Rattle.std.specs.Prelude.{◌%◌, ◌==◌, not, is_none, nat_le, nat_lt, codes, Result, Ok}
use Rattle.std.specs.List.{list_all}
use Rattle.std.proofs.lemmas.Bool.{ltb-true, lt-ltb, leb-true, le-leb, and_parts}
use Rattle.std.proofs.lemmas.List.Folds.{list_all-append}
use Rattle.cell_model.specs.declared.column.Column.{Column}
use Rattle.cell_model.specs.declared.table.TableDecl.{TableDecl}
use Rattle.cell_model.specs.Schemas.{most_columns, most_slots_of, place_of_name}
use Rattle.workload_spec.specs.declared.extent.Extent.{Extent}
use Rattle.workload_spec.specs.declared.script.Cause.{Cause}
use Rattle.workload_spec.specs.declared.script.Cause.TheVariants as cause
use Rattle.workload_spec.specs.Extents.{are_within, whole}
use Rattle.workload_spec.specs.Valid.{is_name, is_declared, is_taken_kind, least_slots, most_blocks, most_tables}
use Rattle.workload_spec.specs.Reading.{words_of}
use Rattle.workload_spec.specs.Grammar.{◌>>=◌, or_cause, rule, word, no_word, keyword, number, kind_of, has_colon, before_colon, after_colon, column_of, columns_from, key_column, table_of, Fault, on_line, is_table_line, tables_from}
use Rattle.workload_laws.proofs.Results.{step}
use Rattle.workload_laws.proofs.Lists.{joined, all-behind}
use Rattle.workload_laws.proofs.KindNames.{narrow_kind}
use Rattle.workload_laws.proofs.Columns.{columns_are}
use Rattle.workload_laws.proofs.Heads.{tables_are}
use Rattle.workload_laws.proofs.Narrows.{Narrows, alike, behind, joint, narrow_rule, narrow_on_line}

-- there is room behind so many
abbrev pub room : ℕ → ℕ → Bool
room most count = nat_lt count most

-- What is below a bound is below each that is no less.
widened : (low most count : ℕ) → low ≤ most → nat_lt count low ≡ true → nat_lt count most ≡ true
widened low most count le lt = lt-ltb count most (omega (arith, ltb-true count low lt))

-- there is room for the column, and its kind is taken
abbrev Suits : Extent → List Column → Column → Type 0
Suits extent columns column = (nat_lt (length columns) extent.columns ≡ true) × (is_taken_kind extent.later_kinds column.kind ≡ true)

-- A column within an extent is the whole format's for which there is room, and whose kind is taken.
narrow_column : (extent : Extent) (columns : List Column) (text : List ℕ) → extent.columns ≤ most_columns
    → Narrows (column_of extent columns text) (column_of whole columns text) (Suits extent columns)
narrow_column extent columns text le =
    let Kept : Column → Type 0 = Suits extent columns in
    behind (rule cause.Name (is_name (before_colon text))) _ _ Kept (λ named is1.
    behind (rule cause.Twice (is_none (place_of_name (before_colon text) columns))) _ _ Kept (λ own is2.
    joint (or_cause cause.Kind (kind_of extent.later_kinds (after_colon text))) (or_cause cause.Kind (kind_of true (after_colon text))) (λ kind. is_taken_kind extent.later_kinds kind.0 ≡ true) _ _ Kept
    (narrow_kind extent.later_kinds (after_colon text))
    (λ kind is3 taken.
    joint (rule cause.Columns (nat_lt (length columns) extent.columns)) (rule cause.Columns (nat_lt (length columns) most_columns)) (λ _. nat_lt (length columns) extent.columns ≡ true) _ _ Kept
    (narrow_rule cause.Columns (nat_lt (length columns) extent.columns) (nat_lt (length columns) most_columns) (widened extent.columns most_columns (length columns) le))
    (λ u is4 kept. alike (Ok (record { name = before_colon text; kind = kind.0; nullable = kind.1 })) Kept
    (λ a same. let e : record { name = before_colon text; kind = kind.0; nullable = kind.1 } ≡ a = cc in subst Kept e (kept, taken)))
    (λ u a is4 made kept. kept.0))
    (λ kind a is3 made kept. step (rule cause.Columns (nat_lt (length columns) most_columns)) _ a made (λ u is4 same.
    let e : record { name = before_colon text; kind = kind.0; nullable = kind.1 } ≡ a = cc in (subst Kept (sym e) kept).1))))

-- what is read is columns within the extent
abbrev pub Few : Extent → List Column × List (List ℕ) → Type 0
Few extent read = are_within extent read.0 ≡ true

-- whether the column's kind is taken
abbrev taken_test : Extent → Column → Bool
taken_test extent column = is_taken_kind extent.later_kinds column.kind

-- the key's column alone is within each extent that has room for a column
pub key_within : (extent : Extent) → 1 ≤ extent.columns → are_within extent (key_column ∷ []) ≡ true
key_within extent some = joined (le-leb 1 extent.columns some) refl

-- Columns within an extent are so with one more that suits it.
more_room : (extent : Extent) (columns : List Column) (column : Column) → are_within extent columns ≡ true → Suits extent columns column → are_within extent (columns ++ column ∷ []) ≡ true
more_room extent columns column within suits = joined
    (le-leb _ _ (omega (arith, ltb-true (length columns) extent.columns suits.0, length-append columns (column ∷ []))))
    (all-behind (taken_test extent) columns column (and_parts (nat_le (length columns) extent.columns) (list_all (taken_test extent) columns) within).1 suits.1)

-- Where the columns that were read are within an extent, each suited it.
had_room : (extent : Extent) (columns more : List Column) (column : Column) (read : List Column) → read ≡ (columns ++ column ∷ []) ++ more → are_within extent read ≡ true → Suits extent columns column
had_room extent columns more column read e within =
    let w = and_parts (nat_le (length read) extent.columns) (list_all (taken_test extent) read) within in
    let all : list_all (taken_test extent) ((columns ++ column ∷ []) ++ more) ≡ true = ap (list_all (taken_test extent)) (sym e) ∙ w.1 in
    let first = and_parts (list_all (taken_test extent) (columns ++ column ∷ [])) (list_all (taken_test extent) more) (sym (list_all-append (taken_test extent) (columns ++ column ∷ []) more) ∙ all) in
    let last = and_parts (list_all (taken_test extent) columns) (list_all (taken_test extent) (column ∷ [])) (sym (list_all-append (taken_test extent) columns (column ∷ [])) ∙ first.0) in (
      lt-ltb _ _ (omega (arith, leb-true (length read) extent.columns w.0, ap length e, length-append (columns ++ column ∷ []) more, length-append columns (column ∷ []))),
      (and_parts (taken_test extent column) true last.1).0,
    )

-- Columns from a word on, with a colon or not, are narrower within an extent.
narrow_columns_by : (extent : Extent) (columns : List Column) (text : List ℕ) (words : List (List ℕ)) (colon : Bool) → extent.columns ≤ most_columns → are_within extent columns ≡ true
    → ((others : List Column) → are_within extent others ≡ true → Narrows (columns_from extent others words) (columns_from whole others words) (Few extent))
    → Narrows
    (elim colon as (λ c. Result (List Column × List (List ℕ)) Cause) [ true ↦ column_of extent columns text >>= (λ column. columns_from extent (columns ++ column ∷ []) words) | false ↦ Ok (columns, text ∷ words) ])
    (elim colon as (λ c. Result (List Column × List (List ℕ)) Cause) [ true ↦ column_of whole columns text >>= (λ column. columns_from whole (columns ++ column ∷ []) words) | false ↦ Ok (columns, text ∷ words) ])
    (Few extent)
narrow_columns_by extent columns text words true le within others =
    joint (column_of extent columns text) (column_of whole columns text) (Suits extent columns) _ _ (Few extent)
    (narrow_column extent columns text le)
    (λ column is kept. others (columns ++ column ∷ []) (more_room extent columns column within kept))
    (λ column read is made kept. let all = columns_are words (columns ++ column ∷ []) read made in had_room extent columns all.more column read.0 all.behind kept)
narrow_columns_by extent columns text words false le within others =
    alike (Ok (columns, text ∷ words)) (Few extent) (λ a same. let e : (columns, text ∷ words) ≡ a = cc in subst (Few extent) e within)

-- columns within an extent are the whole format's that are few enough, of kinds that are taken
pub narrow_columns : (extent : Extent) (words : List (List ℕ)) (columns : List Column) → extent.columns ≤ most_columns → are_within extent columns ≡ true
    → Narrows (columns_from extent columns words) (columns_from whole columns words) (Few extent)
narrow_columns extent [] columns le within = alike (Ok (columns, [])) (Few extent) (λ a same. let e : (columns, []) ≡ a = cc in subst (Few extent) e within)
narrow_columns extent (text ∷ words) columns le within =
    narrow_columns_by extent columns text words (has_colon text) le within (λ others room. narrow_columns extent words others le room)

-- what stands behind the columns of a table's line
abbrev limits : List ℕ → List Column × List (List ℕ) → Result TableDecl Cause
limits name columns = do
  slots_word ← keyword cause.Slots (codes "slots") columns.1
  slots ← number cause.Slots least_slots (most_slots_of columns.0) slots_word
  eighths ← rule cause.Slots (slots.0 % 8 == 0)
  blocks_word ← keyword cause.Blocks (codes "blocks") slots.1
  blocks ← number cause.Blocks 1 most_blocks blocks_word
  end ← no_word cause.Blocks blocks.1
  Ok (record { name = name; schema = columns.0; slots = slots.0; blocks = blocks.0 })

-- A table that is read behind its columns has these columns.
schema_kept : (name : List ℕ) (columns : List Column × List (List ℕ)) (table : TableDecl) → limits name columns ≡ Ok table → table.schema ≡ columns.0
schema_kept name columns table e =
    step (keyword cause.Slots (codes "slots") columns.1) _ table e (λ slots_word is1 e1.
    step (number cause.Slots least_slots (most_slots_of columns.0) slots_word) _ table e1 (λ slots is2 e2.
    step (rule cause.Slots (slots.0 % 8 == 0)) _ table e2 (λ eighths is3 e3.
    step (keyword cause.Blocks (codes "blocks") slots.1) _ table e3 (λ blocks_word is4 e4.
    step (number cause.Blocks 1 most_blocks blocks_word) _ table e4 (λ blocks is5 e5.
    step (no_word cause.Blocks blocks.1) _ table e5 (λ end is6 e6.
    let same : record { name = name; schema = columns.0; slots = slots.0; blocks = blocks.0 } ≡ table = cc in
    ap (λ (t : TableDecl). t.schema) (sym same)))))))

-- a table of columns within the extent
abbrev pub IsNarrow : Extent → TableDecl → Type 0
IsNarrow extent table = are_within extent table.schema ≡ true

-- a table within an extent is the whole format's with columns within it
pub narrow_table : (extent : Extent) (tables : List TableDecl) (words : List (List ℕ)) → 1 ≤ extent.columns → extent.columns ≤ most_columns
    → Narrows (table_of extent tables words) (table_of whole tables words) (IsNarrow extent)
narrow_table extent tables words some le =
    behind (keyword cause.Table (codes "table") words) _ _ (IsNarrow extent) (λ line is1.
    behind (word cause.Name line) _ _ (IsNarrow extent) (λ name is2.
    behind (rule cause.Name (is_name name.0)) _ _ (IsNarrow extent) (λ named is3.
    behind (rule cause.Twice (not (is_declared name.0 tables))) _ _ (IsNarrow extent) (λ own is4.
    behind (keyword cause.Key (codes "key:i64") name.1) _ _ (IsNarrow extent) (λ key is5.
    joint (columns_from extent (key_column ∷ []) key) (columns_from whole (key_column ∷ []) key) (Few extent) (limits name.0) (limits name.0) (IsNarrow extent)
    (narrow_columns extent key (key_column ∷ []) le (key_within extent some))
    (λ columns is6 kept. alike (limits name.0 columns) (IsNarrow extent) (λ table made. subst (λ (schema : List Column). are_within extent schema ≡ true) (sym (schema_kept name.0 columns table made)) kept))
    (λ columns table is6 made kept. subst (λ (schema : List Column). are_within extent schema ≡ true) (schema_kept name.0 columns table made) kept))))))

-- so many tables and no more, of columns within the extent
pub record FewTables (extent : Extent) (tables : List TableDecl) : Type 0 where
  pub few : nat_le (length tables) extent.tables ≡ true
  pub each : list_all (λ table. are_within extent table.schema) tables ≡ true

-- The tables that were read are few enough for the extent.
abbrev ReadFew : Extent → List TableDecl × List (List ℕ) → Type 0
ReadFew extent read = FewTables extent read.0

-- Whether a table's columns are within the extent.
abbrev narrow_test : Extent → TableDecl → Bool
narrow_test extent table = are_within extent table.schema

-- Where there is room, one more narrow table leaves the tables few enough.
more_tables : (extent : Extent) (tables : List TableDecl) (table : TableDecl) → FewTables extent tables → nat_lt (length tables) extent.tables ≡ true → IsNarrow extent table → FewTables extent (tables ++ table ∷ [])
more_tables extent tables table are lt is = record {
  few = le-leb _ _ (omega (arith, ltb-true (length tables) extent.tables lt, length-append tables (table ∷ [])));
  each = list_all-append (narrow_test extent) tables (table ∷ []) ∙ joined are.each (joined is refl);
}

-- Where the tables that were read are few enough, there was room for each.
had_table_room : (extent : Extent) (tables more : List TableDecl) (table : TableDecl) (read : List TableDecl) → read ≡ (tables ++ table ∷ []) ++ more → FewTables extent read → nat_lt (length tables) extent.tables ≡ true
had_table_room extent tables more table read e are =
    lt-ltb _ _ (omega (arith, leb-true (length read) extent.tables are.few, ap length e, length-append (tables ++ table ∷ []) more, length-append tables (table ∷ [])))

-- Where the tables that were read are few enough, each is narrow.
was_narrow : (extent : Extent) (tables more : List TableDecl) (table : TableDecl) (read : List TableDecl) → read ≡ (tables ++ table ∷ []) ++ more → FewTables extent read → IsNarrow extent table
was_narrow extent tables more table read e are =
    let all : list_all (narrow_test extent) ((tables ++ table ∷ []) ++ more) ≡ true = subst (λ (ts : List TableDecl). list_all (narrow_test extent) ts ≡ true) e are.each in
    let first = and_parts (list_all (narrow_test extent) (tables ++ table ∷ [])) (list_all (narrow_test extent) more) (sym (list_all-append (narrow_test extent) (tables ++ table ∷ []) more) ∙ all) in
    let last = and_parts (list_all (narrow_test extent) tables) (list_all (narrow_test extent) (table ∷ [])) (sym (list_all-append (narrow_test extent) tables (table ∷ [])) ∙ first.0) in
    (and_parts (narrow_test extent table) true last.1).0

-- the tables behind others, where the first line is a table's
abbrev declared : Extent → ℕ → List TableDecl → List ℕ → List (List ℕ) → Result (List TableDecl × List (List ℕ)) Fault
declared extent at tables line rest =
    on_line at (rule cause.Table (nat_lt (length tables) extent.tables)) >>= λ room.
    on_line at (table_of extent tables (words_of line)) >>= λ table. tables_from extent (at + 1) (tables ++ table ∷ []) rest

-- Tables from a line on, of a table or not, are narrower within an extent.
narrow_tables_by : (extent : Extent) (at : ℕ) (tables : List TableDecl) (line : List ℕ) (rest : List (List ℕ)) (first : Bool) → extent.tables ≤ most_tables → 1 ≤ extent.columns → extent.columns ≤ most_columns → FewTables extent tables
    → ((others : List TableDecl) → FewTables extent others → Narrows (tables_from extent (at + 1) others rest) (tables_from whole (at + 1) others rest) (ReadFew extent))
    → Narrows (elim first as (λ c. Result (List TableDecl × List (List ℕ)) Fault) [ true ↦ declared extent at tables line rest | false ↦ Ok (tables, line ∷ rest) ])
    (elim first as (λ c. Result (List TableDecl × List (List ℕ)) Fault) [ true ↦ declared whole at tables line rest | false ↦ Ok (tables, line ∷ rest) ]) (ReadFew extent)
narrow_tables_by extent at tables line rest true many some le are others =
    joint (on_line at (rule cause.Table (nat_lt (length tables) extent.tables))) (on_line at (rule cause.Table (nat_lt (length tables) most_tables))) (λ _. nat_lt (length tables) extent.tables ≡ true) _ _ (ReadFew extent)
    (narrow_on_line at _ _ (λ _. nat_lt (length tables) extent.tables ≡ true) (narrow_rule cause.Table (nat_lt (length tables) extent.tables) (nat_lt (length tables) most_tables) (widened extent.tables most_tables (length tables) many)))
    (λ u is1 lt.
    joint (on_line at (table_of extent tables (words_of line))) (on_line at (table_of whole tables (words_of line))) (IsNarrow extent) _ _ (ReadFew extent)
    (narrow_on_line at _ _ (IsNarrow extent) (narrow_table extent tables (words_of line) some le))
    (λ table is2 narrow. others (tables ++ table ∷ []) (more_tables extent tables table are lt narrow))
    (λ table read is2 made kept. let all = tables_are (at + 1) (tables ++ table ∷ []) rest read made in was_narrow extent tables all.more table read.0 all.behind kept))
    (λ u read is1 made kept. step (on_line at (table_of whole tables (words_of line))) _ read made (λ table is2 last.
    let all = tables_are (at + 1) (tables ++ table ∷ []) rest read last in had_table_room extent tables all.more table read.0 all.behind kept))
narrow_tables_by extent at tables line rest false many some le are others =
    alike (Ok (tables, line ∷ rest)) (ReadFew extent) (λ a same. let e : (tables, line ∷ rest) ≡ a = cc in subst (ReadFew extent) e are)

-- tables within an extent are the whole format's that are few enough, of columns within it
pub narrow_tables : (extent : Extent) (at : ℕ) (tables : List TableDecl) (lines : List (List ℕ)) → extent.tables ≤ most_tables → 1 ≤ extent.columns → extent.columns ≤ most_columns → FewTables extent tables
    → Narrows (tables_from extent at tables lines) (tables_from whole at tables lines) (λ read. FewTables extent read.0)
narrow_tables extent at tables [] many some le are = alike (Ok (tables, [])) (ReadFew extent) (λ a same. let e : (tables, []) ≡ a = cc in subst (ReadFew extent) e are)
narrow_tables extent at tables (last ∷ []) many some le are = alike (Ok (tables, last ∷ [])) (ReadFew extent) (λ a same. let e : (tables, last ∷ []) ≡ a = cc in subst (ReadFew extent) e are)
narrow_tables extent at tables (line ∷ next ∷ rest) many some le are =
    narrow_tables_by extent at tables line (next ∷ rest) (is_table_line line) many some le are (λ others few. narrow_tables extent (at + 1) others (next ∷ rest) many some le few)
