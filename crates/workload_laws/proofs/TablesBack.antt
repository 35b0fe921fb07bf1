-- Tables are read back from their lines.
use Rattle.std.proofs.Common.{◌≡◌, ℕ, ◌+◌, ◌*◌, ◌/◌, ◌%◌, ◌^◌, ◌<◌, ◌≤◌, Bool, true, false, List, [], ◌∷◌, ◌++◌, length, map, refl, sym, ap, ◌∙◌, subst, arith, append_assoc, length-append}
use Rattle.std.specs.Prelude.{◌&&◌, ◌==◌, not, min, nat_le, nat_lt, bytes_eq, codes, decimal, slice_get, Result, Ok, if◌then◌else◌}
use Rattle.std.specs.Option.{option_map_or}
use Rattle.std.specs.List.{list_all}
use Rattle.std.proofs.lemmas.Bool.{leb-true, lt-ltb, and_parts, not-true}
use Rattle.std.proofs.lemmas.List.{append-nil}
use Rattle.std.proofs.lemmas.List.Folds.{list_all-append}
use Rattle.cell_model.specs.declared.column.Column.{Column}
use Rattle.cell_model.specs.declared.kind.Kind.{Kind}
use Rattle.cell_model.specs.declared.kind.Kind.TheVariants as kind
use Rattle.cell_model.specs.declared.table.TableDecl.{TableDecl}
use Rattle.cell_model.specs.Kinds.{has_width, values_of}
use Rattle.cell_model.specs.Schemas.{is_i64, is_key, begins_with_key, most_slots_of, row_bits}
use Rattle.workload_spec.specs.declared.script.Cause.{Cause}
use Rattle.workload_spec.specs.declared.script.Cause.TheVariants as cause
use Rattle.workload_spec.specs.Reading.{words_of}
use Rattle.workload_spec.specs.ScriptText.{kind_text, column_text, table_text}
use Rattle.workload_spec.specs.Valid.{is_within, is_name, are_columns, are_slots, are_blocks, is_table, is_declared, have_own_names, least_slots, most_blocks, most_tables, is_column}
use Rattle.workload_spec.specs.Extents.{whole}
use Rattle.workload_spec.specs.Grammar.{◌>>=◌, rule, word, no_word, keyword, number, key_column, columns_from, table_of, on_line, is_table_line, tables_from}
use Rattle.workload_laws.proofs.Results.{gives, rule_back, chosen, passed, eq_of}
use Rattle.workload_laws.proofs.Lists.{joined, own_names-before}
use Rattle.workload_laws.proofs.Cells.{i64_is}
use Rattle.workload_laws.proofs.Tables.{table_words}
use Rattle.workload_laws.proofs.Heads.{own_tables}
use Rattle.workload_laws.proofs.Apart.{is_plain, IsWord, AreWords, plain_word, words_append, words_apart}
use Rattle.workload_laws.proofs.Numbers.{keyword_back, number_back, decimal_plain}
use Rattle.workload_laws.proofs.KindNames.{kind_bytes}
use Rattle.workload_laws.proofs.ColumnsBack.{rest_bytes, name_bytes, columns_back}

-- a table's parts keep their limits
pub record TableParts (table : TableDecl) : Type 0 where
  pub named : is_name table.name ≡ true
  pub columns : are_columns table.schema ≡ true
  pub slots : is_within least_slots (most_slots_of table.schema) table.slots ≡ true
  pub eighths : table.slots % 8 == 0 ≡ true
  pub blocks : is_within 1 most_blocks table.blocks ≡ true

-- a table keeps its limits part by part
pub table_parts : (table : TableDecl) → is_table table ≡ true → TableParts table
table_parts table is =
    let a = and_parts (is_name table.name && are_columns table.schema && are_slots table.schema table.slots) (are_blocks table.blocks) is in
    let b = and_parts (is_name table.name && are_columns table.schema) (are_slots table.schema table.slots) a.0 in
    let c = and_parts (is_name table.name) (are_columns table.schema) b.0 in
    let s = and_parts (is_within least_slots (most_slots_of table.schema) table.slots) (table.slots % 8 == 0) b.1 in
    record { named = c.0; columns = c.1; slots = s.0; eighths = s.1; blocks = a.1 }

-- what is within bounds is at most the upper one
pub within_high : (low high n : ℕ) → is_within low high n ≡ true → n ≤ high
within_high low high n within = leb-true n high (and_parts (nat_le low n) (nat_le n high) within).1

-- A column with the name and the kind of the key and no nulls is the key's.
key_by : (name : List ℕ) (k : Kind) (nullable : Bool) → name ≡ codes "key" → k ≡ kind.I64 → nullable ≡ false → key_column ≡ record { name = name; kind = k; nullable = nullable }
key_by name k nullable e f g = rw (e, f, g) refl

-- A column that is tested to be the key is the key's column.
key_is : (column : Column) → is_key column ≡ true → key_column ≡ column
key_is column is =
    let a = and_parts (bytes_eq column.name (codes "key") && is_i64 column.kind) (not column.nullable) is in
    let b = and_parts (bytes_eq column.name (codes "key")) (is_i64 column.kind) a.0 in
    key_by column.name column.kind column.nullable (eq_of column.name (codes "key") b.0) (i64_is column.kind b.1) (not-true column.nullable a.1)

-- a table's columns are the key and others
key_first : (schema : List Column) → begins_with_key schema ≡ true → (more : List Column) × (key_column ∷ more ≡ schema)
key_first [] begins = absurd cc
key_first (column ∷ more) begins = (more, ap (λ (c : Column). c ∷ more) (key_is column begins))

-- a table's columns begin with the key
pub columns_begin : (columns : List Column) → are_columns columns ≡ true → begins_with_key columns ≡ true
columns_begin columns are = (and_parts (begins_with_key columns) _ (and_parts _ _ (and_parts _ (list_all is_column columns) are).0).0).0

-- a table read back behind others
abbrev pub IsReadBack : List TableDecl → TableDecl → Type 0
IsReadBack tables table = table_of whole tables (table_words table) ≡ Ok table

-- How many slots a table may have is below 2^64.
small_slots : (slots most : ℕ) → slots ≤ min (2 ^ 15) most → slots < 2 ^ 64
small_slots slots most le = omega arith

-- what the readings of a line give, in their order
assembled : (tables : List TableDecl) (words line : List (List ℕ)) (name : List ℕ × List (List ℕ)) (key : List (List ℕ)) (columns : List Column × List (List ℕ))
    (slots_word : List (List ℕ)) (slots : ℕ × List (List ℕ)) (blocks_word : List (List ℕ)) (blocks : ℕ × List (List ℕ))
    → keyword cause.Table (codes "table") words ≡ Ok line → word cause.Name line ≡ Ok name → is_name name.0 ≡ true → is_declared name.0 tables ≡ false
    → keyword cause.Key (codes "key:i64") name.1 ≡ Ok key → columns_from whole (key_column ∷ []) key ≡ Ok columns → keyword cause.Slots (codes "slots") columns.1 ≡ Ok slots_word
    → number cause.Slots least_slots (most_slots_of columns.0) slots_word ≡ Ok slots → slots.0 % 8 == 0 ≡ true
    → keyword cause.Blocks (codes "blocks") slots.1 ≡ Ok blocks_word → number cause.Blocks 1 most_blocks blocks_word ≡ Ok blocks → no_word cause.Blocks blocks.1 ≡ Ok tt
    → table_of whole tables words ≡ Ok (record { name = name.0; schema = columns.0; slots = slots.0; blocks = blocks.0 })
assembled tables words line name key columns slots_word slots blocks_word blocks e1 e2 e3 e4 e5 e6 e7 e8 e9 e10 e11 e12 =
    let made : Result TableDecl Cause = Ok (record { name = name.0; schema = columns.0; slots = slots.0; blocks = blocks.0 }) in
    gives (keyword cause.Table (codes "table") words) _ made line e1
    (gives (word cause.Name line) _ made name e2
    (gives (rule cause.Name (is_name name.0)) _ made tt (rule_back cause.Name (is_name name.0) e3)
    (gives (rule cause.Twice (not (is_declared name.0 tables))) _ made tt (rule_back cause.Twice (not (is_declared name.0 tables)) (ap not e4))
    (gives (keyword cause.Key (codes "key:i64") name.1) _ made key e5
    (gives (columns_from whole (key_column ∷ []) key) _ made columns e6
    (gives (keyword cause.Slots (codes "slots") columns.1) _ made slots_word e7
    (gives (number cause.Slots least_slots (most_slots_of columns.0) slots_word) _ made slots e8
    (gives (rule cause.Slots (slots.0 % 8 == 0)) _ made tt (rule_back cause.Slots (slots.0 % 8 == 0) e9)
    (gives (keyword cause.Blocks (codes "blocks") slots.1) _ made blocks_word e10
    (gives (number cause.Blocks 1 most_blocks blocks_word) _ made blocks e11
    (gives (no_word cause.Blocks blocks.1) _ made tt e12 refl)))))))))))

-- A table whose parts keep their limits is read back from its words.
parts_back : (tables : List TableDecl) (name : List ℕ) (more : List Column) (slots blocks : ℕ) → is_declared name tables ≡ false → TableParts (record { name = name; schema = key_column ∷ more; slots = slots; blocks = blocks })
    → IsReadBack tables (record { name = name; schema = key_column ∷ more; slots = slots; blocks = blocks })
parts_back tables name more slots blocks own parts =
    let blocks_words : List (List ℕ) = decimal blocks ∷ [] in
    let slots_words : List (List ℕ) = decimal slots ∷ codes "blocks" ∷ blocks_words in
    let limits : List (List ℕ) = codes "slots" ∷ slots_words in
    let key : List (List ℕ) = map column_text more ++ limits in
    assembled tables (codes "table" ∷ name ∷ codes "key:i64" ∷ key) (name ∷ codes "key:i64" ∷ key) (name, codes "key:i64" ∷ key) key (key_column ∷ more, limits) slots_words (slots, codes "blocks" ∷ blocks_words) blocks_words (blocks, [])
    (keyword_back cause.Table (codes "table") (name ∷ codes "key:i64" ∷ key)) refl parts.named own (keyword_back cause.Key (codes "key:i64") key)
    (columns_back more (key_column ∷ []) (codes "slots") slots_words refl parts.columns)
    (keyword_back cause.Slots (codes "slots") slots_words)
    (number_back cause.Slots least_slots (most_slots_of (key_column ∷ more)) slots (codes "blocks" ∷ blocks_words) (small_slots slots (8 * (2 ^ 20 / row_bits (key_column ∷ more))) (within_high least_slots (most_slots_of (key_column ∷ more)) slots parts.slots)) parts.slots)
    parts.eighths (keyword_back cause.Blocks (codes "blocks") blocks_words)
    (number_back cause.Blocks 1 most_blocks blocks [] (omega (arith, within_high 1 most_blocks blocks parts.blocks)) parts.blocks) refl

-- a table with a name of its own is read back from its words
pub table_back : (tables : List TableDecl) (table : TableDecl) → is_declared table.name tables ≡ false → is_table table ≡ true → IsReadBack tables table
table_back tables table own is =
    let parts = table_parts table is in
    let first = key_first table.schema (columns_begin table.schema parts.columns) in
    let same : record { name = table.name; schema = key_column ∷ first.0; slots = table.slots; blocks = table.blocks } ≡ table = ap (λ (schema : List Column). record { name = table.name; schema = schema; slots = table.slots; blocks = table.blocks }) first.1 in
    subst (IsReadBack tables) same (parts_back tables table.name first.0 table.slots table.blocks own (subst TableParts (sym same) parts))

-- Plain bytes and more plain bytes are plain together.
plain_append : (a b : List ℕ) → list_all is_plain a ≡ true → list_all is_plain b ≡ true → list_all is_plain (a ++ b) ≡ true
plain_append a b pa pb = list_all-append is_plain a b ∙ joined pa pb

-- The mark for nulls, if there is one, is of plain bytes.
mark_plain : (nullable : Bool) → list_all is_plain (if nullable then codes "?" else []) ≡ true
mark_plain true = refl
mark_plain false = refl

-- The text of a column with a name is of plain bytes.
column_plain : (column : Column) → is_column column ≡ true → list_all is_plain (column_text column) ≡ true
column_plain column is =
    let parts = and_parts (is_name column.name) (has_width (values_of column.kind)) is in
    plain_append ((column.name ++ codes ":") ++ kind_text column.kind) (if column.nullable then codes "?" else [])
    (plain_append (column.name ++ codes ":") (kind_text column.kind) (plain_append column.name (codes ":") (name_bytes column.name parts.0).plain refl) (rest_bytes (kind_text column.kind) (kind_bytes column.kind parts.1)).plain)
    (mark_plain column.nullable)

-- The texts of columns with names are words.
columns_words : (columns : List Column) → list_all is_column columns ≡ true → AreWords (map column_text columns)
columns_words [] named = tt
columns_words (column ∷ columns) named =
    let n = and_parts (is_column column) (list_all is_column columns) named in
    (plain_word (column_text column) (column_plain column n.0), columns_words columns n.1)

-- a name is a word
pub name_word : (name : List ℕ) → is_name name ≡ true → IsWord name
name_word name named = plain_word name (name_bytes name named).plain

-- so are the digits of a number
pub number_word : (n : ℕ) → n < 2 ^ 64 → IsWord (decimal n)
number_word n small = plain_word (decimal n) (decimal_plain n small)

-- the words of a table's line are words
pub table_are_words : (table : TableDecl) → is_table table ≡ true → AreWords (table_words table)
table_are_words table is =
    let parts = table_parts table is in (
      plain_word (codes "table") refl,
      (
        name_word table.name parts.named,
        words_append (map column_text table.schema) (codes "slots" ∷ decimal table.slots ∷ codes "blocks" ∷ decimal table.blocks ∷ [])
            (columns_words table.schema (and_parts _ (list_all is_column table.schema) parts.columns).1) (
              plain_word (codes "slots") refl,
              (
                number_word table.slots (small_slots table.slots (8 * (2 ^ 20 / row_bits table.schema)) (within_high least_slots (most_slots_of table.schema) table.slots parts.slots)),
                (plain_word (codes "blocks") refl, (number_word table.blocks (omega (arith, within_high 1 most_blocks table.blocks parts.blocks)), tt)),
              ),
            ),
      ),
    )

-- the words of a table's line
pub table_apart : (table : TableDecl) → is_table table ≡ true → words_of (table_text table) ≡ table_words table
table_apart table is = words_apart (codes "table") (table.name ∷ (map column_text table.schema ++ codes "slots" ∷ decimal table.slots ∷ codes "blocks" ∷ decimal table.blocks ∷ [])) (table_are_words table is)

-- a line is a table's where its first word says so
pub is_table_line_by : (line : List ℕ) (first : List ℕ) (rest : List (List ℕ)) → words_of line ≡ first ∷ rest → is_table_line line ≡ bytes_eq first (codes "table")
is_table_line_by line first rest e = ap (λ (words : List (List ℕ)). option_map_or (λ word. bytes_eq word (codes "table")) (slice_get words 0) false) e

-- A line that is none of a table ends the tables, and is left.
tables_none : (at : ℕ) (tables : List TableDecl) (line next : List ℕ) (rest : List (List ℕ)) → is_table_line line ≡ false → tables_from whole at tables (line ∷ next ∷ rest) ≡ Ok (tables, line ∷ next ∷ rest)
tables_none at tables line next rest none =
    passed (is_table_line line) (on_line at (rule cause.Table (nat_lt (length tables) most_tables)) >>= (λ room. on_line at (table_of whole tables (words_of line)) >>= (λ table. tables_from whole (at + 1) (tables ++ table ∷ []) (next ∷ rest))))
    (Ok (tables, line ∷ next ∷ rest)) none

-- A line that is read as a table puts it behind the others.
tables_next : (at : ℕ) (tables : List TableDecl) (table : TableDecl) (line : List ℕ) (rest : List (List ℕ)) → 0 < length rest → is_table_line line ≡ true → nat_lt (length tables) most_tables ≡ true → table_of whole tables (words_of line) ≡ Ok table
    → tables_from whole at tables (line ∷ rest) ≡ tables_from whole (at + 1) (tables ++ table ∷ []) rest
tables_next at tables table line [] some first room read = absurd (omega (arith, some))
tables_next at tables table line (next ∷ rest) some first room read =
    chosen (is_table_line line) (on_line at (rule cause.Table (nat_lt (length tables) most_tables)) >>= (λ room. on_line at (table_of whole tables (words_of line)) >>= (λ made. tables_from whole (at + 1) (tables ++ made ∷ []) (next ∷ rest))))
    (Ok (tables, line ∷ next ∷ rest)) first
    ∙ gives (on_line at (rule cause.Table (nat_lt (length tables) most_tables))) _ (tables_from whole (at + 1) (tables ++ table ∷ []) (next ∷ rest)) tt (ap (on_line at) (rule_back cause.Table (nat_lt (length tables) most_tables) room))
    (gives (on_line at (table_of whole tables (words_of line))) _ (tables_from whole (at + 1) (tables ++ table ∷ []) (next ∷ rest)) table (ap (on_line at) read) refl)

-- tables are read back behind others, up to a line that is none of a table
pub tables_back : (more tables : List TableDecl) (at : ℕ) (line next : List ℕ) (rest : List (List ℕ)) → is_table_line line ≡ false → length (tables ++ more) ≤ 16 → list_all is_table more ≡ true → have_own_names (tables ++ more) ≡ true
    → tables_from whole at tables (map table_text more ++ line ∷ next ∷ rest) ≡ Ok (tables ++ more, line ∷ next ∷ rest)
tables_back [] tables at line next rest none few each own = tables_none at tables line next rest none ∙ ap (λ (ts : List TableDecl). Ok (ts, line ∷ next ∷ rest)) (sym (append-nil tables))
tables_back (table ∷ more) tables at line next rest none few each own =
    let e = and_parts (is_table table) (list_all is_table more) each in
    let declared : is_declared table.name tables ≡ false = own_names-before (λ (t : TableDecl). t.name) tables table more (sym (own_tables (tables ++ table ∷ more)) ∙ own) in
    let apart = table_apart table e.0 in
    let same = append_assoc tables (table ∷ []) more in
    tables_next at tables table (table_text table) (map table_text more ++ line ∷ next ∷ rest) (omega (arith, length-append (map table_text more) (line ∷ next ∷ rest))) (is_table_line_by (table_text table) (codes "table") _ apart)
    (lt-ltb (length tables) 16 (omega (arith, few, length-append tables (table ∷ more)))) (ap (table_of whole tables) apart ∙ table_back tables table declared e.0)
    ∙ tables_back more (tables ++ table ∷ []) (at + 1) line next rest none (subst (λ (ts : List TableDecl). length ts ≤ 16) (sym same) few) e.1 (ap have_own_names same ∙ own)
    ∙ ap (λ (ts : List TableDecl). Ok (ts, line ∷ next ∷ rest)) same
