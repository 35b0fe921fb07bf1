-- Commands that are read are their words, and name what there is.
use Rattle.std.proofs.Common.{◌≡◌, ℕ, ◌+◌, Bool, true, false, cond, List, [], ◌∷◌, length, drop, refl, sym, ap, ◌∙◌, subst, arith, suc, zero}
use Rattle.std.specs.Prelude.{◌&&◌, ◌==◌, not, Option, None, Some, option_map, is_some, slice_get, position, find, bytes_eq, codes, decimal, ℤ, Ok}
use Rattle.std.specs.Fmt.{signed_decimal}
use Rattle.std.specs.Option.{option_map_or}
use Rattle.std.specs.List.{list_all}
use Rattle.std.proofs.lemmas.Bool.{eqb-true, and_parts, not-true}
use Rattle.cell_model.specs.declared.cell.Cell.{Cell}
use Rattle.cell_model.specs.declared.cell.Cell.TheVariants.{Num}
use Rattle.cell_model.specs.declared.column.Column.{Column}
use Rattle.cell_model.specs.declared.kind.Kind.{Kind}
use Rattle.cell_model.specs.declared.table.TableDecl.{TableDecl}
use Rattle.cell_model.specs.Kinds.{values_of}
use Rattle.cell_model.specs.Rows.{fits}
use Rattle.cell_model.specs.Schemas.{begins_with_key, place_of_name}
use Rattle.cell_model.specs.Values.{is_integer_of}
use Rattle.workload_spec.specs.declared.command.Command.{Command}
use Rattle.workload_spec.specs.declared.command.Command.TheVariants as command
use Rattle.workload_spec.specs.declared.script.Cause.TheVariants as cause
use Rattle.workload_spec.specs.declared.script.Line.{Line}
use Rattle.workload_spec.specs.Words.{cell_words}
use Rattle.workload_spec.specs.ScriptText.{name_of_table, name_of_column, command_words}
use Rattle.workload_spec.specs.Reading.{integer_of, integer_in, natural_of, value_of_digits}
use Rattle.workload_spec.specs.Valid.{is_within, is_name, are_columns, are_slots, are_blocks, is_table, is_table_place, is_block_of, is_key_number, fits_table, are_numbers, are_bounds_in, is_command, is_export}
use Rattle.workload_spec.specs.Extents.{whole}
use Rattle.workload_spec.specs.Grammar.{or_cause, rule, word, no_word, number, Form, Alone, OfTable, OfKey, OfRow, OfBlock, OfBegin, OfRange, OfTotal, forms, form_of, table_named, key_in, schema_at, cells_of, numbers_named, number_in, formed, line_of}
use Rattle.workload_laws.specs.Bytes.{has_only_bytes, written_row}
use Rattle.workload_laws.proofs.Results.{step, some_of, rule_of, word_is, no_word_is, number_is, eq_of, spelled_as}
use Rattle.workload_laws.proofs.Lists.{joined, find_is, position_is}
use Rattle.workload_laws.proofs.Cells.{cells_are, row_fits}

-- the table of a name stands at its place
pub record Names (tables : List TableDecl) (name : List ℕ) (place : ℕ) : Type 0 where
  pub table : TableDecl
  pub at : slice_get tables place ≡ Some table
  pub named : table.name ≡ name

-- the place that is read for a name has a table of the name
pub table_is : (tables : List TableDecl) (name : List ℕ) (place : ℕ) → table_named tables name ≡ Ok place → Names tables name place
table_is tables name place e =
    let p = position_is (λ (table : TableDecl). bytes_eq table.name name) tables place (some_of cause.Unknown (position (λ (table : TableDecl). bytes_eq table.name name) tables) place e) in
    record { table = p.0; at = p.1; named = eq_of p.0.name name p.2 }

-- the name of the table at that place is the one that was read
pub name_is : (tables : List TableDecl) (name : List ℕ) (place : ℕ) → Names tables name place → name_of_table tables place ≡ name
name_is tables name place names = ap (λ (o : Option TableDecl). option_map_or (λ table. table.name) o []) names.at ∙ names.named

-- The place at which a name's table stands is one of the tables'.
place_is : (tables : List TableDecl) (name : List ℕ) (place : ℕ) → Names tables name place → is_table_place tables place ≡ true
place_is tables name place names = ap is_some names.at

-- a key that is read is its word, and a number that a key may be
pub key_is : (word : List ℕ) (key : ℤ) → key_in word ≡ Ok key → (signed_decimal key ≡ word) × (is_key_number key ≡ true)
key_is word key e =
    step (or_cause cause.Number (integer_of word)) _ key e (λ read is e1.
    step (rule cause.Number (is_key_number read)) _ key e1 (λ u fits e2.
    let same : read ≡ key = cc in (
      ap signed_decimal (sym same) ∙ spelled_as signed_decimal word (integer_in word) read (some_of cause.Number (integer_of word) read is),
      ap is_key_number (sym same) ∙ rule_of cause.Number (is_key_number read) u fits,
    )))

-- a number of a kind that is read is its word, and one of the kind
pub number_in_is : (its : Kind) (word : List ℕ) (value : ℤ) → number_in its word ≡ Ok value → (signed_decimal value ≡ word) × (is_integer_of its value ≡ true)
number_in_is its word value e =
    step (or_cause cause.Number (integer_of word)) _ value e (λ read is e1.
    step (rule cause.Number (is_integer_of its read)) _ value e1 (λ u fits e2.
    let same : read ≡ value = cc in (
      ap signed_decimal (sym same) ∙ spelled_as signed_decimal word (integer_in word) read (some_of cause.Number (integer_of word) read is),
      ap (is_integer_of its) (sym same) ∙ rule_of cause.Number (is_integer_of its read) u fits,
    )))

-- the column of numbers that a name names, with its kind
pub record NamesColumn (columns : List Column) (name : List ℕ) (read : ℕ × Kind) : Type 0 where
  pub column : Column
  pub at : slice_get columns read.0 ≡ Some column
  pub named : column.name ≡ name
  pub kind : column.kind ≡ read.1
  pub numbers : are_numbers (values_of column.kind) ≡ true

-- the place that is read for a column's name has a column of the name, which has numbers
pub column_is : (columns : List Column) (name : List ℕ) (read : ℕ × Kind) → numbers_named columns name ≡ Ok read → NamesColumn columns name read
column_is columns name read e =
    step (or_cause cause.Column (place_of_name name columns)) _ read e (λ place is1 e1.
    step (or_cause cause.Column (slice_get columns place)) _ read e1 (λ column is2 e2.
    step (rule cause.Column (are_numbers (values_of column.kind))) _ read e2 (λ u is3 e3.
    let same : (place, column.kind) ≡ read = cc in
    let p = position_is (λ (c : Column). bytes_eq c.name name) columns place (some_of cause.Column (place_of_name name columns) place is1) in
    let at = some_of cause.Column (slice_get columns place) column is2 in
    let here = p.1 in
    let one : p.0 ≡ column = cc in
    subst (NamesColumn columns name) same (record {
      column = column;
      at = at;
      named = ap (λ (c : Column). c.name) (sym one) ∙ eq_of p.0.name name p.2;
      kind = refl;
      numbers = rule_of cause.Column (are_numbers (values_of column.kind)) u is3;
    }))))

-- what is told of a table's column by the places of both is told of that column
pub column_at : {X : Type 0} (tables : List TableDecl) (table : TableDecl) (its : Column) (place column : ℕ) (tell : Column → X) (none : X) → slice_get tables place ≡ Some table → slice_get (schema_at tables place) column ≡ Some its
    → option_map_or (λ table. option_map_or tell (slice_get table.schema column) none) (slice_get tables place) none ≡ tell its
column_at tables table its place column tell none here there =
    let schema : schema_at tables place ≡ table.schema = ap (λ (o : Option TableDecl). option_map_or (λ t. t.schema) o []) here in
    ap (λ (o : Option TableDecl). option_map_or (λ t. option_map_or tell (slice_get t.schema column) none) o none) here
    ∙ ap (λ (columns : List Column). option_map_or tell (slice_get columns column) none) (sym schema)
    ∙ ap (λ (o : Option Column). option_map_or tell o none) there

-- a command that is read from the words after a first
pub record ReadsCommand (tables : List TableDecl) (name : List ℕ) (words : List (List ℕ)) (command : Command) : Type 0 where
  pub text : command_words tables command ≡ name ∷ words
  pub is : is_command tables command ≡ true
  pub bytes : list_all has_only_bytes (written_row command) ≡ true

-- what a form reads behind this word is a command of it
abbrev pub FormReads : List TableDecl → List ℕ × Form × Bool → Type 0
FormReads tables entry = (words : List (List ℕ)) (command : Command) → formed tables entry.1 words ≡ Ok command → ReadsCommand tables entry.0 words command

-- What is read by a form of a word alone is its command.
alone : (tables : List TableDecl) (name : List ℕ) (made : Command) → command_words tables made ≡ name ∷ [] → is_command tables made ≡ true → list_all has_only_bytes (written_row made) ≡ true → FormReads tables (name, Alone made, true)
alone tables name made text is bytes words command e =
    step (no_word cause.Command words) _ command e (λ u end e1.
    let same : made ≡ command = cc in
    subst (ReadsCommand tables name words) same (record { text = rw (no_word_is cause.Command words u end) text; is = is; bytes = bytes }))

-- What is read by a form with a table is its command.
of_table : (tables : List TableDecl) (name : List ℕ) (make : ℕ → Command) → ((place : ℕ) → command_words tables (make place) ≡ name ∷ name_of_table tables place ∷ [])
    → ((place : ℕ) → is_command tables (make place) ≡ is_table_place tables place) → ((place : ℕ) → list_all has_only_bytes (written_row (make place)) ≡ true) → FormReads tables (name, OfTable make, true)
of_table tables name make text is bytes words command e =
    step (word cause.Command words) _ command e (λ first is1 e1.
    step (no_word cause.Command first.1) _ command e1 (λ u is2 e2.
    step (table_named tables first.0) _ command e2 (λ place is3 e3.
    let same : make place ≡ command = cc in
    let names = table_is tables first.0 place is3 in
    subst (ReadsCommand tables name words) same (record {
      text = text place ∙ rw (word_is cause.Command words first is1, no_word_is cause.Command first.1 u is2, name_is tables first.0 place names) refl;
      is = is place ∙ place_is tables first.0 place names;
      bytes = bytes place;
    }))))

-- What is read by a form with a table and a key is its command.
of_key : (tables : List TableDecl) (name : List ℕ) (make : ℕ → ℤ → Command) → ((place : ℕ) (key : ℤ) → command_words tables (make place key) ≡ name ∷ name_of_table tables place ∷ signed_decimal key ∷ [])
    → ((place : ℕ) (key : ℤ) → is_command tables (make place key) ≡ (is_table_place tables place && is_key_number key)) → ((place : ℕ) (key : ℤ) → list_all has_only_bytes (written_row (make place key)) ≡ true) → FormReads tables (name, OfKey make, true)
of_key tables name make text is bytes words command e =
    step (word cause.Command words) _ command e (λ first is1 e1.
    step (word cause.Command first.1) _ command e1 (λ key_word is2 e2.
    step (no_word cause.Command key_word.1) _ command e2 (λ u is3 e3.
    step (table_named tables first.0) _ command e3 (λ place is4 e4.
    step (key_in key_word.0) _ command e4 (λ key is5 e5.
    let same : make place key ≡ command = cc in
    let names = table_is tables first.0 place is4 in
    let k = key_is key_word.0 key is5 in
    subst (ReadsCommand tables name words) same (record {
      text = text place key ∙ rw (word_is cause.Command words first is1, word_is cause.Command first.1 key_word is2, no_word_is cause.Command key_word.1 u is3, name_is tables first.0 place names, k.0) refl;
      is = is place key ∙ joined (place_is tables first.0 place names) k.1;
      bytes = bytes place key;
    }))))))

-- What is read by a form with a table and a block is its command.
of_block : (tables : List TableDecl) (name : List ℕ) (make : ℕ → ℕ → Command) → ((place block : ℕ) → command_words tables (make place block) ≡ name ∷ name_of_table tables place ∷ decimal block ∷ [])
    → ((place block : ℕ) → is_command tables (make place block) ≡ is_block_of tables place block) → ((place block : ℕ) → list_all has_only_bytes (written_row (make place block)) ≡ true) → FormReads tables (name, OfBlock make, true)
of_block tables name make text is bytes words command e =
    step (word cause.Command words) _ command e (λ first is1 e1.
    step (word cause.Command first.1) _ command e1 (λ block_word is2 e2.
    step (no_word cause.Command block_word.1) _ command e2 (λ u is3 e3.
    step (table_named tables first.0) _ command e3 (λ place is4 e4.
    step (or_cause cause.Block (natural_of block_word.0)) _ command e4 (λ block is5 e5.
    step (rule cause.Block (is_block_of tables place block)) _ command e5 (λ v is6 e6.
    let same : make place block ≡ command = cc in
    let names = table_is tables first.0 place is4 in
    let b = spelled_as decimal block_word.0 (value_of_digits block_word.0) block (some_of cause.Block (natural_of block_word.0) block is5) in
    subst (ReadsCommand tables name words) same (record {
      text = text place block ∙ rw (word_is cause.Command words first is1, word_is cause.Command first.1 block_word is2, no_word_is cause.Command block_word.1 u is3, name_is tables first.0 place names, b) refl;
      is = is place block ∙ rule_of cause.Block (is_block_of tables place block) v is6;
      bytes = bytes place block;
    })))))))

-- each of the tables is a table within its limits
pub table_at : (tables : List TableDecl) (place : ℕ) (table : TableDecl) → list_all is_table tables ≡ true → slice_get tables place ≡ Some table → is_table table ≡ true
table_at [] place table all e = absurd cc
table_at (first ∷ tables) zero table all e = let same : first ≡ table = cc in ap is_table (sym same) ∙ (and_parts (is_table first) (list_all is_table tables) all).0
table_at (first ∷ tables) (suc place) table all e = table_at tables place table (and_parts (is_table first) (list_all is_table tables) all).1 e

-- a table's columns begin with the key
pub begins : (table : TableDecl) → is_table table ≡ true → begins_with_key table.schema ≡ true
begins table is =
    let a = and_parts (is_name table.name && are_columns table.schema && are_slots table.schema table.slots) (are_blocks table.blocks) is in
    let b = and_parts (is_name table.name && are_columns table.schema) (are_slots table.schema table.slots) a.0 in
    let c = and_parts (is_name table.name) (are_columns table.schema) b.0 in
    (and_parts _ _ (and_parts _ _ (and_parts _ _ c.1).0).0).0

-- the cells of a row behind its key, which fits with it
record ReadsRow (schema : List Column) (key : ℤ) (cells : List Cell) (words : List (List ℕ)) : Type 0 where
  pub text : cell_words cells ≡ words
  pub fit : fits schema (Num key ∷ cells) ≡ true
  pub bytes : list_all has_only_bytes cells ≡ true

-- A key and the cells that are read behind it are a row that fits.
row_is : (schema : List Column) (key : ℤ) (cells : List Cell) (words : List (List ℕ)) → begins_with_key schema ≡ true → length schema == length words + 1 ≡ true → is_key_number key ≡ true
    → cells_of (drop 1 schema) words ≡ Ok cells → ReadsRow schema key cells words
row_is [] key cells words begins many number e = absurd cc
row_is (column ∷ columns) key cells words begins many number e =
    let length_is : length columns ≡ length words = omega (arith, eqb-true _ _ many) in
    let all = cells_are columns words cells length_is e in
    record { text = all.text; fit = row_fits (column ∷ columns) words key cells begins number all; bytes = all.bytes }

-- A key and the cells that are read for a table are a row of this table.
row_at : (tables : List TableDecl) (table : TableDecl) (place : ℕ) (key : ℤ) (cells : List Cell) (words : List (List ℕ)) → list_all is_table tables ≡ true → slice_get tables place ≡ Some table
    → length (schema_at tables place) == length words + 1 ≡ true → is_key_number key ≡ true → cells_of (drop 1 (schema_at tables place)) words ≡ Ok cells → (cell_words cells ≡ words) × (fits_table tables place (Num key ∷ cells) ≡ true) × (list_all has_only_bytes cells ≡ true)
row_at tables table place key cells words all at many number e =
    let schema : schema_at tables place ≡ table.schema = ap (λ (o : Option TableDecl). option_map_or (λ t. t.schema) o []) at in
    let row = row_is table.schema key cells words (begins table (table_at tables place table all at))
    (subst (λ (columns : List Column). length columns == length words + 1 ≡ true) schema many) number
    (subst (λ (columns : List Column). cells_of (drop 1 columns) words ≡ Ok cells) schema e) in
    (row.text, ap (λ (o : Option TableDecl). option_map_or (λ t. fits t.schema (Num key ∷ cells)) o false) at ∙ row.fit, row.bytes)

-- What is read by a form with a table and a row is its command.
of_row : (tables : List TableDecl) → list_all is_table tables ≡ true → (name : List ℕ) (make : ℕ → List Cell → Command) → ((place : ℕ) (row : List Cell) → command_words tables (make place row) ≡ name ∷ name_of_table tables place ∷ cell_words row)
    → ((place : ℕ) (row : List Cell) → is_command tables (make place row) ≡ fits_table tables place row) → ((place : ℕ) (row : List Cell) → written_row (make place row) ≡ row) → FormReads tables (name, OfRow make, true)
of_row tables all name make text is written words command e =
    step (word cause.Command words) _ command e (λ first is1 e1.
    step (word cause.Command first.1) _ command e1 (λ key_word is2 e2.
    step (table_named tables first.0) _ command e2 (λ place is3 e3.
    step (rule cause.Command (length (schema_at tables place) == length key_word.1 + 1)) _ command e3 (λ u is4 e4.
    step (key_in key_word.0) _ command e4 (λ key is5 e5.
    step (cells_of (drop 1 (schema_at tables place)) key_word.1) _ command e5 (λ cells is6 e6.
    let same : make place (Num key ∷ cells) ≡ command = cc in
    let names = table_is tables first.0 place is3 in
    let k = key_is key_word.0 key is5 in
    let row = row_at tables names.table place key cells key_word.1 all names.at (rule_of cause.Command (length (schema_at tables place) == length key_word.1 + 1) u is4) k.1 is6 in
    subst (ReadsCommand tables name words) same (record {
      text = text place (Num key ∷ cells) ∙ rw (word_is cause.Command words first is1, word_is cause.Command first.1 key_word is2, name_is tables first.0 place names, k.0, row.0) refl;
      is = is place (Num key ∷ cells) ∙ row.1;
      bytes = ap (list_all has_only_bytes) (written place (Num key ∷ cells)) ∙ row.2;
    })))))))

-- What is read by the form of a begin is one, checked where its word stands there.
of_begin : (tables : List TableDecl) (takes_checked : Bool) → FormReads tables (codes "begin", OfBegin takes_checked, true)
of_begin tables takes_checked [] read e = let same : command.Begin false ≡ read = cc in subst (ReadsCommand tables (codes "begin") []) same (record { text = refl; is = refl; bytes = refl })
of_begin tables takes_checked (how ∷ words) read e =
    step (rule cause.Command (takes_checked && bytes_eq how (codes "checked"))) _ read e (λ u is1 e1.
    step (no_word cause.Command words) _ read e1 (λ v is2 e2.
    let same : command.Begin true ≡ read = cc in
    let word_is = eq_of how (codes "checked") (and_parts takes_checked (bytes_eq how (codes "checked")) (rule_of cause.Command (takes_checked && bytes_eq how (codes "checked")) u is1)).1 in
    subst (ReadsCommand tables (codes "begin") (how ∷ words)) same (record { text = rw (word_is, no_word_is cause.Command words v is2) refl; is = refl; bytes = refl })))

-- What is read by the form of a range is one.
of_range : (tables : List TableDecl) → FormReads tables (codes "range", OfRange, true)
of_range tables words read e =
    step (word cause.Command words) _ read e (λ first is1 e1.
    step (word cause.Command first.1) _ read e1 (λ low_word is2 e2.
    step (word cause.Command low_word.1) _ read e2 (λ high_word is3 e3.
    step (no_word cause.Command high_word.1) _ read e3 (λ u is4 e4.
    step (table_named tables first.0) _ read e4 (λ place is5 e5.
    step (key_in low_word.0) _ read e5 (λ low is6 e6.
    step (key_in high_word.0) _ read e6 (λ high is7 e7.
    let same : command.Range place low high ≡ read = cc in
    let names = table_is tables first.0 place is5 in
    let l = key_is low_word.0 low is6 in
    let h = key_is high_word.0 high is7 in
    subst (ReadsCommand tables (codes "range") words) same (record {
      text = rw (word_is cause.Command words first is1, word_is cause.Command first.1 low_word is2, word_is cause.Command low_word.1 high_word is3, no_word_is cause.Command high_word.1 u is4, name_is tables first.0 place names, l.0, h.0) refl;
      is = joined (joined (place_is tables first.0 place names) l.1) h.1;
      bytes = refl;
    }))))))))

-- What is read by the form of a total is one.
of_total : (tables : List TableDecl) → FormReads tables (codes "total", OfTotal, true)
of_total tables words read e =
    step (word cause.Command words) _ read e (λ first is1 e1.
    step (word cause.Command first.1) _ read e1 (λ column_word is2 e2.
    step (word cause.Command column_word.1) _ read e2 (λ low_word is3 e3.
    step (word cause.Command low_word.1) _ read e3 (λ high_word is4 e4.
    step (no_word cause.Command high_word.1) _ read e4 (λ u is5 e5.
    step (table_named tables first.0) _ read e5 (λ place is6 e6.
    step (numbers_named (schema_at tables place) column_word.0) _ read e6 (λ column is7 e7.
    step (number_in column.1 low_word.0) _ read e7 (λ low is8 e8.
    step (number_in column.1 high_word.0) _ read e8 (λ high is9 e9.
    let same : command.Total place column.0 low high ≡ read = cc in
    let names = table_is tables first.0 place is6 in
    let its = column_is (schema_at tables place) column_word.0 column is7 in
    let l = number_in_is column.1 low_word.0 low is8 in
    let h = number_in_is column.1 high_word.0 high is9 in
    let name : name_of_column tables place column.0 ≡ column_word.0 = column_at tables names.table its.column place column.0 (λ c. c.name) [] names.at its.at ∙ its.named in
    subst (ReadsCommand tables (codes "total") words) same (record {
      text = rw (word_is cause.Command words first is1, word_is cause.Command first.1 column_word is2, word_is cause.Command column_word.1 low_word is3, word_is cause.Command low_word.1 high_word is4, no_word_is cause.Command high_word.1 u is5, name_is tables first.0 place names, name, l.0, h.0) refl;
      is = column_at tables names.table its.column place column.0 (λ c. are_bounds_in c low high) false names.at its.at
          ∙ joined (joined its.numbers (ap (λ k. is_integer_of k low) its.kind ∙ l.1)) (ap (λ k. is_integer_of k high) its.kind ∙ h.1);
      bytes = refl;
    }))))))))))

-- what holds of each entry holds of the one that is found
abbrev pub Each : {X : Type 0} → (X → Type 0) → List X → Type 0
Each P [] = Unit {0}
Each P (x ∷ xs) = P x × Each P xs

-- What holds of the first, and of what is found behind, holds of what is found.
each_by : {X : Type 0} (P : X → Type 0) (y x : X) (rest : Option X) (b : Bool) → P y → (rest ≡ Some x → P x) → cond b (Some y) rest ≡ Some x → P x
each_by P y x rest true this later e = let same : y ≡ x = cc in subst P same this
each_by P y x rest false this later e = later e

-- what holds of each entry holds of the one that is found
pub each_found : {X : Type 0} (P : X → Type 0) (p : X → Bool) (xs : List X) (x : X) → Each P xs → find p xs ≡ Some x → P x
each_found P p [] x each e = absurd cc
each_found P p (y ∷ ys) x each e = each_by P y x (find p ys) (p y) each.0 (each_found P p ys x each.1) e

-- What is read by each form of the whole format is its command.
each_form : (tables : List TableDecl) → list_all is_table tables ≡ true → Each (FormReads tables) (forms whole.commands)
each_form tables all = (
  of_begin tables true,
  (
    of_key tables (codes "get") command.Get (λ t k. refl) (λ t k. refl) (λ t k. refl),
    (
      of_table tables (codes "scan") command.Scan (λ t. refl) (λ t. refl) (λ t. refl),
      (
        of_row tables all (codes "insert") command.Insert (λ t r. refl) (λ t r. refl) (λ t r. refl),
        (
          of_row tables all (codes "update") command.Update (λ t r. refl) (λ t r. refl) (λ t r. refl),
          (
            of_key tables (codes "delete") command.Delete (λ t k. refl) (λ t k. refl) (λ t k. refl),
            (
              alone tables (codes "commit") command.Commit refl refl refl,
              (
                alone tables (codes "abort") command.Abort refl refl refl,
                (
                  alone tables (codes "observe") command.Observe refl refl refl,
                  (
                    alone tables (codes "prune") command.Prune refl refl refl,
                    (
                      of_table tables (codes "compact") command.Compact (λ t. refl) (λ t. refl) (λ t. refl),
                      (
                        of_block tables (codes "seal") command.Seal (λ t b. refl) (λ t b. refl) (λ t b. refl),
                        (
                          of_block tables (codes "gather") command.Gather (λ t b. refl) (λ t b. refl) (λ t b. refl),
                          (
                            of_table tables (codes "export") command.Export (λ t. refl) (λ t. refl) (λ t. refl),
                            (of_range tables, (of_total tables, tt)),
                          ),
                        ),
                      ),
                    ),
                  ),
                ),
              ),
            ),
          ),
        ),
      ),
    ),
  ),
)

-- A form that is found for a word is that of an entry that is found.
form_by : (o : Option (List ℕ × Form × Bool)) (form : Form) → option_map (λ entry. entry.1) o ≡ Some form → (entry : List ℕ × Form × Bool) × (o ≡ Some entry) × (entry.1 ≡ form)
form_by None form e = absurd cc
form_by (Some entry) form e = (entry, refl, cc)

-- a command that is read behind its first word
pub command_is : (tables : List TableDecl) (name : List ℕ) (form : Form) (words : List (List ℕ)) (read : Command) → list_all is_table tables ≡ true → form_of whole name ≡ Some form → formed tables form words ≡ Ok read → ReadsCommand tables name words read
command_is tables name form words read all known e =
    let f = form_by (find (λ entry. bytes_eq entry.0 name && entry.2) (forms whole.commands)) form known in
    let same = eq_of f.0.0 name (and_parts (bytes_eq f.0.0 name) f.0.2 (find_is (λ (entry : List ℕ × Form × Bool). bytes_eq entry.0 name && entry.2) (forms whole.commands) f.0 f.1)).0 in
    subst (λ (first : List ℕ). ReadsCommand tables first words read) same
    (each_found (FormReads tables) (λ (entry : List ℕ × Form × Bool). bytes_eq entry.0 name && entry.2) (forms whole.commands) f.0 (each_form tables all) f.1 words read (ap (λ (g : Form). formed tables g words) f.2 ∙ e))

-- a line of a round that is read
pub record ReadsLine (tables : List TableDecl) (sessions : ℕ) (exported : Bool) (words : List (List ℕ)) (line : Line) : Type 0 where
  pub text : words ≡ decimal line.session ∷ command_words tables line.command
  pub session : is_within 1 sessions line.session ≡ true
  pub is : is_command tables line.command ≡ true
  pub bytes : list_all has_only_bytes (written_row line.command) ≡ true
  pub once : (exported && is_export line.command) ≡ false

-- a line of a round that is read is its words, and names what there is
pub line_is : (tables : List TableDecl) (sessions : ℕ) (exported : Bool) (words : List (List ℕ)) (line : Line) → list_all is_table tables ≡ true → line_of whole tables sessions exported words ≡ Ok line → ReadsLine tables sessions exported words line
line_is tables sessions exported words line all e =
    step (number cause.Session 1 sessions words) _ line e (λ session is1 e1.
    step (word cause.Command session.1) _ line e1 (λ first is2 e2.
    step (or_cause cause.Command (form_of whole first.0)) _ line e2 (λ form is3 e3.
    step (formed tables form first.1) _ line e3 (λ read is4 e4.
    step (rule cause.Export (not (exported && is_export read))) _ line e4 (λ u is5 e5.
    let same : record { session = session.0; command = read } ≡ line = cc in
    let n = number_is cause.Session 1 sessions words session is1 in
    let c = command_is tables first.0 form first.1 read all (some_of cause.Command (form_of whole first.0) form is3) is4 in
    subst (ReadsLine tables sessions exported words) same (record {
      text = rw (n.0, word_is cause.Command session.1 first is2, c.text) refl;
      session = n.1;
      is = c.is;
      bytes = c.bytes;
      once = not-true (exported && is_export read) (rule_of cause.Export (not (exported && is_export read)) u is5);
    }))))))
