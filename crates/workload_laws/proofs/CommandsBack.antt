-- Commands are read back from their words.
use Rattle.std.proofs.Common.{◌≡◌, ℕ, ◌+◌, ◌^◌, ◌<◌, ◌≤◌, Bool, true, false, List, [], ◌∷◌, length, drop, refl, sym, ap, ◌∙◌, subst, arith, suc, zero}
use Rattle.std.specs.Prelude.{◌&&◌, ◌==◌, not, nat_le, nat_lt, Option, None, Some, is_some, is_none, slice_get, bytes_eq, codes, decimal, ℤ, Result, Ok, if◌then◌else◌}
use Rattle.std.specs.Fmt.{signed_decimal}
use Rattle.std.specs.Option.{option_map_or}
use Rattle.std.specs.List.{list_all, list_any, position_from}
use Rattle.std.proofs.lemmas.List.{length-map}
use Rattle.std.proofs.lemmas.Bool.{eqb-true, eq-eqb, ltb-true, and_parts, or_parts, not-true}
use Rattle.std.proofs.lemmas.Iterator.Adapters.{position_from-zero}
use Rattle.cell_model.specs.declared.cell.Cell.{Cell}
use Rattle.cell_model.specs.declared.cell.Cell.TheVariants.{Null, Num, Truth, Text, Blob}
use Rattle.cell_model.specs.declared.kind.Kind.{Kind}
use Rattle.cell_model.specs.declared.kind.Kind.TheVariants as kind
use Rattle.cell_model.specs.declared.column.Column.{Column}
use Rattle.cell_model.specs.declared.table.TableDecl.{TableDecl}
use Rattle.cell_model.specs.declared.row.RowFault.{RowFault}
use Rattle.cell_model.specs.declared.row.RowFault.TheVariants.{Arity, NullAt}
use Rattle.cell_model.specs.Kinds.{has_width, values_of}
use Rattle.cell_model.specs.Rows.{cell_fault, first_fault, fits}
use Rattle.cell_model.specs.Values.{is_integer_of, is_value_of}
use Rattle.cell_model.specs.Schemas.{is_i64, is_key, begins_with_key, place_of_name, first_twins, most_columns}
use Rattle.workload_spec.specs.declared.command.Command.{Command}
use Rattle.workload_spec.specs.declared.command.Command.TheVariants as command
use Rattle.workload_spec.specs.declared.script.Cause.{Cause}
use Rattle.workload_spec.specs.declared.script.Cause.TheVariants as cause
use Rattle.workload_spec.specs.declared.script.Line.{Line}
use Rattle.workload_spec.specs.Words.{cell_text, cell_words, spaced}
use Rattle.workload_spec.specs.ScriptText.{name_of_table, name_of_column, command_words, line_text}
use Rattle.workload_spec.specs.Reading.{words_of, integer_of, natural_of}
use Rattle.workload_spec.specs.Valid.{is_within, is_name, is_column, are_columns, is_table, is_table_place, is_block_of, is_key_number, fits_table, have_own_names, are_numbers, are_bounds_in, is_command, is_export, most_blocks}
use Rattle.workload_spec.specs.Extents.{whole}
use Rattle.workload_spec.specs.Grammar.{or_cause, rule, word, no_word, number, Form, Alone, OfTable, OfKey, OfRow, OfBlock, OfBegin, OfRange, OfTotal, form_of, table_named, key_in, schema_at, cells_of, numbers_named, number_in, formed, line_of}
use Rattle.workload_laws.specs.Bytes.{has_only_bytes, written_row}
use Rattle.workload_laws.proofs.Results.{gives, rule_back}
use Rattle.workload_laws.proofs.Lists.{own_names}
use Rattle.workload_laws.proofs.Cells.{i64_is}
use Rattle.workload_laws.proofs.Columns.{own_from}
use Rattle.workload_laws.proofs.Commands.{table_at, begins, column_at}
use Rattle.workload_laws.proofs.Heads.{own_tables}
use Rattle.workload_laws.proofs.Apart.{IsWord, AreWords, plain_word, words_apart, words_whole, is_whole}
use Rattle.workload_laws.proofs.Numbers.{same_bytes, other_bytes, natural_back, number_back, integer_of_back, key_small, signed_plain, Begins, decimal_begins}
use Rattle.workload_laws.proofs.CellsBack.{CellsBack, cells_back, value_of_fit, first_fits, small_of}
use Rattle.workload_laws.proofs.TablesBack.{table_parts, within_high, name_word, number_word}

-- Where none of a list passes, the one at a place fails.
none_at : {X : Type 0} (p : X → Bool) (xs : List X) (k : ℕ) (x : X) → slice_get xs k ≡ Some x → list_any p xs ≡ false → p x ≡ false
none_at p [] k x e none = absurd cc
none_at p (y ∷ ys) zero x e none = let same : y ≡ x = cc in ap p (sym same) ∙ (or_parts (p y) (list_any p ys) none).0
none_at p (y ∷ ys) (suc k) x e none = none_at p ys k x e (or_parts (p y) (list_any p ys) none).1

-- an element with a name of its own is the first of its name
first_from : {X : Type 0} (name : X → List ℕ) (xs : List X) (k i : ℕ) (x : X) → own_names name xs ≡ true → slice_get xs k ≡ Some x → position_from (λ y. bytes_eq (name y) (name x)) i xs ≡ Some (i + k)
unfolding own_names
first_from name [] k i x own e = absurd cc
first_from name (y ∷ ys) zero i x own e =
    let same : y ≡ x = cc in
    let b : bytes_eq (name y) (name x) ≡ true = rw same (same_bytes (name x)) in
    let z : i ≡ i + 0 = omega arith in
    rw b (ap Some z)
first_from name (y ∷ ys) (suc k) i x own e =
    let o = and_parts (not (list_any (λ z. bytes_eq (name z) (name y)) ys)) (own_names name ys) own in
    let n = none_at (λ z. bytes_eq (name z) (name y)) ys k x e (not-true _ o.0) in
    let b : bytes_eq (name y) (name x) ≡ false = other_bytes (name y) (name x) (λ same. let f : bytes_eq (name x) (name y) ≡ true = rw same (same_bytes (name x)) in cc) in
    let z : (i + 1) + k ≡ i + suc k = omega arith in
    rw b (first_from name ys k (i + 1) x o.1 e ∙ ap Some z)

-- a table's place, and its name
pub record Stands (tables : List TableDecl) (place : ℕ) : Type 0 where
  pub table : TableDecl
  pub at : slice_get tables place ≡ Some table
  pub is : is_table table ≡ true
  pub named : table_named tables (name_of_table tables place) ≡ Ok place
  pub word : IsWord (name_of_table tables place)

-- a table stands at its place, where its name is read as this place
pub stands : (tables : List TableDecl) (place : ℕ) (table : TableDecl) → list_all is_table tables ≡ true → have_own_names tables ≡ true → slice_get tables place ≡ Some table → Stands tables place
stands tables place table all own at =
    let is = table_at tables place table all at in
    let name : name_of_table tables place ≡ table.name = ap (λ (o : Option TableDecl). option_map_or (λ t. t.name) o []) at in
    let zero_on : 0 + place ≡ place = omega arith in
    record {
      table = table;
      at = at;
      is = is;
      named = ap (table_named tables) name ∙ ap (or_cause cause.Unknown) (position_from-zero (λ (t : TableDecl). bytes_eq t.name table.name) tables
          ∙ first_from (λ (t : TableDecl). t.name) tables place 0 table (sym (own_tables tables) ∙ own) at ∙ ap Some zero_on);
      word = subst IsWord (sym name) (name_word table.name (table_parts table is).named);
    }

-- An option that is tested to have a value has one.
some_is : {X : Type 0} (o : Option X) → is_some o ≡ true → (x : X) × (o ≡ Some x)
some_is None e = absurd cc
some_is (Some x) e = (x, refl)

-- so does the table of each place that there is
pub place_stands : (tables : List TableDecl) (place : ℕ) → list_all is_table tables ≡ true → have_own_names tables ≡ true → is_table_place tables place ≡ true → Stands tables place
place_stands tables place all own is = let s = some_is (slice_get tables place) is in stands tables place s.0 all own s.1

-- an option that passes a test which none fails holds what passes it
pub holds_some : {X : Type 0} (p : X → Bool) (o : Option X) → option_map_or p o false ≡ true → (x : X) × (o ≡ Some x) × (p x ≡ true)
holds_some p None e = absurd cc
holds_some p (Some x) e = (x, refl, e)

-- a key is read back from its spelling
pub key_back : (key : ℤ) → is_key_number key ≡ true → key_in (signed_decimal key) ≡ Ok key
key_back key is =
    gives (or_cause cause.Number (integer_of (signed_decimal key))) _ (Ok key) key (ap (or_cause cause.Number) (integer_of_back key (key_small key is)))
    (gives (rule cause.Number (is_key_number key)) _ (Ok key) tt (rule_back cause.Number (is_key_number key) is) refl)

-- a number of a kind is read back from its spelling
pub number_in_back : (its : Kind) (value : ℤ) → is_integer_of its value ≡ true → number_in its (signed_decimal value) ≡ Ok value
number_in_back its value is =
    gives (or_cause cause.Number (integer_of (signed_decimal value))) _ (Ok value) value (ap (or_cause cause.Number) (integer_of_back value (small_of (values_of its) value is)))
    (gives (rule cause.Number (is_integer_of its value)) _ (Ok value) tt (rule_back cause.Number (is_integer_of its value) is) refl)

-- Where all of a list pass, the one at a place does.
passes_at : {X : Type 0} (p : X → Bool) (xs : List X) (k : ℕ) (x : X) → slice_get xs k ≡ Some x → list_all p xs ≡ true → p x ≡ true
passes_at p [] k x e all = absurd cc
passes_at p (y ∷ ys) zero x e all = let same : y ≡ x = cc in ap p (sym same) ∙ (and_parts (p y) (list_all p ys) all).0
passes_at p (y ∷ ys) (suc k) x e all = passes_at p ys k x e (and_parts (p y) (list_all p ys) all).1

-- a table's column at a place: its name is read as the place, where it has numbers
record ColumnStands (columns : List Column) (its : Column) (place : ℕ) : Type 0 where
  pub named : numbers_named columns its.name ≡ Ok (place, its.kind)
  pub word : IsWord its.name

-- A column of numbers stands at its place.
column_stands : (columns : List Column) (its : Column) (place : ℕ) → are_columns columns ≡ true → slice_get columns place ≡ Some its → are_numbers (values_of its.kind) ≡ true → ColumnStands columns its place
column_stands columns its place are at numbers =
    let a = and_parts (begins_with_key columns && nat_le (length columns) most_columns && is_none (first_twins 0 columns)) (list_all is_column columns) are in
    let b = and_parts (begins_with_key columns && nat_le (length columns) most_columns) (is_none (first_twins 0 columns)) a.0 in
    let zero_on : 0 + place ≡ place = omega arith in
    let found : place_of_name its.name columns ≡ Some place = position_from-zero (λ (c : Column). bytes_eq c.name its.name) columns ∙ first_from (λ (c : Column). c.name) columns place 0 its (own_from columns 0 b.1) at ∙ ap Some zero_on in
    let made : Result (ℕ × Kind) Cause = Ok (place, its.kind) in
    record {
      named = gives (or_cause cause.Column (place_of_name its.name columns)) _ made place (ap (or_cause cause.Column) found)
          (gives (or_cause cause.Column (slice_get columns place)) _ made its (ap (or_cause cause.Column) at)
          (gives (rule cause.Column (are_numbers (values_of its.kind))) _ made tt (rule_back cause.Column (are_numbers (values_of its.kind)) numbers) refl));
      word = name_word its.name (and_parts (is_name its.name) (has_width (values_of its.kind)) (passes_at is_column columns place its at a.1)).0;
    }

-- the forms, from what is read of their words
formed_table : (tables : List TableDecl) (make : ℕ → Command) (words : List (List ℕ)) (name : List ℕ × List (List ℕ)) (place : ℕ) → word cause.Command words ≡ Ok name → no_word cause.Command name.1 ≡ Ok tt → table_named tables name.0 ≡ Ok place
    → formed tables (OfTable make) words ≡ Ok (make place)
formed_table tables make words name place e1 e2 e3 =
    gives (word cause.Command words) _ (Ok (make place)) name e1 (gives (no_word cause.Command name.1) _ (Ok (make place)) tt e2 (gives (table_named tables name.0) _ (Ok (make place)) place e3 refl))

-- A table and a key that are read make the command of their form.
formed_key : (tables : List TableDecl) (make : ℕ → ℤ → Command) (words : List (List ℕ)) (name key_word : List ℕ × List (List ℕ)) (place : ℕ) (key : ℤ) → word cause.Command words ≡ Ok name → word cause.Command name.1 ≡ Ok key_word
    → no_word cause.Command key_word.1 ≡ Ok tt → table_named tables name.0 ≡ Ok place → key_in key_word.0 ≡ Ok key → formed tables (OfKey make) words ≡ Ok (make place key)
formed_key tables make words name key_word place key e1 e2 e3 e4 e5 =
    gives (word cause.Command words) _ (Ok (make place key)) name e1 (gives (word cause.Command name.1) _ (Ok (make place key)) key_word e2 (gives (no_word cause.Command key_word.1) _ (Ok (make place key)) tt e3
    (gives (table_named tables name.0) _ (Ok (make place key)) place e4 (gives (key_in key_word.0) _ (Ok (make place key)) key e5 refl))))

-- A table and a block that are read make the command of their form.
formed_block : (tables : List TableDecl) (make : ℕ → ℕ → Command) (words : List (List ℕ)) (name block_word : List ℕ × List (List ℕ)) (place block : ℕ) → word cause.Command words ≡ Ok name → word cause.Command name.1 ≡ Ok block_word
    → no_word cause.Command block_word.1 ≡ Ok tt → table_named tables name.0 ≡ Ok place → natural_of block_word.0 ≡ Some block → is_block_of tables place block ≡ true → formed tables (OfBlock make) words ≡ Ok (make place block)
formed_block tables make words name block_word place block e1 e2 e3 e4 e5 e6 =
    gives (word cause.Command words) _ (Ok (make place block)) name e1 (gives (word cause.Command name.1) _ (Ok (make place block)) block_word e2 (gives (no_word cause.Command block_word.1) _ (Ok (make place block)) tt e3
    (gives (table_named tables name.0) _ (Ok (make place block)) place e4 (gives (or_cause cause.Block (natural_of block_word.0)) _ (Ok (make place block)) block (ap (or_cause cause.Block) e5)
    (gives (rule cause.Block (is_block_of tables place block)) _ (Ok (make place block)) tt (rule_back cause.Block (is_block_of tables place block) e6) refl)))))

-- A table, a key and cells that are read make the command of their form.
formed_row : (tables : List TableDecl) (make : ℕ → List Cell → Command) (words : List (List ℕ)) (name key_word : List ℕ × List (List ℕ)) (place : ℕ) (key : ℤ) (cells : List Cell) → word cause.Command words ≡ Ok name
    → word cause.Command name.1 ≡ Ok key_word → table_named tables name.0 ≡ Ok place → length (schema_at tables place) == length key_word.1 + 1 ≡ true → key_in key_word.0 ≡ Ok key
    → cells_of (drop 1 (schema_at tables place)) key_word.1 ≡ Ok cells → formed tables (OfRow make) words ≡ Ok (make place (Num key ∷ cells))
formed_row tables make words name key_word place key cells e1 e2 e3 e4 e5 e6 =
    let made : Result Command Cause = Ok (make place (Num key ∷ cells)) in
    gives (word cause.Command words) _ made name e1 (gives (word cause.Command name.1) _ made key_word e2 (gives (table_named tables name.0) _ made place e3
    (gives (rule cause.Command (length (schema_at tables place) == length key_word.1 + 1)) _ made tt (rule_back cause.Command (length (schema_at tables place) == length key_word.1 + 1) e4)
    (gives (key_in key_word.0) _ made key e5 (gives (cells_of (drop 1 (schema_at tables place)) key_word.1) _ made cells e6 refl)))))

-- A table and two keys that are read make a range.
formed_range : (tables : List TableDecl) (words : List (List ℕ)) (name low_word high_word : List ℕ × List (List ℕ)) (place : ℕ) (low high : ℤ) → word cause.Command words ≡ Ok name → word cause.Command name.1 ≡ Ok low_word
    → word cause.Command low_word.1 ≡ Ok high_word → no_word cause.Command high_word.1 ≡ Ok tt → table_named tables name.0 ≡ Ok place → key_in low_word.0 ≡ Ok low → key_in high_word.0 ≡ Ok high → formed tables OfRange words ≡ Ok (command.Range place low high)
formed_range tables words name low_word high_word place low high e1 e2 e3 e4 e5 e6 e7 =
    let made : Result Command Cause = Ok (command.Range place low high) in
    gives (word cause.Command words) _ made name e1 (gives (word cause.Command name.1) _ made low_word e2 (gives (word cause.Command low_word.1) _ made high_word e3 (gives (no_word cause.Command high_word.1) _ made tt e4
    (gives (table_named tables name.0) _ made place e5 (gives (key_in low_word.0) _ made low e6 (gives (key_in high_word.0) _ made high e7 refl))))))

-- A table, a column of numbers and two numbers of its kind that are read make a total.
formed_total : (tables : List TableDecl) (words : List (List ℕ)) (name column_word low_word high_word : List ℕ × List (List ℕ)) (place : ℕ) (column : ℕ × Kind) (low high : ℤ) → word cause.Command words ≡ Ok name → word cause.Command name.1 ≡ Ok column_word
    → word cause.Command column_word.1 ≡ Ok low_word → word cause.Command low_word.1 ≡ Ok high_word → no_word cause.Command high_word.1 ≡ Ok tt → table_named tables name.0 ≡ Ok place
    → numbers_named (schema_at tables place) column_word.0 ≡ Ok column → number_in column.1 low_word.0 ≡ Ok low → number_in column.1 high_word.0 ≡ Ok high → formed tables OfTotal words ≡ Ok (command.Total place column.0 low high)
formed_total tables words name column_word low_word high_word place column low high e1 e2 e3 e4 e5 e6 e7 e8 e9 =
    let made : Result Command Cause = Ok (command.Total place column.0 low high) in
    gives (word cause.Command words) _ made name e1 (gives (word cause.Command name.1) _ made column_word e2 (gives (word cause.Command column_word.1) _ made low_word e3 (gives (word cause.Command low_word.1) _ made high_word e4
    (gives (no_word cause.Command high_word.1) _ made tt e5 (gives (table_named tables name.0) _ made place e6 (gives (numbers_named (schema_at tables place) column_word.0) _ made column e7
    (gives (number_in column.1 low_word.0) _ made low e8 (gives (number_in column.1 high_word.0) _ made high e9 refl))))))))

-- a row that fits a table's columns is a key and cells that are read back
pub record RowBack (schema : List Column) (row : List Cell) : Type 0 where
  pub key : ℤ
  pub cells : List Cell
  pub is : row ≡ Num key ∷ cells
  pub number : is_key_number key ≡ true
  pub many : length schema == length cells + 1 ≡ true
  pub others : CellsBack (drop 1 schema) cells

-- In a column that takes no nulls, a null is a fault.
no_null : (b : Bool) → not b ≡ true → is_none (if b then None else Some (NullAt 0)) ≡ true → ⊥
no_null true n e = cc
no_null false n e = cc

-- a cell that fits the key's column is a number that a key may be
pub key_cell : (column : Column) (cell : Cell) → is_key column ≡ true → is_none (cell_fault 0 column cell) ≡ true → (key : ℤ) × (cell ≡ Num key) × (is_key_number key ≡ true)
key_cell column cell is fit = by cell fit
  where
    key_kind : column.kind ≡ kind.I64
    key_kind = i64_is column.kind (and_parts (bytes_eq column.name (codes "key")) (is_i64 column.kind) (and_parts _ (not column.nullable) is).0).1

    value : (c : Cell) → is_value_of column.kind c ≡ true → is_value_of kind.I64 c ≡ true
    value c e = ap (λ k. is_value_of k c) (sym key_kind) ∙ e

    by : (c : Cell) → is_none (cell_fault 0 column c) ≡ true → (key : ℤ) × (c ≡ Num key) × (is_key_number key ≡ true)
    by Null f = absurd (no_null column.nullable (and_parts (bytes_eq column.name (codes "key") && is_i64 column.kind) (not column.nullable) is).1 f)
    by (Num z) f = (z, refl, value (Num z) (value_of_fit column (Num z) refl f))
    by (Truth truth) f = absurd (let v = value (Truth truth) (value_of_fit column (Truth truth) refl f) in cc)
    by (Text text) f = absurd (let v = value (Text text) (value_of_fit column (Text text) refl f) in cc)
    by (Blob bytes) f = absurd (let v = value (Blob bytes) (value_of_fit column (Blob bytes) refl f) in cc)

-- a row without a fault has as many cells as columns, and no fault in them
pub fit_by : (b : Bool) (fault : Option RowFault) → is_none (if b then fault else Some Arity) ≡ true → (b ≡ true) × (is_none fault ≡ true)
fit_by true fault e = (refl, e)
fit_by false fault e = absurd cc

-- A row that fits its columns is a key and cells that are read back.
row_back : (schema : List Column) (row : List Cell) → begins_with_key schema ≡ true → fits schema row ≡ true → list_all has_only_bytes row ≡ true → RowBack schema row
row_back [] row begins fit bytes = absurd cc
row_back (column ∷ columns) [] begins fit bytes = absurd (let f = fit_by (length {A = Cell} [] == length (column ∷ columns)) (first_fault 0 (column ∷ columns) []) fit in omega (arith, eqb-true 0 (length (column ∷ columns)) f.0))
row_back (column ∷ columns) (cell ∷ cells) begins fit bytes =
    let f = fit_by (length (cell ∷ cells) == length (column ∷ columns)) (first_fault 0 (column ∷ columns) (cell ∷ cells)) fit in
    let n : length cells ≡ length columns = omega (arith, eqb-true (length (cell ∷ cells)) (length (column ∷ columns)) f.0) in
    let g = first_fits (cell_fault 0 column cell) (first_fault (0 + 1) columns cells) f.1 in
    let k = key_cell column cell begins g.0 in
    record {
      key = k.0;
      cells = cells;
      is = ap (λ (c : Cell). c ∷ cells) k.1;
      number = k.2;
      many = eq-eqb (length (column ∷ columns)) (length cells + 1) (omega (arith, n));
      others = cells_back columns cells (0 + 1) n g.1 (and_parts (has_only_bytes cell) (list_all has_only_bytes cells) bytes).1;
    }

-- a command is read back from its words
pub record CommandBack (tables : List TableDecl) (read : Command) : Type 0 where
  pub name : List ℕ
  pub words : List (List ℕ)
  pub form : Form
  pub text : command_words tables read ≡ name ∷ words
  pub known : form_of whole name ≡ Some form
  pub back : formed tables form words ≡ Ok read
  pub are : AreWords (name ∷ words)

-- A command of a word alone is read back from the word.
alone_back : (tables : List TableDecl) (name : List ℕ) (made : Command) → command_words tables made ≡ name ∷ [] → form_of whole name ≡ Some (Alone made) → IsWord name → CommandBack tables made
alone_back tables name made text known is = record { name = name; words = []; form = Alone made; text = text; known = known; back = refl; are = (is, tt) }

-- A command of a table is read back from its words.
table_command : (tables : List TableDecl) (name : List ℕ) (make : ℕ → Command) (place : ℕ) → command_words tables (make place) ≡ name ∷ name_of_table tables place ∷ [] → form_of whole name ≡ Some (OfTable make) → IsWord name → Stands tables place
    → CommandBack tables (make place)
table_command tables name make place text known is at = record {
  name = name;
  words = name_of_table tables place ∷ [];
  form = OfTable make;
  text = text;
  known = known;
  back = formed_table tables make (name_of_table tables place ∷ []) (name_of_table tables place, []) place refl refl at.named;
  are = (is, (at.word, tt));
}

-- A command of a table and a key is read back from its words.
key_command : (tables : List TableDecl) (name : List ℕ) (make : ℕ → ℤ → Command) (place : ℕ) (key : ℤ) → command_words tables (make place key) ≡ name ∷ name_of_table tables place ∷ signed_decimal key ∷ [] → form_of whole name ≡ Some (OfKey make) → IsWord name
    → Stands tables place → is_key_number key ≡ true → CommandBack tables (make place key)
key_command tables name make place key text known is at number = record {
  name = name;
  words = name_of_table tables place ∷ signed_decimal key ∷ [];
  form = OfKey make;
  text = text;
  known = known;
  back = formed_key tables make (name_of_table tables place ∷ signed_decimal key ∷ []) (name_of_table tables place, signed_decimal key ∷ []) (signed_decimal key, []) place key refl refl refl at.named (key_back key number);
  are = (is, (at.word, (plain_word (signed_decimal key) (signed_plain key (key_small key number)), tt)));
}

-- A command of a table and a block is read back from its words.
block_command : (tables : List TableDecl) (name : List ℕ) (make : ℕ → ℕ → Command) (place block : ℕ) → command_words tables (make place block) ≡ name ∷ name_of_table tables place ∷ decimal block ∷ [] → form_of whole name ≡ Some (OfBlock make) → IsWord name
    → Stands tables place → is_block_of tables place block ≡ true → block < 2 ^ 64 → CommandBack tables (make place block)
block_command tables name make place block text known is at there small = record {
  name = name;
  words = name_of_table tables place ∷ decimal block ∷ [];
  form = OfBlock make;
  text = text;
  known = known;
  back = formed_block tables make (name_of_table tables place ∷ decimal block ∷ []) (name_of_table tables place, decimal block ∷ []) (decimal block, []) place block refl refl refl at.named (natural_back block small) there;
  are = (is, (at.word, (number_word block small, tt)));
}

-- A command of a table and a row is read back from its words.
row_command : (tables : List TableDecl) (name : List ℕ) (make : ℕ → List Cell → Command) (place : ℕ) (row : List Cell) → command_words tables (make place row) ≡ name ∷ name_of_table tables place ∷ cell_words row → form_of whole name ≡ Some (OfRow make) → IsWord name
    → Stands tables place → (table : TableDecl) → slice_get tables place ≡ Some table → RowBack table.schema row → CommandBack tables (make place row)
row_command tables name make place row text known is at table here all =
    let schema : schema_at tables place ≡ table.schema = ap (λ (o : Option TableDecl). option_map_or (λ t. t.schema) o []) here in
    let words : cell_words row ≡ signed_decimal all.key ∷ cell_words all.cells = ap cell_words all.is in
    let many : length all.cells ≡ length (cell_words all.cells) = sym (length-map all.cells cell_text) in
    record {
      name = name;
      words = name_of_table tables place ∷ signed_decimal all.key ∷ cell_words all.cells;
      form = OfRow make;
      text = text ∙ ap (λ (ws : List (List ℕ)). name ∷ name_of_table tables place ∷ ws) words;
      known = known;
      back = formed_row tables make (name_of_table tables place ∷ signed_decimal all.key ∷ cell_words all.cells) (name_of_table tables place, signed_decimal all.key ∷ cell_words all.cells) (signed_decimal all.key, cell_words all.cells) place all.key all.cells refl refl at.named
          (ap (λ (columns : List Column). length columns == length (cell_words all.cells) + 1) schema ∙ ap (λ (n : ℕ). length table.schema == n + 1) (sym many) ∙ all.many) (key_back all.key all.number)
          (ap (λ (columns : List Column). cells_of (drop 1 columns) (cell_words all.cells)) schema ∙ all.others.back)
          ∙ ap (λ (cells : List Cell). Ok (make place cells)) (sym all.is);
      are = (is, (at.word, (plain_word (signed_decimal all.key) (signed_plain all.key (key_small all.key all.number)), all.others.words)));
    }

-- A command with a row that fits one of the tables is read back.
row_at : (tables : List TableDecl) (name : List ℕ) (make : ℕ → List Cell → Command) (place : ℕ) (row : List Cell) → list_all is_table tables ≡ true → have_own_names tables ≡ true
    → command_words tables (make place row) ≡ name ∷ name_of_table tables place ∷ cell_words row → form_of whole name ≡ Some (OfRow make) → IsWord name → fits_table tables place row ≡ true → list_all has_only_bytes row ≡ true → CommandBack tables (make place row)
row_at tables name make place row all own text known is fit bytes =
    let s = holds_some (λ (table : TableDecl). fits table.schema row) (slice_get tables place) fit in
    let at = stands tables place s.0 all own s.1 in
    row_command tables name make place row text known is at s.0 s.1 (row_back s.0.schema row (begins s.0 (table_at tables place s.0 all s.1)) s.2 bytes)

-- A command with a block that one of the tables has is read back.
block_at : (tables : List TableDecl) (name : List ℕ) (make : ℕ → ℕ → Command) (place block : ℕ) → list_all is_table tables ≡ true → have_own_names tables ≡ true
    → command_words tables (make place block) ≡ name ∷ name_of_table tables place ∷ decimal block ∷ [] → form_of whole name ≡ Some (OfBlock make) → IsWord name → is_block_of tables place block ≡ true → CommandBack tables (make place block)
block_at tables name make place block all own text known is there =
    let s = holds_some (λ (table : TableDecl). nat_lt block table.blocks) (slice_get tables place) there in
    let at = stands tables place s.0 all own s.1 in
    let small = within_high 1 most_blocks s.0.blocks (table_parts s.0 (table_at tables place s.0 all s.1)).blocks in
    block_command tables name make place block text known is at there (omega (arith, ltb-true block s.0.blocks s.2, small))

-- A command with one of the tables and a key is read back.
key_at : (tables : List TableDecl) (name : List ℕ) (make : ℕ → ℤ → Command) (place : ℕ) (key : ℤ) → list_all is_table tables ≡ true → have_own_names tables ≡ true → command_words tables (make place key) ≡ name ∷ name_of_table tables place ∷ signed_decimal key ∷ []
    → form_of whole name ≡ Some (OfKey make) → IsWord name → (is_table_place tables place && is_key_number key) ≡ true → CommandBack tables (make place key)
key_at tables name make place key all own text known is fits =
    let f = and_parts (is_table_place tables place) (is_key_number key) fits in
    key_command tables name make place key text known is (place_stands tables place all own f.0) f.1

-- A begin is read back from its words.
begin_back : (tables : List TableDecl) (checked : Bool) → CommandBack tables (command.Begin checked)
begin_back tables false = record { name = codes "begin"; words = []; form = OfBegin true; text = refl; known = refl; back = refl; are = (plain_word (codes "begin") refl, tt) }
begin_back tables true = record {
  name = codes "begin";
  words = codes "checked" ∷ [];
  form = OfBegin true;
  text = refl;
  known = refl;
  back = refl;
  are = (plain_word (codes "begin") refl, (plain_word (codes "checked") refl, tt));
}

-- A range is read back from its words.
range_back : (tables : List TableDecl) (place : ℕ) (low high : ℤ) → Stands tables place → is_key_number low ≡ true → is_key_number high ≡ true → CommandBack tables (command.Range place low high)
range_back tables place low high at low_is high_is =
    let name = name_of_table tables place in record {
      name = codes "range";
      words = name ∷ signed_decimal low ∷ signed_decimal high ∷ [];
      form = OfRange;
      text = refl;
      known = refl;
      back = formed_range tables (name ∷ signed_decimal low ∷ signed_decimal high ∷ []) (name, signed_decimal low ∷ signed_decimal high ∷ []) (signed_decimal low, signed_decimal high ∷ []) (signed_decimal high, []) place low high
          refl refl refl refl at.named (key_back low low_is) (key_back high high_is);
      are = (plain_word (codes "range") refl, (at.word, (plain_word (signed_decimal low) (signed_plain low (key_small low low_is)), (plain_word (signed_decimal high) (signed_plain high (key_small high high_is)), tt))));
    }

-- A range of one of the tables with two keys is read back.
range_at : (tables : List TableDecl) (place : ℕ) (low high : ℤ) → list_all is_table tables ≡ true → have_own_names tables ≡ true → (is_table_place tables place && is_key_number low && is_key_number high) ≡ true → CommandBack tables (command.Range place low high)
range_at tables place low high all own fits =
    let f = and_parts (is_table_place tables place && is_key_number low) (is_key_number high) fits in
    let g = and_parts (is_table_place tables place) (is_key_number low) f.0 in
    range_back tables place low high (place_stands tables place all own g.0) g.1 f.1

-- A total is read back from its words.
total_back : (tables : List TableDecl) (place column : ℕ) (low high : ℤ) (its : Column) → Stands tables place → slice_get (schema_at tables place) column ≡ Some its → ColumnStands (schema_at tables place) its column
    → is_integer_of its.kind low ≡ true → is_integer_of its.kind high ≡ true → CommandBack tables (command.Total place column low high)
total_back tables place column low high its at there stands low_is high_is =
    let name = name_of_table tables place in
    let behind : List (List ℕ) = signed_decimal low ∷ signed_decimal high ∷ [] in
    let column_name : name_of_column tables place column ≡ its.name = column_at tables at.table its place column (λ c. c.name) [] at.at there in
    let values = values_of its.kind in record {
      name = codes "total";
      words = name ∷ its.name ∷ behind;
      form = OfTotal;
      text = ap (λ (text : List ℕ). codes "total" ∷ name ∷ text ∷ behind) column_name;
      known = refl;
      back = formed_total tables (name ∷ its.name ∷ behind) (name, its.name ∷ behind) (its.name, behind) (signed_decimal low, signed_decimal high ∷ []) (signed_decimal high, []) place (column, its.kind) low high
          refl refl refl refl refl at.named stands.named (number_in_back its.kind low low_is) (number_in_back its.kind high high_is);
      are = (
        plain_word (codes "total") refl,
        (
          at.word,
          (
            stands.word,
            (
              plain_word (signed_decimal low) (signed_plain low (small_of values low low_is)),
              (plain_word (signed_decimal high) (signed_plain high (small_of values high high_is)), tt),
            ),
          ),
        ),
      );
    }

-- A total of a column of numbers of one of the tables is read back.
total_at : (tables : List TableDecl) (place column : ℕ) (low high : ℤ) → list_all is_table tables ≡ true → have_own_names tables ≡ true → is_command tables (command.Total place column low high) ≡ true → CommandBack tables (command.Total place column low high)
total_at tables place column low high all own is =
    let s = holds_some (λ (table : TableDecl). option_map_or (λ its. are_bounds_in its low high) (slice_get table.schema column) false) (slice_get tables place) is in
    let c = holds_some (λ (its : Column). are_bounds_in its low high) (slice_get s.0.schema column) s.2 in
    let f = and_parts (are_numbers (values_of c.0.kind) && is_integer_of c.0.kind low) (is_integer_of c.0.kind high) c.2 in
    let g = and_parts (are_numbers (values_of c.0.kind)) (is_integer_of c.0.kind low) f.0 in
    let schema : schema_at tables place ≡ s.0.schema = ap (λ (o : Option TableDecl). option_map_or (λ t. t.schema) o []) s.1 in
    let there : slice_get (schema_at tables place) column ≡ Some c.0 = ap (λ (columns : List Column). slice_get columns column) schema ∙ c.1 in
    let are : are_columns (schema_at tables place) ≡ true = ap are_columns schema ∙ (table_parts s.0 (table_at tables place s.0 all s.1)).columns in
    total_back tables place column low high c.0 (stands tables place s.0 all own s.1) there (column_stands (schema_at tables place) c.0 column are there g.0) g.1 f.1

-- a command is read back from its words
pub command_back : (tables : List TableDecl) (read : Command) → list_all is_table tables ≡ true → have_own_names tables ≡ true → is_command tables read ≡ true → list_all has_only_bytes (written_row read) ≡ true → CommandBack tables read
command_back tables (command.Begin checked) all own is bytes = begin_back tables checked
command_back tables (command.Get place key) all own is bytes = key_at tables (codes "get") command.Get place key all own refl refl (plain_word (codes "get") refl) is
command_back tables (command.Scan place) all own is bytes = table_command tables (codes "scan") command.Scan place refl refl (plain_word (codes "scan") refl) (place_stands tables place all own is)
command_back tables (command.Range place low high) all own is bytes = range_at tables place low high all own is
command_back tables (command.Total place column low high) all own is bytes = total_at tables place column low high all own is
command_back tables (command.Insert place row) all own is bytes = row_at tables (codes "insert") command.Insert place row all own refl refl (plain_word (codes "insert") refl) is bytes
command_back tables (command.Update place row) all own is bytes = row_at tables (codes "update") command.Update place row all own refl refl (plain_word (codes "update") refl) is bytes
command_back tables (command.Delete place key) all own is bytes = key_at tables (codes "delete") command.Delete place key all own refl refl (plain_word (codes "delete") refl) is
command_back tables command.Commit all own is bytes = alone_back tables (codes "commit") command.Commit refl refl (plain_word (codes "commit") refl)
command_back tables command.Abort all own is bytes = alone_back tables (codes "abort") command.Abort refl refl (plain_word (codes "abort") refl)
command_back tables command.Observe all own is bytes = alone_back tables (codes "observe") command.Observe refl refl (plain_word (codes "observe") refl)
command_back tables command.Prune all own is bytes = alone_back tables (codes "prune") command.Prune refl refl (plain_word (codes "prune") refl)
command_back tables (command.Compact place) all own is bytes = table_command tables (codes "compact") command.Compact place refl refl (plain_word (codes "compact") refl) (place_stands tables place all own is)
command_back tables (command.Seal place block) all own is bytes = block_at tables (codes "seal") command.Seal place block all own refl refl (plain_word (codes "seal") refl) is
command_back tables (command.Gather place block) all own is bytes = block_at tables (codes "gather") command.Gather place block all own refl refl (plain_word (codes "gather") refl) is
command_back tables (command.Export place) all own is bytes = table_command tables (codes "export") command.Export place refl refl (plain_word (codes "export") refl) (place_stands tables place all own is)

-- A session and a command that are read make a line.
line_made : (tables : List TableDecl) (sessions : ℕ) (exported : Bool) (words : List (List ℕ)) (session : ℕ × List (List ℕ)) (first : List ℕ × List (List ℕ)) (form : Form) (read : Command) → number cause.Session 1 sessions words ≡ Ok session
    → word cause.Command session.1 ≡ Ok first → form_of whole first.0 ≡ Some form → formed tables form first.1 ≡ Ok read → (exported && is_export read) ≡ false → line_of whole tables sessions exported words ≡ Ok (record { session = session.0; command = read })
line_made tables sessions exported words session first form read e1 e2 e3 e4 e5 =
    let made : Result Line Cause = Ok (record { session = session.0; command = read }) in
    gives (number cause.Session 1 sessions words) _ made session e1 (gives (word cause.Command session.1) _ made first e2 (gives (or_cause cause.Command (form_of whole first.0)) _ made form (ap (or_cause cause.Command) e3)
    (gives (formed tables form first.1) _ made read e4 (gives (rule cause.Export (not (exported && is_export read))) _ made tt (rule_back cause.Export (not (exported && is_export read)) (ap not e5)) refl))))

-- a line of a round is read back, is no line `--`, and is one line
pub record LineBack (tables : List TableDecl) (sessions : ℕ) (exported : Bool) (line : Line) : Type 0 where
  pub back : line_of whole tables sessions exported (words_of (line_text tables line)) ≡ Ok line
  pub other : bytes_eq (line_text tables line) (codes "--") ≡ false
  pub whole : is_whole (line_text tables line) ≡ true

-- A line that begins with a digit is not one of two dashes.
spaced_begins : (word : List ℕ) (words : List (List ℕ)) → Begins word → bytes_eq (spaced (word ∷ words)) (codes "--") ≡ false
spaced_begins [] words begins = absurd (let e = begins.is in cc)
spaced_begins (first ∷ rest) [] begins = other_bytes (first ∷ rest) (codes "--") (λ e. let same : first ≡ begins.first = (let f = begins.is in cc) in let d : first ≡ 45 = cc in omega (arith, same, d, begins.least))
spaced_begins (first ∷ rest) (next ∷ words) begins = other_bytes (spaced ((first ∷ rest) ∷ next ∷ words)) (codes "--") (λ e. let same : first ≡ begins.first = (let f = begins.is in cc) in let d : first ≡ 45 = cc in omega (arith, same, d, begins.least))

-- a line of a round is read back, is no line `--`, and is one line
pub line_back : (tables : List TableDecl) (sessions : ℕ) (exported : Bool) (line : Line) → list_all is_table tables ≡ true → have_own_names tables ≡ true → sessions ≤ 64 → is_within 1 sessions line.session ≡ true → is_command tables line.command ≡ true
    → list_all has_only_bytes (written_row line.command) ≡ true → (exported && is_export line.command) ≡ false → LineBack tables sessions exported line
line_back tables sessions exported line all own few in_sessions is bytes once =
    let c = command_back tables line.command all own is bytes in
    let small : line.session < 2 ^ 64 = omega (arith, within_high 1 sessions line.session in_sessions, few) in
    let text : line_text tables line ≡ spaced (decimal line.session ∷ c.name ∷ c.words) = ap (λ (ws : List (List ℕ)). spaced (decimal line.session ∷ ws)) c.text in
    let apart : words_of (line_text tables line) ≡ decimal line.session ∷ c.name ∷ c.words = ap words_of text ∙ words_apart (decimal line.session) (c.name ∷ c.words) (number_word line.session small, c.are) in
    record {
      back = ap (line_of whole tables sessions exported) apart ∙ line_made tables sessions exported (decimal line.session ∷ c.name ∷ c.words) (line.session, c.name ∷ c.words) (c.name, c.words) c.form line.command
          (number_back cause.Session 1 sessions line.session (c.name ∷ c.words) small in_sessions) refl c.known c.back once;
      other = ap (λ (bytes : List ℕ). bytes_eq bytes (codes "--")) text ∙ spaced_begins (decimal line.session) (c.name ∷ c.words) (decimal_begins line.session small);
      whole = ap is_whole text ∙ words_whole (decimal line.session ∷ c.name ∷ c.words) (number_word line.session small, c.are);
    }
