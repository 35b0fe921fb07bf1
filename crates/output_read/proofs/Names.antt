-- What of valid tables is used.
use Rattle.std.proofs.Common.{◌≡◌, ℕ, ◌≤◌, ◌<◌, Bool, true, false, ◌&&◌, ◌||◌, nat_le, nat_lt, eqb, zero, suc, List, [], ◌∷◌, length, refl, arith}
use Rattle.std.specs.Prelude.{Option, Some, None, slice_get, is_some, is_none}
use Rattle.std.specs.List.{list_all}
use Rattle.std.specs.Option.{option_map_or}
use Rattle.std.proofs.lemmas.Bool.{and_parts, and_from, leb-true, lt-ltb, ltb-true}
use Rattle.std.proofs.lemmas.Bool.Decides.{nat_tests}
use Rattle.cell_model.specs.declared.column.Column.{Column}
use Rattle.cell_model.specs.declared.table.TableDecl.{TableDecl}
use Rattle.cell_model.specs.Schemas.{begins_with_key, first_twins, most_columns}
use Rattle.workload_spec.specs.declared.command.Command.{Command}
use Rattle.workload_spec.specs.declared.command.Command.TheVariants as command
use Rattle.workload_spec.specs.Valid.{is_command, is_table, is_table_place, is_block_of, is_name, is_name_byte, is_lower_case, are_columns, are_slots, are_blocks, have_own_names, is_column}
use Rattle.workload_laws.proofs.Apart.{is_plain}
use Rattle.outcome_spec.specs.Tables.{columns_at}
use Rattle.reply_text.specs.Shown.{is_u32, are_tables}
use Rattle.timeline_laws.proofs.ReadBack.{NamesPlain}
use Rattle.output_read.proofs.Fitting.{never}
use Rattle.output_read.proofs.Answering.{IsListed}

-- A byte that is a small letter, a digit or an underscore is plain.
name-byte-by : (byte : ℕ) (lower digit under : Bool) → (nat_le 97 byte && nat_le byte 122) ≡ lower → (nat_le 48 byte && nat_le byte 57) ≡ digit → eqb byte 95 ≡ under → (lower || digit || under) ≡ true → is_plain byte ≡ true
name-byte-by byte true digit under l d u h = let parts = and_parts (nat_le 97 byte) (nat_le byte 122) l in lt-ltb 34 byte (let e : 97 ≤ byte = leb-true 97 byte parts.0 in omega (arith, e))
name-byte-by byte false true under l d u h = let parts = and_parts (nat_le 48 byte) (nat_le byte 57) d in lt-ltb 34 byte (let e : 48 ≤ byte = leb-true 48 byte parts.0 in omega (arith, e))
name-byte-by byte false false true l d u h = let e : nat_lt 34 byte ≡ true = grind (arith, nat_tests, u) in e
name-byte-by byte false false false l d u h = absurd (never h)

-- A byte of a name is plain.
name-byte : (byte : ℕ) → is_name_byte byte ≡ true → is_plain byte ≡ true
name-byte byte h = name-byte-by byte (nat_le 97 byte && nat_le byte 122) (nat_le 48 byte && nat_le byte 57) (eqb byte 95) refl refl refl h

-- A small letter is a plain byte.
lower-byte : (byte : ℕ) → is_lower_case byte ≡ true → is_plain byte ≡ true
lower-byte byte h = let parts = and_parts (nat_le 97 byte) (nat_le byte 122) h in lt-ltb 34 byte (let e : 97 ≤ byte = leb-true 97 byte parts.0 in omega (arith, e))

-- The bytes of a word that are all bytes of a name are all plain.
name-rest : (word : List ℕ) → list_all is_name_byte word ≡ true → list_all is_plain word ≡ true
name-rest [] h = refl
name-rest (byte ∷ word) h =
    let parts = and_parts (is_name_byte byte) (list_all is_name_byte word) h in
    and_from (is_plain byte) (list_all is_plain word) (name-byte byte parts.0) (name-rest word parts.1)

-- A name is a plain word.
name-plain : (word : List ℕ) → is_name word ≡ true → list_all is_plain word ≡ true
name-plain [] h = refl
name-plain (first ∷ rest) h =
    let parts = and_parts (is_lower_case first && list_all is_name_byte rest) (nat_lt (length rest) 32) h in
    let inner = and_parts (is_lower_case first) (list_all is_name_byte rest) parts.0 in
    and_from (is_plain first) (list_all is_plain rest) (lower-byte first inner.0) (name-rest rest inner.1)

-- A valid table has a name and valid columns.
table-name : (decl : TableDecl) → is_table decl ≡ true → (is_name decl.name ≡ true) × (are_columns decl.schema ≡ true)
table-name decl h =
    let last = and_parts (is_name decl.name && are_columns decl.schema && are_slots decl.schema decl.slots) (are_blocks decl.blocks) h in
    let third = and_parts (is_name decl.name && are_columns decl.schema) (are_slots decl.schema decl.slots) last.0 in
    and_parts (is_name decl.name) (are_columns decl.schema) third.0

-- the names of valid tables are plain words
pub names-plain : (tables : List TableDecl) → list_all is_table tables ≡ true → NamesPlain tables
names-plain [] h table = refl
names-plain (decl ∷ tables) h zero = name-plain decl.name (table-name decl (and_parts (is_table decl) (list_all is_table tables) h).0).0
names-plain (decl ∷ tables) h (suc table) = names-plain tables (and_parts (is_table decl) (list_all is_table tables) h).1 table

-- each of tables that are valid together is valid
pub tables-valid : (tables : List TableDecl) → are_tables tables ≡ true → list_all is_table tables ≡ true
tables-valid tables h = (and_parts (list_all is_table tables) (have_own_names tables) h).0

-- Columns that begin with a key are not none.
key-some : (columns : List Column) → begins_with_key columns ≡ true → 0 < length columns
key-some [] h = absurd (never h)
key-some (column ∷ columns) h = omega arith

-- Valid columns are not none.
columns-some : (columns : List Column) → are_columns columns ≡ true → 0 < length columns
columns-some columns h =
    let a = and_parts (begins_with_key columns && nat_le (length columns) most_columns && is_none (first_twins 0 columns)) (list_all is_column columns) h in
    let b = and_parts (begins_with_key columns && nat_le (length columns) most_columns) (is_none (first_twins 0 columns)) a.0 in
    key-some columns (and_parts (begins_with_key columns) (nat_le (length columns) most_columns) b.0).0

-- a table has a column at least
pub place-columns : (tables : List TableDecl) (table : ℕ) → list_all is_table tables ≡ true → is_table_place tables table ≡ true → 0 < length (columns_at tables table)
place-columns [] table h place = absurd (never place)
place-columns (decl ∷ tables) zero h place = columns-some decl.schema (table-name decl (and_parts (is_table decl) (list_all is_table tables) h).0).1
place-columns (decl ∷ tables) (suc table) h place = place-columns tables table (and_parts (is_table decl) (list_all is_table tables) h).1 place

-- A table that has the block is there.
block-place : (o : Option TableDecl) (block : ℕ) → option_map_or (λ table. nat_lt block table.blocks) o false ≡ true → is_some o ≡ true
block-place None block h = absurd (never h)
block-place (Some table) block h = refl

-- The number of a block of valid tables fits 32 bits.
small-block : (tables : List TableDecl) (table block : ℕ) → list_all is_table tables ≡ true → is_block_of tables table block ≡ true → is_u32 block ≡ true
small-block [] table block h is = absurd (never is)
small-block (decl ∷ tables) zero block h is =
    let last = and_parts (is_name decl.name && are_columns decl.schema && are_slots decl.schema decl.slots) (are_blocks decl.blocks) (and_parts (is_table decl) (list_all is_table tables) h).0 in
    let most = leb-true decl.blocks 1024 (and_parts (nat_le 1 decl.blocks) (nat_le decl.blocks 1024) last.1).1 in
    let few = ltb-true block decl.blocks is in
    lt-ltb block 4294967296 (omega (arith, most, few))
small-block (decl ∷ tables) (suc table) block h is = small-block tables table block (and_parts (is_table decl) (list_all is_table tables) h).1 is

-- the command asks for no rows
abbrev pub IsNoScan : Command → Type 0
IsNoScan (command.Scan table) = ⊥
IsNoScan (command.Range table low high) = ⊥
IsNoScan _ = Unit {0}

-- A table that passes a test is there.
fits-place : (o : Option TableDecl) (test : TableDecl → Bool) → option_map_or test o false ≡ true → is_some o ≡ true
fits-place None test h = absurd (never h)
fits-place (Some table) test h = refl

-- a command of the tables names what there is
pub command-listed : (tables : List TableDecl) (words behind : List (List ℕ)) → list_all is_table tables ≡ true → (asked : Command) → is_command tables asked ≡ true → IsNoScan asked → IsListed tables words behind asked
command-listed tables words behind valid (command.Get table key) h scan = place-columns tables table valid (and_parts (is_table_place tables table) _ h).0
command-listed tables words behind valid (command.Scan table) h scan = scan
command-listed tables words behind valid (command.Range table low high) h scan = scan
command-listed tables words behind valid (command.Update table row) h scan = fits-place (slice_get tables table) _ h
command-listed tables words behind valid (command.Delete table key) h scan = (and_parts (is_table_place tables table) _ h).0
command-listed tables words behind valid (command.Seal table block) h scan = (block-place (slice_get tables table) block h, small-block tables table block valid h)
command-listed tables words behind valid (command.Gather table block) h scan = (block-place (slice_get tables table) block h, small-block tables table block valid h)
command-listed tables words behind valid _ h scan = tt
