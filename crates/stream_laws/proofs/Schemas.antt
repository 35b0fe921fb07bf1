-- A schema's table reads as the columns that it was laid for.
use Rattle.std.proofs.Common.{◌≡◌, ℕ, ◌+◌, ◌-◌, ◌*◌, ◌^◌, ◌<◌, ◌≤◌, Bool, true, false, List, [], ◌∷◌, ◌++◌, append_assoc, append-nil, length, map, refl, sym, ap, ◌∙◌, subst, arith, lit<, None, Some, Ok, Option, Result}
use Rattle.std.specs.Prelude.{not, ◌==◌, nat_le}
use Rattle.std.specs.Str.{is_utf8}
use Rattle.std.proofs.lemmas.Str.{is_utf8-from_IsUtf8}
use Rattle.std.proofs.lemmas.Bool.{and_parts, eq-eqb, leb-true, ne_eqb}
use Rattle.std.proofs.lemmas.List.Elements.{All-head, All-tail}
use Rattle.cell_model.specs.Schemas.{IsName}
use Rattle.std.specs.Int.{w8, w16, w32, byte_len, from_bool, to_le_bytes}
use Rattle.std.specs.List.{All, range_with_len}
use Rattle.std.proofs.lemmas.List.{length-map}
use Rattle.cell_model.specs.Kinds.{has_width, values_of}
use Rattle.cell_model.specs.Widths.{most_bytes}
use Rattle.cell_model.specs.declared.column.Column.{Column}
use Rattle.cell_model.specs.declared.kind.Kind.{Kind}
use Rattle.cell_model.specs.declared.kind.Kind.TheVariants as kinds
use Rattle.arrow_spec.specs.Fields.{plain_field, plain_fields}
use Rattle.arrow_spec.specs.Flatbuffers.{Object, Field, number, reference, absent, length_place, string, references, vector_of_tables}
use Rattle.arrow_spec.specs.Metadata.{int_table, fixed_table, date_table, type_of, table_of_type, number_of_type, field_table, field_table_of, schema_table}
use Rattle.arrow_spec.specs.declared.types.ArrowType.{ArrowType}
use Rattle.arrow_spec.specs.declared.types.ArrowType.TheVariants.{SignedInt, UnsignedInt, FixedSizeBinary, Date, Plain}
use Rattle.flat_read.specs.declared.FlatFault.{FlatFault}
use Rattle.flat_read.specs.Reading.{field_at, target_at}
use Rattle.arrow_spec.specs.declared.fields.Field.{Field as SchemaField}
use Rattle.stream_spec.specs.Checks.{◌>>=◌}
use Rattle.stream_spec.specs.Metadata.{FieldTable, scalar, target_of, elements, text, int_type, fixed_type, date_type, number_or, type_at, field_table_at, fields_at, fields_behind, kind_of_type, reference as reference_at, schema_field_at}
use Rattle.stream_laws.proofs.Pieces.{Has}
use Rattle.stream_laws.proofs.Fields.{FieldsAt}
use Rattle.stream_laws.proofs.Tables.{IsTableAt, number-read, target-read, table-there, tables-there, vector-read, string-read}
use Rattle.stream_laws.proofs.Messages.{table-behind, field-found, scalar-found, reference-found, absent-found, elements-found, text-found}

-- ---- types

-- a type whose numbers fit their fields, and whose own number is that of no other
abbrev pub IsTold : ArrowType → Type 0
IsTold (SignedInt bits) = bits < 256 ^ byte_len w32
IsTold (UnsignedInt bits) = bits < 256 ^ byte_len w32
IsTold (FixedSizeBinary bytes) = bytes < 256 ^ byte_len w32
IsTold (Date unit) = unit < 256 ^ byte_len w16
IsTold (Plain id) = (id < 256 ^ byte_len w8) × ((id == 2) ≡ false) × ((id == 8) ≡ false) × ((id == 15) ≡ false)

-- The type of each kind is such a one.
pub kind-told : (kind : Kind) → has_width (values_of kind) ≡ true → IsTold (type_of kind)
kind-told kinds.I8 wide = lit< tt
kind-told kinds.I16 wide = lit< tt
kind-told kinds.I32 wide = lit< tt
kind-told kinds.I64 wide = lit< tt
kind-told kinds.U8 wide = lit< tt
kind-told kinds.U16 wide = lit< tt
kind-told kinds.U32 wide = lit< tt
kind-told kinds.U64 wide = lit< tt
kind-told kinds.Bool wide = (lit< tt, refl, refl, refl)
kind-told kinds.Utf8 wide = (lit< tt, refl, refl, refl)
kind-told kinds.Binary wide = (lit< tt, refl, refl, refl)
kind-told kinds.LargeUtf8 wide = (lit< tt, refl, refl, refl)
kind-told kinds.LargeBinary wide = (lit< tt, refl, refl, refl)
kind-told (kinds.Fixed bytes) wide =
    let most = leb-true bytes 1024 (and_parts (nat_le 1 bytes) (nat_le bytes 1024) wide).1 in
    omega arith
kind-told kinds.Date wide = lit< tt

-- the fields of an integer type: its bits, and whether it has a sign
abbrev pub int_fields : ℕ → ℕ → List Field
int_fields bits is_signed = number 4 w32 bits ∷ number 8 w8 is_signed ∷ []

-- the field of a type of so many bytes each
abbrev pub fixed_fields : ℕ → List Field
fixed_fields bytes = number 4 w32 bytes ∷ []

-- the field of a type of dates
abbrev pub date_fields : ℕ → List Field
date_fields unit = number 4 w16 unit ∷ []

-- The table of an integer type that lies in bytes reads as its two fields.
int-there : (bytes : List ℕ) (end bits is_signed : ℕ)
    → Has bytes end (int_table bits is_signed end).bytes
    → IsTableAt bytes end 9 (int_fields bits is_signed)
int-there bytes end bits is_signed has =
    table-there bytes end 9 (int_fields bits is_signed) (record { apart = refl; fit = refl }) has

-- The table of a type of so many bytes each, that lies in bytes, reads as its field.
fixed-there : (bytes : List ℕ) (end width : ℕ) → Has bytes end (fixed_table width end).bytes
    → IsTableAt bytes end 8 (fixed_fields width)
fixed-there bytes end width has =
    table-there bytes end 8 (fixed_fields width) (record { apart = refl; fit = refl }) has

-- The table of a type of dates that lies in bytes reads as its field.
date-there : (bytes : List ℕ) (end unit : ℕ) → Has bytes end (date_table unit end).bytes
    → IsTableAt bytes end 6 (date_fields unit)
date-there bytes end unit has =
    table-there bytes end 6 (date_fields unit) (record { apart = refl; fit = refl }) has

-- An Int table with a sign is read back.
pub signed-read : (bytes : List ℕ) (end bits : ℕ) → bits < 256 ^ byte_len w32
    → Has bytes end (int_table bits 1 end).bytes
    → int_type bytes (Some (int_table bits 1 end).place) ≡ Ok (SignedInt bits)
signed-read bytes end bits small has =
    let fields : List Field = int_fields bits 1 in
    let there = int-there bytes end bits 1 has in
    let one = scalar-found bytes end 9 fields there 0 4 w32 bits refl small there.laid.0 in
    let sign = scalar-found bytes end 9 fields there 1 8 w8 1 refl (lit< tt) there.laid.1.0 in
    rw (one, sign) refl

-- An Int table without a sign is read back.
unsigned-read : (bytes : List ℕ) (end bits : ℕ) → bits < 256 ^ byte_len w32
    → Has bytes end (int_table bits 0 end).bytes
    → int_type bytes (Some (int_table bits 0 end).place) ≡ Ok (UnsignedInt bits)
unsigned-read bytes end bits small has =
    let fields : List Field = int_fields bits 0 in
    let there = int-there bytes end bits 0 has in
    let one = scalar-found bytes end 9 fields there 0 4 w32 bits refl small there.laid.0 in
    let sign = scalar-found bytes end 9 fields there 1 8 w8 0 refl (lit< tt) there.laid.1.0 in
    rw (one, sign) refl

-- The table of a type of so many bytes each is read back.
fixed-read : (bytes : List ℕ) (end width : ℕ) → width < 256 ^ byte_len w32
    → Has bytes end (fixed_table width end).bytes
    → fixed_type bytes (Some (fixed_table width end).place) ≡ Ok (FixedSizeBinary width)
fixed-read bytes end width small has =
    let fields : List Field = fixed_fields width in
    let there = fixed-there bytes end width has in
    let one = scalar-found bytes end 8 fields there 0 4 w32 width refl small there.laid.0 in
    rw one refl

-- The table of a type of dates is read back.
date-read : (bytes : List ℕ) (end unit : ℕ) → unit < 256 ^ byte_len w16
    → Has bytes end (date_table unit end).bytes
    → date_type bytes (Some (date_table unit end).place) ≡ Ok (Date unit)
date-read bytes end unit small has =
    let fields : List Field = date_fields unit in
    let there = date-there bytes end unit has in
    let place : ℕ = (date_table unit end).place in
    let reads : Result (Option ℕ) FlatFault → Result ArrowType FlatFault =
    λ found. found >>= λ here. number_or bytes 2 1 here >>= λ number. Ok (Date number) in
    let tells : Result ℕ FlatFault → Result ArrowType FlatFault =
    λ found. found >>= λ number. Ok (Date number) in
    ap reads (field-found bytes end 6 fields there 0)
    ∙ ap tells (number-read bytes (place + 4) w16 unit small there.laid.0)

-- The table of a type, to which the reference at a place leads, says what the type is.
pub type-read : (bytes : List ℕ) (end at : ℕ) (type' : ArrowType) → IsTold type'
    → Has bytes end (table_of_type type' end).bytes
    → target_of bytes (Some at) ≡ Ok (Some (table_of_type type' end).place)
    → type_at bytes (number_of_type type') (Some at) ≡ Ok type'
type-read bytes end at (SignedInt bits) told has leads =
    let reads : Result (Option ℕ) FlatFault → Result ArrowType FlatFault =
    λ found. found >>= int_type bytes in
    ap reads leads ∙ signed-read bytes end bits told has
type-read bytes end at (UnsignedInt bits) told has leads =
    let reads : Result (Option ℕ) FlatFault → Result ArrowType FlatFault =
    λ found. found >>= int_type bytes in
    ap reads leads ∙ unsigned-read bytes end bits told has
type-read bytes end at (FixedSizeBinary width) told has leads =
    let reads : Result (Option ℕ) FlatFault → Result ArrowType FlatFault =
    λ found. found >>= fixed_type bytes in
    ap reads leads ∙ fixed-read bytes end width told has
type-read bytes end at (Date unit) told has leads =
    let reads : Result (Option ℕ) FlatFault → Result ArrowType FlatFault =
    λ found. found >>= date_type bytes in
    ap reads leads ∙ date-read bytes end unit told has
type-read bytes end at (Plain id) told has leads = rw (told.1, told.2, told.3) refl

-- where it stands
pub record Stands (bytes : List ℕ) (end place : ℕ) : Type 0 where
  pub behind : end ≤ place
  pub inside : place + 4 ≤ length bytes

-- The table of a type stands behind the end where it is laid, within the bytes.
pub type-stands : (bytes : List ℕ) (end : ℕ) (type' : ArrowType)
    → Has bytes end (table_of_type type' end).bytes
    → Stands bytes end (table_of_type type' end).place
type-stands bytes end (SignedInt bits) has =
    let there = int-there bytes end bits 1 has in
    record { behind = table-behind end 9 (int_fields bits 1); inside = omega (arith, there.inside) }
type-stands bytes end (UnsignedInt bits) has =
    let there = int-there bytes end bits 0 has in
    record { behind = table-behind end 9 (int_fields bits 0); inside = omega (arith, there.inside) }
type-stands bytes end (FixedSizeBinary width) has =
    let there = fixed-there bytes end width has in
    record { behind = table-behind end 8 (fixed_fields width); inside = omega (arith, there.inside) }
type-stands bytes end (Date unit) has =
    let there = date-there bytes end unit has in
    record { behind = table-behind end 6 (date_fields unit); inside = omega (arith, there.inside) }
type-stands bytes end (Plain id) has =
    let there = table-there bytes end 4 [] (record { apart = refl; fit = refl }) has in
    record { behind = table-behind end 4 []; inside = omega (arith, there.inside) }

-- The number of a type fits one byte.
pub type-number-small : (type' : ArrowType) → IsTold type' → number_of_type type' < 256 ^ byte_len w8
type-number-small (SignedInt bits) told = lit< tt
type-number-small (UnsignedInt bits) told = lit< tt
type-number-small (FixedSizeBinary bytes) told = lit< tt
type-number-small (Date unit) told = lit< tt
type-number-small (Plain id) told = told.0

-- Each kind is found by its type.
pub kind-read : (kind : Kind) → has_width (values_of kind) ≡ true
    → kind_of_type (type_of kind) ≡ Some kind
kind-read kinds.I8 wide = refl
kind-read kinds.I16 wide = refl
kind-read kinds.I32 wide = refl
kind-read kinds.I64 wide = refl
kind-read kinds.U8 wide = refl
kind-read kinds.U16 wide = refl
kind-read kinds.U32 wide = refl
kind-read kinds.U64 wide = refl
kind-read kinds.Bool wide = refl
kind-read kinds.Utf8 wide = refl
kind-read kinds.Binary wide = refl
kind-read kinds.LargeUtf8 wide = refl
kind-read kinds.LargeBinary wide = refl
kind-read (kinds.Fixed bytes) wide =
    let same : (bytes == bytes) ≡ true = eq-eqb bytes bytes refl in rw (wide, same) refl
kind-read kinds.Date wide = refl

-- ---- fields

-- the fields of a column: its name, its nulls and its type
abbrev pub column_fields : Column → List Field
column_fields column =
    reference 4 (string column.name)
    ∷ number 16 w8 (from_bool column.nullable)
    ∷ number 17 w8 (number_of_type (type_of column.kind))
    ∷ reference 8 (table_of_type (type_of column.kind))
    ∷ absent
    ∷ reference 12 (vector_of_tables [])
    ∷ []

-- A truth value as a number fits one byte.
pub bool_small : (truth : Bool) → from_bool truth < 256 ^ byte_len w8
bool_small true = lit< tt
bool_small false = lit< tt

-- A truth value is read back from its number.
pub bool_back : (truth : Bool) → not (from_bool truth == 0) ≡ truth
bool_back true = refl
bool_back false = refl

-- a column's field, as it is read
abbrev table_of : Column → ℕ → FieldTable
table_of column type_at = record {
  name = column.name;
  nullable = column.nullable;
  type_place = Some type_at;
  encoding = None;
  children = 0;
  type' = type_of column.kind;
}

-- where a column's type stands, if its field stands behind this end
abbrev type_end : Column → ℕ → ℕ
type_end column end =
    let behind : ℕ = (field_table_of column None end).place + 18 in
    behind + length (string column.name behind).bytes

module _ (bytes : List ℕ) (end : ℕ) (column : Column) (small : length bytes < 2 ^ 31)
    (short : length column.name ≤ most_bytes) (wide : has_width (values_of column.kind) ≡ true)
    (has : Has bytes end (field_table_of column None end).bytes) where
  abbrev fields : List Field
  fields = column_fields column

  abbrev place : ℕ
  place = (field_table_of column None end).place

  abbrev type_place : ℕ
  type_place = (table_of_type (type_of column.kind) (type_end column end)).place

  there : IsTableAt bytes end 18 fields
  there = table-there bytes end 18 fields (record { apart = refl; fit = refl }) has

  field-inside : place + 18 ≤ length bytes
  field-inside = there.inside

  -- the reference at 4, and the name behind the table
  name-read : text bytes place 0 ≡ Ok column.name
  name-read =
      let behind : ℕ = place + 18 in
      let target : ℕ = length_place behind in
      text-found bytes place 0 target column.name
      (reference-found bytes end 18 fields there 0 4 target refl (omega arith)
      (omega (arith, field-inside)) there.laid.0)
      (string-read bytes behind column.name (omega arith) there.laid.1)

  nullable-read : scalar bytes place 1 1 ≡ Ok (from_bool column.nullable)
  nullable-read = scalar-found bytes end 18 fields there 1 16 w8 (from_bool column.nullable) refl
      (bool_small column.nullable) there.laid.2.0

  type-number-read : scalar bytes place 2 1 ≡ Ok (number_of_type (type_of column.kind))
  type-number-read =
      scalar-found bytes end 18 fields there 2 17 w8 (number_of_type (type_of column.kind))
      refl (type-number-small (type_of column.kind) (kind-told column.kind wide)) there.laid.2.1.0

  stands : Stands bytes (type_end column end) type_place
  stands = type-stands bytes (type_end column end) (type_of column.kind) there.laid.2.1.1.1

  type-place-read : field_at bytes place 3 ≡ Ok (Some (place + 8))
  type-place-read = field-found bytes end 18 fields there 3

  type-leads : target_of bytes (Some (place + 8)) ≡ Ok (Some type_place)
  type-leads =
      let wraps : Result ℕ FlatFault → Result (Option ℕ) FlatFault =
      λ found. found >>= λ leads. Ok (Some leads) in
      ap wraps (target-read bytes (place + 8) type_place (omega (arith, stands.behind))
      (omega (arith, stands.inside)) there.laid.2.1.1.0)

  -- the vector of no children
  children-read : elements bytes place 5 4 ≡ Ok
      (record {
        first = length_place (type_end column end + length
            (table_of_type (type_of column.kind) (type_end column end)).bytes) + 4;
        count = 0;
      })
  children-read =
      let before : ℕ =
      type_end column end + length (table_of_type (type_of column.kind) (type_end column end)).bytes in
      let vector = tables-there bytes before [] there.laid.2.1.1.2.1 in
      elements-found bytes place 5 4 (length_place before) (length_place before + 4) 0
      (reference-found bytes end 18 fields there 5 12 (length_place before) refl (omega arith)
      (omega (arith, vector.inside)) there.laid.2.1.1.2.0)
      (vector-read bytes (length_place before) 0 4 (lit< tt) (omega (arith, vector.inside))
      vector.word)

  -- a column's table reads as the column
  pub field-table-read : field_table_at bytes place ≡ Ok (table_of column (place + 8))
  field-table-read =
      let dictionary : reference_at bytes place 4 ≡ Ok None =
      let reads : Result (Option ℕ) FlatFault → Result (Option ℕ) FlatFault =
      λ found. found >>= λ here. target_of bytes here in
      ap reads (absent-found bytes end 18 fields there 4 refl) in
      let told =
      type-read bytes (type_end column end) (place + 8) (type_of column.kind)
      (kind-told column.kind wide) there.laid.2.1.1.1 type-leads in
      rw (
        name-read,
        nullable-read,
        type-number-read,
        type-place-read,
        dictionary,
        children-read,
        told,
        bool_back column.nullable,
      ) refl

  -- the field of the reference to the table, whatever fields stand before it
  pub field-read : (before : List SchemaField) (here : ℕ) → here ≤ end
      → is_utf8 column.name ≡ true
      → Has bytes here (to_le_bytes w32 (place - here))
      → schema_field_at bytes before here ≡ Ok (plain_field column)
  field-read before here ahead text' leads =
      let target : target_at bytes here ≡ Ok place =
      target-read bytes here place (omega (arith, table-behind end 18 fields))
      (omega (arith, field-inside)) leads in
      rw (target, field-table-read, text', kind-read column.kind wide) refl

-- ---- the schema

-- the fields of references that stand from a place on, each behind the ones before
fields-read : (bytes : List ℕ) (place end from first k : ℕ) (before : List SchemaField)
    (columns : List Column)
    → length bytes < 2 ^ 31 → All IsName columns
    → first + 4 * k ≡ place + from → place + from + 4 * length columns ≤ end
    → FieldsAt bytes place end (references from (map field_table (plain_fields columns)))
    → fields_behind bytes before (map (λ i. first + 4 * i) (range_with_len k (length columns)))
    ≡ Ok (before ++ plain_fields columns)
fields-read bytes place end from first k before [] small named here ahead laid =
    ap (λ (fields : List SchemaField). Ok fields) (sym (append-nil before))
fields-read bytes place end from first k before (column ∷ columns) small named here ahead laid =
    let name = All-head IsName column columns named in
    let one : schema_field_at bytes before (first + 4 * k) ≡ Ok (plain_field column) =
    ap (schema_field_at bytes before) here
    ∙ field-read bytes end column small name.1 name.2 laid.1 before (place + from) (omega arith)
    (is_utf8-from_IsUtf8 column.name name.0) laid.0 in
    let rest = fields-read bytes place (end + length (field_table_of column None end).bytes)
    (from + 4) first (k + 1) (before ++ plain_field column ∷ []) columns small
    (All-tail IsName column columns named) (omega arith) (omega arith) laid.2 in
    let all : (before ++ plain_field column ∷ []) ++ plain_fields columns
    ≡ before ++ plain_fields (column ∷ columns) =
    append_assoc before (plain_field column ∷ []) (plain_fields columns) in
    rw one (rest ∙ ap (λ (fields : List SchemaField). Ok fields) all)

-- the fields of a schema: its byte order and its columns
abbrev pub schema_fields : List Column → List Field
schema_fields columns =
    number 8 w16 0 ∷ reference 4 (vector_of_tables (map field_table (plain_fields columns))) ∷ []

-- the fields stand where the schema's table was laid
pub schema-there : (bytes : List ℕ) (end : ℕ) (columns : List Column)
    → Has bytes end (schema_table (plain_fields columns) end).bytes
    → IsTableAt bytes end 10 (schema_fields columns)
schema-there bytes end columns has =
    table-there bytes end 10 (schema_fields columns) (record { apart = refl; fit = refl }) has

-- The columns of a schema are read back.
pub schema-read : (bytes : List ℕ) (end : ℕ) (columns : List Column) → length bytes < 2 ^ 31
    → 0 < length columns → All IsName columns
    → Has bytes end (schema_table (plain_fields columns) end).bytes
    → fields_at bytes (schema_table (plain_fields columns) end).place ≡ Ok (plain_fields columns)
schema-read bytes end columns small some named has =
    let fields : List Field = schema_fields columns in
    let there = schema-there bytes end columns has in
    let place : ℕ = (schema_table (plain_fields columns) end).place in
    let behind : ℕ = place + 10 in
    let tables : List Object = map field_table (plain_fields columns) in
    let vector : ℕ = length_place behind in
    let count : length tables ≡ length columns = length-map (plain_fields columns) field_table ∙ length-map columns plain_field in
    let laid = tables-there bytes behind tables there.laid.1.1 in
    let endianness = scalar-found bytes end 10 fields there 0 8 w16 0 refl (lit< tt) there.laid.0 in
    let leads =
    reference-found bytes end 10 fields there 1 4 vector refl (omega arith)
    (omega (arith, laid.inside)) there.laid.1.0 in
    let found = elements-found bytes place 1 4 vector (vector + 4) (length tables) leads
    (vector-read bytes vector (length tables) 4 (omega (arith, laid.inside))
    (omega (arith, laid.inside)) laid.word) in
    let none : (length tables == 0) ≡ false = ne_eqb (length tables) 0 (λ is. omega arith) in
    let all =
    fields-read bytes vector (vector + (4 + 4 * length tables)) 4 (vector + 4) 0 [] columns small
    named (omega arith) (omega arith) laid.laid in
    let P : ℕ → Type 0 =
    λ n. fields_behind bytes [] (map (λ i. vector + 4 + 4 * i) (range_with_len 0 n))
    ≡ Ok (plain_fields columns) in
    let each = subst P (sym count) all in
    rw (endianness, found, none, each) refl
