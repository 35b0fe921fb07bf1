-- How many bytes the metadata of a schema has at most.
use Rattle.std.proofs.Common.{◌≡◌, ℕ, ◌+◌, ◌-◌, ◌*◌, ◌≤◌, true, List, [], ◌∷◌, ◌++◌, length, map, replicate, refl, subst, arith, length-append, None, ◌∙◌}
use Rattle.std.proofs.lemmas.List.{length-replicate, length-map}
use Rattle.std.proofs.lemmas.List.Elements.{All-head, All-tail}
use Rattle.std.specs.Int.{w32, byte_len, to_le_bytes}
use Rattle.std.specs.List.{All}
use Rattle.cell_model.specs.Schemas.{IsName}
use Rattle.cell_model.specs.Widths.{most_bytes}
use Rattle.cell_model.specs.declared.column.Column.{Column}
use Rattle.arrow_spec.specs.Fields.{plain_field, plain_fields}
use Rattle.arrow_spec.specs.Flatbuffers.{Laid, Object, Field, number, reference, absent, aligned, length_place, gap, with_fields, vtable_of, table, vector, string, references, vector_of_tables}
use Rattle.arrow_spec.specs.Metadata.{type_of, table_of_type, field_table, field_table_of, schema_table, schema, flatbuffer_of}
use Rattle.arrow_spec.specs.declared.types.ArrowType.{ArrowType}
use Rattle.arrow_spec.specs.declared.types.ArrowType.TheVariants.{SignedInt, UnsignedInt, FixedSizeBinary, Date, Plain}
use Rattle.stream_laws.proofs.Pieces.{length-number}
use Rattle.stream_laws.proofs.Fields.{are_apart, numbered, length-numbered, first-of}
use Rattle.stream_laws.proofs.Tables.{IsTable, length-vtable, references-apart}
use Rattle.stream_laws.proofs.Messages.{message_fields}
use Rattle.stream_laws.proofs.Schemas.{column_fields, int_fields, fixed_fields, date_fields, schema_fields}

-- wherever it is laid, the object adds at most so many bytes
abbrev pub AddsAtMost : Object → ℕ → Type 0
AddsAtMost object most = (end : ℕ) → length (object end).bytes ≤ most

-- what the references of the fields lead to adds at most so many
abbrev pub LeadTo : ℕ → List Field → Type 0
LeadTo most [] = Unit {0}
LeadTo most (number at width value ∷ fields) = LeadTo most fields
LeadTo most (reference at object ∷ fields) =
    (one : ℕ) × (AddsAtMost object one × (one ≤ most) × LeadTo (most - one) fields)
LeadTo most (absent ∷ fields) = LeadTo most fields

-- Laying the fields adds at most the bytes that their references lead to.
laid-short : (place size most : ℕ) (body : List ℕ) (fields : List Field)
    → are_apart size fields ≡ true → size ≤ length body → LeadTo most fields
    → length (with_fields place body fields) ≤ length body + most
laid-short place size most body [] test room leads = omega arith
laid-short place size most body (number at width value ∷ fields) test room leads =
    let first = first-of at (byte_len width) size fields test in
    let same = length-numbered body at size width value first.ends room in
    let rest =
    laid-short place size most (numbered body at width value) fields first.rest (omega arith)
    leads in
    omega arith
laid-short place size most body (reference at object ∷ fields) test room leads =
    let first = first-of at 4 size fields test in
    let one : ℕ = leads.0 in
    let target : Laid = object (place + length body) in
    let over : List ℕ = numbered body at w32 (target.place - (place + at)) in
    let same = length-numbered body at size w32 (target.place - (place + at)) first.ends room in
    let joined = length-append over target.bytes in
    let adds : length target.bytes ≤ one = leads.1.0 (place + length body) in
    let rest =
    laid-short place size (most - one) (over ++ target.bytes) fields first.rest (omega arith)
    leads.1.2 in
    omega (arith, adds, leads.1.1)
laid-short place size most body (absent ∷ fields) test room leads =
    laid-short place size most body fields test room leads

-- a table with its vtable, the gaps, and what it leads to
pub table-short : (size most : ℕ) (fields : List Field) → IsTable size fields → LeadTo most fields
    → AddsAtMost (table size fields) (18 + 2 * length fields + size + most)
table-short size most fields is leads end =
    let vtable : List ℕ = vtable_of size fields in
    let first : ℕ = aligned end in
    let first_end : ℕ = first + length vtable in
    let place : ℕ = aligned first_end in
    let all : List Field = number 0 w32 (place - first) ∷ fields in
    let body : List ℕ = with_fields place (replicate size 0) all in
    let one : length (gap end first) ≡ first - end = length-replicate (first - end) 0 in
    let two : length (gap first_end place) ≡ place - first_end =
    length-replicate (place - first_end) 0 in
    let room : length (replicate {A = ℕ} size 0) ≡ size = length-replicate size 0 in
    let words : length vtable ≡ 4 + 2 * length fields = length-vtable size fields in
    let a : length (gap end first ++ vtable) ≡ length (gap end first) + length vtable =
    length-append (gap end first) vtable in
    let b : length (gap end first ++ vtable ++ gap first_end place)
    ≡ length (gap end first ++ vtable) + length (gap first_end place) =
    length-append (gap end first ++ vtable) (gap first_end place) in
    let c : length (gap end first ++ vtable ++ gap first_end place ++ body)
    ≡ length (gap end first ++ vtable ++ gap first_end place) + length body =
    length-append (gap end first ++ vtable ++ gap first_end place) body in
    let short : length body ≤ length (replicate {A = ℕ} size 0) + most =
    laid-short place size most (replicate size 0) all is.apart (omega arith) leads in
    omega arith

-- A vector adds at most eleven bytes to those of its elements.
pub vector-short : (count : ℕ) (elements : List ℕ)
    → AddsAtMost (vector count elements) (11 + length elements)
vector-short count elements end =
    let zeros : List ℕ = gap end (length_place end) in
    let word : List ℕ = to_le_bytes w32 count in
    let one : length zeros ≡ length_place end - end = length-replicate (length_place end - end) 0 in
    let a : length (zeros ++ word) ≡ length zeros + length word = length-append zeros word in
    let b : length (zeros ++ word ++ elements) ≡ length (zeros ++ word) + length elements =
    length-append (zeros ++ word) elements in
    let four : length word ≡ 4 = length-number w32 count in
    omega arith

-- A string adds at most twelve bytes to those of its text.
pub string-short : (text : List ℕ) → AddsAtMost (string text) (12 + length text)
string-short text end =
    let one : length (text ++ 0 ∷ []) ≡ length text + 1 = length-append text (0 ∷ []) in
    let all = vector-short (length text) (text ++ 0 ∷ []) end in
    omega arith

-- A vector of tables adds at most eleven bytes, four for each table, and the tables.
pub tables-short : (most : ℕ) (tables : List Object) → LeadTo most (references 4 tables)
    → AddsAtMost (vector_of_tables tables) (11 + 4 * length tables + most)
tables-short most tables leads end =
    let place : ℕ = length_place end in
    let size : ℕ = 4 + 4 * length tables in
    let all : List Field = number 0 w32 (length tables) ∷ references 4 tables in
    let zeros : List ℕ = gap end place in
    let body : List ℕ = with_fields place (replicate size 0) all in
    let one : length zeros ≡ place - end = length-replicate (place - end) 0 in
    let room : length (replicate {A = ℕ} size 0) ≡ size = length-replicate size 0 in
    let a : length (zeros ++ body) ≡ length zeros + length body = length-append zeros body in
    let short : length body ≤ length (replicate {A = ℕ} size 0) + most =
    laid-short place size most (replicate size 0) all (references-apart tables) (omega arith)
    leads in
    omega arith

-- The table of a type adds at most 31 bytes.
pub type-short : (type' : ArrowType) → AddsAtMost (table_of_type type') 31
type-short (SignedInt bits) end =
    table-short 9 0 (int_fields bits 1) (record { apart = refl; fit = refl }) tt end
type-short (UnsignedInt bits) end =
    table-short 9 0 (int_fields bits 0) (record { apart = refl; fit = refl }) tt end
type-short (FixedSizeBinary width) end =
    let short = table-short 8 0 (fixed_fields width) (record { apart = refl; fit = refl }) tt end in
    omega arith
type-short (Date unit) end =
    let short = table-short 6 0 (date_fields unit) (record { apart = refl; fit = refl }) tt end in
    omega arith
type-short (Plain id) end =
    let short = table-short 4 0 [] (record { apart = refl; fit = refl }) tt end in omega arith

-- how many bytes a column's field adds at most, with a name of as many as there may be
abbrev pub most_of_field : ℕ
most_of_field = 65637

-- The field of a column with a short enough name adds at most so many bytes.
pub field-short : (column : Column) → length column.name ≤ most_bytes
    → AddsAtMost (field_table_of column None) most_of_field
field-short column short end =
    let name : AddsAtMost (string column.name) 65547 =
    λ at. (let all = string-short column.name at in omega arith) in
    let none = tables-short 0 [] tt in
    table-short 18 65589 (column_fields column) (record { apart = refl; fit = refl }) (
      65547,
      (
        name,
        omega arith,
        (
          31,
          (
            type-short (type_of column.kind),
            omega arith,
            (11, (none, omega arith, tt)),
          ),
        ),
      ),
    ) end

-- The references to the fields of columns lead to at most so many bytes for each.
fields-lead : (from : ℕ) (columns : List Column) → All IsName columns
    → LeadTo (most_of_field * length columns) (references from (map field_table (plain_fields columns)))
fields-lead from [] named = tt
fields-lead from (column ∷ columns) named =
    let P : ℕ → Type 0 = λ n. LeadTo n (references (from + 4) (map field_table (plain_fields columns))) in
    let left : most_of_field * length columns
    ≡ most_of_field * length (column ∷ columns) - most_of_field = omega arith in (
      most_of_field,
      (
        field-short column (All-head IsName column columns named).1,
        omega arith,
        subst P left (fields-lead (from + 4) columns (All-tail IsName column columns named)),
      ),
    )

-- how many bytes the metadata of a schema of so many columns has at most
abbrev pub most_of_schema : ℕ → ℕ
most_of_schema columns = 97 + 65641 * columns

-- the metadata of columns with names has at most so many bytes
pub schema-short : (columns : List Column) → All IsName columns
    → length (flatbuffer_of (schema (plain_fields columns)) 0) ≤ most_of_schema (length columns)
schema-short columns named =
    let tables : List Object = map field_table (plain_fields columns) in
    let count : length tables ≡ length columns = length-map (plain_fields columns) field_table ∙ length-map columns plain_field in
    let fields : ℕ = most_of_field * length columns in
    let vector : ℕ = 11 + 4 * length tables + fields in
    let vector_adds : AddsAtMost (vector_of_tables tables) vector =
    tables-short fields tables (fields-lead 4 columns named) in
    let schema_adds : AddsAtMost (schema_table (plain_fields columns)) (18 + 2 * 2 + 10 + vector) =
    table-short 10 vector (schema_fields columns) (record { apart = refl; fit = refl })
    (vector, (vector_adds, omega arith, tt)) in
    let one : ℕ = 18 + 2 * 2 + 10 + vector in
    let message =
    table-short 20 one (message_fields (schema (plain_fields columns)) 0) (record { apart = refl; fit = refl })
    (one, (schema_adds, omega arith, tt)) 8 in
    omega arith
