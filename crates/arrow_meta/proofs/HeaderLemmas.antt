-- The fields of columns, encoded or not.
use Rattle.std.proofs.Common.{◌≡◌, ℕ, ◌+◌, ◌≤◌, Bool, true, false, List, [], ◌∷◌, length, map, refl, sym, ap, subst}
use Rattle.std.specs.List.{All, enumerate_from}
use Rattle.cell_model.specs.Schemas.{IsName, IsSchema}
use Rattle.cell_model.specs.declared.column.Column.{Column}
use Rattle.arrow_spec.specs.Fields.{encoded_field, plain_field}
use Rattle.arrow_spec.specs.Flatbuffers.{Object}
use Rattle.arrow_spec.specs.Metadata.{field_table}
use Rattle.arrow_spec.specs.declared.fields.Field.{Field}
use Rattle.arrow_meta.specs.Headers.{field_of}

-- where no column is to be encoded, none is
pub plain-are : (place : ℕ) (columns : List Column)
    → map (field_of false) (enumerate_from place columns) ≡ map plain_field columns
plain-are place [] = refl
plain-are place (column ∷ columns) =
    ap (λ (fields : List Field). plain_field column ∷ fields) (plain-are (place + 1) columns)

-- where columns are to be encoded, those are that can be
pub encoded-are : (place : ℕ) (columns : List Column)
    → map (field_of true) (enumerate_from place columns)
    ≡ map encoded_field (enumerate_from place columns)
encoded-are place [] = refl
encoded-are place (column ∷ columns) =
    ap (λ (fields : List Field). encoded_field (place, column) ∷ fields)
    (encoded-are (place + 1) columns)

-- the table of the column at a place
abbrev pub table_at : Bool → ℕ × Column → Object
table_at encode placed = field_table (field_of encode placed)

pub tables-of : (encode : Bool) (placed : List (ℕ × Column))
    → map (table_at encode) placed ≡ map field_table (map (field_of encode) placed)
tables-of encode [] = refl
tables-of encode (first ∷ rest) =
    ap (λ (tables : List Object). table_at encode first ∷ tables) (tables-of encode rest)

-- the columns of a table are few, and their names short
pub schema-layable : (columns table : List Column) → columns ≡ table → IsSchema table
    → (length columns ≤ 32) × All IsName columns
schema-layable columns table is schema =
    subst (λ (given : List Column). (length given ≤ 32) × All IsName given) (sym is)
    (schema.few, schema.named.each)
