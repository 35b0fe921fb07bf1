-- What laying an object does to the bytes of a flatbuffer that is being built.
use Rattle.std.specs.Prelude.{◌≡◌, ℕ, ◌+◌, ◌-◌, ◌<◌, ◌≤◌, List, [], ◌∷◌, ◌++◌, length}
use Rattle.std.specs.Int.{w8, w32, from_bool, to_le_bytes}
use Rattle.cell_model.specs.declared.column.Column.{Column}
use Rattle.flat_build.specs.Layout.{overwritten}
use Rattle.arrow_spec.specs.Flatbuffers.{Field, Object, absent, number, reference, string}
use Rattle.arrow_spec.specs.Metadata.{number_of_type, table_of_type, type_of}

-- The object was laid behind the old bytes and added at most so many, and it stands at `place`.
pub record IsLaid (object : Object) (most : ℕ) (old new : List ℕ) (place : ℕ) : Type 0 where
  pub bytes : new ≡ old ++ (object (length old)).bytes
  pub at : place ≡ (object (length old)).place
  pub behind : length old ≤ place
  pub within : place < length new
  pub short : length new ≤ length old + most

-- The bytes of a whole flatbuffer after the fields of the table or vector at `place` were laid.
abbrev pub laid_fields : ℕ → List ℕ → List Field → List ℕ
laid_fields place bytes [] = bytes
laid_fields place bytes (number at width value ∷ fields) =
    laid_fields place (overwritten bytes (place + at) (to_le_bytes width value)) fields
laid_fields place bytes (reference at object ∷ fields) =
    let target = object (length bytes) in
    laid_fields place (overwritten (bytes ++ target.bytes) (place + at)
    (to_le_bytes w32 (target.place - (place + at)))) fields
laid_fields place bytes (absent ∷ fields) = laid_fields place bytes fields

-- The first fields of the table at `place` were laid, with at most so many bytes behind the old
-- ones: whatever fields come, with these in front they are laid into the old bytes as they alone
-- are into the new ones.
pub record BeginsWith (place : ℕ) (front : List Field) (most : ℕ) (old new : List ℕ) : Type 0 where
  pub laid : (fields : List Field)
      → laid_fields place old (front ++ fields) ≡ laid_fields place new fields
  pub kept : length old ≤ length new
  pub short : length new ≤ length old + most

-- what the table of a column begins with; at this place stands whether a value may be missing
abbrev pub column_fields : ℕ → Column → List Field
column_fields nullable column =
    reference 4 (string column.name)
    ∷ number nullable w8 (from_bool column.nullable)
    ∷ number (nullable + 1) w8 (number_of_type (type_of column.kind))
    ∷ reference 8 (table_of_type (type_of column.kind))
    ∷ []
