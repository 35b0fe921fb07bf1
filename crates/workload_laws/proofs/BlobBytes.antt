-- Cells of bytes that are read have bytes.
use Rattle.std.proofs.Common.{◌≡◌, ℕ, ◌+◌, ◌*◌, ◌/◌, ◌%◌, ◌<◌, Bool, true, false, List, [], ◌∷◌, refl, sym, ap, ◌∙◌, arith}
use Rattle.std.specs.Prelude.{nat_lt, flat_map, bytes_eq, codes, Some, None, if◌then◌else◌}
use Rattle.std.specs.List.{list_all}
use Rattle.std.specs.Char.{digit_value, digit_char}
use Rattle.std.proofs.lemmas.Str.{digit_value-digit_char}
use Rattle.std.proofs.lemmas.Bool.{lt-ltb}
use Rattle.cell_model.specs.declared.cell.Cell.{Cell}
use Rattle.cell_model.specs.declared.cell.Cell.TheVariants.{Null, Blob}
use Rattle.cell_model.specs.declared.kind.Kind.{Kind}
use Rattle.cell_model.specs.declared.values.Values.{Values}
use Rattle.cell_model.specs.declared.values.Values.TheVariants.{Signed, Unsigned, Truths}
use Rattle.cell_model.specs.declared.values.Values.TheVariants.{Texts, Blobs, Strips}
use Rattle.cell_model.specs.Kinds.{values_of}
use Rattle.cell_model.specs.declared.column.Column.{Column}
use Rattle.workload_spec.specs.Words.{hex_digits, cell_text}
use Rattle.workload_spec.specs.Reading.{spelled, bytes_of_digits, blob_in, value_among, value_in, cell_in}
use Rattle.workload_laws.specs.Bytes.{has_only_bytes}
use Rattle.workload_laws.proofs.Lists.{joined}

-- digits that spell their value have values below 16
pair_small : (high low value : ℕ) → value ≡ high * 16 + low → value / 16 % 16 ≡ high → value % 16 ≡ low → value < 256
pair_small high low value e h l = omega arith

-- Two digits that spell their value again have a value below 256.
byte_small : (high low : ℕ) → digit_char ((digit_value high * 16 + digit_value low) / 16 % 16) ≡ high → digit_char ((digit_value high * 16 + digit_value low) % 16) ≡ low → digit_value high * 16 + digit_value low < 256
byte_small high low h l =
    let value : ℕ = digit_value high * 16 + digit_value low in
    let a : value / 16 % 16 ≡ digit_value high = sym (digit_value-digit_char (value / 16 % 16) (omega arith)) ∙ ap digit_value h in
    let b : value % 16 ≡ digit_value low = sym (digit_value-digit_char (value % 16) (omega arith)) ∙ ap digit_value l in
    pair_small (digit_value high) (digit_value low) value refl a b

-- bytes that are spelled by their digits are below 256
pub digits_small : (digits : List ℕ) → flat_map hex_digits (bytes_of_digits digits) ≡ digits → list_all (λ byte. nat_lt byte 256) (bytes_of_digits digits) ≡ true
digits_small [] e = refl
digits_small (digit ∷ []) e = refl
digits_small (high ∷ low ∷ rest) e =
    let value : ℕ = digit_value high * 16 + digit_value low in
    let h : digit_char (value / 16 % 16) ≡ high = cc in
    let l : digit_char (value % 16) ≡ low = cc in
    let r : flat_map hex_digits (bytes_of_digits rest) ≡ rest = cc in
    joined (lt-ltb value 256 (byte_small high low h l)) (digits_small rest r)

-- Bytes that spell the word from which they are read are below 256.
blob_small : (word : List ℕ) → cell_text (Blob (blob_in word)) ≡ word → has_only_bytes (Blob (blob_in word)) ≡ true
blob_small [] e = refl
blob_small (mark ∷ digits) e = let r : flat_map hex_digits (bytes_of_digits digits) ≡ digits = cc in digits_small digits r

-- A value that spells the word from which it is read has only bytes.
value_bytes : (values : Values) (word : List ℕ) → cell_text (value_among values word) ≡ word → has_only_bytes (value_among values word) ≡ true
value_bytes (Signed width) word e = refl
value_bytes (Unsigned width) word e = refl
value_bytes Truths word e = refl
value_bytes (Texts width) word e = refl
value_bytes (Blobs width) word e = blob_small word e
value_bytes (Strips bytes) word e = blob_small word e

-- A null or a value that spells the word from which it is read has only bytes.
cell_by : (b : Bool) (k : Kind) (word : List ℕ) → cell_text (if b then Null else value_in k word) ≡ word → has_only_bytes (if b then Null else value_in k word) ≡ true
cell_by true k word e = refl
cell_by false k word e = value_bytes (values_of k) word e

-- the value that is found for a word is the one that spells it
pub found_is : {X : Type 0} (text_of : X → List ℕ) (word : List ℕ) (value found : X) → spelled text_of word value ≡ Some found → value ≡ found
found_is text_of word value found e = by (bytes_eq (text_of value) word) e
  where
    by : (b : Bool) → (if b then Some value else None) ≡ Some found → value ≡ found
    by true is = cc
    by false is = absurd cc

-- the cell that a word spells has bytes
pub cell_bytes : (column : Column) (word : List ℕ) (cell : Cell) → spelled cell_text word (cell_in column word) ≡ Some cell → cell_text cell ≡ word → has_only_bytes cell ≡ true
cell_bytes column word cell e text =
    let same = found_is cell_text word (cell_in column word) cell e in
    ap has_only_bytes (sym same) ∙ cell_by (bytes_eq word (codes "null")) column.kind word (ap cell_text same ∙ text)
