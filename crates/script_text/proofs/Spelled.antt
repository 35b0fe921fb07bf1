-- The cells of columns, by what words spell.
use Rattle.std.proofs.Common.{◌≡◌, ℕ, ◌+◌, ◌-◌, ◌^◌, ◌<◌, ◌≤◌, Bool, true, false, List, refl, sym, ap, ◌∙◌, arith}
use Rattle.std.specs.Prelude.{◌&&◌, int_le, Option, Some, None, option_map, option_and_then, bytes_eq, codes, if◌then◌else◌, ℤ, pos, negsuc}
use Rattle.std.specs.Fmt.{signed_decimal}
use Rattle.std.proofs.lemmas.Bool.{ltb-false, lt-leb, and_right}
use Rattle.std.proofs.lemmas.Slice.Eq.{bytes_eq-Decides}
use Rattle.cell_model.specs.declared.cell.Cell.{Cell}
use Rattle.cell_model.specs.declared.cell.Cell.TheVariants.{Null, Num, Truth, Text, Blob}
use Rattle.cell_model.specs.declared.column.Column.{Column}
use Rattle.cell_model.specs.declared.values.Values.{Values}
use Rattle.cell_model.specs.declared.values.Values.TheVariants.{Signed, Unsigned, Truths}
use Rattle.cell_model.specs.declared.values.Values.TheVariants.{Texts, Blobs, Strips}
use Rattle.cell_model.specs.declared.width.NumberWidth.TheVariants as number
use Rattle.cell_model.specs.Kinds.{values_of}
use Rattle.cell_model.specs.Values.{is_integer_in}
use Rattle.workload_spec.specs.Words.{cell_text, quoted}
use Rattle.workload_spec.specs.Reading.{spelled, integer_in, integer_of, text_in, blob_in, value_among, value_in, cell_of}
use Rattle.word_read.specs.Numbers.{is_small, small_integer, magnitude}
use Rattle.word_read.specs.Spellings.{truth_of, text_of}
use Rattle.script_text.specs.Spellings.{value_spelled, standing}
use Rattle.word_read.proofs.TextSpellings.{text_spelled, blob_spelled, marked}

-- a value spelled as another
mapped : {X : Type 0} (make : X → Cell) (text_of : X → List ℕ) (word : List ℕ) (value : X) → ((x : X) → cell_text (make x) ≡ text_of x) → spelled cell_text word (make value) ≡ option_map make (spelled text_of word value)
mapped make text_of word value same = ap (λ (text : List ℕ). if bytes_eq text word then Some (make value) else None) (same value) ∙ by (bytes_eq (text_of value) word)
  where
    by : (b : Bool) → (if b then Some (make value) else None) ≡ option_map make (if b then Some value else None)
    by true = refl
    by false = refl

-- A truth value is spelled by a word as it is read, by which of the two it is.
truth_by : (yes other : Bool) (word : List ℕ) → bytes_eq word (codes "true") ≡ yes → bytes_eq word (codes "false") ≡ other → spelled cell_text word (Truth (bytes_eq word (codes "true"))) ≡ option_map Truth (truth_of word)
truth_by true other word y n =
    let same : word ≡ codes "true" = (bytes_eq-Decides word (codes "true")).0 y in
    rw same refl
truth_by false true word y n =
    let same : word ≡ codes "false" = (bytes_eq-Decides word (codes "false")).0 n in
    rw same refl
truth_by false false word y n =
    let third : bytes_eq (codes "false") word ≡ false = none (bytes_eq (codes "false") word) refl in
    rw (y, n, third) refl
  where
    none : (b : Bool) → bytes_eq (codes "false") word ≡ b → b ≡ false
    none true e = absurd (let same = (bytes_eq-Decides (codes "false") word).0 e in let f = (bytes_eq-Decides word (codes "false")).1 (sym same) in cc)
    none false e = refl

-- A truth value is spelled by a word as it is read from it.
truth_spelled : (word : List ℕ) → spelled cell_text word (Truth (bytes_eq word (codes "true"))) ≡ option_map Truth (truth_of word)
truth_spelled word = truth_by (bytes_eq word (codes "true")) (bytes_eq word (codes "false")) word refl refl

-- A number of more than 64 bits is above a bound of fewer.
above : (n most : ℕ) → 2 ^ 64 ≤ n → most < 2 ^ 64 → int_le (pos n) (pos most) ≡ false
above n most large few = lt-leb n most (omega arith)

-- A negative number of more than 64 bits is below a bound of fewer.
below : (n most : ℕ) → 2 ^ 64 ≤ n + 1 → most + 1 < 2 ^ 64 → int_le (negsuc most) (negsuc n) ≡ false
below n most large few = lt-leb n most (omega arith)

-- An integer with a magnitude of more than 64 bits is not between signed bounds of fewer.
signed_large : (n : ℤ) (low high : ℕ) → low + 1 < 2 ^ 64 → high < 2 ^ 64 → is_small (magnitude n) ≡ false → (int_le (negsuc low) n && int_le n (pos high)) ≡ false
signed_large (pos n) low high few much large = and_right (int_le (negsuc low) (pos n)) (int_le (pos n) (pos high)) (above n high (ltb-false n (2 ^ 64) large) much)
signed_large (negsuc n) low high few much large = let f = below n low (ltb-false (n + 1) (2 ^ 64) large) few in rw f refl

-- An integer with a magnitude of more than 64 bits is not between zero and a bound of fewer.
unsigned_large : (n : ℤ) (high : ℕ) → high < 2 ^ 64 → is_small (magnitude n) ≡ false → (int_le (pos 0) n && int_le n (pos high)) ≡ false
unsigned_large (pos n) high much large = and_right (int_le (pos 0) (pos n)) (int_le (pos n) (pos high)) (above n high (ltb-false n (2 ^ 64) large) much)
unsigned_large (negsuc n) high much large = refl

-- an integer that is not small is none of a sort
pub large_none : (values : Values) (n : ℤ) → is_small (magnitude n) ≡ false → is_integer_in values n ≡ false
large_none (Signed number.Bits8) n large = signed_large n (2 ^ 7 - 1) (2 ^ 7 - 1) (omega arith) (omega arith) large
large_none (Signed number.Bits16) n large = signed_large n (2 ^ 15 - 1) (2 ^ 15 - 1) (omega arith) (omega arith) large
large_none (Signed number.Bits32) n large = signed_large n (2 ^ 31 - 1) (2 ^ 31 - 1) (omega arith) (omega arith) large
large_none (Signed number.Bits64) n large = signed_large n (2 ^ 63 - 1) (2 ^ 63 - 1) (omega arith) (omega arith) large
large_none (Unsigned number.Bits8) n large = unsigned_large n (2 ^ 8 - 1) (omega arith) large
large_none (Unsigned number.Bits16) n large = unsigned_large n (2 ^ 16 - 1) (omega arith) large
large_none (Unsigned number.Bits32) n large = unsigned_large n (2 ^ 32 - 1) (omega arith) large
large_none (Unsigned number.Bits64) n large = unsigned_large n (2 ^ 64 - 1) (omega arith) large
large_none Truths n large = refl
large_none (Texts width) n large = refl
large_none (Blobs width) n large = refl
large_none (Strips bytes) n large = refl

-- A number stands in a column just as where it is kept for its small magnitude first.
number_by : (column : Column) (n : ℤ) (small : Bool) → is_small (magnitude n) ≡ small → standing column (Num n) ≡ option_and_then (standing column) (option_map Num (small_integer (Some n)))
number_by column n true e = rw e refl
number_by column n false e = rw (e, large_none (values_of column.kind) n e) refl

-- A number, if there is one, stands in a column just as where its magnitude is asked first.
number_of : (column : Column) (o : Option ℤ) → option_and_then (standing column) (option_map Num o) ≡ option_and_then (standing column) (option_map Num (small_integer o))
number_of column None = refl
number_of column (Some n) = number_by column n (is_small (magnitude n)) refl

-- What a word spells as a number stands in a column as the small number that it reads as.
number_case : (column : Column) (word : List ℕ) → option_and_then (standing column) (spelled cell_text word (Num (integer_in word))) ≡ option_and_then (standing column) (option_map Num (small_integer (integer_of word)))
number_case column word = ap (option_and_then (standing column)) (mapped Num signed_decimal word (integer_in word) (λ n. refl)) ∙ number_of column (integer_of word)

-- What a word spells as a value of a sort stands in a column as what it is read as.
value_case : (column : Column) (word : List ℕ) (values : Values) → option_and_then (standing column) (spelled cell_text word (value_among values word)) ≡ option_and_then (standing column) (value_spelled values word)
value_case column word (Signed width) = number_case column word
value_case column word (Unsigned width) = number_case column word
value_case column word Truths = ap (option_and_then (standing column)) (truth_spelled word)
value_case column word (Texts width) = ap (option_and_then (standing column)) (mapped Text quoted word (text_in word) (λ text. refl) ∙ ap (option_map Text) (text_spelled word))
value_case column word (Blobs width) = ap (option_and_then (standing column)) (mapped Blob marked word (blob_in word) (λ blob. refl) ∙ ap (option_map Blob) (blob_spelled word))
value_case column word (Strips bytes) = ap (option_and_then (standing column)) (mapped Blob marked word (blob_in word) (λ blob. refl) ∙ ap (option_map Blob) (blob_spelled word))

-- the word `null`
pub cell_null : (column : Column) (word : List ℕ) → word ≡ codes "null" → cell_of column word ≡ standing column Null
cell_null column word is = rw is refl

-- any other word
pub cell_value : (column : Column) (word : List ℕ) → bytes_eq word (codes "null") ≡ false → cell_of column word ≡ option_and_then (standing column) (value_spelled (values_of column.kind) word)
cell_value column word other = ap (λ (b : Bool). option_and_then (standing column) (spelled cell_text word (if b then Null else value_in column.kind word))) other ∙ value_case column word (values_of column.kind)
