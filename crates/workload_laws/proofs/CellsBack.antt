-- Cells are read back from their words.
use Rattle.std.proofs.Common.{◌≡◌, ℕ, ◌+◌, ◌-◌, ◌^◌, ◌<◌, Bool, true, false, List, [], ◌∷◌, length, refl, sym, ap, ◌∙◌, subst, arith}
use Rattle.std.specs.Prelude.{not, nat_lt, nat_le, int_le, Option, None, Some, option_and_then, is_none, if◌then◌else◌, bytes_eq, codes, ℤ, pos, negsuc, Ok}
use Rattle.std.specs.Fmt.{signed_decimal}
use Rattle.std.specs.Str.{is_utf8}
use Rattle.std.specs.Option.{option_map_or}
use Rattle.std.specs.List.{list_all}
use Rattle.std.proofs.lemmas.Bool.{leb-true, and_parts}
use Rattle.cell_model.specs.declared.cell.Cell.{Cell}
use Rattle.cell_model.specs.declared.cell.Cell.TheVariants.{Null, Num, Truth, Text, Blob}
use Rattle.cell_model.specs.declared.values.Values.{Values}
use Rattle.cell_model.specs.declared.values.Values.TheVariants.{Signed, Unsigned, Truths}
use Rattle.cell_model.specs.declared.values.Values.TheVariants.{Texts, Blobs, Strips}
use Rattle.cell_model.specs.declared.width.NumberWidth.TheVariants as number
use Rattle.cell_model.specs.Kinds.{values_of, are_truths, are_texts, takes_bytes}
use Rattle.cell_model.specs.declared.column.Column.{Column}
use Rattle.cell_model.specs.declared.row.RowFault.{RowFault}
use Rattle.cell_model.specs.declared.row.RowFault.TheVariants.{NullAt, RangeAt, LongAt}
use Rattle.cell_model.specs.Rows.{cell_fault, first_fault}
use Rattle.cell_model.specs.Values.{is_between, is_integer_in, are_bytes, is_value_in, is_value_of, is_null, byte_length, most_bytes_of}
use Rattle.workload_spec.specs.declared.script.Cause.TheVariants as cause
use Rattle.workload_spec.specs.Words.{cell_text, cell_words, quoted}
use Rattle.workload_spec.specs.Reading.{integer_in, value_among, value_in, cell_in, cell_of, blob_in, text_in}
use Rattle.workload_spec.specs.Grammar.{or_cause, cells_of}
use Rattle.workload_laws.specs.Bytes.{has_only_bytes}
use Rattle.workload_laws.proofs.Results.{gives}
use Rattle.workload_laws.proofs.Cells.{fault_at}
use Rattle.workload_laws.proofs.Apart.{IsWord, AreWords, plain_word}
use Rattle.workload_laws.proofs.Numbers.{magnitude, integer_back, signed_plain, other_bytes, spelled_back, decimal_begins}
use Rattle.workload_laws.proofs.TextsBack.{text_back, text_word, bytes_back, blob_word}

-- An integer within bounds of 63 bits and a sign has a magnitude below 2^64.
signed_small : (low high : ℕ) (z : ℤ) → low < 2 ^ 63 → high < 2 ^ 63 → is_between (negsuc low) (pos high) z ≡ true → magnitude z < 2 ^ 64
signed_small low high (pos n) l h e = omega (arith, leb-true n high (and_parts (int_le (negsuc low) (pos n)) (nat_le n high) e).1, h)
signed_small low high (negsuc n) l h e = omega (arith, leb-true n low (and_parts (nat_le n low) (int_le (negsuc n) (pos high)) e).0, l)

-- An integer from zero to a bound below 2^64 has a magnitude below 2^64.
unsigned_small : (high : ℕ) (z : ℤ) → high < 2 ^ 64 → is_between (pos 0) (pos high) z ≡ true → magnitude z < 2 ^ 64
unsigned_small high (pos n) h e = omega (arith, leb-true n high (and_parts (int_le (pos 0) (pos n)) (nat_le n high) e).1, h)
unsigned_small high (negsuc n) h e = absurd cc

-- an integer of a sort has a magnitude below 2^64
pub small_of : (values : Values) (z : ℤ) → is_integer_in values z ≡ true → magnitude z < 2 ^ 64
small_of (Signed number.Bits8) z e = signed_small (2 ^ 7 - 1) (2 ^ 7 - 1) z (omega arith) (omega arith) e
small_of (Signed number.Bits16) z e = signed_small (2 ^ 15 - 1) (2 ^ 15 - 1) z (omega arith) (omega arith) e
small_of (Signed number.Bits32) z e = signed_small (2 ^ 31 - 1) (2 ^ 31 - 1) z (omega arith) (omega arith) e
small_of (Signed number.Bits64) z e = signed_small (2 ^ 63 - 1) (2 ^ 63 - 1) z (omega arith) (omega arith) e
small_of (Unsigned number.Bits8) z e = unsigned_small (2 ^ 8 - 1) z (omega arith) e
small_of (Unsigned number.Bits16) z e = unsigned_small (2 ^ 16 - 1) z (omega arith) e
small_of (Unsigned number.Bits32) z e = unsigned_small (2 ^ 32 - 1) z (omega arith) e
small_of (Unsigned number.Bits64) z e = unsigned_small (2 ^ 64 - 1) z (omega arith) e
small_of Truths z e = absurd cc
small_of (Texts width) z e = absurd cc
small_of (Blobs width) z e = absurd cc
small_of (Strips bytes) z e = absurd cc

-- Among integers the value of a word is its integer.
number_in : (values : Values) (z : ℤ) (word : List ℕ) → is_integer_in values z ≡ true → value_among values word ≡ Num (integer_in word)
number_in (Signed width) z word e = refl
number_in (Unsigned width) z word e = refl
number_in _ z word e = absurd cc

-- Among truth values it is whether the word is `true`.
truth_in : (values : Values) (word : List ℕ) → are_truths values ≡ true → value_among values word ≡ Truth (bytes_eq word (codes "true"))
truth_in Truths word e = refl
truth_in _ word e = absurd cc

-- Among texts it is the text that the word spells.
a_text_in : (values : Values) (word : List ℕ) → are_texts values ≡ true → value_among values word ≡ Text (text_in word)
a_text_in (Texts width) word e = refl
a_text_in _ word e = absurd cc

-- Among bytes it is the bytes that the word spells.
a_blob_in : (values : Values) (count : ℕ) (word : List ℕ) → takes_bytes values count ≡ true → value_among values word ≡ Blob (blob_in word)
a_blob_in (Blobs width) count word e = refl
a_blob_in (Strips bytes) count word e = refl
a_blob_in _ count word e = absurd cc

-- a number is not spelled `null`
number_not_null : (z : ℤ) → magnitude z < 2 ^ 64 → bytes_eq (signed_decimal z) (codes "null") ≡ false
number_not_null (pos n) small = let begins = decimal_begins n small in other_bytes (signed_decimal (pos n)) (codes "null") (λ e.
    let same : (begins.first ∷ begins.rest) ≡ codes "null" = sym begins.is ∙ e in
    let first : begins.first ≡ 110 = cc in
    omega (arith, first, begins.most))
number_not_null (negsuc n) small = refl

-- the cell that the spelling of a value stands for
value_back : (values : Values) (cell : Cell) → is_value_in values cell ≡ true → has_only_bytes cell ≡ true → (bytes_eq (cell_text cell) (codes "null") ≡ false) × (value_among values (cell_text cell) ≡ cell)
value_back values Null is bytes = absurd cc
value_back values (Num z) is bytes = (number_not_null z (small_of values z is), number_in values z (signed_decimal z) is ∙ ap Num (integer_back z (small_of values z is)))
value_back values (Truth true) is bytes = (refl, truth_in values (codes "true") is)
value_back values (Truth false) is bytes = (refl, truth_in values (codes "false") is)
value_back values (Text text) is bytes = (refl, a_text_in values (quoted text) (and_parts (are_texts values) (is_utf8 text) is).0 ∙ ap Text (text_back text))
value_back values (Blob bytes) is all = (refl, a_blob_in values (length bytes) (cell_text (Blob bytes)) (and_parts (takes_bytes values (length bytes)) (are_bytes bytes) is).0 ∙ ap Blob (bytes_back bytes all))

-- An option that is tested to be none is none.
none_is : {X : Type 0} (o : Option X) → is_none o ≡ true → o ≡ None
none_is None e = refl
none_is (Some x) e = absurd cc

-- A cell that is no null and has no fault is a value.
value_by : (nullable value long : Bool) → is_none (if false then (if nullable then None else Some (NullAt 0)) else if not value then Some (RangeAt 0) else if long then Some (LongAt 0) else None) ≡ true → value ≡ true
value_by nullable true long e = refl
value_by nullable false long e = absurd cc

-- a cell that is no null and fits its column is a value of its kind
pub value_of_fit : (column : Column) (cell : Cell) → is_null cell ≡ false → is_none (cell_fault 0 column cell) ≡ true → is_value_of column.kind cell ≡ true
value_of_fit column cell some fit =
    value_by column.nullable (is_value_of column.kind cell) (nat_lt (most_bytes_of column.kind) (byte_length cell))
    (subst (λ (b : Bool). is_none (if b then (if column.nullable then None else Some (NullAt 0)) else if not (is_value_of column.kind cell) then Some (RangeAt 0) else if nat_lt (most_bytes_of column.kind) (byte_length cell) then Some (LongAt 0) else None) ≡ true) some fit)

-- A cell that fits its column is kept behind the test for faults.
kept : (column : Column) (cell : Cell) → is_none (cell_fault 0 column cell) ≡ true → option_map_or (λ f. None) (cell_fault 0 column cell) (Some cell) ≡ Some cell
kept column cell fit = ap (λ (fault : Option RowFault). option_map_or (λ f. None) fault (Some cell)) (none_is (cell_fault 0 column cell) fit)

-- A cell that is found for the word that it spells, and fits, is read.
found_back : (column : Column) (word : List ℕ) (cell : Cell) → cell_in column word ≡ cell → cell_text cell ≡ word → is_none (cell_fault 0 column cell) ≡ true → cell_of column word ≡ Some cell
found_back column word cell found text fit =
    ap (option_and_then (λ (c : Cell). option_map_or (λ f. None) (cell_fault 0 column c) (Some c))) (spelled_back cell_text word (cell_in column word) cell found text)
    ∙ kept column cell fit

-- A cell that is no null and fits its column is found for its spelling.
value_found : (column : Column) (cell : Cell) → is_null cell ≡ false → is_none (cell_fault 0 column cell) ≡ true → has_only_bytes cell ≡ true → cell_in column (cell_text cell) ≡ cell
value_found column cell some fit bytes =
    let v = value_back (values_of column.kind) cell (value_of_fit column cell some fit) bytes in
    passed_if (bytes_eq (cell_text cell) (codes "null")) Null (value_in column.kind (cell_text cell)) v.0 ∙ v.1
  where
    passed_if : {X : Type 0} (b : Bool) (one other : X) → b ≡ false → (if b then one else other) ≡ other
    passed_if true one other e = absurd cc
    passed_if false one other e = refl

-- a cell that fits its column is read back
pub cell_back : (column : Column) (cell : Cell) → is_none (cell_fault 0 column cell) ≡ true → has_only_bytes cell ≡ true → cell_of column (cell_text cell) ≡ Some cell
cell_back column Null fit bytes = found_back column (codes "null") Null refl refl fit
cell_back column (Num z) fit bytes = found_back column (cell_text (Num z)) (Num z) (value_found column (Num z) refl fit bytes) refl fit
cell_back column (Truth truth) fit bytes = found_back column (cell_text (Truth truth)) (Truth truth) (value_found column (Truth truth) refl fit bytes) refl fit
cell_back column (Text text) fit bytes = found_back column (cell_text (Text text)) (Text text) (value_found column (Text text) refl fit bytes) refl fit
cell_back column (Blob blob) fit bytes = found_back column (cell_text (Blob blob)) (Blob blob) (value_found column (Blob blob) refl fit bytes) refl fit

-- a cell that fits its column is a word
pub cell_word : (column : Column) (cell : Cell) → is_none (cell_fault 0 column cell) ≡ true → IsWord (cell_text cell)
cell_word column Null fit = plain_word (codes "null") refl
cell_word column (Num z) fit = plain_word (signed_decimal z) (signed_plain z (small_of (values_of column.kind) z (value_of_fit column (Num z) refl fit)))
cell_word column (Truth true) fit = plain_word (codes "true") refl
cell_word column (Truth false) fit = plain_word (codes "false") refl
cell_word column (Text text) fit = text_word text
cell_word column (Blob blob) fit = blob_word blob

-- where the first of cells has no fault, they have those of the others
pub first_fits : (here rest : Option RowFault) → is_none (if is_none here then rest else here) ≡ true → (is_none here ≡ true) × (is_none rest ≡ true)
first_fits None rest e = (refl, e)
first_fits (Some fault) rest e = absurd cc

-- cells that fit their columns are words, and are read back
pub record CellsBack (columns : List Column) (cells : List Cell) : Type 0 where
  pub back : cells_of columns (cell_words cells) ≡ Ok cells
  pub words : AreWords (cell_words cells)

-- cells that fit their columns are words, and are read back from them
pub cells_back : (columns : List Column) (cells : List Cell) (at : ℕ) → length cells ≡ length columns → is_none (first_fault at columns cells) ≡ true → list_all has_only_bytes cells ≡ true → CellsBack columns cells
cells_back [] [] at many fit bytes = record { back = refl; words = tt }
cells_back [] (cell ∷ cells) at many fit bytes = absurd (omega (arith, many))
cells_back (column ∷ columns) [] at many fit bytes = absurd (omega (arith, many))
cells_back (column ∷ columns) (cell ∷ cells) at many fit bytes =
    let f = first_fits (cell_fault at column cell) (first_fault (at + 1) columns cells) fit in
    let here : is_none (cell_fault 0 column cell) ≡ true = sym (fault_at column cell at) ∙ f.0 in
    let b = and_parts (has_only_bytes cell) (list_all has_only_bytes cells) bytes in
    let rest = cells_back columns cells (at + 1) (omega (arith, many)) f.1 b.1 in
    record {
      back = gives (or_cause cause.Cell (cell_of column (cell_text cell))) _ (Ok (cell ∷ cells)) cell (ap (or_cause cause.Cell) (cell_back column cell here b.0))
          (gives (cells_of columns (cell_words cells)) _ (Ok (cell ∷ cells)) cells rest.back refl);
      words = (cell_word column cell here, rest.words);
    }
