-- Numbers and cells are read exactly from the words that spell them.
use Rattle.std.proofs.Common.{◌≡◌, ℕ, ◌+◌, ◌-◌, ◌^◌, ◌<◌, ◌≤◌, Bool, true, false, List, [], ◌∷◌, refl, sym, ap, ◌∙◌, arith}
use Rattle.std.specs.Prelude.{◌==◌, nat_lt, nat_le, flat_map, ℤ, pos, negsuc, Option, Some, None, option_map, option_and_then, bytes_eq, codes, decimal, if◌then◌else◌}
use Rattle.std.specs.Fmt.{signed_decimal}
use Rattle.std.specs.List.{list_all}
use Rattle.std.proofs.lemmas.Bool.{ltb-true, lt-ltb, leb-true, le-leb, ne_eqb, and_parts}
use Rattle.cell_model.specs.declared.cell.Cell.{Cell}
use Rattle.cell_model.specs.declared.cell.Cell.TheVariants.{Null, Num, Truth, Text, Blob}
use Rattle.cell_model.specs.Values.{are_bytes}
use Rattle.workload_spec.specs.Words.{quoted, hex_digits, cell_text, cell_words}
use Rattle.workload_spec.specs.Valid.{is_within, is_key_number}
use Rattle.workload_spec.specs.Reading.{spelled, value_of_digits, natural_of, integer_in, integer_of, text_in, blob_in, bytes_of_digits}
use Rattle.workload_laws.proofs.Lists.{joined}
use Rattle.workload_laws.proofs.Results.{eq_of, spelled_as}
use Rattle.workload_laws.proofs.Numbers.{key_small, Begins, other_bytes, spelled_back, natural_back, within_back, integer_of_back, decimal_begins}
use Rattle.workload_laws.proofs.TextsBack.{bytes_back, text_back}
use Rattle.workload_laws.proofs.BlobBytes.{digits_small, found_is}
use Rattle.word_read.specs.Numbers.{is_small, small_natural, small_integer, magnitude}
use Rattle.word_read.specs.Spellings.{truth_of, text_of, blob_of}
use Rattle.word_read.proofs.TextSpellings.{text_spelled, blob_spelled, marked}
use Rattle.reply_text.specs.Shown.{is_u32, is_u64, is_cell}
use Rattle.reply_text.specs.Readers.{u64_in, u32_in, key_in, value_from, value_in, cell_in, cells_in}
use Rattle.reply_text.proofs.PieceLemmas.{step, mapped, where_is}

-- a number below 2^64, by its decimal
pub record IsNumber (n : ℕ) (word : List ℕ) (small : Bool) : Type 0 where
  pub text : decimal n ≡ word
  pub fits : small ≡ true

-- A number that is kept for being small was there, and is small.
small_by : (o : Option ℕ) (n : ℕ) → small_natural o ≡ Some n → (o ≡ Some n) × (is_small n ≡ true)
small_by None n e = absurd cc
small_by (Some v) n e = by (is_small v) refl e
  where
    by : (b : Bool) → is_small v ≡ b → (if b then Some v else None) ≡ Some n → (Some v ≡ Some n) × (is_small n ≡ true)
    by true s f = let same : v ≡ n = cc in (f, ap is_small (sym same) ∙ s)
    by false s f = absurd cc

-- a number of 64 bits that is read is its word
pub u64_is : (word : List ℕ) (n : ℕ) → u64_in word ≡ Some n → IsNumber n word (is_u64 n)
u64_is word n e = let s = small_by (natural_of word) n e in record { text = spelled_as decimal word (value_of_digits word) n s.0; fits = s.1 }

-- and is read back from its digits
pub u64_back : (n : ℕ) → is_u64 n ≡ true → u64_in (decimal n) ≡ Some n
u64_back n small = rw (natural_back n (ltb-true n (2 ^ 64) small), small) refl

-- A number that is kept for being within a range was there, and is within it.
within_by : (low high : ℕ) (o : Option ℕ) (n : ℕ) → option_and_then (λ value. if is_within low high value then Some value else None) o ≡ Some n → (o ≡ Some n) × (is_within low high n ≡ true)
within_by low high None n e = absurd cc
within_by low high (Some v) n e = by (is_within low high v) refl e
  where
    by : (b : Bool) → is_within low high v ≡ b → (if b then Some v else None) ≡ Some n → (Some v ≡ Some n) × (is_within low high n ≡ true)
    by true s f = let same : v ≡ n = cc in (f, ap (is_within low high) (sym same) ∙ s)
    by false s f = absurd cc

-- a number of 32 bits that is read is its word
pub u32_is : (word : List ℕ) (n : ℕ) → u32_in word ≡ Some n → IsNumber n word (is_u32 n)
u32_is word n e =
    let s = within_by 0 (2 ^ 32 - 1) (natural_of word) n e in
    let most : n ≤ 2 ^ 32 - 1 = leb-true n (2 ^ 32 - 1) (and_parts (nat_le 0 n) (nat_le n (2 ^ 32 - 1)) s.1).1 in
    record { text = spelled_as decimal word (value_of_digits word) n s.0; fits = lt-ltb n (2 ^ 32) (omega (arith, most)) }

-- and is read back from its digits
pub u32_back : (n : ℕ) → is_u32 n ≡ true → u32_in (decimal n) ≡ Some n
u32_back n small =
    let below : n < 2 ^ 32 = ltb-true n (2 ^ 32) small in
    within_back 0 (2 ^ 32 - 1) n (omega (arith, below)) (joined (le-leb 0 n (omega arith)) (le-leb n (2 ^ 32 - 1) (omega (arith, below))))

-- a key that is read is its word
pub key_is : (word : List ℕ) (key : ℤ) → key_in word ≡ Some key → (signed_decimal key ≡ word) × (is_key_number key ≡ true)
key_is word key e =
    step (integer_of word) _ key e (λ found is f.
    let w = where_is (is_key_number found) found key f in
    (ap signed_decimal (sym w.1) ∙ spelled_as signed_decimal word (integer_in word) found is, ap is_key_number (sym w.1) ∙ w.0))

-- The magnitude of a key fits 64 bits.
magnitude_small : (z : ℤ) → is_key_number z ≡ true → nat_lt (magnitude z) (2 ^ 64) ≡ true
magnitude_small (pos n) is = lt-ltb n (2 ^ 64) (key_small (pos n) is)
magnitude_small (negsuc n) is = lt-ltb (n + 1) (2 ^ 64) (key_small (negsuc n) is)

-- A number of 64 bits and a sign is read back from its decimals.
integer_back : (z : ℤ) → nat_lt (magnitude z) (2 ^ 64) ≡ true → integer_of (signed_decimal z) ≡ Some z
integer_back (pos n) small = integer_of_back (pos n) (ltb-true n (2 ^ 64) small)
integer_back (negsuc n) small = integer_of_back (negsuc n) (ltb-true (n + 1) (2 ^ 64) small)

-- and is read back from its spelling
pub key_back : (key : ℤ) → is_key_number key ≡ true → key_in (signed_decimal key) ≡ Some key
key_back key is = rw (integer_back key (magnitude_small key is), is) refl

-- Cells.

-- An integer that is kept for its small magnitude was there, and has one.
small_integer_is : (o : Option ℤ) (z : ℤ) → small_integer o ≡ Some z → (o ≡ Some z) × (is_small (magnitude z) ≡ true)
small_integer_is None z e = absurd cc
small_integer_is (Some v) z e = by (is_small (magnitude v)) refl e
  where
    by : (b : Bool) → is_small (magnitude v) ≡ b → (if b then Some v else None) ≡ Some z → (Some v ≡ Some z) × (is_small (magnitude z) ≡ true)
    by true s f = let same : v ≡ z = cc in (f, ap (λ (x : ℤ). is_small (magnitude x)) (sym same) ∙ s)
    by false s f = absurd cc

-- a cell that a word spells
pub record Spells (word : List ℕ) (cell : Cell) : Type 0 where
  pub text : cell_text cell ≡ word
  pub fits : is_cell cell ≡ true

-- A truth value that is read has the word as its text.
truth_is : (word : List ℕ) (truth : Bool) → truth_of word ≡ Some truth → cell_text (Truth truth) ≡ word
truth_is word truth e = by (bytes_eq word (codes "true")) (bytes_eq word (codes "false")) refl refl e
  where
    by : (yes other : Bool) → bytes_eq word (codes "true") ≡ yes → bytes_eq word (codes "false") ≡ other → (if yes then Some true else if other then Some false else None) ≡ Some truth → cell_text (Truth truth) ≡ word
    by true other y n f = let same : true ≡ truth = cc in ap (λ (t : Bool). cell_text (Truth t)) (sym same) ∙ sym (eq_of word (codes "true") y)
    by false true y n f = let same : false ≡ truth = cc in ap (λ (t : Bool). cell_text (Truth t)) (sym same) ∙ sym (eq_of word (codes "false") n)
    by false false y n f = absurd cc

-- A text that is read has the word as its quoted form.
text_is : (word text : List ℕ) → text_of word ≡ Some text → quoted text ≡ word
text_is word text e = spelled_as quoted word (text_in word) text (text_spelled word ∙ e)

-- What a word marks as bytes are bytes where the word is their mark.
blob_small : (word : List ℕ) → marked (blob_in word) ≡ word → are_bytes (blob_in word) ≡ true
blob_small [] e = absurd cc
blob_small (mark ∷ digits) e = let rest : flat_map hex_digits (bytes_of_digits digits) ≡ digits = cc in digits_small digits rest

-- Bytes that are read are what the word spells.
blob_is : (word bytes : List ℕ) → blob_of word ≡ Some bytes → Spells word (Blob bytes)
blob_is word bytes e =
    let s : spelled marked word (blob_in word) ≡ Some bytes = blob_spelled word ∙ e in
    let same : blob_in word ≡ bytes = found_is marked word (blob_in word) bytes s in
    let text : marked bytes ≡ word = spelled_as marked word (blob_in word) bytes s in
    record { text = text; fits = ap are_bytes (sym same) ∙ blob_small word (ap marked same ∙ text) }

-- A number that is read is what the word spells.
number_is : (word : List ℕ) (cell : Cell) → option_map Num (small_integer (integer_of word)) ≡ Some cell → Spells word cell
number_is word cell e =
    mapped Num (small_integer (integer_of word)) cell e (λ z is same.
    let s = small_integer_is (integer_of word) z is in
    record { text = ap cell_text (sym same) ∙ spelled_as signed_decimal word (integer_in word) z s.0; fits = ap is_cell (sym same) ∙ s.1 })

-- A value that is read is what the word spells.
value_is : (word : List ℕ) (cell : Cell) → value_in word ≡ Some cell → Spells word cell
value_is word cell e = by (truth_of word) (text_of word) (blob_of word) refl refl refl e
  where
    by : (truth : Option Bool) (text blob : Option (List ℕ)) → truth_of word ≡ truth → text_of word ≡ text → blob_of word ≡ blob
        → value_from truth text blob (option_map Num (small_integer (integer_of word))) ≡ Some cell → Spells word cell
    by (Some truth) text blob a b c f = let same : Truth truth ≡ cell = cc in record { text = ap cell_text (sym same) ∙ truth_is word truth a; fits = ap is_cell (sym same) }
    by None (Some text) blob a b c f = let same : Text text ≡ cell = cc in record { text = ap cell_text (sym same) ∙ text_is word text b; fits = ap is_cell (sym same) }
    by None None (Some bytes) a b c f = let same : Blob bytes ≡ cell = cc in let s = blob_is word bytes c in record { text = ap cell_text (sym same) ∙ s.text; fits = ap is_cell (sym same) ∙ s.fits }
    by None None None a b c f = number_is word cell f

-- a cell that is read is its word
pub cell_is : (word : List ℕ) (cell : Cell) → cell_in word ≡ Some cell → Spells word cell
cell_is word cell e = by (bytes_eq word (codes "null")) refl e
  where
    by : (b : Bool) → bytes_eq word (codes "null") ≡ b → (if b then Some Null else value_in word) ≡ Some cell → Spells word cell
    by true is f = let same : Null ≡ cell = cc in record { text = ap cell_text (sym same) ∙ sym (eq_of word (codes "null") is); fits = ap is_cell (sym same) }
    by false is f = value_is word cell f

-- a word that begins with a digit is none of these
no_word : (word text : List ℕ) (first : ℕ) (rest : List ℕ) → Begins word → text ≡ first ∷ rest → 57 < first → bytes_eq word text ≡ false
no_word word text first rest begins is high = other_bytes word text (λ e.
    let same : (begins.first ∷ begins.rest) ≡ (first ∷ rest) = sym begins.is ∙ e ∙ is in
    let equal : begins.first ≡ first = cc in
    omega (arith, equal, begins.most, high))

-- A word that is neither of the two truth values is none.
no_truth : (word : List ℕ) → bytes_eq word (codes "true") ≡ false → bytes_eq word (codes "false") ≡ false → truth_of word ≡ None
no_truth word a b = ap (λ (y : Bool). if y then Some true else if bytes_eq word (codes "false") then Some false else None) a ∙ ap (λ (y : Bool). if y then Some false else None) b

-- A word that does not begin with a quote is no text.
no_text : (first : ℕ) (rest : List ℕ) → first == 34 ≡ false → text_of (first ∷ rest) ≡ None
no_text first rest e = rw e refl

-- A word that does not begin with the mark of bytes is none.
no_blob : (first : ℕ) (rest : List ℕ) → first == 120 ≡ false → blob_of (first ∷ rest) ≡ None
no_blob first rest e = rw e refl

-- A word of digits is read as a number.
digits_value : (word : List ℕ) → Begins word → cell_in word ≡ option_map Num (small_integer (integer_of word))
digits_value [] begins = absurd (let e = begins.is in cc)
digits_value (first ∷ rest) begins =
    let same : first ≡ begins.first = (let e = begins.is in cc) in
    let null : bytes_eq (first ∷ rest) (codes "null") ≡ false = no_word (first ∷ rest) (codes "null") 110 _ begins refl (omega arith) in
    let yes : bytes_eq (first ∷ rest) (codes "true") ≡ false = no_word (first ∷ rest) (codes "true") 116 _ begins refl (omega arith) in
    let other : bytes_eq (first ∷ rest) (codes "false") ≡ false = no_word (first ∷ rest) (codes "false") 102 _ begins refl (omega arith) in
    let q : first == 34 ≡ false = ne_eqb first 34 (λ e. omega (arith, e, same, begins.least)) in
    let x : first == 120 ≡ false = ne_eqb first 120 (λ e. omega (arith, e, same, begins.most)) in
    let truth : truth_of (first ∷ rest) ≡ None = no_truth (first ∷ rest) yes other in
    let text : text_of (first ∷ rest) ≡ None = no_text first rest q in
    let blob : blob_of (first ∷ rest) ≡ None = no_blob first rest x in
    ap (λ (b : Bool). if b then Some Null else value_in (first ∷ rest)) null
    ∙ ap (λ (t : Option Bool). value_from t (text_of (first ∷ rest)) (blob_of (first ∷ rest)) (option_map Num (small_integer (integer_of (first ∷ rest))))) truth
    ∙ ap (λ (t : Option (List ℕ)). value_from None t (blob_of (first ∷ rest)) (option_map Num (small_integer (integer_of (first ∷ rest))))) text
    ∙ ap (λ (b : Option (List ℕ)). value_from None None b (option_map Num (small_integer (integer_of (first ∷ rest))))) blob

-- The spelling of an integer with a small magnitude is read as a number.
number_back : (z : ℤ) → nat_lt (magnitude z) (2 ^ 64) ≡ true → cell_in (signed_decimal z) ≡ option_map Num (small_integer (integer_of (signed_decimal z)))
number_back (pos n) small = digits_value (decimal n) (decimal_begins n (ltb-true n (2 ^ 64) small))
number_back (negsuc n) small = refl

-- a cell is read back from its text
pub cell_back : (cell : Cell) → is_cell cell ≡ true → cell_in (cell_text cell) ≡ Some cell
cell_back Null fits = refl
cell_back (Num z) fits = number_back z fits ∙ rw (integer_back z fits, fits) refl
cell_back (Truth true) fits = refl
cell_back (Truth false) fits = refl
cell_back (Text text) fits =
    let read : text_of (quoted text) ≡ Some text = sym (text_spelled (quoted text)) ∙ spelled_back quoted (quoted text) (text_in (quoted text)) text (text_back text) refl in
    ap (λ (t : Option (List ℕ)). value_from None t (blob_of (quoted text)) (option_map Num (small_integer (integer_of (quoted text))))) read
cell_back (Blob bytes) fits =
    let read : blob_of (marked bytes) ≡ Some bytes = sym (blob_spelled (marked bytes)) ∙ spelled_back marked (marked bytes) (blob_in (marked bytes)) bytes (bytes_back bytes fits) refl in
    ap (λ (b : Option (List ℕ)). value_from None None b (option_map Num (small_integer (integer_of (marked bytes))))) read

pub record SpellCells (words : List (List ℕ)) (cells : List Cell) : Type 0 where
  pub text : cell_words cells ≡ words
  pub fit : list_all is_cell cells ≡ true

-- cells that are read are their words
pub cells_are : (words : List (List ℕ)) (cells : List Cell) → cells_in words ≡ Some cells → SpellCells words cells
cells_are [] cells e = let same : [] ≡ cells = cc in record { text = ap cell_words (sym same); fit = ap (list_all is_cell) (sym same) }
cells_are (word ∷ words) cells e =
    step (cell_in word) _ cells e (λ cell first f.
    step (cells_in words) _ cells f (λ more others g.
    let same : cell ∷ more ≡ cells = cc in
    let c = cell_is word cell first in
    let m = cells_are words more others in
    record {
      text = ap cell_words (sym same) ∙ ap (λ (w : List ℕ). w ∷ cell_words more) c.text ∙ ap (λ (ws : List (List ℕ)). word ∷ ws) m.text;
      fit = ap (list_all is_cell) (sym same) ∙ joined c.fits m.fit;
    }))

-- and are read back from their texts
pub cells_back : (cells : List Cell) → list_all is_cell cells ≡ true → cells_in (cell_words cells) ≡ Some cells
cells_back [] fit = refl
cells_back (cell ∷ cells) fit = let b = and_parts (is_cell cell) (list_all is_cell cells) fit in rw (cell_back cell b.0, cells_back cells b.1) refl
