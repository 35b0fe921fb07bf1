-- Texts and bytes are read back from their spelling.
use Rattle.std.proofs.Common.{◌≡◌, ℕ, ◌+◌, ◌*◌, ◌/◌, ◌%◌, ◌<◌, ◌≤◌, ◌⊎◌, inl, inr, Bool, true, false, List, [], ◌∷◌, ◌++◌, length, refl, sym, ap, ◌∙◌, arith, subst, append_assoc, length-append}
use Rattle.std.specs.Prelude.{◌||◌, ◌==◌, not, nat_lt, codes, flat_map}
use Rattle.std.specs.List.{list_all}
use Rattle.std.specs.Char.{digit_value, digit_char}
use Rattle.std.proofs.lemmas.Str.{digit_value-digit_char}
use Rattle.std.proofs.lemmas.Bool.{eqb-true, lt-ltb, ltb-true, ltb-false, ne_eqb, eqb-false, and_parts, or_cases, or_parts}
use Rattle.std.proofs.Math.Bool.{and-false}
use Rattle.workload_spec.specs.Words.{space, line_feed, quote, backslash, is_control, hex_digits, escaped, quoted}
use Rattle.workload_spec.specs.Reading.{WithinText, BehindBackslash, Spelling, Itself, Escape, SecondDigit, spelling_after, unescaped_at, unescaped_from, text_in, bytes_of_digits}
use Rattle.workload_laws.proofs.Lists.{joined}
use Rattle.workload_laws.proofs.Apart.{Stays, is_plain, is_whole, whole_append, IsWord, plain_word}

-- a hexadecimal digit of a value below 16
pub record IsDigitOf (value digit : ℕ) : Type 0 where
  pub back : digit_value digit ≡ value
  pub least : 48 ≤ digit
  pub no_backslash : digit ≡ 92 → ⊥

-- Each value below sixteen has a hexadecimal digit.
digit_of : (value : ℕ) → value < 16 → IsDigitOf value (digit_char value)
digit_of value small = by (nat_lt value 10) refl
  where
    by : (b : Bool) → nat_lt value 10 ≡ b → IsDigitOf value (digit_char value)
    by true e = record {
      back = digit_value-digit_char value (omega arith);
      least = let c : digit_char value ≡ 48 + value = rw e refl in omega (arith, c);
      no_backslash = λ is. let c : digit_char value ≡ 48 + value = rw e refl in omega (arith, c, is, ltb-true value 10 e);
    }
    by false e = record {
      back = digit_value-digit_char value (omega arith);
      least = let c : digit_char value ≡ 87 + value = rw e refl in omega (arith, c);
      no_backslash = λ is. let c : digit_char value ≡ 87 + value = rw e refl in omega (arith, c, is, ltb-false value 10 e);
    }

-- The first of a byte's two digits is hexadecimal.
high_of : (byte : ℕ) → IsDigitOf (byte / 16 % 16) (digit_char (byte / 16 % 16))
high_of byte = digit_of (byte / 16 % 16) (omega arith)

-- The second of a byte's two digits is hexadecimal.
low_of : (byte : ℕ) → IsDigitOf (byte % 16) (digit_char (byte % 16))
low_of byte = digit_of (byte % 16) (omega arith)

-- The values of a byte's two digits make up the byte.
pair : (byte : ℕ) → byte < 256 → byte / 16 % 16 * 16 + byte % 16 ≡ byte
pair byte small = omega arith

-- two hexadecimal digits of a byte have its value
pub digits_back : (byte : ℕ) → byte < 256 → digit_value (digit_char (byte / 16 % 16)) * 16 + digit_value (digit_char (byte % 16)) ≡ byte
digits_back byte small = let h = high_of byte in let l = low_of byte in rw (h.back, l.back) (pair byte small)

-- bytes are those of their digits
pub bytes_back : (bytes : List ℕ) → list_all (λ byte. nat_lt byte 256) bytes ≡ true → bytes_of_digits (flat_map hex_digits bytes) ≡ bytes
bytes_back [] all = refl
bytes_back (byte ∷ bytes) all =
    let b = and_parts (nat_lt byte 256) (list_all (λ byte. nat_lt byte 256) bytes) all in
    let one : digit_value (digit_char (byte / 16 % 16)) * 16 + digit_value (digit_char (byte % 16)) ≡ byte = digits_back byte (ltb-true byte 256 b.0) in
    rw (one, bytes_back bytes b.1) refl

-- The digits of bytes are plain bytes.
digits_plain : (bytes : List ℕ) → list_all is_plain (flat_map hex_digits bytes) ≡ true
digits_plain [] = refl
digits_plain (byte ∷ bytes) =
    let h = high_of byte in
    let l = low_of byte in
    joined (lt-ltb 34 (digit_char (byte / 16 % 16)) (omega (arith, h.least))) (joined (lt-ltb 34 (digit_char (byte % 16)) (omega (arith, l.least))) (digits_plain bytes))

-- bytes are spelled as one word
pub blob_word : (bytes : List ℕ) → IsWord (codes "x" ++ flat_map hex_digits bytes)
blob_word bytes = plain_word (120 ∷ flat_map hex_digits bytes) (digits_plain bytes)

-- One byte is read as what it stands for, and then the others behind it.
unescape_step : (spelling : Spelling) (byte : ℕ) (tail : List ℕ) → 0 < length tail → unescaped_from spelling (byte ∷ tail) ≡ unescaped_at spelling byte ++ unescaped_from (spelling_after spelling byte) tail
unescape_step spelling byte [] some = absurd (omega (arith, some))
unescape_step spelling byte (next ∷ tail) some = refl

-- each byte is spelled with an escape, by its digits or by itself
data Spells (byte : ℕ) : Type 0 where
  Behind : (byte ≡ 34) ⊎ (byte ≡ 92) → escaped byte ≡ 92 ∷ byte ∷ [] → Spells byte
  Digits : byte < 256 → escaped byte ≡ 92 ∷ 120 ∷ digit_char (byte / 16 % 16) ∷ digit_char (byte % 16) ∷ [] → Spells byte
  Alone : 32 ≤ byte → (byte ≡ 34 → ⊥) → (byte ≡ 92 → ⊥) → escaped byte ≡ byte ∷ [] → Spells byte

-- Each byte is spelled with an escape, by its digits or by itself.
spells : (byte : ℕ) → Spells byte
spells byte = by (byte == quote || byte == backslash) (is_control byte) refl refl
  where
    by : (marked control : Bool) → (byte == quote || byte == backslash) ≡ marked → is_control byte ≡ control → Spells byte
    by true control m c = Behind (elim (or_cases (byte == quote) (byte == backslash) m) [ inl e ↦ inl (eqb-true byte 34 e) | inr e ↦ inr (eqb-true byte 92 e) ]) (rw m refl)
    by false true m c = Digits (elim (or_cases (nat_lt byte 0x20) (byte == 0x7f) c) [ inl e ↦ omega (arith, ltb-true byte 32 e) | inr e ↦ omega (arith, eqb-true byte 127 e) ]) (rw (m, c) refl)
    by false false m c =
        let n = or_parts (byte == quote) (byte == backslash) m in
        let k = or_parts (nat_lt byte 0x20) (byte == 0x7f) c in
        Alone (ltb-false byte 32 k.0) (eqb-false byte 34 n.0) (eqb-false byte 92 n.1) (rw (m, c) refl)

-- A byte behind a backslash that is no mark of digits is read as itself.
behind_back : (byte : ℕ) (tail : List ℕ) → 0 < length tail → byte == 120 ≡ false → unescaped_from Escape (byte ∷ tail) ≡ byte ∷ unescaped_from Itself tail
behind_back byte tail some n = unescape_step Escape byte tail some ∙ rw n refl

-- A byte that is no backslash is read as itself.
alone_back : (byte : ℕ) (tail : List ℕ) → 0 < length tail → byte == 92 ≡ false → unescaped_from Itself (byte ∷ tail) ≡ byte ∷ unescaped_from Itself tail
alone_back byte tail some n = unescape_step Itself byte tail some ∙ rw n refl

-- A byte is read at the second of its digits.
digits_last : (byte : ℕ) (tail : List ℕ) → 0 < length tail → byte < 256 → unescaped_from (SecondDigit (digit_value (digit_char (byte / 16 % 16)))) (digit_char (byte % 16) ∷ tail) ≡ byte ∷ unescaped_from Itself tail
digits_last byte tail some small = unescape_step (SecondDigit (digit_value (digit_char (byte / 16 % 16)))) (digit_char (byte % 16)) tail some ∙ ap (λ (b : ℕ). b ∷ unescaped_from Itself tail) (digits_back byte small)

-- Each byte is read back from its spelling in a text.
one_back : (byte : ℕ) (tail : List ℕ) → 0 < length tail → Spells byte → unescaped_from Itself (escaped byte ++ tail) ≡ byte ∷ unescaped_from Itself tail
one_back byte tail some (Behind e is) =
    ap (λ (bytes : List ℕ). unescaped_from Itself (bytes ++ tail)) is
    ∙ behind_back byte tail some (ne_eqb byte 120 (λ same. elim e [ inl a ↦ omega (arith, a, same) | inr b ↦ omega (arith, b, same) ]))
one_back byte tail some (Digits small is) = ap (λ (bytes : List ℕ). unescaped_from Itself (bytes ++ tail)) is ∙ digits_last byte tail some small
one_back byte tail some (Alone control no_quote no_backslash is) = ap (λ (bytes : List ℕ). unescaped_from Itself (bytes ++ tail)) is ∙ alone_back byte tail some (ne_eqb byte 92 no_backslash)

-- Bytes with a quote behind them are at least one.
quote_behind : (bytes : List ℕ) → 0 < length (bytes ++ quote ∷ [])
quote_behind bytes = omega (arith, length-append bytes (quote ∷ []))

-- A text is read back from its spelling up to the closing quote.
unescaped_back : (text : List ℕ) → unescaped_from Itself (flat_map escaped text ++ quote ∷ []) ≡ text
unescaped_back [] = refl
unescaped_back (byte ∷ bytes) =
    ap (unescaped_from Itself) (append_assoc (escaped byte) (flat_map escaped bytes) (quote ∷ []))
    ∙ one_back byte (flat_map escaped bytes ++ quote ∷ []) (quote_behind (flat_map escaped bytes)) (spells byte)
    ∙ ap (λ (bs : List ℕ). byte ∷ bs) (unescaped_back bytes)

-- a text is read back from its quotes
pub text_back : (text : List ℕ) → text_in (quoted text) ≡ text
text_back text = unescaped_back text

-- bytes of a text stay within it
stays_on : (byte : ℕ) (tail : List ℕ) → (byte ≡ 34 → ⊥) → (byte ≡ 92 → ⊥) → Stays WithinText tail → Stays WithinText (byte ∷ tail)
stays_on byte tail no_quote no_backslash stays = rw (ne_eqb byte 34 no_quote, ne_eqb byte 92 no_backslash) (and-false (byte == space), stays)

-- Behind a backslash, each byte leaves the reader within the text.
stays_behind : (byte : ℕ) (tail : List ℕ) → Stays WithinText tail → Stays BehindBackslash (byte ∷ tail)
stays_behind byte tail stays = (and-false (byte == space), stays)

-- The spelling of a byte leaves the reader within the text.
one_stays : (byte : ℕ) (tail : List ℕ) → Spells byte → Stays WithinText tail → Stays WithinText (escaped byte ++ tail)
one_stays byte tail (Behind e is) stays = let P : List ℕ → Type 0 = λ bytes. Stays WithinText (bytes ++ tail) in subst P (sym is) (refl, stays_behind byte tail stays)
one_stays byte tail (Digits small is) stays =
    let P : List ℕ → Type 0 = λ bytes. Stays WithinText (bytes ++ tail) in
    let h = high_of byte in
    let l = low_of byte in
    subst P (sym is) (
      refl,
      (
        refl,
        stays_on (digit_char (byte / 16 % 16)) (digit_char (byte % 16) ∷ tail) (λ e. omega (arith, e, h.least)) h.no_backslash
            (stays_on (digit_char (byte % 16)) tail (λ e. omega (arith, e, l.least)) l.no_backslash stays),
      ),
    )
one_stays byte tail (Alone control no_quote no_backslash is) stays = let P : List ℕ → Type 0 = λ bytes. Stays WithinText (bytes ++ tail) in subst P (sym is) (stays_on byte tail no_quote no_backslash stays)

-- The spelling of a text leaves the reader within it up to the quote.
text_stays : (text : List ℕ) → Stays WithinText (flat_map escaped text ++ quote ∷ [])
text_stays [] = (refl, refl)
text_stays (byte ∷ bytes) =
    subst (Stays WithinText) (sym (append_assoc (escaped byte) (flat_map escaped bytes) (quote ∷ []))) (one_stays byte (flat_map escaped bytes ++ quote ∷ []) (spells byte) (text_stays bytes))

-- A byte that is not ten is tested to be no line feed.
no_feed : (byte : ℕ) → (byte ≡ 10 → ⊥) → not (byte == line_feed) ≡ true
no_feed byte n = ap not (ne_eqb byte 10 n)

-- The spelling of a byte has no line feed in it.
one_whole : (byte : ℕ) → Spells byte → is_whole (escaped byte) ≡ true
one_whole byte (Behind e is) = ap is_whole is ∙ joined (no_feed byte (λ same. elim e [ inl a ↦ omega (arith, a, same) | inr b ↦ omega (arith, b, same) ])) refl
one_whole byte (Digits small is) =
    let h = high_of byte in
    let l = low_of byte in
    ap is_whole is ∙ joined (no_feed (digit_char (byte / 16 % 16)) (λ e. omega (arith, e, h.least))) (joined (no_feed (digit_char (byte % 16)) (λ e. omega (arith, e, l.least))) refl)
one_whole byte (Alone control no_quote no_backslash is) = ap is_whole is ∙ joined (no_feed byte (λ e. omega (arith, e, control))) refl

-- The spelling of a text has no line feed in it.
text_whole : (text : List ℕ) → is_whole (flat_map escaped text) ≡ true
text_whole [] = refl
text_whole (byte ∷ bytes) = whole_append (escaped byte) (flat_map escaped bytes) (one_whole byte (spells byte)) (text_whole bytes)

-- a quoted text is one word, on one line
pub text_word : (text : List ℕ) → IsWord (quoted text)
text_word text = record { stays = (refl, text_stays text); whole = whole_append (flat_map escaped text) (quote ∷ []) (text_whole text) refl }
