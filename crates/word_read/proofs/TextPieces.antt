-- Texts and bytes, piece by piece.
use Rattle.std.proofs.Common.{◌≡◌, ℕ, ◌+◌, ◌*◌, ◌<◌, ◌≤◌, Bool, true, false, List, [], ◌∷◌, ◌++◌, length, take, drop, get_or, refl, sym, ap, ◌∙◌, arith, append_assoc, append-nil, take-append-drop}
use Rattle.std.specs.Prelude.{◌&&◌, ◌||◌, ◌==◌, not, bytes_eq, Option, None, Some, option_map, if◌then◌else◌}
use Rattle.std.specs.List.{list_all}
use Rattle.std.proofs.lemmas.Bool.{eqb-true, ne_eqb, and_parts, or_parts, not-true}
use Rattle.std.specs.Char.{digit_value}
use Rattle.workload_spec.specs.Words.{quote, backslash, is_control}
use Rattle.workload_spec.specs.Reading.{Itself, Escape, FirstDigit}
use Rattle.word_read.specs.Spellings.{is_hex, is_plain, closed, text_from, pairs_of}

-- No text, where none can be read.
abbrev text_none : Option (List ℕ)
text_none = None

-- A byte and a front that are put before a text are put there at once.
map_twice : (a : ℕ) (front : List ℕ) (o : Option (List ℕ)) → option_map (λ text. a ∷ text) (option_map (λ text. front ++ text) o) ≡ option_map (λ text. (a ∷ front) ++ text) o
map_twice a front None = refl
map_twice a front (Some text) = refl

-- Putting nothing before a text leaves it as it is.
map_nothing : (o : Option (List ℕ)) → o ≡ option_map (λ text. [] ++ text) o
map_nothing None = refl
map_nothing (Some text) = refl

-- A byte that stands for itself comes first in the text.
plain_first : (byte : ℕ) (bytes : List ℕ) → is_plain byte ≡ true → text_from Itself (byte ∷ bytes) ≡ option_map (λ text. byte ∷ text) (text_from Itself bytes)
plain_first byte bytes is =
    let n = or_parts (byte == quote || byte == backslash) (is_control byte) (not-true (byte == quote || byte == backslash || is_control byte) is) in
    let m = or_parts (byte == quote) (byte == backslash) n.0 in
    rw (m.0, m.1, n.1) refl

-- bytes that stand for themselves come first
pub plain_read : (plain behind : List ℕ) → list_all is_plain plain ≡ true → text_from Itself (plain ++ behind) ≡ option_map (λ text. plain ++ text) (text_from Itself behind)
plain_read [] behind all = map_nothing (text_from Itself behind)
plain_read (byte ∷ plain) behind all =
    let a = and_parts (is_plain byte) (list_all is_plain plain) all in
    plain_first byte (plain ++ behind) a.0 ∙ ap (option_map (λ text. byte ∷ text)) (plain_read plain behind a.1) ∙ map_twice byte plain (text_from Itself behind)

-- behind a mark two digits of no control byte are no text
pub no_control : (s : List ℕ) → 2 ≤ length s → is_control (digit_value (get_or s 0 0) * 16 + digit_value (get_or s 1 0)) ≡ false → text_from FirstDigit s ≡ None
no_control [] many is = refl
no_control (high ∷ []) many is = absurd (omega (arith, many))
no_control (high ∷ low ∷ rest) many is = by (is_hex high) (is_hex low)
  where
    by : (h l : Bool) → (if h then (if l && is_control (digit_value high * 16 + digit_value low) then option_map (λ text. (digit_value high * 16 + digit_value low) ∷ text) (text_from Itself rest) else None) else None) ≡ None
    by true true = rw is refl
    by true false = refl
    by false l = refl

-- behind a mark two bytes that are not both digits are no text
pub no_digits : (s : List ℕ) → 2 ≤ length s → (is_hex (get_or s 0 0) && is_hex (get_or s 1 0)) ≡ false → text_from FirstDigit s ≡ None
no_digits [] many is = refl
no_digits (high ∷ []) many is = absurd (omega (arith, many))
no_digits (high ∷ low ∷ rest) many is = by (is_hex high) (is_hex low) is
  where
    by : (h l : Bool) → (h && l) ≡ false → (if h then (if l && is_control (digit_value high * 16 + digit_value low) then option_map (λ text. (digit_value high * 16 + digit_value low) ∷ text) (text_from Itself rest) else None) else None) ≡ None
    by true true e = absurd cc
    by true false e = refl
    by false l e = refl

-- A choice between no text and no text is no text.
either_none : (b : Bool) → (if b then text_none else text_none) ≡ text_none
either_none true = refl
either_none false = refl

-- behind a mark less than two bytes are no text
pub few_digits : (s : List ℕ) → length s < 2 → text_from FirstDigit s ≡ None
few_digits [] few = refl
few_digits (high ∷ []) few = either_none (is_hex high)
few_digits (high ∷ low ∷ rest) few = absurd (omega (arith, few))

-- pairs of digits
pub pair_read : (s bytes : List ℕ) → 2 ≤ length s → (is_hex (get_or s 0 0) && is_hex (get_or s 1 0)) ≡ true
    → option_map (λ more. bytes ++ more) (pairs_of s) ≡ option_map (λ more. (bytes ++ (digit_value (get_or s 0 0) * 16 + digit_value (get_or s 1 0)) ∷ []) ++ more) (pairs_of (drop 2 s))
pair_read [] bytes many is = absurd (omega (arith, many))
pair_read (high ∷ []) bytes many is = absurd (omega (arith, many))
pair_read (high ∷ low ∷ rest) bytes many is = rw is (by (pairs_of rest))
  where
    by : (o : Option (List ℕ)) → option_map (λ more. bytes ++ more) (option_map (λ more. (digit_value high * 16 + digit_value low) ∷ more) o) ≡ option_map (λ more. (bytes ++ (digit_value high * 16 + digit_value low) ∷ []) ++ more) o
    by None = refl
    by (Some more) = ap Some (sym (append_assoc bytes ((digit_value high * 16 + digit_value low) ∷ []) more))

-- where nothing is left, no pair is
pub no_more : (s : List ℕ) → length s ≡ 0 → pairs_of s ≡ Some []
no_more [] e = refl
no_more (byte ∷ rest) e = absurd (omega (arith, e))

-- one byte that is left over is no pair
pub one_more : (s : List ℕ) → length s < 2 → (length s ≡ 0 → ⊥) → pairs_of s ≡ None
one_more [] few some = absurd (some refl)
one_more (byte ∷ []) few some = refl
one_more (byte ∷ next ∷ rest) few some = absurd (omega (arith, few))

-- Two pieces that are put before a text are put there at once.
piece_by : (old plain : List ℕ) (o : Option (List ℕ)) → option_map (λ more. old ++ more) (option_map (λ text. plain ++ text) o) ≡ option_map (λ more. (old ++ plain) ++ more) o
piece_by old plain None = refl
piece_by old plain (Some text) = ap Some (sym (append_assoc old plain text))

-- behind bytes that stand for themselves
pub piece_read : (spelling old plain behind s : List ℕ) → text_from Itself spelling ≡ option_map (λ more. old ++ more) (text_from Itself s) → s ≡ plain ++ behind → list_all is_plain plain ≡ true
    → text_from Itself spelling ≡ option_map (λ more. (old ++ plain) ++ more) (text_from Itself behind)
piece_read spelling old plain behind s e is all = e ∙ ap (λ (bytes : List ℕ). option_map (λ more. old ++ more) (text_from Itself bytes)) is ∙ ap (option_map (λ more. old ++ more)) (plain_read plain behind all) ∙ piece_by old plain (text_from Itself behind)

-- one byte more
pub byte_more : (old : List ℕ) (byte : ℕ) (o : Option (List ℕ)) → option_map (λ more. old ++ more) (option_map (λ text. byte ∷ text) o) ≡ option_map (λ more. (old ++ byte ∷ []) ++ more) o
byte_more old byte None = refl
byte_more old byte (Some text) = ap Some (sym (append_assoc old (byte ∷ []) text))

-- A byte that does not stand for itself, escapes nothing and closes nothing gives no text.
stopped_by : (q k c : Bool) (byte : ℕ) (rest : List ℕ) → not (q || k || c) ≡ false → k ≡ false → (q ≡ true → closed rest ≡ None) → (if q then closed rest else if k then text_from Escape rest else if c then None else option_map (λ text. byte ∷ text) (text_from Itself rest)) ≡ None
stopped_by true k c byte rest stops none unclosed = unclosed refl
stopped_by false true c byte rest stops none unclosed = absurd cc
stopped_by false false true byte rest stops none unclosed = refl
stopped_by false false false byte rest stops none unclosed = absurd cc

-- A quote that is not the last byte closes no text.
open_rest : (byte : ℕ) (rest : List ℕ) → bytes_eq (byte ∷ rest) (34 ∷ []) ≡ false → byte == 34 ≡ true → closed rest ≡ None
open_rest byte [] unclosed is = absurd (let e = eqb-true byte 34 is in let f = rw e at unclosed in cc)
open_rest byte (next ∷ rest) unclosed is = refl

-- neither a byte that stands for itself, nor a backslash, nor the end
pub nothing_more : (s : List ℕ) → (0 < length s → is_plain (get_or s 0 0) ≡ false) → bytes_eq s (34 ∷ []) ≡ false → (1 ≤ length s → get_or s 0 0 ≡ 92 → ⊥) → text_from Itself s ≡ None
nothing_more [] stops unclosed other = refl
nothing_more (byte ∷ rest) stops unclosed other =
    stopped_by (byte == quote) (byte == backslash) (is_control byte) byte rest (stops (omega arith)) (ne_eqb byte 92 (λ e. other (omega arith) e)) (λ is. open_rest byte rest unclosed is)

-- behind the bytes of a slice that stand for themselves
pub piece_at : (spelling old s : List ℕ) (n : ℕ) → text_from Itself spelling ≡ option_map (λ more. old ++ more) (text_from Itself s) → list_all is_plain (take n s) ≡ true
    → text_from Itself spelling ≡ option_map (λ more. (old ++ take n s) ++ more) (text_from Itself (drop n s))
piece_at spelling old s n e all = piece_read spelling old (take n s) (drop n s) s e (sym (take-append-drop n s)) all

-- a quote at the end closes the text
pub closed_at : (text : List ℕ) (behind : List ℕ) → behind ≡ 34 ∷ [] → option_map (λ more. text ++ more) (text_from Itself behind) ≡ Some text
closed_at text behind is = rw is (ap Some (append-nil text))
