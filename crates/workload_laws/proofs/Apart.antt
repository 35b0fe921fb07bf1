-- Words with one space between each two are parted again, and so are lines.
use Rattle.std.proofs.Common.{◌≡◌, ℕ, Bool, true, false, List, [], ◌∷◌, ◌++◌, refl, ap, ◌∙◌, arith}
use Rattle.std.specs.Prelude.{◌&&◌, ◌==◌, not, nat_lt}
use Rattle.std.specs.List.{list_all}
use Rattle.std.proofs.lemmas.Bool.{ltb-true, ne_eqb, and_parts, not-true}
use Rattle.std.proofs.lemmas.List.Folds.{list_all-append}
use Rattle.workload_spec.specs.Words.{space, line_feed, spaced}
use Rattle.workload_spec.specs.Reading.{Position, AtStart, WithinText, BehindBackslash, WithinWord, parts, position_after, is_outside, words_from, words_of}
use Rattle.workload_laws.proofs.Lists.{joined}

-- no byte from this position on ends the word, which may end behind them
abbrev pub Stays : Position → List ℕ → Type 0
Stays position [] = is_outside position ≡ true
Stays position (byte ∷ bytes) = ((byte == space && is_outside position) ≡ false) × Stays (position_after position byte) bytes

-- A space at a position outside of a text ends the word there.
ends : (position : Position) (rest : List ℕ) → is_outside position ≡ true → words_from position (space ∷ rest) ≡ [] ∷ words_of rest
ends AtStart rest e = refl
ends WithinText rest e = absurd cc
ends BehindBackslash rest e = absurd cc
ends WithinWord rest e = refl

-- a word that stays one is the first of the words before a space
pub word_first : (position : Position) (word rest : List ℕ) → Stays position word → words_from position (word ++ space ∷ rest) ≡ word ∷ words_of rest
word_first position [] rest stays = ends position rest stays
word_first position (byte ∷ bytes) rest stays = rw (stays.0, word_first (position_after position byte) bytes rest stays.1) refl

-- at the end of a line it is the only one
pub word_last : (position : Position) (word : List ℕ) → Stays position word → words_from position word ≡ word ∷ []
word_last position [] stays = refl
word_last position (byte ∷ bytes) stays = rw (stays.0, word_last (position_after position byte) bytes stays.1) refl

-- no byte ends a line
abbrev pub is_whole : List ℕ → Bool
is_whole line = list_all (λ byte. not (byte == line_feed)) line

-- a word that stays one, on one line
pub record IsWord (word : List ℕ) : Type 0 where
  pub stays : Stays AtStart word
  pub whole : is_whole word ≡ true

-- each of them is a word that stays one, on one line
abbrev pub AreWords : List (List ℕ) → Type 0
AreWords [] = Unit {0}
AreWords (word ∷ words) = IsWord word × AreWords words

-- words with a space between each two are parted as they were
pub words_apart : (word : List ℕ) (words : List (List ℕ)) → AreWords (word ∷ words) → words_of (spaced (word ∷ words)) ≡ word ∷ words
words_apart word [] are = word_last AtStart word are.0.stays
words_apart word (next ∷ words) are = word_first AtStart word (spaced (next ∷ words)) are.0.stays ∙ ap (λ (ws : List (List ℕ)). word ∷ ws) (words_apart next words are.1)

-- two pieces without a line feed have none together
pub whole_append : (a b : List ℕ) → is_whole a ≡ true → is_whole b ≡ true → is_whole (a ++ b) ≡ true
whole_append a b wa wb = list_all-append (λ (byte : ℕ). not (byte == line_feed)) a b ∙ joined wa wb

-- a line of words has no line feed
pub words_whole : (words : List (List ℕ)) → AreWords words → is_whole (spaced words) ≡ true
words_whole [] are = refl
words_whole (word ∷ []) are = are.0.whole
words_whole (word ∷ next ∷ words) are = whole_append word (space ∷ spaced (next ∷ words)) are.0.whole (words_whole (next ∷ words) are.1)

-- words and more words are words
pub words_append : (words more : List (List ℕ)) → AreWords words → AreWords more → AreWords (words ++ more)
words_append [] more are also = also
words_append (word ∷ words) more are also = (are.0, words_append words more are.1 also)

-- a byte above the quote: no space, no quote and no line feed
abbrev pub is_plain : ℕ → Bool
is_plain byte = nat_lt 34 byte

-- Plain bytes stay within a word that has begun.
plain_within : (word : List ℕ) → list_all is_plain word ≡ true → Stays WithinWord word
plain_within [] all = refl
plain_within (byte ∷ bytes) all =
    let b = and_parts (is_plain byte) (list_all is_plain bytes) all in
    let n : byte == 32 ≡ false = ne_eqb byte 32 (λ e. omega (arith, e, ltb-true 34 byte b.0)) in
    rw n (refl, plain_within bytes b.1)

-- a word of plain bytes stays one
pub plain_stays : (word : List ℕ) → list_all is_plain word ≡ true → Stays AtStart word
plain_stays [] all = refl
plain_stays (byte ∷ bytes) all =
    let b = and_parts (is_plain byte) (list_all is_plain bytes) all in
    let n : byte == 32 ≡ false = ne_eqb byte 32 (λ e. omega (arith, e, ltb-true 34 byte b.0)) in
    let m : byte == 34 ≡ false = ne_eqb byte 34 (λ e. omega (arith, e, ltb-true 34 byte b.0)) in
    rw (n, m) (refl, plain_within bytes b.1)

-- Plain bytes have no line feed among them.
plain_whole : (word : List ℕ) → list_all is_plain word ≡ true → is_whole word ≡ true
plain_whole [] all = refl
plain_whole (byte ∷ bytes) all =
    let b = and_parts (is_plain byte) (list_all is_plain bytes) all in
    let n : byte == 10 ≡ false = ne_eqb byte 10 (λ e. omega (arith, e, ltb-true 34 byte b.0)) in
    joined (ap not n) (plain_whole bytes b.1)

-- a word of plain bytes stays one, on one line
pub plain_word : (word : List ℕ) → list_all is_plain word ≡ true → IsWord word
plain_word word all = record { stays = plain_stays word all; whole = plain_whole word all }

-- a line without a line feed is the first of the parts before one
pub line_first_part : (line rest : List ℕ) → is_whole line ≡ true → parts line_feed (line ++ line_feed ∷ rest) ≡ line ∷ parts line_feed rest
line_first_part [] rest whole = refl
line_first_part (byte ∷ bytes) rest whole =
    let b = and_parts (not (byte == line_feed)) (is_whole bytes) whole in
    let n : byte == line_feed ≡ false = not-true (byte == line_feed) b.0 in
    rw (n, line_first_part bytes rest b.1) refl
