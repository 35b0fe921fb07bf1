-- Where a word ends, byte by byte.
use Rattle.std.proofs.Common.{◌≡◌, ℕ, ◌+◌, Bool, true, false, cond, List, [], ◌∷◌, take, drop, refl, sym, ap, subst, add-one}
use Rattle.std.specs.Prelude.{◌&&◌, ◌==◌}
use Rattle.std.proofs.lemmas.Bool.{eqb-true}
use Rattle.std.proofs.Math.Bool.{and-true}
use Rattle.workload_spec.specs.Words.{space}
use Rattle.workload_spec.specs.Reading.{Position, AtStart, WithinText, BehindBackslash, WithinWord, position_after, is_outside, parted, words_from, words_of}
use Rattle.word_read.specs.Cursor.{words_behind, word_end}

-- A first word and the words behind it are told with one byte more in front.
ends_at : (c : Bool) (b : ℕ) (bs : List ℕ) (next : List (List ℕ)) (w : ℕ) → next ≡ take w bs ∷ words_behind (drop w bs) → (c ≡ true → next ≡ words_of bs)
    → parted c b next ≡ take (cond c 0 (w + 1)) (b ∷ bs) ∷ words_behind (drop (cond c 0 (w + 1)) (b ∷ bs))
ends_at true b bs next w e h = ap (λ (ns : List (List ℕ)). [] ∷ ns) (h refl)
ends_at false b bs next w e h = rw (e, add-one) refl

-- Where the last part fails, a conjunction does not hold.
no_outside : (b : Bool) → (b && false) ≡ true → ⊥
no_outside true e = cc
no_outside false e = cc

-- Behind a space that ends a word stand the words of the rest.
behind_space : (p : Position) (b : ℕ) (bs : List ℕ) → (b == space && is_outside p) ≡ true → words_from (position_after p b) bs ≡ words_of bs
behind_space AtStart b bs e = let same : b ≡ 32 = eqb-true b 32 (simp and-true at e) in subst (λ (x : ℕ). words_from (position_after AtStart x) bs ≡ words_of bs) (sym same) refl
behind_space WithinText b bs e = absurd (no_outside (b == space) e)
behind_space BehindBackslash b bs e = absurd (no_outside (b == space) e)
behind_space WithinWord b bs e = let same : b ≡ 32 = eqb-true b 32 (simp and-true at e) in subst (λ (x : ℕ). words_from (position_after WithinWord x) bs ≡ words_of bs) (sym same) refl

-- a line is its first word and what stands behind it
pub words_split : (p : Position) (bytes : List ℕ) → words_from p bytes ≡ take (word_end p bytes) bytes ∷ words_behind (drop (word_end p bytes) bytes)
words_split p [] = refl
words_split p (b ∷ bs) = ends_at (b == space && is_outside p) b bs (words_from (position_after p b) bs) (word_end (position_after p b) bs) (words_split (position_after p b) bs) (behind_space p b bs)
