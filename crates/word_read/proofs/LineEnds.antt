-- Where a line ends, byte by byte.
use Rattle.std.proofs.Common.{◌≡◌, ℕ, ◌+◌, ◌<◌, Bool, true, false, cond, suc, List, [], ◌∷◌, ◌++◌, length, take, drop, refl, ap, add-one, arith}
use Rattle.std.specs.Prelude.{◌==◌, not, zero}
use Rattle.std.specs.List.{list_all}
use Rattle.memchr.specs.Find.{NoneBefore, Nowhere, Passes, is_byte}
use Rattle.std.proofs.lemmas.Bool.{eqb-true}
use Rattle.workload_spec.specs.Words.{line_feed}
use Rattle.workload_spec.specs.Reading.{parted, parts}
use Rattle.word_read.specs.Cursor.{line_end}

-- Bytes that are one part are so with one byte more that is no line feed.
whole_by : (c : Bool) (b : ℕ) (bs : List ℕ) (n m : ℕ) (next : List (List ℕ)) → cond c 0 (n + 1) ≡ suc m → (n ≡ m → next ≡ bs ∷ []) → parted c b next ≡ (b ∷ bs) ∷ []
whole_by true b bs n m next e h = absurd cc
whole_by false b bs n m next e h = rw (h (omega (arith, e))) refl

-- bytes with no line feed are one part
pub whole : (bytes : List ℕ) → line_end bytes ≡ length bytes → parts line_feed bytes ≡ bytes ∷ []
whole [] e = refl
whole (b ∷ bs) e = whole_by (b == line_feed) b bs (line_end bs) (length bs) (parts line_feed bs) e (whole bs)

-- The first part and the others are told with one byte more in front.
cut_by : (c : Bool) (b : ℕ) (bs : List ℕ) (n m : ℕ) (next : List (List ℕ)) → cond c 0 (n + 1) < suc m → next ≡ parts line_feed bs → (n < m → next ≡ take n bs ∷ parts line_feed (drop 1 (drop n bs)))
    → parted c b next ≡ take (cond c 0 (n + 1)) (b ∷ bs) ∷ parts line_feed (drop 1 (drop (cond c 0 (n + 1)) (b ∷ bs)))
cut_by true b bs n m next lt same h = ap (λ (ps : List (List ℕ)). [] ∷ ps) same
cut_by false b bs n m next lt same h = rw (h (omega (arith, lt)), add-one) refl

-- before the first line feed stands the first part, and behind it stand the others
pub cut : (bytes : List ℕ) → line_end bytes < length bytes → parts line_feed bytes ≡ take (line_end bytes) bytes ∷ parts line_feed (drop 1 (drop (line_end bytes) bytes))
cut [] lt = absurd (omega (arith, lt))
cut (b ∷ bs) lt = cut_by (b == line_feed) b bs (line_end bs) (length bs) (parts line_feed bs) lt refl (cut bs)

-- A line, its line feed and the rest are told with one byte more in front.
ends_by : (c : Bool) (b : ℕ) (bs : List ℕ) (n m : ℕ) → b == line_feed ≡ c → cond c 0 (n + 1) < suc m → (n < m → bs ≡ take n bs ++ line_feed ∷ drop 1 (drop n bs))
    → b ∷ bs ≡ take (cond c 0 (n + 1)) (b ∷ bs) ++ line_feed ∷ drop 1 (drop (cond c 0 (n + 1)) (b ∷ bs))
ends_by true b bs n m is lt h = ap (λ (x : ℕ). x ∷ bs) (eqb-true b line_feed is)
ends_by false b bs n m is lt h = rw add-one (ap (λ (rest : List ℕ). b ∷ rest) (h (omega (arith, lt))))

-- the line, its line feed, and what stands behind it
pub ends : (bytes : List ℕ) → line_end bytes < length bytes → bytes ≡ take (line_end bytes) bytes ++ line_feed ∷ drop 1 (drop (line_end bytes) bytes)
ends [] lt = absurd (omega (arith, lt))
ends (b ∷ bs) lt = ends_by (b == line_feed) b bs (line_end bs) (length bs) refl lt (ends bs)

-- the same, one byte further
without_by : (c : Bool) (b : ℕ) (bs : List ℕ) (n : ℕ) → b == line_feed ≡ c → list_all (λ byte. not (byte == line_feed)) (take n bs) ≡ true
    → list_all (λ byte. not (byte == line_feed)) (take (cond c 0 (n + 1)) (b ∷ bs)) ≡ true
without_by true b bs n is all = refl
without_by false b bs n is all = rw (add-one, is) all

-- no line feed stands before a line's end
pub without : (bytes : List ℕ) → list_all (λ byte. not (byte == line_feed)) (take (line_end bytes) bytes) ≡ true
without [] = refl
without (b ∷ bs) = without_by (b == line_feed) b bs (line_end bs) refl (without bs)

-- a line feed stands at the place
abbrev pub Feeds : List ℕ → ℕ → Type 0
Feeds = Passes (is_byte line_feed)

-- A byte that is no line feed moves the end of the line by one.
behind_by : (c : Bool) (b n k : ℕ) → b == line_feed ≡ c → ¬ (b == line_feed ≡ true) → k ≡ n → suc k ≡ cond c 0 (n + 1)
behind_by true b n k is other same = absurd (other is)
behind_by false b n k is other same = rw (add-one, same) refl

-- what a search finds is the line's end
pub found : (bytes : List ℕ) (k : ℕ) → NoneBefore (Feeds bytes) 0 (length bytes) k → Feeds bytes k → k ≡ line_end bytes
found [] k before at = absurd (omega (arith, before.high))
found (b ∷ bs) zero before at = rw at refl
found (b ∷ bs) (suc k) before at = behind_by (b == line_feed) b (line_end bs) k refl (before.before 0 (omega arith) (omega arith)) (found bs k shorter at)
  where
    shorter : NoneBefore (Feeds bs) 0 (length bs) k
    shorter = record {
      low = omega arith;
      high = omega (arith, before.high);
      before = λ j low high there. before.before (suc j) (omega arith) (omega (arith, high)) there;
    }

-- where a search finds none, the line ends with the bytes
pub absent : (bytes : List ℕ) → Nowhere (Feeds bytes) 0 (length bytes) → length bytes ≡ line_end bytes
absent [] none = refl
absent (b ∷ bs) none = behind_by (b == line_feed) b (line_end bs) (length bs) refl (none 0 (omega arith) (omega arith))
    (absent bs (λ j low high there. none (suc j) (omega arith) (omega (arith, high)) there))
