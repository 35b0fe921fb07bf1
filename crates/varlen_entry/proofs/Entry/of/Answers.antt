use Rattle.std.proofs.Common.{◌≡◌, ℕ, List, [], ◌∷◌, ◌++◌, length, take, drop, refl}
use Rattle.varlen_entry.proofs.Entry.of.Goals as goal

-- the first four bytes of a short value, with zeros after it
first_four : (xs : List ℕ)
    → take 4 (xs ++ drop (length xs) (0 ∷ 0 ∷ 0 ∷ 0 ∷ 0 ∷ 0 ∷ 0 ∷ 0 ∷ 0 ∷ 0 ∷ 0 ∷ 0 ∷ [])) ≡ take 4 (xs ++ 0 ∷ 0 ∷ 0 ∷ 0 ∷ [])
first_four [] = refl
first_four (a ∷ []) = refl
first_four (a ∷ b ∷ []) = refl
first_four (a ∷ b ∷ c ∷ []) = refl
first_four (a ∷ b ∷ c ∷ d ∷ xs) = refl

pub returns-then-bytes-le-INLINE-clause-prefix : goal.returns-then-bytes-le-INLINE-clause-prefix
returns-then-bytes-le-INLINE-clause-prefix c = rw c.copy_from_slice.ensures.after (first_four c.args.bytes.now)
