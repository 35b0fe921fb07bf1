-- Words with one space between each two are the first, and the others behind a space.
use Rattle.std.proofs.Common.{◌≡◌, ℕ, List, [], ◌∷◌, ◌++◌, refl, sym, ap, ◌∙◌, append_assoc, append-nil}
use Rattle.workload_spec.specs.Words.{spaced}
use Rattle.word_text.specs.Words.{behind_spaces}

-- spaced words are the first, and the others each behind a space
pub spaced_first : (word : List ℕ) (words : List (List ℕ)) → spaced (word ∷ words) ≡ word ++ behind_spaces words
spaced_first word [] = sym (append-nil word)
spaced_first word (next ∷ words) = ap (λ (text : List ℕ). word ++ 32 ∷ text) (spaced_first next words)

-- words behind spaces, and further ones
pub behind_spaces-append : (words more : List (List ℕ)) → behind_spaces (words ++ more) ≡ behind_spaces words ++ behind_spaces more
behind_spaces-append [] more = refl
behind_spaces-append (word ∷ words) more = ap (λ (text : List ℕ). 32 ∷ (word ++ text)) (behind_spaces-append words more) ∙ ap (λ (text : List ℕ). 32 ∷ text) (sym (append_assoc word (behind_spaces words) (behind_spaces more)))
