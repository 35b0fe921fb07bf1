-- Lines put behind each other.
use Rattle.std.proofs.Common.{◌≡◌, ℕ, List, [], ◌++◌, ap, sym, ◌∙◌, append_assoc, append-nil}

-- four pieces
pub four_pieces : (old one two three four a b c d : List ℕ) → one ≡ old ++ a → two ≡ one ++ b → three ≡ two ++ c → four ≡ three ++ d
    → four ≡ old ++ (a ++ (b ++ (c ++ (d ++ []))))
four_pieces old one two three four a b c d first second third fourth =
    fourth ∙ ap (λ l. l ++ d) (third ∙ ap (λ l. l ++ c) (second ∙ ap (λ l. l ++ b) first))
    ∙ append_assoc ((old ++ a) ++ b) c d ∙ append_assoc (old ++ a) b (c ++ d) ∙ append_assoc old a (b ++ (c ++ d))
    ∙ ap (λ l. old ++ (a ++ (b ++ (c ++ l)))) (sym (append-nil d))
