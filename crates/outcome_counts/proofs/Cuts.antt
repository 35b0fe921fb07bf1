-- Lists cut at one place.
use Rattle.std.proofs.Common.{◌≡◌, ◌∙◌, ap, sym, List, ◌∷◌, ◌++◌, length}
use Rattle.std.specs.List.{slice_get}
use Rattle.std.proofs.lemmas.Option.{same_Some}
use Rattle.outcome_spec.specs.Entries.{Entry}
use Rattle.outcome_counts.proofs.Starts.{get-at}

-- of two cuts of a list at one place the elements are one
pub one-cut : (es front : List Entry) (entry : Entry) (rest front2 : List Entry) (entry2 : Entry) (rest2 : List Entry) → es ≡ front ++ entry ∷ rest → es ≡ front2 ++ entry2 ∷ rest2 → length front ≡ length front2 → entry ≡ entry2
one-cut es front entry rest front2 entry2 rest2 a b far =
    same_Some entry entry2
    (sym (get-at front entry rest) ∙ ap (λ (xs : List Entry). slice_get xs (length front)) (sym a ∙ b) ∙ ap (slice_get (front2 ++ entry2 ∷ rest2)) far ∙ get-at front2 entry2 rest2)
