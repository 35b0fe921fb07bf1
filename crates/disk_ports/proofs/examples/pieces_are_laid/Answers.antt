use Rattle.std.proofs.Common.{◌≡◌, ℕ, List, [], ◌∷◌, ◌++◌, length, get_or, refl, ◌∙◌, ap, arith, length-append}
use Rattle.std.proofs.lemmas.List.{nil_from_length}
use Rattle.disk_ports.specs.FileSteps.{Lays}
use Rattle.disk_ports.proofs.examples.pieces_are_laid.Goals as goal

behind_stays : ¬ Lays 1 (9 ∷ []) (1 ∷ 2 ∷ 3 ∷ []) (1 ∷ 9 ∷ 4 ∷ [])
behind_stays laid =
    let none : laid.gap ≡ [] = nil_from_length laid.gap laid.size in
    let same : 1 ∷ 9 ∷ 4 ∷ [] ≡ 1 ∷ 9 ∷ 3 ∷ [] = laid.is ∙ ap (λ (l : List ℕ). 1 ∷ (l ++ (9 ∷ 3 ∷ []))) none in
    absurd (omega (arith, ap (λ (l : List ℕ). get_or l 2 0) same))

gap_is_full : ¬ Lays 3 (9 ∷ []) (1 ∷ []) (1 ∷ 5 ∷ 9 ∷ [])
gap_is_full laid = absurd (omega (arith, laid.size, ap length laid.is, length-append laid.gap (9 ∷ [])))

pub returns : goal.returns
returns c = (
  record { gap = []; size = refl; is = refl },
  record { gap = 5 ∷ 6 ∷ []; size = refl; is = refl },
  (λ laid. absurd (omega (arith, ap (λ (l : List ℕ). get_or l 0 0) laid.is))),
  behind_stays,
  gap_is_full,
)
