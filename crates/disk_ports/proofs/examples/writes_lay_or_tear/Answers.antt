use Rattle.std.proofs.Common.{◌≡◌, ℕ, List, [], ◌∷◌, ◌++◌, get_or, refl, ◌∙◌, ap, lit≤, arith}
use Rattle.std.proofs.lemmas.List.{nil_from_length}
use Rattle.disk_ports.specs.FileSteps.{Lays}
use Rattle.disk_ports.proofs.examples.writes_lay_or_tear.Goals as goal

just_the_piece : ¬ Lays 1 (9 ∷ []) (1 ∷ 2 ∷ []) (1 ∷ 7 ∷ [])
just_the_piece laid =
    let none : laid.gap ≡ [] = nil_from_length laid.gap laid.size in
    let same : 1 ∷ 7 ∷ [] ≡ 1 ∷ 9 ∷ [] = laid.is ∙ ap (λ (l : List ℕ). 1 ∷ (l ++ (9 ∷ []))) none in
    absurd (omega (arith, ap (λ (l : List ℕ). get_or l 1 0) same))

pub returns : goal.returns
returns c = (
  just_the_piece,
  record { tears = record { any = 7 ∷ []; past = []; size = refl; is = refl }; within = lit≤ tt },
  tt,
  (λ none. none),
  (λ none. none),
)
