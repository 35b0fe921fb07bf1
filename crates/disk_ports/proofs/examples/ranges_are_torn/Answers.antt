use Rattle.std.proofs.Common.{◌≡◌, ℕ, List, [], ◌∷◌, length, drop, get_or, refl, ◌∙◌, ap, lit≤, arith, length-append}
use Rattle.std.proofs.lemmas.List.{drop_at}
use Rattle.disk_ports.specs.FileSteps.{Tears}
use Rattle.disk_ports.proofs.examples.ranges_are_torn.Goals as goal

behind_stays : ¬ Tears 1 2 (1 ∷ 2 ∷ 3 ∷ 4 ∷ []) (1 ∷ 2 ∷ 3 ∷ 9 ∷ [])
behind_stays torn =
    let same : 9 ∷ [] ≡ 4 ∷ torn.past = ap (λ (l : List ℕ). drop 3 l) torn.is ∙ drop_at torn.any (4 ∷ torn.past) 2 torn.size in
    absurd (omega (arith, ap (λ (l : List ℕ). get_or l 0 0) same))

none_is_lost : ¬ Tears 1 2 (1 ∷ 2 ∷ 3 ∷ 4 ∷ []) (1 ∷ 2 ∷ 4 ∷ [])
none_is_lost torn = absurd (omega (arith, torn.size, ap length torn.is, length-append torn.any (4 ∷ torn.past)))

pub returns : goal.returns
returns c = (
  record { any = 7 ∷ 8 ∷ []; past = 5 ∷ []; size = refl; is = refl },
  record { tears = record { any = 9 ∷ []; past = 8 ∷ []; size = refl; is = refl }; within = lit≤ tt },
  (λ torn. absurd (omega (arith, ap (λ (l : List ℕ). get_or l 0 0) torn.is))),
  behind_stays,
  none_is_lost,
  (λ torn. absurd (omega (arith, torn.within))),
)
