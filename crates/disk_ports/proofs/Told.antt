-- What is told of a file.
use Rattle.std.proofs.Common.{◌≡◌, List, ℕ, Option, None, Some, refl, subst}
use Rattle.disk_ports.specs.FileSteps.{OnFiles}

-- a step of a file that is told leads to one that is told
pub on_some : (Step : List ℕ → List ℕ → Type 0) (before now : Option (List ℕ)) (file : List ℕ)
    → before ≡ Some file → OnFiles Step before now
    → (new : List ℕ) × (now ≡ Some new) × Step file new
on_some Step before None file is step = absurd (subst (λ b. OnFiles Step b None) is step)
on_some Step before (Some new) file is step =
    (new, refl, subst (λ b. OnFiles Step b (Some new)) is step)
