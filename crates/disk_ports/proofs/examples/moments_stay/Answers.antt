use Rattle.std.proofs.Common.{ℕ, List, [], ◌∷◌, get_or, refl, ap, lit≤, arith}
use Rattle.disk_ports.proofs.examples.moments_stay.Goals as goal

pub returns : goal.returns
returns c elapses = absurd (omega (arith, ap (λ (l : List ℕ). get_or l 0 0) (elapses.keeps 0 (1 ∷ []) (lit≤ tt) refl)))
