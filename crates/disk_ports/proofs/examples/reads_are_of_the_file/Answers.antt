use Rattle.std.proofs.Common.{ℕ, List, length, get_or, refl, ap, lit≤, arith}
use Rattle.disk_ports.proofs.examples.reads_are_of_the_file.Goals as goal

pub returns : goal.returns
returns c = (
  record { within = lit≤ tt; bytes = refl; at_end = λ none. absurd (omega (arith, none)) },
  record { within = lit≤ tt; bytes = refl; at_end = λ none. lit≤ tt },
  (λ reads. absurd (omega (arith, ap (λ (l : List ℕ). get_or l 0 0) reads.bytes))),
  (λ reads. absurd (omega (arith, reads.at_end refl))),
  (λ reads. absurd (omega (arith, ap length reads.bytes))),
  (λ reads. absurd (omega (arith, reads.within))),
  (λ within. absurd (omega (arith, within))),
)
