-- What a disk that tells nothing may leave: anything, as a torn write into an empty file may.
use Rattle.std.proofs.Common.{◌≡◌, ℕ, zero, suc, ◌+◌, List, [], ◌++◌, take, drop, refl, sym, ◌∙◌, ap, arith}
use Rattle.std.proofs.Common.{None, Result, Ok, Err}
use Rattle.disk_ports.specs.FileSteps.{Tears, Writes}
use Rattle.disk_ports.proofs.Laying.{drop_nothing}

abbrev no_bytes : List ℕ
no_bytes = []

take_nothing : (n : ℕ) → take n (no_bytes) ≡ no_bytes
take_nothing zero = refl
take_nothing (suc n) = refl

pub from_nothing : (at count : ℕ) (c : List ℕ) → (d : List ℕ) × Unit {0} × Tears at count d c
from_nothing at count c = (
  [],
  tt,
  record {
    any = [];
    past = c;
    size = omega arith;
    is = sym (ap (λ (l : List ℕ). l ++ (no_bytes ++ (drop (at + count) no_bytes ++ c))) (take_nothing at)
        ∙ ap (λ (l : List ℕ). l ++ c) (drop_nothing (at + count)));
  },
)

-- nothing is told of what was written
pub nothing_written : {T E : Type 0} → (result : Result T E) (at : ℕ) (piece : List ℕ)
    → Writes None None result at piece
nothing_written (Ok done) at piece = tt
nothing_written (Err fault) at piece = tt
