-- When a number is read, and from which bytes.
use Rattle.std.proofs.Common.{◌≡◌, ℕ, ◌+◌, ◌≤◌, Bool, cond, List, length, take, drop, Result, Ok, sym, ap, ◌∙◌, arith}
use Rattle.std.proofs.lemmas.Bool.{le-leb}
use Rattle.byteorder.specs.Endian.{little_number}
use Rattle.byteorder.specs.Numbers.{little_from-take}
use Rattle.flat_read.specs.Reading.{fault_at, within, number_from, number_at}
use Rattle.flat_read.specs.declared.FlatFault.{FlatFault}

-- the bytes reach as far as asked
pub within-held : {A : Type 0} (bytes : List ℕ) (place need : ℕ) (answer : Result A FlatFault) → place + need ≤ length bytes → within bytes place need answer ≡ answer
within-held {A} bytes place need answer h =
    ap (λ (b : Bool). cond b answer (fault_at {A = A} place need)) (le-leb (place + need) (length bytes) h)

-- a number is read from its own bytes alone
pub number_from-piece : (bytes : List ℕ) (place width : ℕ) → little_number width (take width (drop place bytes)) ≡ number_from bytes place width
number_from-piece bytes place width = little_from-take 0 width width (drop place bytes) (omega arith)

-- a number is read where the bytes reach as far as its end
pub number_at-held : (bytes : List ℕ) (place width value : ℕ) → place + width ≤ length bytes → value ≡ number_from bytes place width → Ok value ≡ number_at bytes place width
number_at-held bytes place width value held is =
    let answer : ℕ → Result ℕ FlatFault = λ (n : ℕ). Ok n in
    ap answer is ∙ sym (within-held bytes place width (answer (number_from bytes place width)) held)
