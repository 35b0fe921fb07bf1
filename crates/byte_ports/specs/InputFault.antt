-- Why an input was not read to its end.
use Rattle.std.specs.Prelude.{◌≡◌, ℕ, List, Result, Ok, Err, codes}
use Rattle.byte_ports.specs.Calls.{Rose}
use Rattle.byte_ports.specs.declared.whole.InputFault.{InputFault}
use Rattle.byte_ports.specs.declared.whole.InputFault.TheVariants.{TooLong, Failed, Memory}

-- the text that a fault of an input is printed as
abbrev pub input_fault_text : InputFault → List ℕ
input_fault_text TooLong = codes "the input is too long"
input_fault_text Failed = codes "reading failed"
input_fault_text Memory = codes "out of memory"

-- the count of faults rose where a call of the source failed, and else is as before
abbrev pub CountsFault : {T : Type 0} → ℕ → ℕ → Result T InputFault → Type 0
CountsFault before now (Ok bytes) = now ≡ before
CountsFault before now (Err TooLong) = now ≡ before
CountsFault before now (Err Failed) = Rose before now
CountsFault before now (Err Memory) = now ≡ before
