-- Checks one after another: the first that fails gives the answer.
use Rattle.std.specs.Prelude.{Bool, true, false, Option, None, Some, Result, Ok, Err}

-- what is read, and then what is read with it; the first failure stands
infixl 10 ◌>>=◌
abbrev pub ◌>>=◌ : {A B E : Type 0} → Result A E → (A → Result B E) → Result B E
(Ok value) >>= next = next value
(Err fault) >>= next = Err fault

-- the rule holds, or the fault
abbrev pub rule : {E : Type 0} → E → Bool → Result (Unit {0}) E
rule fault true = Ok tt
rule fault false = Err fault

-- the value that is there, or the fault
abbrev pub or_fault : {A E : Type 0} → E → Option A → Result A E
or_fault fault None = Err fault
or_fault fault (Some value) = Ok value

-- a failure in the words of those above
abbrev pub fault_as : {A D E : Type 0} → (D → E) → Result A D → Result A E
fault_as as' (Ok value) = Ok value
fault_as as' (Err fault) = Err (as' fault)
