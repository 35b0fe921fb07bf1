-- What is answered of an output.
use Rattle.std.specs.Prelude.{◌≡◌, ℕ, Option, None, Some, Result, Ok, Err}
use Rattle.output_read.specs.declared.fault.ReadFault.{ReadFault}
use Rattle.output_read.specs.declared.fault.ReadFault.TheVariants as read
use Rattle.outcome_judge.specs.declared.fault.ExplainFault.{ExplainFault}
use Rattle.outcome_judge.specs.declared.fault.ExplainFault.TheVariants as fault

-- An output that fails at no line is explained, one that fails at a line is not, at that line; or
-- memory was refused.
abbrev pub Explains : {U : Type 0} → Option ℕ → Result U ExplainFault → Type 0
Explains failing (Ok nothing) = failing ≡ None
Explains failing (Err (fault.NotExplained line)) = failing ≡ Some line
Explains failing (Err (fault.Memory refused)) = Unit {0}

-- an output that is not read at a line is not explained at that line
abbrev pub fault_of : ReadFault → ExplainFault
fault_of (read.Line line) = fault.NotExplained line
fault_of (read.Memory refused) = fault.Memory refused
