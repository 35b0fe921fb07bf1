-- What a reader answers, beside the definition that it follows.
use Rattle.std.specs.Prelude.{◌≡◌, ℕ, Result, Ok, Err}
use Rattle.workload_spec.specs.declared.script.Cause.{Cause}
use Rattle.workload_spec.specs.Grammar.{Fault}
use Rattle.script_text.specs.declared.fault.WordFault.{WordFault}
use Rattle.script_text.specs.declared.fault.WordFault.TheVariants as word
use Rattle.script_text.specs.declared.fault.ScriptFault.{ScriptFault}
use Rattle.script_text.specs.declared.fault.ScriptFault.TheVariants as script

-- The fault is the one that the definition gives, or memory was refused.
abbrev pub Fails : {Y : Type 0} → WordFault → Result Y Cause → Type 0
Fails (word.Bad cause) read = read ≡ Err cause
Fails (word.Memory refused) read = Unit {0}

-- What was read, seen by `view`, is what the definition gives, unless memory was refused.
abbrev pub Gives : {X Y : Type 0} → (X → Y) → Result X WordFault → Result Y Cause → Type 0
Gives view (Ok value) read = read ≡ Ok (view value)
Gives view (Err fault) read = Fails fault read

-- the same of lines
abbrev pub LineFails : {Y : Type 0} → ScriptFault → Result Y Fault → Type 0
LineFails (script.Bad line cause) read = read ≡ Err (record { line = line; cause = cause })
LineFails (script.Memory refused) read = Unit {0}

abbrev pub LineGives : {X Y : Type 0} → (X → Y) → Result X ScriptFault → Result Y Fault → Type 0
LineGives view (Ok value) read = read ≡ Ok (view value)
LineGives view (Err fault) read = LineFails fault read

-- a line's fault, from that of its words
abbrev pub fault_on_line : ℕ → WordFault → ScriptFault
fault_on_line line (word.Bad cause) = script.Bad line cause
fault_on_line line (word.Memory refused) = script.Memory refused

-- The answer names a bad line, and then this holds.
abbrev pub OnBad : {X : Type 0} → Result X ScriptFault → Type 0 → Type 0
OnBad (Ok value) fact = Unit {0}
OnBad (Err (script.Bad line cause)) fact = fact
OnBad (Err (script.Memory refused)) fact = Unit {0}
