-- How the input of a run is read.
use Rattle.std.proofs.Common.{◌≡◌, ℕ, ◌^◌, ◌<◌, Option, List, length, refl, subst, Err, inl, inr}
use Rattle.std.specs.Prelude.{IfOk, Ok, Result}
use Rattle.std.specs.Io.KnownBytes.{Appends, Consumes, IsAtEnd}
use Rattle.byte_ports.specs.Calls.{AppendsFront}
use Rattle.script_text.specs.Answers.{LineFails, LineGives}
use Rattle.script_text.specs.declared.fault.ScriptFault.{ScriptFault}
use Rattle.script_text.specs.declared.fault.ScriptFault.TheVariants as fault
use Rattle.workload_laws.proofs.OneGrammar.{read_is_text}
use Rattle.workload_spec.specs.declared.script.Script.{Script}
use Rattle.workload_spec.specs.Grammar.{script_of}
use Rattle.workload_spec.specs.ScriptText.{script_text}
use Rattle.workload_spec.specs.Valid.{IsWritten}
use Rattle.program.specs.Outcome.{IsLeft, IsRefused, IsWorkload, OfDisk, Outside, Reads, RunEnds, ScriptEnds, outside}
use Rattle.program.specs.Played.{RefusalEnds, TellsFault}
use Rattle.program.specs.declared.status.Status.{Status}
use Rattle.program.specs.declared.status.Status.TheVariants as status

-- ---- what is read

-- bytes are the text of the workload that they are read as
pub text_is : (bytes : List ℕ) (script : Script) → IsWorkload bytes script → script_text script ≡ bytes
text_is bytes script read = (read_is_text bytes script read).0

-- what bytes are read as is a workload as it is written
pub read_written : (bytes : List ℕ) (script : Script) → IsWorkload bytes script → IsWritten script
read_written bytes script read = (read_is_text bytes script read).1

-- so is what was read of them
pub written_read : (bytes : List ℕ) (read : Result Script ScriptFault) → LineGives (λ script. script) read (script_of bytes) → IfOk read IsWritten
written_read bytes (Ok script) gives = read_written bytes script gives
written_read bytes (Err bad) gives = tt

-- a fault that is told is a bad line, the first of the bytes, which are refused
pub told_fault : (Prints : Option (List ℕ) → Option (List ℕ) → List ℕ → Type 0) (bad : ScriptFault) (bytes : List ℕ) (left_old left_new printed_old printed_new exported : Option (List ℕ)) (started : Option (List (List ℕ)))
    → Consumes left_old left_new bytes → IsAtEnd left_new → length bytes < 2 ^ 32 → LineFails bad (script_of bytes) → TellsFault Prints bad printed_old printed_new
    → IsRefused Prints (outside left_old printed_old exported started) (outside left_new printed_new exported started)
told_fault Prints (fault.Bad line cause) bytes left_old left_new printed_old printed_new exported started consumes ended short first printed = record {
  bytes = bytes;
  input = record { read = consumes; ended = ended; short = short };
  fault = record { line = line; cause = cause };
  first = first;
  printed = printed;
  outlet = record { exported = refl; started = refl };
}
told_fault Prints (fault.Memory refused) bytes left_old left_new printed_old printed_new exported started consumes ended short first printed = absurd printed

-- how a run ends whose input was refused, which leaves the disk alone
pub refusal_ends : (path log : Option (List ℕ)) (disk : OfDisk) → IsLeft disk → (ended : Status) (bad : ScriptFault) (bytes : List ℕ) (left_old left_new printed_old printed_new exported : Option (List ℕ)) (started : Option (List (List ℕ)))
    → Consumes left_old left_new bytes → IsAtEnd left_new → length bytes < 2 ^ 32
    → LineFails bad (script_of bytes) → RefusalEnds bad ended printed_old printed_new
    → RunEnds path log disk ended (outside left_old printed_old exported started) (outside left_new printed_new exported started)
refusal_ends path log disk left status.Refused bad bytes left_old left_new printed_old printed_new exported started consumes ended short first told =
    (left, told_fault Appends bad bytes left_old left_new printed_old printed_new exported started consumes ended short first told)
refusal_ends path log disk left status.OutFault bad bytes left_old left_new printed_old printed_new exported started consumes ended short first told =
    inl (left, told_fault AppendsFront bad bytes left_old left_new printed_old printed_new exported started consumes ended short first told)
refusal_ends path log disk left status.Memory bad bytes left_old left_new printed_old printed_new exported started consumes ended short first told =
    inl (left, record { printed = told; outlet = record { exported = refl; started = refl } })
refusal_ends path log disk left _ bad bytes left_old left_new printed_old printed_new exported started consumes ended short first told = absurd told

-- how a run ends whose input is a workload
pub run_ends : (path log : Option (List ℕ)) (disk : OfDisk) (ended : Status) (script : Script) (before now : Outside)
    → Reads script before now → ScriptEnds path log disk script ended before now → RunEnds path log disk ended before now
run_ends path log disk status.Done script before now input end = (script, input, end)
run_ends path log disk status.OutFault script before now input end = inr (script, input, end)
run_ends path log disk status.ExportFault script before now input end = (script, input, end)
run_ends path log disk status.Memory script before now input end = inr (script, input, end)
run_ends path log disk status.LogFault script before now input end = (script, input, end)
run_ends path log disk status.NotALog script before now input end = (script, input, end)
run_ends path log disk status.LogFull script before now input end = (script, input, end)
run_ends path log disk status.GroupTooLong script before now input end = (script, input, end)
run_ends path log disk _ script before now input end = absurd end

-- no run ends with a fault of the reading behind it
pub not_read_fault : (path log : Option (List ℕ)) (disk : OfDisk) (ended : Status) (script : Script) (before now : Outside)
    → ScriptEnds path log disk script ended before now → ended ≡ status.ReadFault → ⊥
not_read_fault path log disk ended script before now end is = subst (λ (e : Status). ScriptEnds path log disk script e before now) is end
