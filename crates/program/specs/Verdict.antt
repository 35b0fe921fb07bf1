-- How the telling of a verdict ends.
use Rattle.std.specs.Prelude.{◌≡◌, ℕ, List, Option}
use Rattle.std.specs.Io.KnownBytes.{Appends}
use Rattle.byte_ports.specs.Calls.{AppendsFront}
use Rattle.outcome_spec.specs.Explained.{failing_line}
use Rattle.workload_spec.specs.declared.script.Script.{Script}
use Rattle.program.specs.Outcome.{verdict_text}
use Rattle.program.specs.declared.status.Status.{Status}
use Rattle.program.specs.declared.status.Status.TheVariants as status

-- What is printed of the verdict on an output, by the status.
abbrev pub VerdictEnds : Script → List ℕ → Status → Option (List ℕ) → Option (List ℕ) → Type 0
VerdictEnds script output status.Done before now = Appends before now
    (verdict_text (failing_line script output))
VerdictEnds script output status.Usage before now = ⊥
VerdictEnds script output status.Refused before now = ⊥
VerdictEnds script output status.ReadFault before now = ⊥
VerdictEnds script output status.OutFault before now = AppendsFront before now
    (verdict_text (failing_line script output))
VerdictEnds script output status.ExportFault before now = ⊥
VerdictEnds script output status.Memory before now = now ≡ before
VerdictEnds script output status.NotAStream before now = ⊥
VerdictEnds script output status.TooLong before now = ⊥
VerdictEnds script output status.LogFault before now = ⊥
VerdictEnds script output status.NotALog before now = ⊥
VerdictEnds script output status.LogFull before now = ⊥
VerdictEnds script output status.GroupTooLong before now = ⊥
