-- How the calls within a run end.
use Rattle.std.specs.Prelude.{◌≡◌, ◌⊎◌, ℕ, List, Option}
use Rattle.std.specs.Io.KnownBytes.{Appends}
use Rattle.byte_ports.specs.Calls.{AppendsFront}
use Rattle.script_text.specs.declared.fault.ScriptFault.{ScriptFault}
use Rattle.script_text.specs.declared.fault.ScriptFault.TheVariants as script_fault
use Rattle.store_rounds.specs.Workloads.{GoesCutOff, GoesStopped, GoesToExport, GoesTooLong}
use Rattle.store_rounds.specs.Workloads.{GoesUnadded, GoesWhole, OfRounds}
use Rattle.workload_spec.specs.Grammar.{refused_text}
use Rattle.workload_spec.specs.declared.script.Script.{Script}
use Rattle.program.specs.declared.status.Status.{Status}
use Rattle.program.specs.declared.status.Status.TheVariants as status

-- How the rounds of a workload end, where `Goes asked ran added printed text` says that rounds of these
-- lines ran, as these rounds, of which the commits of these first ones may be in the log, so many of
-- which were printed, and had this text.
abbrev pub PlayEnds : OfRounds → Script → Status → Option (List ℕ) → Option (List ℕ) → Type 0
PlayEnds Goes script status.Done before now = GoesWhole Goes script before now
PlayEnds Goes script status.Usage before now = ⊥
PlayEnds Goes script status.Refused before now = ⊥
PlayEnds Goes script status.ReadFault before now = ⊥
PlayEnds Goes script status.OutFault before now = GoesCutOff Goes script before now
PlayEnds Goes script status.ExportFault before now = GoesToExport Goes script before now
PlayEnds Goes script status.Memory before now = GoesStopped Goes script before now
PlayEnds Goes script status.NotAStream before now = ⊥
PlayEnds Goes script status.TooLong before now = ⊥
PlayEnds Goes script status.LogFault before now = GoesUnadded Goes script before now
PlayEnds Goes script status.NotALog before now = ⊥
PlayEnds Goes script status.LogFull before now = ⊥
PlayEnds Goes script status.GroupTooLong before now = GoesTooLong Goes script before now

-- The line of a refusal is printed: the bad line and its cause. Want of memory is told by no line.
abbrev pub TellsFault : (Option (List ℕ) → Option (List ℕ) → List ℕ → Type 0) → ScriptFault
    → Option (List ℕ) → Option (List ℕ) → Type 0
TellsFault Prints (script_fault.Bad line cause) before now = Prints before now
    (refused_text (record { line = line; cause = cause }))
TellsFault Prints (script_fault.Memory refused) before now = ⊥

-- How the line of a refusal ends.
abbrev pub RefusalEnds : ScriptFault → Status → Option (List ℕ) → Option (List ℕ) → Type 0
RefusalEnds told status.Done before now = ⊥
RefusalEnds told status.Usage before now = ⊥
RefusalEnds told status.Refused before now = TellsFault Appends told before now
RefusalEnds told status.ReadFault before now = ⊥
RefusalEnds told status.OutFault before now = TellsFault AppendsFront told before now
RefusalEnds told status.ExportFault before now = ⊥
RefusalEnds told status.Memory before now = now ≡ before
RefusalEnds told status.NotAStream before now = ⊥
RefusalEnds told status.TooLong before now = ⊥
RefusalEnds told status.LogFault before now = ⊥
RefusalEnds told status.NotALog before now = ⊥
RefusalEnds told status.LogFull before now = ⊥
RefusalEnds told status.GroupTooLong before now = ⊥

-- How the printing of a text ends behind which the program ends so.
abbrev pub LineEnds : Status → List ℕ → Status → Option (List ℕ) → Option (List ℕ) → Type 0
LineEnds told text ended before now = ((ended ≡ told) × Appends before now text)
    ⊎ ((ended ≡ status.OutFault) × AppendsFront before now text)
    ⊎ ((ended ≡ status.Memory) × (now ≡ before))
