-- How the telling of a log ends.
use Rattle.std.proofs.Common.{◌≡◌, ℕ, ◌^◌, ◌<◌, List, Option, length, refl, subst, inl, inr}
use Rattle.std.specs.Io.KnownBytes.{Appends, Consumes, IsAtEnd}
use Rattle.std.specs.Option.{ForSome}
use Rattle.byte_ports.specs.Calls.{AppendsFront}
use Rattle.cell_model.specs.declared.table.TableDecl.{TableDecl}
use Rattle.commit_log.specs.Readings.{ReadsAs}
use Rattle.commit_log.specs.declared.reading.LogEnd.{LogEnd}
use Rattle.commit_log.specs.declared.reading.LogEnd.TheVariants as log_end
use Rattle.isolation_spec.specs.Commits.{AreCommitsOf}
use Rattle.isolation_spec.specs.Contents.{History}
use Rattle.log_text.specs.Lines.{log_text}
use Rattle.script_text.specs.Answers.{LineFails}
use Rattle.script_text.specs.declared.fault.ScriptFault.{ScriptFault}
use Rattle.workload_spec.specs.Grammar.{script_of}
use Rattle.workload_spec.specs.declared.script.Script.{Script}
use Rattle.program.specs.LogTold.{LogToldEnds}
use Rattle.program.specs.Outcome.{IsStartedWith, IsUnstarted, LeavesOutlet, LogEnds, OfDisk, Outside}
use Rattle.program.specs.Outcome.{PrintsLog, Reads, broken_at, outside}
use Rattle.program.specs.Played.{RefusalEnds}
use Rattle.program.specs.declared.status.Status.{Status}
use Rattle.program.specs.declared.status.Status.TheVariants as status
use Rattle.program.proofs.Scripts.{told_fault}

-- ---- what was read is printed

module _ (tables : List TableDecl) (path : List ℕ) (disk : OfDisk) (commits : History)
    (end : LogEnd) (started : IsStartedWith path disk) (fit : AreCommitsOf tables commits)
    (read : ForSome disk.file (λ bytes. ReadsAs tables bytes commits end))
    (text : List ℕ) (text_is : text ≡ log_text tables commits (broken_at end))
    (before now : Option (List ℕ)) where
  prints : (Prints : Option (List ℕ) → Option (List ℕ) → List ℕ → Type 0)
      → Prints before now text → PrintsLog Prints tables disk.file end before now
  prints Prints printed = record {
    commits = commits;
    fit = fit;
    read = read;
    printed = subst (Prints before now) text_is printed;
  }

  pub told_whole : (gate : ℕ) → end ≡ log_end.Closed gate → Appends before now text
      → LogToldEnds tables path disk status.Done before now
  told_whole gate is printed = (
    started,
    gate,
    subst (λ e. PrintsLog Appends tables disk.file e before now) is (prints Appends printed),
  )

  pub told_broken : (place : ℕ) → end ≡ log_end.Broken place → Appends before now text
      → LogToldEnds tables path disk status.NotALog before now
  told_broken place is printed = (
    started,
    place,
    subst (λ e. PrintsLog Appends tables disk.file e before now) is (prints Appends printed),
  )

  pub told_in_part : AppendsFront before now text
      → LogToldEnds tables path disk status.OutFault before now
  told_in_part printed = (started, end, prints AppendsFront printed)

-- ---- behind the input

-- how the program ends whose input is a workload
pub log_ends : (path : List ℕ) (disk : OfDisk) (ended : Status) (script : Script)
    (before now : Outside)
    → Reads script before now → LeavesOutlet before now
    → LogToldEnds script.tables path disk ended before.printed now.printed
    → LogEnds path disk ended before now
log_ends path disk status.Done script before now reads outlet told = (
  told.1,
  record { script = script; reads = reads; started = told.0; told = told.2; outlet = outlet },
)
log_ends path disk status.OutFault script before now reads outlet told = inr (
  told.1,
  record { script = script; reads = reads; started = told.0; told = told.2; outlet = outlet },
)
log_ends path disk status.Memory script before now reads outlet told =
    (told.0, record { printed = told.1; outlet = outlet })
log_ends path disk status.LogFault script before now reads outlet told =
    (script, reads, told.0, record { printed = told.1; outlet = outlet })
log_ends path disk status.NotALog script before now reads outlet told = (
  told.1,
  record { script = script; reads = reads; started = told.0; told = told.2; outlet = outlet },
)
log_ends path disk _ script before now reads outlet told = absurd told

-- how it ends whose input was refused
pub refused_log_ends : (path : List ℕ) (disk : OfDisk) → IsUnstarted disk → (ended : Status)
    (bad : ScriptFault) (bytes : List ℕ)
    (left_old left_new printed_old printed_new exported : Option (List ℕ))
    (started : Option (List (List ℕ)))
    → Consumes left_old left_new bytes → IsAtEnd left_new → length bytes < 2 ^ 32
    → LineFails bad (script_of bytes) → RefusalEnds bad ended printed_old printed_new
    → LogEnds path disk ended (outside left_old printed_old exported started)
    (outside left_new printed_new exported started)
refused_log_ends path disk none status.Refused bad bytes left_old left_new printed_old printed_new exported started consumes end short first told = (
  none,
  told_fault Appends bad bytes left_old left_new printed_old printed_new exported started consumes
      end short first told,
)
refused_log_ends path disk none status.OutFault bad bytes left_old left_new printed_old printed_new exported started consumes end short first told = inl (
  none,
  told_fault AppendsFront bad bytes left_old left_new printed_old printed_new exported started
      consumes end short first told,
)
refused_log_ends path disk none status.Memory bad bytes left_old left_new printed_old printed_new exported started consumes end short first told =
    (inl none, record { printed = told; outlet = record { exported = refl; started = refl } })
refused_log_ends path disk none _ bad bytes left_old left_new printed_old printed_new exported started consumes end short first told =
    absurd told
