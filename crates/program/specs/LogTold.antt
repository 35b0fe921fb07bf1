-- How the telling of a log ends.
use Rattle.std.specs.Prelude.{◌≡◌, ℕ, List, Option}
use Rattle.std.specs.Io.KnownBytes.{Appends}
use Rattle.byte_ports.specs.Calls.{AppendsFront}
use Rattle.cell_model.specs.declared.table.TableDecl.{TableDecl}
use Rattle.commit_log.specs.declared.reading.LogEnd.{LogEnd}
use Rattle.commit_log.specs.declared.reading.LogEnd.TheVariants as log_end
use Rattle.program.specs.Outcome.{IsStartedWith, MayBeStarted, OfDisk, PrintsLog}
use Rattle.program.specs.declared.status.Status.{Status}
use Rattle.program.specs.declared.status.Status.TheVariants as status

-- What is printed of the log at a path, for these tables, by the status.
abbrev pub LogToldEnds : List TableDecl → List ℕ → OfDisk → Status → Option (List ℕ)
    → Option (List ℕ) → Type 0
LogToldEnds tables path disk status.Done before now = IsStartedWith path disk
    × (gate : ℕ) × PrintsLog Appends tables disk.file (log_end.Closed gate) before now
LogToldEnds tables path disk status.Usage before now = ⊥
LogToldEnds tables path disk status.Refused before now = ⊥
LogToldEnds tables path disk status.ReadFault before now = ⊥
LogToldEnds tables path disk status.OutFault before now = IsStartedWith path disk
    × (end : LogEnd) × PrintsLog AppendsFront tables disk.file end before now
LogToldEnds tables path disk status.ExportFault before now = ⊥
LogToldEnds tables path disk status.Memory before now = MayBeStarted path disk × (now ≡ before)
LogToldEnds tables path disk status.NotAStream before now = ⊥
LogToldEnds tables path disk status.TooLong before now = ⊥
LogToldEnds tables path disk status.LogFault before now = MayBeStarted path disk × (now ≡ before)
LogToldEnds tables path disk status.NotALog before now = IsStartedWith path disk
    × (place : ℕ) × PrintsLog Appends tables disk.file (log_end.Broken place) before now
LogToldEnds tables path disk status.LogFull before now = ⊥
LogToldEnds tables path disk status.GroupTooLong before now = ⊥
