-- What an export leaves of its writer.
use Rattle.std.specs.Prelude.{◌≡◌, ℕ, Bool, true, false, Result, Ok, Err}
use Rattle.byte_ports.specs.Calls.{Rose}
use Rattle.ipc_write.specs.Calls.{WriterView}
use Rattle.ipc_write.specs.declared.faults.PieceFault.{PieceFault}
use Rattle.ipc_write.specs.declared.faults.PieceFault.TheVariants as piece
use Rattle.store_export.specs.declared.exporting.ExportFault.{ExportFault}
use Rattle.store_export.specs.declared.exporting.ExportFault.TheVariants as fault

-- No call of the sink has failed, neither of this export nor before: its count of faults is as it
-- was.
pub record NoneFailed {W : Type 0} (faults : W → ℕ) (old new : WriterView W) : Type 0 where
  pub before : old.failed ≡ false
  pub after : new.failed ≡ false
  pub kept : faults new.sink ≡ faults old.sink

-- The writer had failed before: it is as it was.
pub record FailedBefore {W : Type 0} (old new : WriterView W) : Type 0 where
  pub failed : old.failed ≡ true
  pub same : new ≡ old

-- A call of the sink failed in this export, the first of the writer's, and the count of faults
-- rose.
pub record FailedNow {W : Type 0} (faults : W → ℕ) (old new : WriterView W) : Type 0 where
  pub before : old.failed ≡ false
  pub after : new.failed ≡ true
  pub rose : Rose (faults old.sink) (faults new.sink)

-- The fault of a sink says which it was.
abbrev pub SinkFailed : {W : Type 0} → (W → ℕ) → WriterView W → WriterView W → Bool → Type 0
SinkFailed faults old new true = FailedBefore old new
SinkFailed faults old new false = FailedNow faults old new

-- By the answer of an export.
abbrev pub LeavesWriter :
    {W T : Type 0} → (W → ℕ) → WriterView W → WriterView W → Result T ExportFault → Type 0
LeavesWriter faults old new (Ok summary) = NoneFailed faults old new
LeavesWriter faults old new (Err (fault.Dirty key)) = new ≡ old
LeavesWriter faults old new (Err (fault.Sink failed)) = SinkFailed faults old new failed.earlier
LeavesWriter faults old new (Err fault.Memory) = NoneFailed faults old new

-- the same of a part of it
abbrev pub LeavesByPiece :
    {W T : Type 0} → (W → ℕ) → WriterView W → WriterView W → Result T PieceFault → Type 0
LeavesByPiece faults old new (Ok sent) = NoneFailed faults old new
LeavesByPiece faults old new (Err (piece.Sink failed)) = SinkFailed faults old new failed.earlier
LeavesByPiece faults old new (Err (piece.Memory refused)) = NoneFailed faults old new
