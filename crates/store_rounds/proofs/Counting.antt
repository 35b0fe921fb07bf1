-- What an export by a writer of its own counts of its outlet's faults.
use Rattle.std.proofs.Common.{◌≡◌, ℕ, Bool, true, false, Result, Ok, Err, ap, sym, ◌∙◌}
use Rattle.byte_ports.specs.Calls.{Rose}
use Rattle.ipc_write.specs.Calls.{WriterView}
use Rattle.store_export.specs.Writers.{LeavesWriter, SinkFailed}
use Rattle.store_export.specs.declared.exporting.ExportFault.{ExportFault}
use Rattle.store_export.specs.declared.exporting.ExportFault.TheVariants as fault
use Rattle.store_rounds.specs.Answered.{CountsFaults}

-- a writer that had not failed tells the fault of a call of its sink only where the count rose
pub counts_of_new : {W T : Type 0} (faults : W → ℕ) (old new : WriterView W) (result : Result T ExportFault)
    → old.failed ≡ false → LeavesWriter faults old new result → CountsFaults result (faults old.sink) (faults new.sink)
counts_of_new faults old new (Ok summary) fresh leaves = leaves.kept
counts_of_new faults old new (Err (fault.Dirty key)) fresh leaves = ap (λ w. faults w.sink) leaves
counts_of_new faults old new (Err (fault.Sink failed)) fresh leaves = go failed.earlier leaves
  where
    go : (earlier : Bool) → SinkFailed faults old new earlier → Rose (faults old.sink) (faults new.sink)
    go true before = let both : true ≡ false = sym before.failed ∙ fresh in absurd (let no : ⊥ = cc in no)
    go false now = now.rose
counts_of_new faults old new (Err fault.Memory) fresh leaves = leaves.kept
