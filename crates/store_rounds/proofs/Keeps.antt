-- What calls keep of their sessions' reads, one behind the other.
use Rattle.std.proofs.Common.{◌≡◌, List, [], ◌∷◌, ◌++◌, Option, Some, refl, sym, subst, true}
use Rattle.std.specs.Option.{option_map_or}
use Rattle.run_spec.specs.Calls.{Call, Kept, line_to, reads_behind, reads_now}
use Rattle.shared_store.specs.Reads.{ReadSet}
use Rattle.workload_spec.specs.declared.command.Command.{Command}
use Rattle.workload_spec.specs.declared.reply.Said.{Said}
use Rattle.workload_spec.specs.declared.reply.Said.TheVariants as said
use Rattle.store_rounds.specs.Worked.{KeptAlong}

-- calls behind calls
pub along_on : (before : Option ReadSet) (xs : List Call) (between : Option ReadSet) (ys : List Call) (after : Option ReadSet)
    → KeptAlong before xs between → KeptAlong between ys after → KeptAlong before (xs ++ ys) after
along_on before [] between ys after first then = subst (λ reads. KeptAlong reads ys after) first then
along_on before (call ∷ xs) between ys after first then = (first.0, along_on (reads_now before call) xs between ys after first.1 then)

-- one call
pub along_one : (before after : Option ReadSet) (call : Call) → call.reads ≡ before → after ≡ reads_now before call → KeptAlong before (call ∷ []) after
along_one before after call same now = (same, now)

-- what is read behind them by another name
pub along_as : (before : Option ReadSet) (calls : List Call) (after later : Option ReadSet) → later ≡ after → KeptAlong before calls after → KeptAlong before calls later
along_as before calls after later same along = subst (KeptAlong before calls) (sym same) along

-- such calls keep what was read
pub along_keeps : (before : Option ReadSet) (calls : List Call) (after : Option ReadSet) → KeptAlong before calls after → Kept before calls
along_keeps before [] after along = tt
along_keeps before (call ∷ calls) after along = (along.0, along_keeps (reads_now before call) calls after along.1)

-- a line that a worker is not told tells no read
pub silent_reads : (reads : Option ReadSet) (command : Command) (told : Said)
    → option_map_or (reads_behind reads command) (line_to true (Some told)) reads ≡ reads_behind reads command told
silent_reads reads command (said.At number) = refl
silent_reads reads command said.InTransaction = refl
silent_reads reads command said.NoTransaction = refl
silent_reads reads command (said.Found row) = refl
silent_reads reads command said.Absent = refl
silent_reads reads command (said.Scanned rows) = refl
silent_reads reads command (said.Totalled count sum) = refl
silent_reads reads command said.Accepted = refl
silent_reads reads command (said.ConflictSession session) = refl
silent_reads reads command (said.ConflictCommit number) = refl
silent_reads reads command said.Exists = refl
silent_reads reads command said.Missing = refl
silent_reads reads command said.Full = refl
silent_reads reads command (said.Freezing table block stamp) = refl
silent_reads reads command (said.Committed number) = refl
silent_reads reads command (said.Stale what number) = refl
silent_reads reads command said.Aborted = refl
silent_reads reads command (said.Cooling count) = refl
silent_reads reads command (said.Pruned count) = refl
silent_reads reads command (said.Moved count) = refl
silent_reads reads command (said.Sealed table block stamp) = refl
silent_reads reads command (said.NotSealed because) = refl
silent_reads reads command (said.Frozen table block rows) = refl
silent_reads reads command said.NotFrozen = refl
silent_reads reads command (said.Exported number rows batches frozen) = refl
silent_reads reads command (said.Dirty key) = refl
silent_reads reads command said.Memory = refl
