-- What a line may say where a reply is due: the kind of reply is one of its command's, and its
-- numbers fit their widths.
use Rattle.std.specs.Prelude.{◌≡◌, ◌⊎◌, ℕ, ◌<◌, ◌^◌, ◌&&◌, true, false, List, [], ◌∷◌, length}
use Rattle.std.specs.Prelude.{Option, None, Some, pos, negsuc, ◌-◌}
use Rattle.cell_model.specs.declared.kind.Kind.TheVariants as kind
use Rattle.cell_model.specs.Values.{is_between, is_integer_of}
use Rattle.workload_spec.specs.declared.command.Command.{Command}
use Rattle.workload_spec.specs.declared.command.Command.TheVariants as command
use Rattle.workload_spec.specs.declared.reply.Said.{Said}
use Rattle.workload_spec.specs.declared.reply.Said.TheVariants as said
use Rattle.workload_spec.specs.declared.reply.StaleRead.{StaleRead}
use Rattle.workload_spec.specs.declared.reply.StaleRead.TheVariants as stale
use Rattle.outcome_spec.specs.Forms.{Due, is_worker, is_silent, may_be_silent}

-- what an update or a delete of a row of this table may be told
abbrev pub IsChangeReply : ℕ → Said → Type 0
IsChangeReply table said.Accepted = Unit {0}
IsChangeReply table said.Missing = Unit {0}
IsChangeReply table said.Memory = Unit {0}
IsChangeReply table (said.Freezing of block stamp) = (of ≡ table) × (block < 2 ^ 32)
    × (stamp < 2 ^ 32)
IsChangeReply table (said.ConflictSession session) = session < 2 ^ 32
IsChangeReply table (said.ConflictCommit number) = number < 2 ^ 64
IsChangeReply table _ = ⊥

abbrev pub IsInsertReply : Said → Type 0
IsInsertReply said.Accepted = Unit {0}
IsInsertReply said.Exists = Unit {0}
IsInsertReply said.Full = Unit {0}
IsInsertReply said.Memory = Unit {0}
IsInsertReply (said.ConflictSession session) = session < 2 ^ 32
IsInsertReply (said.ConflictCommit number) = number < 2 ^ 64
IsInsertReply _ = ⊥

abbrev pub IsGetReply : Said → Type 0
IsGetReply (said.Found row) = Unit {0}
IsGetReply said.Absent = Unit {0}
IsGetReply said.Memory = Unit {0}
IsGetReply _ = ⊥

abbrev pub IsScanReply : Said → Type 0
IsScanReply (said.Scanned rows) = length rows < 2 ^ 64
IsScanReply said.Memory = Unit {0}
IsScanReply _ = ⊥

-- the keys of a stale read are of 64 bits
abbrev pub IsStaleRead : StaleRead → Type 0
IsStaleRead (stale.Key table key) = is_integer_of kind.I64 key ≡ true
IsStaleRead (stale.Table table) = Unit {0}
IsStaleRead (stale.Range table low high) = (is_integer_of kind.I64 low ≡ true)
    × (is_integer_of kind.I64 high ≡ true)

abbrev pub IsCommitReply : Said → Type 0
IsCommitReply (said.Committed None) = Unit {0}
IsCommitReply (said.Committed (Some number)) = number < 2 ^ 64
IsCommitReply (said.Stale what number) = IsStaleRead what × (number < 2 ^ 64)
IsCommitReply _ = ⊥

abbrev pub IsTotalReply : Said → Type 0
IsTotalReply (said.Totalled count sum) = (count < 2 ^ 64)
    × (is_between (negsuc (2 ^ 127 - 1)) (pos (2 ^ 127 - 1)) sum ≡ true)
IsTotalReply said.Memory = Unit {0}
IsTotalReply _ = ⊥

abbrev pub IsExportReply : Said → Type 0
IsExportReply (said.Exported number rows batches frozen) = (number < 2 ^ 64) × (rows < 2 ^ 64)
    × (batches < 2 ^ 32) × (frozen < 2 ^ 32)
IsExportReply (said.Dirty key) = is_integer_of kind.I64 key ≡ true
IsExportReply said.Memory = Unit {0}
IsExportReply _ = ⊥

abbrev pub IsObserveReply : Said → Type 0
IsObserveReply (said.Cooling count) = count < 2 ^ 64
IsObserveReply _ = ⊥

abbrev pub IsPruneReply : Said → Type 0
IsPruneReply (said.Pruned count) = count < 2 ^ 64
IsPruneReply _ = ⊥

abbrev pub IsCompactReply : Said → Type 0
IsCompactReply (said.Moved count) = count < 2 ^ 64
IsCompactReply said.Memory = Unit {0}
IsCompactReply _ = ⊥

abbrev pub IsSealReply : ℕ → ℕ → Said → Type 0
IsSealReply table block (said.Sealed of at stamp) = (of ≡ table) × (at ≡ block) × (stamp < 2 ^ 32)
IsSealReply table block (said.NotSealed cause) = Unit {0}
IsSealReply table block _ = ⊥

abbrev pub IsGatherReply : ℕ → ℕ → Said → Type 0
IsGatherReply table block (said.Frozen of at rows) = (of ≡ table) × (at ≡ block) × (rows < 2 ^ 32)
IsGatherReply table block said.NotFrozen = Unit {0}
IsGatherReply table block said.Memory = Unit {0}
IsGatherReply table block _ = ⊥

-- what may be told in a transaction, and to upkeep
abbrev pub IsReplyWithin : Command → Said → Type 0
IsReplyWithin (command.Begin checked) told = told ≡ said.InTransaction
IsReplyWithin (command.Get table key) told = IsGetReply told
IsReplyWithin (command.Scan table) told = IsScanReply told
IsReplyWithin (command.Range table low high) told = IsScanReply told
IsReplyWithin (command.Total table column low high) told = IsTotalReply told
IsReplyWithin (command.Insert table row) told = IsInsertReply told
IsReplyWithin (command.Update table row) told = IsChangeReply table told
IsReplyWithin (command.Delete table key) told = IsChangeReply table told
IsReplyWithin command.Commit told = IsCommitReply told
IsReplyWithin command.Abort told = told ≡ said.Aborted
IsReplyWithin command.Observe told = IsObserveReply told
IsReplyWithin command.Prune told = IsPruneReply told
IsReplyWithin (command.Compact table) told = IsCompactReply told
IsReplyWithin (command.Seal table block) told = IsSealReply table block told
IsReplyWithin (command.Gather table block) told = IsGatherReply table block told
IsReplyWithin (command.Export table) told = IsExportReply told

-- a transaction begins, with this snapshot
abbrev pub IsBeginReply : Said → Type 0
IsBeginReply (said.At number) = number < 2 ^ 64
IsBeginReply _ = ⊥

-- what may be told without one
abbrev pub IsReplyWithout : Command → Said → Type 0
IsReplyWithout (command.Begin checked) told = IsBeginReply told
IsReplyWithout (command.Get table key) told = told ≡ said.NoTransaction
IsReplyWithout (command.Scan table) told = told ≡ said.NoTransaction
IsReplyWithout (command.Range table low high) told = told ≡ said.NoTransaction
IsReplyWithout (command.Total table column low high) told = told ≡ said.NoTransaction
IsReplyWithout (command.Insert table row) told = told ≡ said.NoTransaction
IsReplyWithout (command.Update table row) told = told ≡ said.NoTransaction
IsReplyWithout (command.Delete table key) told = told ≡ said.NoTransaction
IsReplyWithout command.Commit told = told ≡ said.NoTransaction
IsReplyWithout command.Abort told = told ≡ said.NoTransaction
IsReplyWithout command.Observe told = ⊥
IsReplyWithout command.Prune told = ⊥
IsReplyWithout (command.Compact table) told = ⊥
IsReplyWithout (command.Seal table block) told = ⊥
IsReplyWithout (command.Gather table block) told = ⊥
IsReplyWithout (command.Export table) told = told ≡ said.NoTransaction

-- The reply may stand in some state of its session; whether it stands in the right one, the machine
-- says.
abbrev pub MayStand : Command → Said → Type 0
MayStand asked told = IsReplyWithin asked told ⊎ IsReplyWithout asked told

-- What is due is answered so: by a reply that may stand there, or in silence, which is a worker's
-- seal or gather that does nothing.
abbrev pub MayAnswer : Due → Option Said → Type 0
MayAnswer due None = may_be_silent due ≡ true
MayAnswer due (Some told) = MayStand due.command told
    × ((is_worker due.who && is_silent told) ≡ false)

-- each due is, and there are as many answers
abbrev pub AllMayStand : List Due → List (Option Said) → Type 0
AllMayStand [] [] = Unit {0}
AllMayStand [] (told ∷ answers) = ⊥
AllMayStand (due ∷ dues) [] = ⊥
AllMayStand (due ∷ dues) (told ∷ answers) = MayAnswer due told × AllMayStand dues answers
