-- The lines that the calls' answers make.
use mathlib.Core.Logic.{◌⊎◌}
use Rattle.std.specs.Prelude.{◌≡◌, ℕ, List, Option, None, Some, Result, Ok, Err}
use Rattle.block_spec.specs.declared.phase.SealFault.{SealFault}
use Rattle.block_spec.specs.Slots.{Row}
use Rattle.event_spec.specs.declared.reply.Reply.TheVariants as reply
use Rattle.event_spec.specs.Replies.{CoreReply}
use Rattle.lane_filter.specs.declared.total.Total.{Total}
use Rattle.run_spec.specs.Told.{cause_told, fault_told, row_told, stale_of}
use Rattle.workload_spec.specs.declared.reply.Said.{Said}
use Rattle.workload_spec.specs.declared.reply.Said.TheVariants as said
use Rattle.shared_store.specs.declared.faults.Stale.{Stale}
use Rattle.shared_store.specs.declared.faults.StoreFault.{StoreFault}
use Rattle.shared_store.specs.declared.faults.StoreFault.TheVariants as fault

abbrev pub begun_told : {E : Type 0} → Result ℕ E → Said
begun_told (Ok number) = said.At number
begun_told (Err busy) = said.InTransaction

abbrev pub committed_told : Result (Option ℕ) Stale → Said
committed_told (Ok number) = said.Committed number
committed_told (Err stale) = said.Stale (stale_of stale.read) stale.number

abbrev pub found_told : {E : Type 0} → Result (Option Row) E → Said
found_told (Ok row) = row_told row
found_told (Err memory) = said.Memory

-- the reply behind that answer
abbrev pub found_replied : {E : Type 0} → Result (Option Row) E → CoreReply
found_replied (Ok row) = reply.Found row
found_replied (Err memory) = reply.Memory

-- A get's event replies what it found, or that there was no memory.
abbrev pub IsFoundReply : CoreReply → Type 0
IsFoundReply told = (told ≡ reply.Memory) ⊎ ((row : Option Row) × (told ≡ reply.Found row))

-- A range's event replies the rows that it found, or that there was no memory.
abbrev pub IsRowsReply : CoreReply → Type 0
IsRowsReply told = (told ≡ reply.Memory) ⊎ ((rows : List Row) × (told ≡ reply.Rows rows))

abbrev pub scanned_told : {E : Type 0} → Result (List Row) E → Said
scanned_told (Ok rows) = said.Scanned rows
scanned_told (Err memory) = said.Memory

abbrev pub totalled_told : {E : Type 0} → Result Total E → Said
totalled_told (Ok total) = said.Totalled total.count total.sum
totalled_told (Err memory) = said.Memory

abbrev pub store_fault_told : ℕ → StoreFault → Said
store_fault_told table (fault.Write refused) = fault_told table refused
store_fault_told table fault.Memory = said.Memory

abbrev pub written_told : {X : Type 0} → ℕ → Result X StoreFault → Said
written_told table (Ok done) = said.Accepted
written_told table (Err refused) = store_fault_told table refused

abbrev pub compacted_told : {E : Type 0} → Result ℕ E → Said
compacted_told (Ok count) = said.Moved count
compacted_told (Err memory) = said.Memory

abbrev pub sealed_told : ℕ → ℕ → Result ℕ SealFault → Said
sealed_told table block (Ok stamp) = said.Sealed table block stamp
sealed_told table block (Err because) = said.NotSealed (cause_told because)

abbrev pub gathered_told : {E : Type 0} → ℕ → ℕ → Result (Option ℕ) E → Said
gathered_told table block (Ok None) = said.NotFrozen
gathered_told table block (Ok (Some rows)) = said.Frozen table block rows
gathered_told table block (Err memory) = said.Memory
