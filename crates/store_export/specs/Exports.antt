-- What the export of a table tells and sends, and what it costs.
use Rattle.std.specs.Prelude.{◌≡◌, ℕ, ◌+◌, ◌*◌, ◌-◌, ◌≤◌, ◌^◌, List, [], ◌∷◌, false, count_by}
use Rattle.std.specs.Prelude.{flat_map, length, Option, Result, Ok, Err, IfOk}
use Rattle.std.specs.Io.KnownBytes.{Appends}
use Rattle.event_spec.specs.declared.own.OwnTransaction.{OwnTransaction}
use Rattle.event_spec.specs.declared.reply.Reply.TheVariants as reply
use Rattle.event_spec.specs.Parts.{blocks_of, slots_of}
use Rattle.event_spec.specs.Replay.{columns_in}
use Rattle.event_spec.specs.Replies.{CoreReply}
use Rattle.export_spec.specs.Calls.{SendsAs}
use Rattle.ipc_write.specs.Calls.{MakesPiece, WriterView}
use Rattle.ipc_write.specs.declared.faults.PieceFault.{PieceFault}
use Rattle.run_spec.specs.Calls.{is_memory}
use Rattle.run_spec.specs.Occurrences.{replies_in}
use Rattle.run_spec.specs.Told.{is_shared, is_some_row, rows_told}
use Rattle.shared_store.specs.Reading.{ReadsBlock}
use Rattle.shared_store.specs.Store.{Answers, IsFree, IsSession, StoreView, own_of, shape_in}
use Rattle.shared_store.specs.declared.reading.SeenBlock.{SeenBlock}
use Rattle.shared_store.specs.declared.reading.SeenBlock.TheVariants as block
use Rattle.shared_store.specs.declared.session.Session.{Session}
use Rattle.workload_spec.specs.declared.command.Command.TheVariants as command
use Rattle.workload_spec.specs.declared.reply.Said.{Said}
use Rattle.workload_spec.specs.declared.reply.Said.TheVariants as said
use Rattle.store_export.specs.Groups.{group_message}
use Rattle.store_export.specs.declared.exporting.ExportFault.{ExportFault}
use Rattle.store_export.specs.declared.exporting.ExportFault.TheVariants as fault
use Rattle.store_export.specs.declared.exporting.Summary.{Summary}
use Rattle.store_export.specs.declared.sent.Sent.{Sent}

-- ---- what is told

-- The line of an export. A sink's fault is told as want of memory.
abbrev pub exported_told : Result Summary ExportFault → Said
exported_told (Ok summary) =
    said.Exported summary.number summary.rows summary.batches summary.frozen
exported_told (Err (fault.Dirty key)) = said.Dirty key
exported_told (Err (fault.Sink failed)) = said.Memory
exported_told (Err fault.Memory) = said.Memory

-- ---- what is sent

-- the reply that a block was seen by: a lend tells what a read would
abbrev pub reply_in : SeenBlock → CoreReply
reply_in (block.Rows rows) = reply.Rows rows
reply_in (block.Lent lend) = reply.Shared lend.rows

-- the rows of some reads, the blocks with a row, and the blocks that were lent
abbrev pub counted : List CoreReply → Sent
counted replies = record {
  rows = length (flat_map rows_told replies);
  batches = count_by (λ told. is_some_row (rows_told told)) replies;
  frozen = count_by is_shared replies;
}

-- A block was read, and the message of its rows was written. No row of a frozen one was looked at,
-- and nothing is lent behind it.
pub record SendsBlock
    {W : Type 0} (store : StoreView) (old new : Session) (own : OwnTransaction) (table at : ℕ)
    (written : W → Option (List ℕ)) (faults : W → ℕ) (before now : WriterView W)
    (spent steps : ℕ) (result : Result Sent PieceFault)
    : Type 0 where
  pub told : CoreReply
  pub reads : ReadsBlock store old new own table at told
  pub free : IsFree new
  pub writes : MakesPiece written faults before now
      (group_message (columns_in (shape_in store) table) (rows_told told))
      result
  pub granted : IfOk result (λ sent. is_memory told ≡ false)
  pub counts : IfOk result (λ sent. sent ≡ counted (told ∷ []))
  pub few : steps ≤ spent + slots_of (shape_in store) table * (1 - count_by is_shared (told ∷ []))
  pub slots : slots_of (shape_in store) table ≤ 2 ^ 15

-- The session carried out an export that tells this line, and sent what it says.
pub record Exports
    (store : StoreView) (old new : Session) (table : ℕ) (told : Said)
    (before now : Option (List ℕ))
    : Type 0 where
  pub session : IsSession store new
  pub same : new.session ≡ old.session
  pub opened : own_of new ≡ own_of old
  pub answers : Answers store old new (command.Export table) told
  pub bytes : List ℕ
  pub sent : Appends before now bytes
  pub sends : SendsAs
      (columns_in (shape_in store) table)
      (blocks_of (shape_in store) table)
      answers.made
      told
      bytes

-- It did so by these steps: it looked at no row of a block that was frozen when it was read.
pub record ExportsCounted
    (store : StoreView) (old new : Session) (table : ℕ) (told : Said)
    (before now : Option (List ℕ)) (spent steps : ℕ)
    : Type 0 where
  pub exports : Exports store old new table told before now
  pub few : steps ≤ spent
      + slots_of (shape_in store) table
      * (blocks_of (shape_in store) table - count_by is_shared (replies_in exports.answers.made))

-- the line of an export that was not refused
abbrev pub sent_told : OwnTransaction → Result Sent PieceFault → Said
sent_told own (Ok sent) = said.Exported own.snapshot.number sent.rows sent.batches sent.frozen
sent_told own (Err failed) = said.Memory
