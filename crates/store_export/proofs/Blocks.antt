-- A block that was read and sent.
use Rattle.std.proofs.Common.{◌≡◌, ℕ, ◌+◌, ◌*◌, ◌-◌, ◌≤◌, ◌^◌, false, List, [], ◌∷◌, Option, Result, Ok, Err, refl, sym, subst, arith}
use Rattle.std.specs.Prelude.{IfOk, count_by}
use Rattle.cell_model.specs.declared.column.Column.{Column}
use Rattle.std.specs.declared.alloc.AllocError.{AllocError}
use Rattle.event_spec.specs.declared.own.OwnTransaction.{OwnTransaction}
use Rattle.event_spec.specs.declared.reply.Reply.TheVariants as reply
use Rattle.event_spec.specs.Parts.{slots_of}
use Rattle.event_spec.specs.Replay.{columns_in}
use Rattle.ipc_write.specs.Calls.{MakesPiece, WriterView}
use Rattle.ipc_write.specs.declared.faults.PieceFault.{PieceFault}
use Rattle.ipc_write.specs.declared.faults.PieceFault.TheVariants.{Memory}
use Rattle.run_spec.specs.Told.{is_shared}
use Rattle.shared_store.specs.Reading.{ReadsBlock, most_seen, reply_of, rows_in}
use Rattle.shared_store.specs.Store.{IsFree, StoreView, shape_in}
use Rattle.shared_store.specs.declared.reading.SeenBlock.{SeenBlock}
use Rattle.shared_store.specs.declared.reading.SeenBlock.TheVariants as block
use Rattle.shared_store.specs.declared.session.Session.{Session}
use Rattle.store_export.specs.Exports.{SendsBlock, counted, reply_in}
use Rattle.store_export.specs.Groups.{group_message}
use Rattle.store_export.specs.declared.sent.Sent.{Sent}

-- ---- a read, and its message

-- A statement that holds anyway holds of what a result gives.
if_ok : {T E : Type 0} (P : Type 0) (r : Result T E) → P → IfOk r (λ done. P)
if_ok P (Ok done) p = p
if_ok P (Err fault) p = tt

-- Where no block was frozen, steps within all slots are within the bound.
full_steps : (spent steps slots none' : ℕ) → none' ≡ 0 → steps ≤ spent + slots → steps ≤ spent + slots * (1 - none')
full_steps spent steps slots none' is few =
    let one : slots * (1 - 0) ≡ slots = omega arith in
    subst (λ n. steps ≤ spent + slots * (1 - n)) (sym is) (omega (arith, few, one))

-- Who takes no step more stays within any bound of steps more.
no_steps : (spent steps more : ℕ) → steps ≤ spent + 0 → steps ≤ spent + more
no_steps spent steps more few = omega (arith, few)

module _ {W : Type 0} (store : StoreView) (old new : Session) (own : OwnTransaction) (t at : ℕ) (written : W → Option (List ℕ)) (faults : W → ℕ) (spent steps : ℕ) (few : slots_of (shape_in store) t ≤ 2 ^ 15) where
  -- what was seen was written, or could not be
  pub block_sent : (E : Type 0) (before now : WriterView W) (read : SeenBlock) (columns : List Column) (result : Result Sent PieceFault) → columns ≡ columns_in (shape_in store) t
      → ReadsBlock store old new own t at (reply_of {E = E} (Ok read)) × IsFree new → steps ≤ spent + most_seen {E = E} (shape_in store) t (Ok read)
      → MakesPiece written faults before now (group_message columns (rows_in read)) result → IfOk result (λ sent. sent ≡ counted (reply_in read ∷ []))
      → SendsBlock store old new own t at written faults before now spent steps result
  block_sent E before now (block.Rows rows) columns result same reads took writes counts = record {
    told = reply.Rows rows;
    reads = reads.0;
    free = reads.1;
    writes = subst (λ (cs : List Column). MakesPiece written faults before now (group_message cs rows) result) same writes;
    granted = if_ok (false ≡ false) result refl;
    counts = counts;
    few = full_steps spent steps (slots_of (shape_in store) t) (count_by is_shared (reply.Rows rows ∷ [])) refl took;
    slots = few;
  }
  block_sent E before now (block.Lent lend) columns result same reads took writes counts = record {
    told = reply.Shared lend.rows;
    reads = reads.0;
    free = reads.1;
    writes = subst (λ (cs : List Column). MakesPiece written faults before now (group_message cs lend.rows) result) same writes;
    granted = if_ok (false ≡ false) result refl;
    counts = counts;
    few = no_steps spent steps (slots_of (shape_in store) t * (1 - count_by is_shared (reply.Shared lend.rows ∷ []))) took;
    slots = few;
  }

  -- there was no memory for the read
  pub block_unread : (writer : WriterView W) (refused : AllocError) → writer.failed ≡ false → ReadsBlock store old new own t at reply.Memory → IsFree new → steps ≤ spent + slots_of (shape_in store) t
      → SendsBlock store old new own t at written faults writer writer spent steps (Err (Memory refused))
  block_unread writer refused fresh reads free took = record {
    told = reply.Memory;
    reads = reads;
    free = free;
    writes = (fresh, refl);
    granted = tt;
    counts = tt;
    few = full_steps spent steps (slots_of (shape_in store) t) (count_by is_shared (reply.Memory ∷ [])) refl took;
    slots = few;
  }
