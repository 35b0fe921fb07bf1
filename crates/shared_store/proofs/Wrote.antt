-- A write of a row: that it may be made, what it tells, and what its transaction wrote behind it.
use Rattle.std.proofs.Common.{◌≡◌, ◌⊎◌, ℕ, Bool, true, false, [], ◌∷◌, Option, None, Some, Result, Ok, Err, option_map, is_none, refl, sym, ap, subst, ◌∙◌, true≢false}
use mathlib.Core.Logic.{inl, inr}
use Rattle.std.specs.Prelude.{IfSome, slice_get}
use Rattle.std.specs.Option.{option_map_or}
use Rattle.block_spec.specs.Slots.{Row}
use Rattle.cell_model.specs.declared.row.RowFault.{RowFault}
use Rattle.cell_model.specs.declared.table.TableDecl.{TableDecl}
use Rattle.cell_model.specs.Rows.{Fits, fits, row_fault}
use Rattle.event_spec.specs.declared.own.OwnTransaction.{OwnTransaction}
use Rattle.event_spec.specs.declared.reply.Reply.TheVariants as reply
use Rattle.event_spec.specs.declared.reply.WriteFault.{WriteFault}
use Rattle.event_spec.specs.Lawful.{FitsTable, HasTable}
use Rattle.event_spec.specs.Parts.{Shape}
use Rattle.event_spec.specs.Replies.{CoreReply, reply_to_write}
use Rattle.core_laws.proofs.Frames.Looks.{within}
use Rattle.isolation_spec.specs.Contents.{PlaceMap}
use Rattle.isolation_spec.specs.declared.place.Place.{Place}
use Rattle.run_spec.specs.Calls.{is_memory, may_lack_memory}
use Rattle.run_spec.specs.Opened.{with_own}
use Rattle.run_spec.specs.Told.{line_of, told_by}
use Rattle.store_laws.specs.Laws.{TellsLine}
use Rattle.txn_desk.specs.declared.Snapshot.{Snapshot}
use Rattle.workload_spec.specs.Valid.{fits_table}
use Rattle.workload_spec.specs.declared.command.Command.{Command}
use Rattle.workload_spec.specs.declared.reply.Said.{Said}
use Rattle.workload_spec.specs.declared.reply.Said.TheVariants as said
use Rattle.shared_store.specs.Store.{opened_at}
use Rattle.shared_store.specs.Writing.{IsWriteReply, settled}
use Rattle.shared_store.proofs.Made.{memory_is}

-- a row that fits its table, as the events ask for it
pub fits_there : (shape : Shape) (table : ℕ) (row : Row) → fits_table shape.tables table row ≡ true → HasTable shape table × FitsTable shape table row
fits_there shape table row is = go (slice_get shape.tables table) refl is
  where
    no_fault : (o : Option RowFault) → is_none o ≡ true → o ≡ None
    no_fault None h = refl
    no_fault (Some fault) h = absurd (true≢false (sym h))

    go : (o : Option TableDecl) → slice_get shape.tables table ≡ o → option_map_or (λ (t : TableDecl). fits t.schema row) o false ≡ true
        → HasTable shape table × FitsTable shape table row
    go None at h = absurd (true≢false (sym h))
    go (Some decl) at h = (
      within shape.tables table decl at,
      subst (λ (o : Option TableDecl). IfSome o (λ decl. Fits decl.schema row)) (sym at) (no_fault (row_fault decl.schema row) h),
    )

-- a write replies as one
pub writes_reply : (told : CoreReply) (judged : Result ℕ WriteFault) → (told ≡ reply.Memory) ⊎ (told ≡ reply_to_write judged) → IsWriteReply told
writes_reply told judged (inl is) = subst IsWriteReply (sym is) tt
writes_reply told (Ok slot) (inr is) = subst IsWriteReply (sym is) tt
writes_reply told (Err fault) (inr is) = subst IsWriteReply (sym is) tt

-- a reply of which no slot was written settles nothing
pub settled_else : (writes : PlaceMap ℕ) (place : Place) (told : CoreReply) → ((slot : ℕ) → told ≡ reply.Written slot → ⊥) → settled writes place told ≡ writes
settled_else writes place (reply.Written slot) other = absurd (other slot refl)
settled_else writes place (reply.Begun begun) other = refl
settled_else writes place (reply.Found row) other = refl
settled_else writes place (reply.Refused fault) other = refl
settled_else writes place (reply.Rows rows) other = refl
settled_else writes place (reply.Shared rows) other = refl
settled_else writes place (reply.Committed number) other = refl
settled_else writes place (reply.Stale what number) other = refl
settled_else writes place reply.Aborted other = refl
settled_else writes place (reply.Oldest stamp) other = refl
settled_else writes place (reply.Turned turned) other = refl
settled_else writes place (reply.Dropped count) other = refl
settled_else writes place (reply.Looked look) other = refl
settled_else writes place (reply.Moved count) other = refl
settled_else writes place (reply.Sealed stamp) other = refl
settled_else writes place (reply.NotSealed fault) other = refl
settled_else writes place (reply.Imaged rows) other = refl
settled_else writes place reply.NoSeal other = refl
settled_else writes place reply.Thawed other = refl
settled_else writes place reply.Memory other = refl

-- A write settled among those kept is what the reply makes of the open transaction.
own_settled : (session : ℕ) (writes : PlaceMap ℕ) (snapshot : Snapshot) (place : Place) (told : CoreReply)
    → opened_at session (settled writes place told) snapshot ≡ with_own place told (opened_at session writes snapshot)
own_settled session writes snapshot place (reply.Begun begun) = refl
own_settled session writes snapshot place (reply.Found row) = refl
own_settled session writes snapshot place (reply.Written slot) = refl
own_settled session writes snapshot place (reply.Refused fault) = refl
own_settled session writes snapshot place (reply.Rows rows) = refl
own_settled session writes snapshot place (reply.Shared rows) = refl
own_settled session writes snapshot place (reply.Committed number) = refl
own_settled session writes snapshot place (reply.Stale what number) = refl
own_settled session writes snapshot place reply.Aborted = refl
own_settled session writes snapshot place (reply.Oldest stamp) = refl
own_settled session writes snapshot place (reply.Turned turned) = refl
own_settled session writes snapshot place (reply.Dropped count) = refl
own_settled session writes snapshot place (reply.Looked look) = refl
own_settled session writes snapshot place (reply.Moved count) = refl
own_settled session writes snapshot place (reply.Sealed stamp) = refl
own_settled session writes snapshot place (reply.NotSealed fault) = refl
own_settled session writes snapshot place (reply.Imaged rows) = refl
own_settled session writes snapshot place reply.NoSeal = refl
own_settled session writes snapshot place reply.Thawed = refl
own_settled session writes snapshot place reply.Memory = refl

-- what is open behind a write
pub settled_own : (session : ℕ) (writes later : PlaceMap ℕ) (place : Place) (told : CoreReply) (snapshot : Option Snapshot) → later ≡ settled writes place told
    → option_map (opened_at session later) snapshot ≡ option_map (with_own place told) (option_map (opened_at session writes) snapshot)
settled_own session writes later place told None is = refl
settled_own session writes later place told (Some snapshot) is =
    ap (λ w. Some (opened_at session w snapshot)) is ∙ ap (λ (o : OwnTransaction). Some o) (own_settled session writes snapshot place told)

-- a write tells what its reply says
pub tells_write : (own : Option OwnTransaction) (c : Command) (table : ℕ) (told : CoreReply) (line : Said) → may_lack_memory c ≡ true
    → line_of own c (told ∷ []) ≡ told_by table 0 told → told_by table 0 told ≡ Some line → TellsLine own c told line
tells_write own c table told line may same is = go (is_memory told) refl
  where
    some_is : (a b : Said) → Some a ≡ Some b → a ≡ b
    some_is a b x = cc

    go : (b : Bool) → is_memory told ≡ b → Rattle.std.specs.Prelude.MatchBool b ((may_lack_memory c ≡ true) × (line ≡ said.Memory)) (line_of own c (told ∷ []) ≡ Some line)
    go true memory = (may, some_is line said.Memory (sym is ∙ ap (told_by table 0) (memory_is told memory)))
    go false memory = same ∙ is
