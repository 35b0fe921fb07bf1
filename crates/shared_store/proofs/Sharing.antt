-- Threads may share a store.
use denote.Builtin.{u32, u64}
use denote.RattleType.{RattleType}
use denote.Param.Send.{IsSend, IsSync, view_sync, sendable, part_keyless}
use denote.Param.SendFields.{FieldsHave, as_row_sync, declared_sync}
use denote.Struct.Field.{u32-field}
use Rattle.std.specs.contracts.snapshot.Snapshot.{the_row as snapshot_row}
use Rattle.std.specs.contracts.alloc.Global.{the_row as global_row}
use Rattle.std.proofs.alloc.Global.TheSendSync.{the_sync as global_shares}
use Rattle.std.proofs.vec.Vec.TheSendSync.{the_sync as vec_shares}
use Rattle.std.specs.contracts.impls.GlobalAllocator.TheImpl.{ghosts as global_ghosts}
use Rattle.block_body.proofs.body.Body.TheSendSync.{the_send as body_sends}
use Rattle.block_body.specs.contracts.body.Body.{the_row as body_row}
use Rattle.block_body.specs.contracts.look.Look.{the_row as look_row}
use Rattle.cell_model.proofs.table.TableDecl.TheSendSync.{the_sync as table_shares}
use Rattle.cell_model.specs.contracts.table.TableDecl.{the_row as table_row}
use Rattle.core_parts.below.range_index.proofs.Ordered.TheSendSync.{the_send as ordered_sends}
use Rattle.core_parts.below.range_index.specs.contracts.Ordered.{the_row as ordered_row}
use Rattle.core_parts.proofs.head_changes.TableHead.TheSendSync.{the_send as head_sends}
use Rattle.core_parts.proofs.kept.Kept.TheSendSync.{the_send as kept_sends}
use Rattle.core_parts.specs.contracts.head_changes.TableHead.{the_row as head_row}
use Rattle.core_parts.specs.contracts.kept.Kept.{the_row as kept_row}
use Rattle.core_parts.specs.contracts.keyed.KeyedEvent.{the_row as event_row}
use Rattle.core_parts.specs.contracts.read_rows.ReadRows.{the_row as read_row}
use Rattle.core_parts.specs.contracts.shape.Shape.{the_row as shape_row}
use Rattle.core_parts.specs.contracts.shape.Shape.TheInside.{the_type as shape_type}
use Rattle.core_parts.specs.contracts.shared_rows.SharedRows.{the_row as shared_row}
use Rattle.engine_core.specs.contracts.engine.Core.{the_row as core_row}
use Rattle.engine_core.specs.contracts.engine.CoreParts.TheImpl.{ghosts as core_ghosts}
use Rattle.engine_core.specs.contracts.engine.Opened.{the_row as opened_row}
use Rattle.event_spec.proofs.part.Part.TheSendSync.{the_send as part_sends}
use Rattle.event_spec.specs.contracts.part.Part.{the_row as part_row}
use Rattle.event_spec.specs.contracts.reply.Reply.{the_row as reply_row}
use Rattle.hall_steps.proofs.hall.Hall.TheSendSync.{the_sync as hall_shares}
use Rattle.isolation_spec.specs.contracts.history.History.{the_row as history_row}
use Rattle.txn_desk.proofs.Desk.TheSendSync.{the_send as desk_sends}
use Rattle.txn_desk.specs.contracts.Desk.{the_row as desk_row}
use Rattle.shared_store.specs.contracts.store.Store.{the_row}
use Rattle.shared_store.specs.contracts.store.Store.TheInside.{the_type}

-- A snapshot owns nothing, so any thread may have it.
snapshot_sends : (Y : RattleType) → IsSend (snapshot_row Y)
snapshot_sends Y = record { owned = λ d vs. ((λ vss. (tt, ((λ uss. (tt, tt)), tt))), tt); leaving = λ k f vs. tt }

snapshot_shares : (Y : RattleType) → IsSync (snapshot_row Y)
snapshot_shares Y = record { shared = λ d b o κ q. part_keyless (snapshot_row Y) (snapshot_sends Y) q d b o }

number_shares : IsSync u32
number_shares = search sendable

shape_fields : FieldsHave IsSync shape_type.parts
shape_fields = (
  global_shares,
  (
    vec_shares table_row global_row global_ghosts table_shares global_shares,
    (
      as_row_sync u32-field number_shares,
      (snapshot_shares history_row, (vec_shares u32 global_row global_ghosts number_shares global_shares, (as_row_sync u32-field number_shares, tt))),
    ),
  ),
)

shape_shares : IsSync shape_row
shape_shares = view_sync _ _ _ _ _ (declared_sync shape_type shape_fields)

-- A part may go to another thread.
parts_are_sent : IsSend (part_row (kept_row head_row) (kept_row ordered_row) (kept_row body_row) (kept_row desk_row))
parts_are_sent = part_sends (kept_row head_row) (kept_row ordered_row) (kept_row body_row) (kept_row desk_row)
    (kept_sends head_row head_sends) (kept_sends ordered_row ordered_sends) (kept_sends body_row body_sends) (kept_sends desk_row desk_sends)

fields : FieldsHave IsSync the_type.parts
fields = (
  hall_shares core_row (part_row (kept_row head_row) (kept_row ordered_row) (kept_row body_row) (kept_row desk_row)) event_row (reply_row read_row shared_row look_row)
      shape_row opened_row u64 core_ghosts parts_are_sent shape_shares,
  tt,
)

pub store_shares : IsSync the_row
store_shares = view_sync _ _ _ _ _ (declared_sync the_type fields)
