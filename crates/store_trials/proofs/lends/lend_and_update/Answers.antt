use denote.Exit.{no}
use denote.Param.{param}
use denote.Param.Send.{IsSend, IsSync, arg_send, mut_send, param_send, param_sync, recorded_send, shr_send, struct_send}
use denote.RattleType.{RattleType}
use denote.Struct.Declared.{shape}
use denote.Struct.Tuple.{TupleAt, field_at, type_at}
use mathlib.Core.List.{List, [], ◌∷◌}
use mir.Syntax.{Sym}
use Rattle.std.proofs.alloc.Global.TheSendSync.{the_sync as global_shares}
use Rattle.std.specs.contracts.alloc.Global.{the_row as global_row}
use Rattle.shared_store.proofs.Sharing.{store_shares}
use Rattle.shared_store.proofs.session.Session.TheSendSync.{the_send as session_sends}
use Rattle.shared_store.specs.contracts.session.Session.{the_row as session_row}
use Rattle.shared_store.specs.contracts.store.Store.{the_row as store_row}
use Rattle.store_trials.proofs.lends.lend_and_update.Goals as goal

-- What a closure captures goes to another thread, if each of its parts does.
captures_send : (ν : Sym) (A B C D E : RattleType) → IsSend A → IsSend B → IsSend C → IsSend D → IsSend E → IsSend (TupleAt ν (A ∷ B ∷ C ∷ D ∷ E ∷ []))
captures_send ν A B C D E a b c d e =
    let parts : List RattleType = A ∷ B ∷ C ∷ D ∷ E ∷ [] in
    recorded_send (field_at ν parts).row _ _ (type_at ν parts).to_one (struct_send (shape (type_at ν parts)) (a, (b, (c, (d, (e, tt))))))

-- The reader has the runtime, the allocator and the store's address, and two sessions.
pub join_mut-requires-send-F : goal.join_mut-requires-send-F
join_mut-requires-send-F g c κs within =
    let runtime_shares : IsSync (param 0 g.row.R) = param_sync 0 _ c.type_bounds.sync-R in
    param_send 1 _ (arg_send _ no _ (captures_send _ _ _ _ _ _
    (shr_send _ _ (param 0 g.row.R) runtime_shares)
    (shr_send _ _ global_row global_shares)
    (shr_send _ _ store_row store_shares)
    (mut_send _ _ session_row session_sends)
    (mut_send _ _ session_row session_sends)))
