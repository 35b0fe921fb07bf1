use denote.Param.Send.{IsSend, arg_send, param_send, shr_send}
use denote.Param.SendFields.{as_row_send, declared_send}
use denote.Ref.{NamedLft}
use denote.Struct.Field.{shr_ref_field}
use Rattle.shared_store.proofs.Sharing.{store_shares}
use Rattle.shared_store.proofs.session.Session.TheSendSync.{the_field_send as session_sends}
use Rattle.shared_store.specs.contracts.session.Session.{the_field as session_field}
use Rattle.shared_store.specs.contracts.store.Store.{the_row as store_row}
use Rattle.store_rounds.proofs.duty.Duty.TheSendSync.{the_field_send as duty_sends}
use Rattle.store_rounds.specs.contracts.duty.Duty.{the_field as duty_field}
use Rattle.store_rounds.specs.contracts.errand.Errand.{the_row as errand_row, the_type as errand_type}
use Rattle.store_rounds.proofs.rounds.run_with_helpers.Goals as goal

-- An errand goes to another thread with its store's address, its session and its duty.
errand_sends : (κ : NamedLft) → IsSend (errand_row κ)
errand_sends κ = declared_send (errand_type κ) (
  as_row_send (shr_ref_field κ store_row tt) (shr_send κ.mir κ.lft store_row store_shares),
  (as_row_send session_field session_sends, (as_row_send duty_field duty_sends, tt)),
)

pub stand-requires-send-P : goal.stand-requires-send-P
stand-requires-send-P g c κs within = search (param_send, arg_send, errand_sends)
