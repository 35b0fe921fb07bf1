use Rattle.core_laws.proofs.Slots.Patches.{patched_new, patched_old}
use Rattle.core_laws.proofs.slot_laws.an_update_is_undone.Goals as goal

pub returns : goal.returns
returns c = λ old new same. record { put = patched_new old new same; undone = patched_old old new same }
