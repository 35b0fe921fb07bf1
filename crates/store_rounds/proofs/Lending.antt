-- Sessions that have lent nothing, from call to call.
use Rattle.std.proofs.Common.{◌∙◌}
use Rattle.workload_spec.specs.declared.command.Command.{Command}
use Rattle.workload_spec.specs.declared.reply.Said.{Said}
use Rattle.shared_store.specs.Store.{Answers, IsSession, StoreView}
use Rattle.shared_store.specs.declared.session.Session.{Session}
use Rattle.store_rounds.specs.Sessions.{IsFreeSession}

-- a command that was carried out gave back what it lent
pub still_free : (store : StoreView) (old new : Session) (command : Command) (told : Said)
    → IsFreeSession store old → IsSession store new → Answers store old new command told → IsFreeSession store new
still_free store old new command told is session answers =
    record { stands = session; free = answers.reads.claim ∙ is.free }
