use Rattle.std.proofs.Common.{◌≡◌, List, subst}
use Rattle.std.specs.Prelude.{IfOk}
use Rattle.arrow_spec.specs.Batches.{Array, batch_of_arrays}
use Rattle.arrow_spec.specs.Streams.{message_of}
use Rattle.ipc_message.specs.Messages.{bytes_of}
use Rattle.ipc_message.proofs.messages.array_message.Goals as goal

pub returns : goal.returns
returns c =
    subst
    (λ (arrays : List Array). IfOk c.make_message.result (λ message. bytes_of message ≡ message_of c.args.id (batch_of_arrays c.args.rows arrays)))
    c.in_ok-columns.ensures
    c.make_message.ensures
