use Rattle.std.proofs.Common.{◌≡◌, take}
use Rattle.std.specs.List.{enumerate_from}
use Rattle.std.specs.Prelude.{flat_map}
use Rattle.arrow_spec.specs.Streams.{dictionary_message}
use Rattle.ipc_message.specs.Messages.{bytes_of}
use Rattle.ipc_message.proofs.messages.dict_messages.Given as goal

abbrev pub invariant-loop-id : goal.invariant-loop-id
invariant-loop-id l = flat_map bytes_of l.messages.items ≡ flat_map dictionary_message (take l.id (enumerate_from 0 l.dictionaries))
