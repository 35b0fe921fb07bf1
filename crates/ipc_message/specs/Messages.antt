-- The bytes of a message that is to be written.
use Rattle.std.specs.Prelude.{ℕ, List, ◌++◌, flat_map}
use Rattle.arrow_spec.specs.Bytes.{padded}
use Rattle.ipc_message.specs.declared.messages.Message.{Message}

-- what is put together already, and then each buffer with its padding
abbrev pub bytes_of : Message → List ℕ
bytes_of message = message.head.items
    ++ flat_map padded (flat_map (λ array. array.buffers) message.columns.items)
