use Rattle.std.proofs.Common.{◌≡◌, drop}
use Rattle.stream_spec.specs.Streams.{kind_with}
use Rattle.ipc_read.proofs.message.kind_with.Given as goal

-- none before has the dictionary
abbrev pub invariant-loop-field : goal.invariant-loop-field
invariant-loop-field l = kind_with l.id l.fields ≡ kind_with l.id (drop l.field-index l.fields)
