use Rattle.std.proofs.Common.{◌≡◌, drop}
use Rattle.stream_spec.specs.Columns.{values_with}
use Rattle.ipc_read.proofs.known.values_with.Given as goal

-- none before has this id
abbrev pub invariant-loop-dictionary : goal.invariant-loop-dictionary
invariant-loop-dictionary l = values_with l.id l.dictionaries ≡ values_with l.id (drop l.dictionary-index l.dictionaries)
