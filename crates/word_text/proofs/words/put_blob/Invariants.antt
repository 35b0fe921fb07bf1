use Rattle.std.proofs.Common.{◌≡◌, ◌++◌, drop}
use Rattle.std.specs.Prelude.{flat_map}
use Rattle.workload_spec.specs.Words.{hex_digits}
use Rattle.word_text.proofs.words.put_blob.Given as goal

abbrev pub invariant-loop-byte : goal.invariant-loop-byte
invariant-loop-byte l = l.out.items ++ flat_map hex_digits (drop l.byte-index l.bytes) ≡ l.initial.out.items ++ flat_map hex_digits l.bytes
