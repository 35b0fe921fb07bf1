use Rattle.std.proofs.Common.{◌≡◌, drop}
use Rattle.std.specs.Prelude.{◌<◌, ◌^◌, ◌+◌, ◌*◌, fold}
use Rattle.std.specs.Char.{digit_value}
use Rattle.workload_spec.specs.Reading.{value_of_digits}
use Rattle.word_read.specs.Numbers.{are_digits}
use Rattle.word_read.proofs.numbers.digits_value.Given as goal

abbrev pub invariant-loop-byte : goal.invariant-loop-byte
invariant-loop-byte l = record {
  range : l.value < 2 ^ 64;
  digits : are_digits l.word ≡ are_digits (drop l.byte-index l.word);
  value : value_of_digits l.word ≡ fold (λ value digit. value * 10 + digit_value digit) l.value (drop l.byte-index l.word);
}
