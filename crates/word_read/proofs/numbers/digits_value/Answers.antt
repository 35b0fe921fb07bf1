use Rattle.std.proofs.Common.{◌≡◌, ◌≤◌, ◌*◌, ◌-◌, ◌^◌, arith, sym, ◌∙◌, get_or}
use Rattle.std.specs.Char.{digit_value}
use Rattle.word_read.specs.Numbers.{are_digits}
use Rattle.word_read.proofs.Decimals.{overflow, finished, digit_is}
use Rattle.word_read.proofs.numbers.digits_value.Goals as goal

pub returns-in_err-checked_mul : goal.returns-in_err-checked_mul
returns-in_err-checked_mul c =
    let big : 2 ^ 64 ≤ c.loop-byte.value * 10 = omega (arith, c.in_err-checked_mul.ensures) in
    c.from_residual.ensures ∙ sym (overflow c.args.word.now c.loop-byte.byte-index c.loop-byte.value (are_digits c.args.word.now) (omega arith) (omega (arith, big)) c.loop-byte.invariant.value)

pub returns-in_err-value : goal.returns-in_err-value
returns-in_err-value c =
    let digit : digit_value (get_or c.args.word.now c.loop-byte.byte-index 0) ≡ get_or c.args.word.now c.loop-byte.byte-index 0 - 48 = digit_is (get_or c.args.word.now c.loop-byte.byte-index 0) (omega arith) (omega arith) in
    c.from_residual-in_err-value.ensures ∙ sym (overflow c.args.word.now c.loop-byte.byte-index c.loop-byte.value (are_digits c.args.word.now) (omega arith) (omega (arith, digit, c.in_err-value.ensures, c.in_ok-checked_mul.ensures)) c.loop-byte.invariant.value)

pub returns : goal.returns
returns c = finished c.args.word.now c.loop-byte.byte-index c.loop-byte.value (omega arith) (omega arith) c.loop-byte.invariant.digits c.loop-byte.invariant.value
