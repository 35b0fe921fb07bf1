use Rattle.std.proofs.Common.{arith, rules, ◌≡◌, ℕ, ◌<◌, ◌^◌, ap, ◌∙◌, get_or, ℤ}
use Rattle.std.specs.Int.{bytes_low_first, cast_unsigned, cast_signed, w128}
use Rattle.std.proofs.lemmas.Int.{of_z-to_z}
use Rattle.byteorder.specs.Endian.{little_number}
use Rattle.log_records.proofs.LowBytes.{bytes_are}
use Rattle.log_records.proofs.numbers.number_in.Goals as goal

pub returns : goal.returns
returns c =
    let small : (i : ℕ) → get_or c.args.bytes.now i 0 < 256 = search rules in
    let number : c.read_u128.result ≡ little_number 16 c.args.bytes.now = c.read_u128.ensures in
    let fits : c.read_u128.result < 2 ^ 128 = search rules in
    let bits : cast_unsigned w128 c.cast_signed.result ≡ c.read_u128.result =
    ap (λ (z : ℤ). cast_unsigned w128 z) c.cast_signed.ensures ∙ of_z-to_z w128 c.read_u128.result fits in
    let below : cast_unsigned w128 c.cast_signed.result < 2 ^ 128 = omega (arith, bits, fits) in
    let same : cast_unsigned w128 (cast_signed w128 (cast_unsigned w128 c.cast_signed.result)) ≡ c.read_u128.result =
    of_z-to_z w128 (cast_unsigned w128 c.cast_signed.result) below ∙ bits in
    ap (λ (n : ℕ). bytes_low_first 0 16 n) (same ∙ number) ∙ bytes_are 16 c.args.bytes.now c.requires small
