use Rattle.std.proofs.Common.{◌≡◌, ◌+◌, ◌*◌, ◌-◌, ◌∙◌, ◌++◌, replicate, append-nil, length, ℕ, ℤ, pos, List, get_or, sym, ap, arith}
use Rattle.flat_build.specs.Layout.{overwritten}
use Rattle.arrow_spec.specs.Bytes.{number_bytes}
use Rattle.std.specs.Int.{w64}
use Rattle.arrow_meta.proofs.PairLemmas.{vector_head, length-head, pair-added, pairs-are}
use Rattle.arrow_meta.proofs.batch.lay_pairs.Goals as goal

pub loop-first-init : goal.loop-first-init
loop-first-init c =
    let head : List ℕ = vector_head c.args.build.now (length c.args.pairs.now) in
    let count : ℕ = length c.args.pairs.now in
    let size : count * 16 ≡ 16 * (count - 0) = omega arith in
    record {
      at = omega arith;
      long = omega (arith, c.in_ok-vector.ensures.len, c.in_ok-vector.ensures.place);
      bytes = c.in_ok-vector.ensures.ok
          ∙ ap (λ (n : ℕ). head ++ replicate n 0) size
          ∙ ap (λ (bytes : List ℕ). bytes ++ replicate (16 * (count - 0)) 0) (sym (append-nil head));
    }

pub loop-first-preserved : goal.loop-first-preserved
loop-first-preserved c =
    let pairs : List (ℤ × ℤ) = c.args.pairs.now in
    let head : List ℕ = vector_head c.args.build.now (length pairs) in
    let at : ℕ = c.loop-first.at in
    let pair : ℤ × ℤ = get_or pairs c.loop-first.first-index (pos 0, pos 0) in
    let here : at ≡ length head + 16 * c.loop-first.first-index =
    omega (arith, length-head c.args.build.now (length pairs), c.in_ok-vector.ensures.place) in
    let first : c.number.new.self ≡ overwritten c.loop-first.build at (number_bytes w64 pair.0) =
    cc (c.number.ensures.written, c.bits_of.ensures) in
    let second : c.number-in-loop-first.new.self ≡ overwritten c.number.new.self (at + 8) (number_bytes w64 pair.1) =
    cc (c.number-in-loop-first.ensures.written, c.bits_of-in-loop-first.ensures) in
    record {
      at = omega arith;
      long = omega arith;
      bytes = pair-added head pairs c.loop-first.first-index at c.loop-first.build c.number.new.self c.number-in-loop-first.new.self
          c.loop-first-test.true c.loop-first.invariant.bytes here first second;
    }

pub returns : goal.returns
returns c =
    pairs-are c.args.build.now c.args.pairs.now c.loop-first.first-index c.in_ok-vector.vector c.loop-first.build
    c.loop-first-test.false c.in_ok-vector.ensures.place c.loop-first.invariant.bytes c.loop-first.invariant.long
