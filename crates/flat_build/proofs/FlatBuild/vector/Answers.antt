use Rattle.std.proofs.Common.{◌≡◌, ◌∙◌, ap, arith, ℕ, ◌++◌, ◌*◌, ◌+◌, ◌-◌, List, length, replicate, take}
use Rattle.byteorder.specs.Endian.{little_bytes}
use Rattle.flat_build.specs.Layout.{overwritten, with_piece, length_place}
use Rattle.flat_build.proofs.LayoutLemmas.{overwritten-grown, written_back}
use Rattle.flat_build.proofs.FlatBuild.vector.Goals as goal

pub returns-clause-ok : goal.returns-clause-ok
returns-clause-ok c =
    let old : List ℕ = c.args.self.now in
    let place : ℕ = length_place old in
    let count : ℕ = c.args.count in
    let extra : ℕ = c.args.count * c.args.width in
    let end : ℕ = place + 4 + extra in
    let len : length c.write_number.new.bytes ≡ c.resize.new.self.len = omega arith in
    let back = written_back c.write_number.new.bytes c.resize.new.self.items c.resize.new.self.len len in
    let grown : c.deref_mut.result.now ≡ take end old ++ replicate (end - length old) 0 = cc (c.in_ok-resize.ensures.items, c.deref_mut.ensures.value, c.next_length_place-place.ensures, c.self.view_is) in
    let written : c.write_number.new.bytes ≡ overwritten c.deref_mut.result.now place (little_bytes 4 count) = cc (c.write_number.ensures, c.next_length_place-place.ensures, c.from.ensures) in
    back ∙ written
    ∙ ap (λ (bytes : List ℕ). overwritten bytes place (little_bytes 4 count)) grown
    ∙ overwritten-grown old end place (little_bytes 4 count) (omega arith) (omega arith)
    ∙ ap (λ (n : ℕ). with_piece old place (little_bytes 4 count) ++ replicate n 0) (omega arith)
