use Rattle.std.proofs.Common.{◌≡◌, ◌∙◌, ap, arith, ℕ, [], ◌∷◌, ◌++◌, ◌+◌, ◌-◌, List, length, replicate, take}
use Rattle.byteorder.specs.Endian.{little_bytes}
use Rattle.flat_build.specs.Layout.{overwritten, with_piece, length_place}
use Rattle.flat_build.proofs.LayoutLemmas.{length-with_piece, with_piece-seam, overwritten-grown, overwritten-zeros, written_back}
use Rattle.flat_build.proofs.FlatBuild.string.Goals as goal

pub returns-clause-ok : goal.returns-clause-ok
returns-clause-ok c =
    let old : List ℕ = c.args.self.now in
    let place : ℕ = length_place old in
    let text : List ℕ = c.args.text.now in
    let word : List ℕ = little_bytes 4 (length text) in
    let end : ℕ = place + 4 + length text + 1 in
    let front : List ℕ = with_piece old place word in
    let front_len : length front ≡ place + 4 = length-with_piece old place word (omega arith) in
    let back_1 = written_back c.write_number.new.bytes c.resize.new.self.items c.resize.new.self.len (omega arith) in
    let grown : c.deref_mut.result.now ≡ take end old ++ replicate (end - length old) 0 =
    cc (c.in_ok-resize.ensures.items, c.deref_mut.ensures.value, c.next_length_place-place.ensures, c.self.view_is) in
    let number : c.write_number.new.bytes ≡ overwritten c.deref_mut.result.now place word =
    cc (c.write_number.ensures, c.next_length_place-place.ensures) in
    let first : c.write_number.new.bytes ≡ front ++ replicate (length text + 1) 0 =
    number
    ∙ ap (λ (bytes : List ℕ). overwritten bytes place word) grown
    ∙ overwritten-grown old end place word (omega arith) (omega arith)
    ∙ ap (λ (n : ℕ). front ++ replicate n 0) (omega arith) in
    let shown : c.deref_mut-2.result.now ≡ front ++ replicate (length text + 1) 0 = cc (c.deref_mut-2.ensures.value, back_1, first) in
    let written : c.write_bytes.new.bytes ≡ overwritten c.deref_mut-2.result.now (place + 4) text =
    cc (c.write_bytes.ensures, c.next_length_place-place.ensures) in
    let closing : length front + (length text + 1) - (place + 4 + length text) ≡ 1 = omega arith in
    let back_2 = written_back c.write_bytes.new.bytes _ c.resize.new.self.len (omega arith) in
    back_2 ∙ written
    ∙ ap (λ (bytes : List ℕ). overwritten bytes (place + 4) text) shown
    ∙ overwritten-zeros front (length text + 1) (place + 4) text (omega arith) (omega arith)
    ∙ ap (λ (n : ℕ). with_piece front (place + 4) text ++ replicate n 0) closing
    ∙ ap (λ (bytes : List ℕ). bytes ++ 0 ∷ []) (with_piece-seam front (place + 4) text front_len)
