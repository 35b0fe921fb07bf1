use Rattle.std.proofs.Common.{◌≡◌, ◌∙◌, ap, arith, ℕ, ◌++◌, ◌*◌, ◌+◌, ◌-◌, List, length, replicate, take, slice_index}
use Rattle.std.specs.List.{flat_map}
use Rattle.byteorder.specs.Endian.{little_bytes}
use Rattle.flat_build.specs.Layout.{overwritten, with_piece, with_vtable, vtable_place, table_place, table_end}
use Rattle.flat_build.proofs.LayoutLemmas.{length-with_piece, length-words, overwritten-grown, overwritten-zeros, written_back}
use Rattle.flat_build.proofs.FlatBuild.table.Goals as goal

pub returns-clause-ok : goal.returns-clause-ok
returns-clause-ok c =
    let old : List ℕ = c.args.self.now in
    let vtable : List ℕ = c.args.vtable.now in
    let start : ℕ = vtable_place old in
    let place : ℕ = table_place old vtable in
    let words : List ℕ = flat_map (little_bytes 2) vtable in
    let words_len : length words ≡ 2 * length vtable = length-words vtable in
    let way : List ℕ = little_bytes 4 (place - start) in
    let end : ℕ = table_end old vtable in
    let front : List ℕ = with_vtable old vtable in
    let front_len : length front ≡ start + length words = length-with_piece old start words (omega arith) in
    let left : ℕ = end - (start + length words) in
    let back_1 = written_back c.write_words.new.bytes c.resize.new.self.items c.resize.new.self.len (omega arith) in
    let grown : c.deref_mut.result.now ≡ take end old ++ replicate (end - length old) 0 =
    cc (c.in_ok-resize.ensures.items, c.deref_mut.ensures.value, c.next_multiple_of-vtable_place.ensures.value, c.next_multiple_of-place.ensures.value, c.from.ensures, c.len.ensures, c.self.view_is) in
    let first : c.write_words.new.bytes ≡ overwritten c.deref_mut.result.now start words =
    cc (c.write_words.ensures, c.next_multiple_of-vtable_place.ensures.value, c.len.ensures, c.self.view_is) in
    let shown : c.deref_mut-2.result.now ≡ front ++ replicate left 0 =
    c.deref_mut-2.ensures.value ∙ back_1 ∙ first
    ∙ ap (λ (bytes : List ℕ). overwritten bytes start words) grown
    ∙ overwritten-grown old end start words (omega arith) (omega arith) in
    let second : c.write_number.new.bytes ≡ overwritten c.deref_mut-2.result.now place way =
    cc (c.write_number.ensures, c.next_multiple_of-vtable_place.ensures.value, c.next_multiple_of-place.ensures.value, c.len.ensures, c.self.view_is) in
    let rest : length front + left - (place + 4) ≡ slice_index vtable 1 - 4 = omega arith in
    let back_2 = written_back c.write_number.new.bytes _ c.resize.new.self.len (omega arith) in
    back_2 ∙ second
    ∙ ap (λ (bytes : List ℕ). overwritten bytes place way) shown
    ∙ overwritten-zeros front left place way (omega arith) (omega arith)
    ∙ ap (λ (n : ℕ). with_piece front place way ++ replicate n 0) rest
