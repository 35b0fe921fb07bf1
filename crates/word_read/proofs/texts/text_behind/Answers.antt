use Rattle.std.proofs.Common.{take, drop, take-append-drop, sym, ap, ◌∙◌}
use Rattle.std.specs.Prelude.{Some}
use Rattle.workload_spec.specs.Reading.{Itself}
use Rattle.word_read.specs.Spellings.{text_from}
use Rattle.word_read.proofs.TextPieces.{plain_read, closed_at}
use Rattle.workload_laws.proofs.Results.{eq_of}
use Rattle.word_read.proofs.texts.text_behind.Goals as goal

pub returns-in_ok-from_slice : goal.returns-in_ok-from_slice
returns-in_ok-from_slice c =
    let s = c.args.spelling.now in
    let n = c.plain_length.result in
    let closes = sym c.split_at.ensures.back ∙ eq_of c.split_at.result.1.now c.as_slice.result.now (sym c.eq.ensures ∙ c.if-eq.true) ∙ c.as_slice.ensures in
    let read = ap (text_from Itself) (sym (take-append-drop n s)) ∙ plain_read (take n s) (drop n s) c.plain_length.ensures.plain ∙ closed_at (take n s) (drop n s) closes in
    ap Some (c.in_ok-from_slice.ensures.bytes ∙ c.split_at.ensures.front) ∙ sym read
