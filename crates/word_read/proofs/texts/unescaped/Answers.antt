use Rattle.std.proofs.Common.{ℕ, List, ◌++◌, ◌∷◌, [], take, drop, sym, ap, ◌∙◌}
use Rattle.std.specs.Prelude.{option_map}
use Rattle.workload_spec.specs.Reading.{Itself}
use Rattle.word_read.specs.Spellings.{text_from}
use Rattle.word_read.proofs.TextPieces.{piece_at, closed_at, byte_more}
use Rattle.word_read.proofs.texts.unescaped.Goals as goal
use Rattle.workload_laws.proofs.Results.{eq_of}

pub returns-then-eq : goal.returns-then-eq
returns-then-eq c =
    let s = c.loop-text.rest.now in
    let n = c.plain_length.result in
    let old = c.loop-text.text.items in
    let read = piece_at c.args.spelling.now old s n c.loop-text.invariant c.plain_length.ensures.plain in
    let closes = sym c.split_at.ensures.back ∙ eq_of c.split_at.result.1.now c.as_slice.result.now (sym c.eq.ensures ∙ c.if-eq.true) ∙ c.as_slice.ensures in
    let pushed = c.in_ok-extend_from_slice.ensures.items ∙ ap (λ (plain : List ℕ). old ++ plain) c.split_at.ensures.front in
    rw pushed (sym (read ∙ closed_at (old ++ take n s) (drop n s) closes))

pub returns-in_default : goal.returns-in_default
returns-in_default c =
    let s = c.loop-text.rest.now in
    let n = c.plain_length.result in
    let old = c.loop-text.text.items in
    let read = piece_at c.args.spelling.now old s n c.loop-text.invariant c.plain_length.ensures.plain in
    let none = c.in_default.ensures.read in
    sym (read ∙ ap (option_map (λ more. (old ++ take n s) ++ more)) (ap (text_from Itself) (sym c.split_at.ensures.back) ∙ none))

pub loop-text-preserved : goal.loop-text-preserved
loop-text-preserved c =
    let s = c.loop-text.rest.now in
    let n = c.plain_length.result in
    let old = c.loop-text.text.items in
    let read = piece_at c.args.spelling.now old s n c.loop-text.invariant c.plain_length.ensures.plain in
    let pushed = c.in_ok-extend_from_slice.ensures.items ∙ ap (λ (plain : List ℕ). old ++ plain) c.split_at.ensures.front in
    let more = c.in_ok-push.ensures.items ∙ ap (λ (text : List ℕ). text ++ c.in-Some.byte ∷ []) pushed in
    rw more (read ∙ ap (option_map (λ more. (old ++ take n s) ++ more)) (ap (text_from Itself) (sym c.split_at.ensures.back) ∙ c.in-Some.ensures.read)
    ∙ byte_more (old ++ take n s) c.in-Some.byte (text_from Itself c.in-Some.after.now))
