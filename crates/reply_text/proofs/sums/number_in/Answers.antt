use Rattle.std.proofs.Common.{◌≡◌, sym, ◌∙◌, ap, ℤ, Some}
use mir.Syntax.{w128}
use mir.Val.{to_z, of_z}
use Rattle.reply_text.proofs.WideNumbers.{sum_parsed, sum_text, sum_kept}
use Rattle.reply_text.proofs.sums.number_in.Goals as goal

pub returns-in_default : goal.returns-in_default
returns-in_default c = λ sum e. absurd (c.in_default.ensures.cases.0 (sum_text c.args.word.now sum e))

pub returns-in-Ok-parse : goal.returns-in-Ok-parse
returns-in-Ok-parse c = λ sum e.
    let read = sum_parsed c.args.word.now c.in-Ok.text.now sum c.parse.result e c.in-Ok.ensures.cases.0 c.parse.ensures.value.0 in
    let both = sym c.in-Ok-parse.is ∙ read in
    let same : c.in-Ok-parse.sum ≡ sum = cc in
    ap (λ (z : ℤ). Some (to_z w128 (of_z w128 z))) same ∙ ap (λ (z : ℤ). Some z) (sum_kept c.args.word.now sum e)

pub returns-in-Err : goal.returns-in-Err
returns-in-Err c = λ sum e.
    let read = sum_parsed c.args.word.now c.in-Ok.text.now sum c.parse.result e c.in-Ok.ensures.cases.0 c.parse.ensures.value.0 in
    absurd (let both = sym c.in-Err.is ∙ read in cc)
