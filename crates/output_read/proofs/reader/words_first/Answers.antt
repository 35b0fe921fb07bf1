use Rattle.std.proofs.Common.{sym, ap, ◌∙◌, drop, List, ℕ}
use Rattle.output_read.specs.Fronts.{words_first}
use Rattle.output_read.proofs.Texts.{first-line, words-line, endless, no-words}
use Rattle.output_read.proofs.reader.words_first.Goals as goal

pub returns-in-Some-words_behind-clause-words : goal.returns-in-Some-words_behind-clause-words
returns-in-Some-words_behind-clause-words c =
    let h = c.args.heading in
    c.in-Some-words_behind.ensures ∙ sym (words-line h.round h.who h.index c.in-Some.line.now c.in-Some.ensures.whole)
    ∙ sym (ap (words_first h.round h.who h.index) (first-line c.args.text.now c.in-Some.line.now c.in-Some.behind.now c.in-Some.ensures.text c.in-Some.ensures.whole))

pub returns-in-Some-words_behind-clause-behind : goal.returns-in-Some-words_behind-clause-behind
returns-in-Some-words_behind-clause-behind c =
    ap (λ (lines : List (List ℕ)). drop 1 lines) (first-line c.args.text.now c.in-Some.line.now c.in-Some.behind.now c.in-Some.ensures.text c.in-Some.ensures.whole)

pub returns-in-None-words_behind-clause-words : goal.returns-in-None-words_behind-clause-words
returns-in-None-words_behind-clause-words c =
    let h = c.args.heading in
    c.in-None-words_behind.ensures ∙ sym (words-line h.round h.who h.index c.in-Some.line.now c.in-Some.ensures.whole)
    ∙ sym (ap (words_first h.round h.who h.index) (first-line c.args.text.now c.in-Some.line.now c.in-Some.behind.now c.in-Some.ensures.text c.in-Some.ensures.whole))

pub returns-in-None-clause-words : goal.returns-in-None-clause-words
returns-in-None-clause-words c =
    let h = c.args.heading in
    sym (no-words h.round h.who h.index c.args.text.now (endless h.round h.who h.index c.args.text.now c.in-None.ensures.none))
