use Rattle.std.proofs.Common.{sym, ◌∙◌, Some, None}
use Rattle.output_read.proofs.Texts.{said-some, said-none, said-words}
use Rattle.output_read.proofs.reader.said_first.Goals as goal

pub returns-in_default-clause-said : goal.returns-in_default-clause-said
returns-in_default-clause-said c =
    said-none c.args.heading.round c.args.heading.who c.args.heading.index c.args.tables.now c.args.text.now c.in_default.ensures.words

pub returns-in-Some-2-clause-said : goal.returns-in-Some-2-clause-said
returns-in-Some-2-clause-said c =
    said-some c.args.heading.round c.args.heading.who c.args.heading.index c.args.tables.now c.args.text.now c.in-Some.words.now (Some c.in-Some-2.said)
    c.in-Some.ensures.words (sym c.in-Some-2.is ∙ c.in_ok-said.ensures)

pub returns-in-Some-2-clause-words : goal.returns-in-Some-2-clause-words
returns-in-Some-2-clause-words c =
    said-words c.args.heading.round c.args.heading.who c.args.heading.index c.args.tables.now c.in-Some.words.now c.in-Some-2.said (sym c.in_ok-said.ensures ∙ c.in-Some-2.is)

pub returns-in-None-clause-said : goal.returns-in-None-clause-said
returns-in-None-clause-said c =
    said-some c.args.heading.round c.args.heading.who c.args.heading.index c.args.tables.now c.args.text.now c.in-Some.words.now None
    c.in-Some.ensures.words (sym c.in-None.is ∙ c.in_ok-said.ensures)
