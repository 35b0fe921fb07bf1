use Rattle.std.proofs.Common.{rules, append_assoc, ◌∷◌, decimal}
use Rattle.workload_spec.specs.ReplyText.{said_words, who_text}
use Rattle.word_text.proofs.Spaces.{spaced_first}
use Rattle.reply_text.proofs.lines.put_line.Goals as goal

pub returns : goal.returns
returns c =
    let line = c.args.line.now in
    rw (spaced_first (decimal line.round) (who_text line.who ∷ decimal line.index ∷ said_words c.args.tables.now line.said)) (search (rules, append_assoc))
