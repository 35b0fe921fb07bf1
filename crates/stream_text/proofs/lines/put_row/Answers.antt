use Rattle.std.proofs.Common.{rules, append_assoc, codes}
use Rattle.workload_spec.specs.Words.{cell_words}
use Rattle.word_text.proofs.Spaces.{spaced_first}
use Rattle.stream_text.proofs.lines.put_row.Goals as goal

pub returns : goal.returns
returns c = rw (spaced_first (codes "|") (cell_words c.args.row.now)) (search (rules, append_assoc))
