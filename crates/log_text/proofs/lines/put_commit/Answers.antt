use Rattle.std.proofs.Common.{rules, append_assoc, decimal, flat_map}
use Rattle.log_text.specs.Lines.{write_words}
use Rattle.word_text.proofs.Spaces.{spaced_first}
use Rattle.log_text.proofs.lines.put_commit.Goals as goal

pub returns : goal.returns
returns c = rw (spaced_first (decimal c.args.number) (flat_map (write_words c.args.tables.now) c.args.writes.now)) (search (rules, append_assoc))
