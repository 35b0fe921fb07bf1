use Rattle.std.proofs.Common.{rules, append_assoc, codes, map}
use Rattle.stream_text.specs.Shown.{column_text, field_columns}
use Rattle.word_text.proofs.Spaces.{spaced_first}
use Rattle.stream_text.proofs.lines.put_schema.Goals as goal

pub returns : goal.returns
returns c = rw (spaced_first (codes "schema") (map column_text (field_columns c.args.fields.now))) (search (rules, append_assoc))
