use Rattle.std.proofs.Common.{◌∙◌, ap}
use Rattle.workload_spec.specs.Words.{line_feed}
use Rattle.workload_spec.specs.Reading.{parts}
use Rattle.workload_spec.specs.Grammar.{next_line}
use Rattle.script_text.proofs.NextLines.{parts_some, next_whole}
use Rattle.script_text.proofs.lines.next_line.Goals as goal

pub returns-in-Some-clause-line : goal.returns-in-Some-clause-line
returns-in-Some-clause-line c =
    ap (next_line c.args.at c.args.absent) c.in-Some.ensures.some ∙ next_whole c.args.at c.args.absent c.in-Some.line.now (parts line_feed c.in-Some.rest.now) (parts_some line_feed c.in-Some.rest.now)
