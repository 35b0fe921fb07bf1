use Rattle.std.proofs.Common.{◌∙◌, ap, List}
use Rattle.std.specs.List.{list_any}
use Rattle.workload_spec.specs.Valid.{is_export}
use Rattle.workload_spec.specs.declared.script.Line.{Line}
use Rattle.program.proofs.Exports.{rounds_export}
use Rattle.program.proofs.running.has_export.Goals as goal

pub returns : goal.returns
returns c =
    c.any_exports.ensures
    ∙ ap (λ (rounds : List (List Line)). list_any (λ (lines : List Line). list_any (λ (line : Line). is_export line.command) lines) rounds) c.as_slice.ensures
    ∙ rounds_export c.args.script.now.rounds
