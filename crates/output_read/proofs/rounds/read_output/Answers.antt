use Rattle.std.proofs.Common.{◌∙◌, sym, ap, List, Ok, eqb-true, eq-eqb}
use Rattle.output_read.specs.declared.kept.KeptReply.{KeptReply}
use Rattle.output_read.specs.Kept.{entries_of}
use Rattle.output_read.proofs.Fitting.{never}
use Rattle.output_read.proofs.Faults.{on-line}
use Rattle.output_read.proofs.Whole.{whole-failed, whole-read, whole-left}
use Rattle.output_read.proofs.rounds.read_output.Goals as goal

pub returns-in_err-all_lines-clause-failed : goal.returns-in_err-all_lines-clause-failed
returns-in_err-all_lines-clause-failed c =
    on-line (Unit {0}) _ c.from_residual.result _ _ _ c.from_residual.ensures
    (whole-failed c.args.script.now (record { tables = c.as_slice.result; rest = c.args.text; line = 1; replies = c.new.result }) c.as_slice.ensures (ap entries_of c.new.ensures.items))
    c.in_err-all_lines.ensures.failed

pub returns-then-is_empty-clause-read : goal.returns-then-is_empty-clause-read
returns-then-is_empty-clause-read c =
    whole-read c.args.script.now (record { tables = c.as_slice.result; rest = c.args.text; line = 1; replies = c.new.result }) c.as_slice.ensures (ap entries_of c.new.ensures.items)
    c.all_lines.new.self c.in_ok-all_lines.ensures.passed (eqb-true _ 0 (sym c.is_empty.ensures ∙ c.if-is_empty.true))
    ∙ ap (λ (kept : List KeptReply). Ok (entries_of kept)) (sym c.into_replies.ensures)

pub returns-clause-failed : goal.returns-clause-failed
returns-clause-failed c =
    whole-left c.args.script.now (record { tables = c.as_slice.result; rest = c.args.text; line = 1; replies = c.new.result }) c.as_slice.ensures (ap entries_of c.new.ensures.items)
    c.all_lines.new.self c.in_ok-all_lines.ensures.passed c.in_ok-all_lines.ensures.read
    (λ empty. never (sym c.if-is_empty.false ∙ c.is_empty.ensures ∙ eq-eqb _ 0 empty))
