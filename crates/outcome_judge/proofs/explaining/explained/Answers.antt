use Rattle.std.proofs.Common.{◌∙◌, sym, ap, List, Ok}
use Rattle.cell_model.specs.declared.table.TableDecl.{TableDecl}
use Rattle.isolation_spec.specs.Contents.{History}
use Rattle.outcome_spec.specs.Explained.{unsound_line}
use Rattle.outcome_spec.specs.Runs.{run_from, run_of}
use Rattle.output_read.specs.Kept.{entries_of}
use Rattle.output_read.specs.declared.kept.KeptReply.{KeptReply}
use Rattle.outcome_judge.proofs.Answered.{read-fails}
use Rattle.outcome_judge.proofs.Asking.{read-bounded}
use Rattle.outcome_judge.proofs.explaining.explained.Goals as goal

pub unsound_line-requires-clause-outside : goal.unsound_line-requires-clause-outside
unsound_line-requires-clause-outside c =
    c.replies_that_are_read_open_outside.ensures c.args.script.now c.args.text.now (entries_of c.as_slice-replies.result.now)
    (c.in_ok-replies.ensures.read ∙ ap (λ (kept : List KeptReply). Ok (entries_of kept)) (sym c.as_slice-replies.ensures.value))

pub unsound_line-requires-clause-bounded : goal.unsound_line-requires-clause-bounded
unsound_line-requires-clause-bounded c =
    read-bounded c.args.script.now c.args.text.now (entries_of c.as_slice-replies.result.now) c.requires.valid
    (c.in_ok-replies.ensures.read ∙ ap (λ (kept : List KeptReply). Ok (entries_of kept)) (sym c.as_slice-replies.ensures.value))

pub returns : goal.returns
returns c =
    read-fails c.args.script.now c.args.text.now (entries_of c.as_slice-replies.result.now)
    (c.in_ok-replies.ensures.read ∙ ap (λ (kept : List KeptReply). Ok (entries_of kept)) (sym c.as_slice-replies.ensures.value))
    ∙ ap (λ (first : History). unsound_line (run_from first c.args.script.now.tables (entries_of c.as_slice-replies.result.now))) c.requires.begun
    ∙ ap (λ (tables : List TableDecl). unsound_line (run_of tables (entries_of c.as_slice-replies.result.now))) (sym c.as_slice.ensures)
    ∙ sym c.in_ok-unsound_line.ensures ∙ c.in-Some.is
