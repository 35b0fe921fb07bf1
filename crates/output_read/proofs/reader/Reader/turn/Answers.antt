use Rattle.std.proofs.Common.{List, [], ◌∷◌, length, sym, ◌∙◌, subst}
use Rattle.cell_model.specs.declared.table.TableDecl.{TableDecl}
use Rattle.workload_spec.specs.declared.command.Command.{Command}
use Rattle.workload_spec.specs.declared.command.Command.TheVariants as command
use Rattle.output_read.specs.Readers.{FailsAt}
use Rattle.output_read.specs.Work.{ShiftGoes, steps_behind, work_dues}
use Rattle.output_read.proofs.Faults.{on-line, on-map, ok-map}
use Rattle.output_read.proofs.Shifts.{first-place, partly-none, partly-more, partly-fails, partly-ends, partly-lacks, turn-steps}
use Rattle.output_read.proofs.reader.Reader.turn.Goals as goal

pub returns-in_err-shift-clause-failed : goal.returns-in_err-shift-clause-failed
returns-in_err-shift-clause-failed c =
    let old = c.args.self.now in
    let a = partly-none old c.args.shift c.requires.reading c.requires.shift in
    on-line (Unit {0}) _ c.from_residual.result _ _ _ c.from_residual.ensures
    (λ n f. subst (λ (cs : List Command). FailsAt old (work_dues c.args.shift cs) n) (turn-steps old.tables.now c.requires.few.0)
    (partly-fails old old c.args.shift c.args.shift [] a command.Observe (command.Prune ∷ command.Compact 0 ∷ steps_behind old.tables.now) n f))
    c.in_err-shift.ensures.failed

pub returns-in_err-shift-2-clause-failed : goal.returns-in_err-shift-2-clause-failed
returns-in_err-shift-2-clause-failed c =
    let old = c.args.self.now in
    let a = partly-none old c.args.shift c.requires.reading c.requires.shift in
    let b = partly-more old old c.args.shift c.args.shift [] a c.work_line.new.self _ command.Observe c.work_line.ensures.tables c.in_ok-shift.ensures.read in
    on-line (Unit {0}) _ c.from_residual-in_err-shift-2.result _ _ _ c.from_residual-in_err-shift-2.ensures
    (λ n f. subst (λ (cs : List Command). FailsAt old (work_dues c.args.shift cs) n) (turn-steps old.tables.now c.requires.few.0)
    (partly-fails old c.work_line.new.self c.args.shift _ (command.Observe ∷ []) b command.Prune (command.Compact 0 ∷ steps_behind old.tables.now) n f))
    c.in_err-shift-2.ensures.failed

pub work_line-requires-3-clause-command : goal.work_line-requires-3-clause-command
work_line-requires-3-clause-command c =
    first-place _ (subst (λ (ts : List TableDecl). Rattle.std.proofs.Common.◌<◌ 0 (length ts)) (sym (c.work_line-2.ensures.tables ∙ c.work_line.ensures.tables)) c.requires.few.0)

pub returns-in_err-shift-3-clause-failed : goal.returns-in_err-shift-3-clause-failed
returns-in_err-shift-3-clause-failed c =
    let old = c.args.self.now in
    let a = partly-none old c.args.shift c.requires.reading c.requires.shift in
    let b = partly-more old old c.args.shift c.args.shift [] a c.work_line.new.self _ command.Observe c.work_line.ensures.tables c.in_ok-shift.ensures.read in
    let d = partly-more old c.work_line.new.self c.args.shift _ (command.Observe ∷ []) b c.work_line-2.new.self _ command.Prune c.work_line-2.ensures.tables c.in_ok-shift-2.ensures.read in
    on-line (Unit {0}) _ c.from_residual-in_err-shift-3.result _ _ _ c.from_residual-in_err-shift-3.ensures
    (λ n f. subst (λ (cs : List Command). FailsAt old (work_dues c.args.shift cs) n) (turn-steps old.tables.now c.requires.few.0)
    (partly-fails old c.work_line-2.new.self c.args.shift _ (command.Observe ∷ command.Prune ∷ []) d (command.Compact 0) (steps_behind old.tables.now) n f))
    c.in_err-shift-3.ensures.failed

pub returns-clause-read : goal.returns-clause-read
returns-clause-read c =
    let old = c.args.self.now in
    let a = partly-none old c.args.shift c.requires.reading c.requires.shift in
    let b = partly-more old old c.args.shift c.args.shift [] a c.work_line.new.self _ command.Observe c.work_line.ensures.tables c.in_ok-shift.ensures.read in
    let d = partly-more old c.work_line.new.self c.args.shift _ (command.Observe ∷ []) b c.work_line-2.new.self _ command.Prune c.work_line-2.ensures.tables c.in_ok-shift-2.ensures.read in
    let e = partly-more old c.work_line-2.new.self c.args.shift _ (command.Observe ∷ command.Prune ∷ []) d c.work_line-3.new.self _ (command.Compact 0) c.work_line-3.ensures.tables c.in_ok-shift-3.ensures.read in
    ok-map _ c.step_lines.result _ _
    (λ after g. subst (λ (cs : List Command). ShiftGoes old c.step_lines.new.self c.args.shift after (work_dues c.args.shift cs)) (turn-steps old.tables.now c.requires.few.0)
    (partly-ends old c.work_line-3.new.self c.args.shift _ (command.Observe ∷ command.Prune ∷ command.Compact 0 ∷ []) e c.step_lines.new.self after (steps_behind old.tables.now)
    (subst (λ (ts : List TableDecl). ShiftGoes c.work_line-3.new.self c.step_lines.new.self c.in_ok-shift-3.shift after (work_dues c.in_ok-shift-3.shift (steps_behind ts))) e.tables g)))
    c.step_lines.ensures.read

pub returns-clause-failed : goal.returns-clause-failed
returns-clause-failed c =
    let old = c.args.self.now in
    let a = partly-none old c.args.shift c.requires.reading c.requires.shift in
    let b = partly-more old old c.args.shift c.args.shift [] a c.work_line.new.self _ command.Observe c.work_line.ensures.tables c.in_ok-shift.ensures.read in
    let d = partly-more old c.work_line.new.self c.args.shift _ (command.Observe ∷ []) b c.work_line-2.new.self _ command.Prune c.work_line-2.ensures.tables c.in_ok-shift-2.ensures.read in
    let e = partly-more old c.work_line-2.new.self c.args.shift _ (command.Observe ∷ command.Prune ∷ []) d c.work_line-3.new.self _ (command.Compact 0) c.work_line-3.ensures.tables c.in_ok-shift-3.ensures.read in
    on-map _ c.step_lines.result _ _
    (λ n f. subst (λ (cs : List Command). FailsAt old (work_dues c.args.shift cs) n) (turn-steps old.tables.now c.requires.few.0)
    (partly-lacks old c.work_line-3.new.self c.args.shift _ (command.Observe ∷ command.Prune ∷ command.Compact 0 ∷ []) e (steps_behind old.tables.now) n
    (subst (λ (ts : List TableDecl). FailsAt c.work_line-3.new.self (work_dues c.in_ok-shift-3.shift (steps_behind ts)) n) e.tables f)))
    c.step_lines.ensures.failed
