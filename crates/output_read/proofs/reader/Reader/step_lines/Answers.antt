use Rattle.std.proofs.Common.{refl, ◌∙◌, sym, ap, subst, arith, List, length, Err}
use Rattle.cell_model.specs.declared.table.TableDecl.{TableDecl}
use Rattle.output_read.specs.declared.reader.Reader.{Reader}
use Rattle.output_read.specs.Work.{ShiftGoes, work_dues, steps_behind}
use Rattle.output_read.proofs.StepLoops.{step-starts, step-goes, step-ends, step-fails, asks-tables, asks-few, asks-steps}
use Rattle.output_read.proofs.WorkLines.{heading-small}
use Rattle.output_read.proofs.reader.Reader.step_lines.Goals as goal

pub loop-after-init : goal.loop-after-init
loop-after-init c = record { tables = refl; stepped = λ are. step-starts c.args.self.now c.args.shift are c.requires.few c.requires.reading c.requires.shift }

pub step_line-requires-clause-tables : goal.step_line-requires-clause-tables
step_line-requires-clause-tables c = asks-tables c.args.self.now c.args.shift c.requires.tables _ _ _ (c.loop-after.invariant.stepped c.requires.tables)

pub step_line-requires-clause-few : goal.step_line-requires-clause-few
step_line-requires-clause-few c = asks-few c.args.self.now c.args.shift c.requires.tables _ _ _ (c.loop-after.invariant.stepped c.requires.tables) c.requires.few

pub step_line-requires-clause-reading : goal.step_line-requires-clause-reading
step_line-requires-clause-reading c = (c.loop-after.invariant.stepped c.requires.tables).reading_is

pub step_line-requires-clause-shift : goal.step_line-requires-clause-shift
step_line-requires-clause-shift c = (c.loop-after.invariant.stepped c.requires.tables).shift_is

pub step_line-requires-clause-steps : goal.step_line-requires-clause-steps
step_line-requires-clause-steps c = asks-steps c.args.self.now c.args.shift c.requires.tables _ _ _ (c.loop-after.invariant.stepped c.requires.tables)

pub overflow_add-shift : goal.overflow_add-shift
overflow_add-shift c =
    let s = c.loop-after.invariant.stepped c.requires.tables in
    let e = heading-small c.loop-after.self c.loop-after.shift (asks-tables c.args.self.now c.args.shift c.requires.tables _ _ _ s) s.reading_is s.shift_is in
    omega (arith, e)

pub loop-after-preserved : goal.loop-after-preserved
loop-after-preserved c = record {
  tables = c.step_line.ensures.tables ∙ c.loop-after.invariant.tables;
  stepped = λ are. step-goes c.args.self.now c.args.shift are _ _ _ (c.loop-after.invariant.stepped are) _ _ c.step_line.ensures.tables (rw c.in-Some.is at c.in_ok-after.ensures.read);
}

pub returns-then-steps-self-clause-read : goal.returns-then-steps-self-clause-read
returns-then-steps-self-clause-read c =
    let none = rw c.in_default.is at c.in_ok-after.ensures.read in
    let ends = step-ends c.args.self.now c.args.shift c.requires.tables c.loop-after.self c.loop-after.shift c.loop-after.steps (c.loop-after.invariant.stepped c.requires.tables) none.1
    (c.if-steps-self.true ∙ ap (λ (ts : List TableDecl). length ts) c.step_line.ensures.tables) in
    subst (λ (r : Reader). ShiftGoes c.args.self.now r c.args.shift c.loop-after.shift (work_dues c.args.shift (steps_behind c.args.self.now.tables.now))) (sym none.0) ends

pub returns-else-steps-self-clause-failed : goal.returns-else-steps-self-clause-failed
returns-else-steps-self-clause-failed c =
    let none = rw c.in_default.is at c.in_ok-after.ensures.read in
    let fails = step-fails c.args.self.now c.args.shift c.requires.tables c.loop-after.self c.loop-after.shift c.loop-after.steps (c.loop-after.invariant.stepped c.requires.tables) none.1
    (λ e. c.if-steps-self.false (e ∙ ap (λ (ts : List TableDecl). length ts) (sym c.step_line.ensures.tables))) in
    λ dues anew. fails dues anew ∙ ap (λ (r : Reader). Err r.line) (sym none.0)
