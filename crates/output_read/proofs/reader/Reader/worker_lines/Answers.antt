use Rattle.std.proofs.Common.{◌≡◌, ◌∙◌, subst, arith, ℕ}
use Rattle.output_read.specs.Readers.{Passes}
use Rattle.output_read.specs.Rounds.{worker_part}
use Rattle.output_read.proofs.Faults.{on-line}
use Rattle.output_read.proofs.RoundParts.{ask-tables, ask-few, workers-start, workers-next, workers-fail, workers-within, workers-ahead}
use Rattle.output_read.proofs.reader.Reader.worker_lines.Goals as goal

pub loop-at-init : goal.loop-at-init
loop-at-init c = λ same. workers-start c.args.script.now c.args.round c.args.self.now same c.requires.reading c.requires.ahead

pub turn_lines-requires-clause-tables : goal.turn_lines-requires-clause-tables
turn_lines-requires-clause-tables c = ask-tables c.args.script.now c.loop-at.self c.requires.valid ((c.loop-at.invariant c.requires.tables).tables ∙ c.requires.tables)

pub turn_lines-requires-clause-few : goal.turn_lines-requires-clause-few
turn_lines-requires-clause-few c = ask-few c.args.script.now c.loop-at.self c.requires.valid ((c.loop-at.invariant c.requires.tables).tables ∙ c.requires.tables)

pub turn_lines-requires-clause-reading : goal.turn_lines-requires-clause-reading
turn_lines-requires-clause-reading c = (c.loop-at.invariant c.requires.tables).reading

pub turn_lines-requires-clause-ahead : goal.turn_lines-requires-clause-ahead
turn_lines-requires-clause-ahead c = (c.loop-at.invariant c.requires.tables).ahead

pub loop-at-preserved : goal.loop-at-preserved
loop-at-preserved c = λ same. workers-next c.args.script.now c.args.round c.args.self.now same c.loop-at.self c.loop-at.at (c.loop-at.invariant same) c.turn_lines.new.self c.turn_lines.ensures.tables c.in_ok-turn_lines.ensures.read

pub returns-in_err-turn_lines-clause-tables : goal.returns-in_err-turn_lines-clause-tables
returns-in_err-turn_lines-clause-tables c = c.turn_lines.ensures.tables ∙ (c.loop-at.invariant c.requires.tables).tables

pub returns-in_err-turn_lines-clause-failed : goal.returns-in_err-turn_lines-clause-failed
returns-in_err-turn_lines-clause-failed c =
    on-line (Unit {0}) _ c.from_residual.result _ _ _ c.from_residual.ensures
    (workers-fail c.args.script.now c.args.round c.args.self.now c.requires.tables c.loop-at.self c.loop-at.at (c.loop-at.invariant c.requires.tables) c.loop-at-test.true)
    c.in_err-turn_lines.ensures.failed

pub returns-clause-tables : goal.returns-clause-tables
returns-clause-tables c = (c.loop-at.invariant c.requires.tables).tables

pub returns-clause-read : goal.returns-clause-read
returns-clause-read c = (c.loop-at.invariant c.requires.tables).reading

pub returns-clause-ahead : goal.returns-clause-ahead
returns-clause-ahead c = workers-ahead c.args.script.now c.args.round c.args.self.now c.requires.tables c.loop-at.self c.loop-at.at (c.loop-at.invariant c.requires.tables)

pub returns-clause-within : goal.returns-clause-within
returns-clause-within c = workers-within c.args.script.now c.args.round c.args.self.now c.requires.tables c.loop-at.self c.loop-at.at (c.loop-at.invariant c.requires.tables)

pub returns-clause-passed : goal.returns-clause-passed
returns-clause-passed c =
    let past = c.loop-at-test.false in
    let most = c.loop-at.auto.at-end in
    let same : c.loop-at.at ≡ c.args.script.now.workers = omega (arith, past, most) in
    subst (λ (n : ℕ). Passes c.args.self.now c.loop-at.self (worker_part c.args.script.now c.args.round n)) same (c.loop-at.invariant c.requires.tables).passes
