use Rattle.std.proofs.Common.{◌≡◌, ◌∙◌, arith, ℕ, subst}
use Rattle.output_read.specs.Work.{WorkGoes, turns_of}
use Rattle.output_read.proofs.Faults.{on-line}
use Rattle.output_read.proofs.Shifts.{turned-start, turned-more, turned-fails, turned-ends, asks-tables, asks-few}
use Rattle.output_read.proofs.reader.Reader.turn_lines.Goals as goal

pub loop-init : goal.loop-init
loop-init c =
    let a = c.ranges.round in
    let b = c.ranges.worker in
    turned-start c.args.self.now c.args.round c.args.worker (omega (arith, a)) (omega (arith, b)) c.requires.reading c.requires.ahead

pub turn-requires-clause-tables : goal.turn-requires-clause-tables
turn-requires-clause-tables c = asks-tables c.args.self.now c.loop.self c.args.round c.args.worker c.loop.shift c.loop.counter c.loop.invariant c.requires.tables

pub turn-requires-clause-few : goal.turn-requires-clause-few
turn-requires-clause-few c = asks-few c.args.self.now c.loop.self c.args.round c.args.worker c.loop.shift c.loop.counter c.loop.invariant c.requires.few

pub turn-requires-clause-reading : goal.turn-requires-clause-reading
turn-requires-clause-reading c = c.loop.invariant.reading

pub turn-requires-clause-shift : goal.turn-requires-clause-shift
turn-requires-clause-shift c = c.loop.invariant.shift_is

pub returns-in_err-shift-clause-tables : goal.returns-in_err-shift-clause-tables
returns-in_err-shift-clause-tables c = c.turn.ensures.tables ∙ c.loop.invariant.tables

pub returns-in_err-shift-clause-failed : goal.returns-in_err-shift-clause-failed
returns-in_err-shift-clause-failed c =
    on-line (Unit {0}) _ c.from_residual.result _ _ _ c.from_residual.ensures
    (λ n f. turned-fails c.args.self.now c.loop.self c.args.round c.args.worker c.loop.shift c.loop.counter c.loop.invariant c.args.turns c.loop-test.true n f)
    c.in_err-shift.ensures.failed

pub loop-preserved : goal.loop-preserved
loop-preserved c = turned-more c.args.self.now c.loop.self c.args.round c.args.worker c.loop.shift c.loop.counter c.loop.invariant c.turn.new.self _ c.turn.ensures.tables c.in_ok-shift.ensures.read

pub returns-clause-tables : goal.returns-clause-tables
returns-clause-tables c = c.loop.invariant.tables

pub returns-clause-read : goal.returns-clause-read
returns-clause-read c =
    let past = c.loop-test.false in
    let most = c.loop.auto.counter-end in
    let same : c.loop.counter ≡ c.args.turns = omega (arith, past, most) in
    subst (λ (n : ℕ). WorkGoes c.args.self.now c.loop.self c.args.round c.args.worker (turns_of n c.args.self.now.tables.now)) same
    (turned-ends c.args.self.now c.loop.self c.args.round c.args.worker c.loop.shift c.loop.counter c.loop.invariant)
