use Rattle.std.proofs.Common.{◌≡◌, ◌∙◌, subst, arith, ℕ}
use Rattle.output_read.specs.Readers.{Passes}
use Rattle.output_read.specs.Rounds.{session_part}
use Rattle.output_read.proofs.Faults.{on-line}
use Rattle.output_read.proofs.RoundParts.{ask-tables, ask-few, ask-lines, sessions-start, sessions-next, sessions-fail, sessions-end}
use Rattle.output_read.proofs.reader.Reader.session_lines.Goals as goal

pub loop-at-init : goal.loop-at-init
loop-at-init c = sessions-start c.args.script.now c.args.round c.args.lines.now c.args.self.now c.args.within.now.items c.requires.before

pub session_replies-requires-clause-tables : goal.session_replies-requires-clause-tables
session_replies-requires-clause-tables c = ask-tables c.args.script.now c.loop-at.self c.requires.valid c.loop-at.invariant.stands.tables

pub session_replies-requires-clause-few : goal.session_replies-requires-clause-few
session_replies-requires-clause-few c = (ask-few c.args.script.now c.loop-at.self c.requires.valid c.loop-at.invariant.stands.tables).1

pub session_replies-requires-clause-reading : goal.session_replies-requires-clause-reading
session_replies-requires-clause-reading c = c.loop-at.invariant.stands.reading

pub session_replies-requires-clause-ahead : goal.session_replies-requires-clause-ahead
session_replies-requires-clause-ahead c = c.loop-at.invariant.stands.ahead

pub session_replies-requires-clause-lines : goal.session_replies-requires-clause-lines
session_replies-requires-clause-lines c = ask-lines c.args.script.now c.args.round c.args.lines.now c.args.self.now c.loop-at.self c.loop-at.within.items c.loop-at.at c.loop-at-test.true c.loop-at.invariant c.requires.lines

pub loop-at-preserved : goal.loop-at-preserved
loop-at-preserved c =
    sessions-next c.args.script.now c.args.round c.args.lines.now c.args.self.now c.loop-at.self c.loop-at.within.items c.loop-at.at c.loop-at-test.true c.loop-at.invariant
    c.session_replies.new.self c.in_ok-after.after c.session_replies.ensures.tables c.in_ok-after.ensures.read

pub returns-in_err-after-clause-tables : goal.returns-in_err-after-clause-tables
returns-in_err-after-clause-tables c = c.session_replies.ensures.tables ∙ c.loop-at.invariant.tables

pub returns-in_err-after-clause-failed : goal.returns-in_err-after-clause-failed
returns-in_err-after-clause-failed c =
    on-line (Unit {0}) _ c.from_residual.result _ _ _ c.from_residual.ensures
    (sessions-fail c.args.script.now c.args.round c.args.lines.now c.args.self.now c.loop-at.self c.loop-at.within.items c.loop-at.at c.loop-at-test.true c.loop-at.invariant)
    c.in_err-after.ensures.failed

pub returns-clause-tables : goal.returns-clause-tables
returns-clause-tables c = c.loop-at.invariant.tables

pub returns-clause-read : goal.returns-clause-read
returns-clause-read c = sessions-end c.args.script.now c.args.round c.args.lines.now c.args.self.now c.loop-at.self c.loop-at.within.items c.loop-at.at c.loop-at.invariant

pub returns-clause-passed : goal.returns-clause-passed
returns-clause-passed c =
    let past = c.loop-at-test.false in
    let most = c.loop-at.auto.at-end in
    let same : c.loop-at.at ≡ c.args.script.now.sessions = omega (arith, past, most) in
    subst (λ (n : ℕ). Passes c.args.self.now c.loop-at.self (session_part c.args.round c.args.lines.now n)) same c.loop-at.invariant.passes
