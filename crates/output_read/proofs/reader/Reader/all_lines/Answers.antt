use Rattle.std.proofs.Common.{◌+◌, ◌≡◌, ◌∙◌, ap, subst, ℕ, List, ◌<◌, length}
use Rattle.std.specs.List.{list_all, slice_index_or}
use Rattle.workload_spec.specs.Valid.{is_line}
use Rattle.workload_spec.specs.declared.script.Line.{Line}
use Rattle.outcome_spec.specs.Forms.{dues_in}
use Rattle.output_read.specs.Readers.{FailsAt, Passes}
use Rattle.output_read.proofs.Faults.{on-line}
use Rattle.output_read.proofs.RoundParts.{item-lines, rounds-next, rounds-fail}
use Rattle.output_read.proofs.reader.Reader.all_lines.Goals as goal

pub round_lines-requires-clause-lines : goal.round_lines-requires-clause-lines
round_lines-requires-clause-lines c =
    let rounds_are = c.as_slice-round-items.ensures in
    let few = subst (λ (rounds : List (List Line)). c.loop-round.round-index < length rounds) rounds_are c.loop-round-test.true in
    let is = subst (λ (rounds : List (List Line)). c.round-item.result ≡ slice_index_or rounds c.loop-round.round-index c.round-item.result) rounds_are c.round-item.is in
    ap (list_all (is_line c.args.script.now)) c.as_slice.ensures
    ∙ item-lines c.args.script.now c.args.self.now c.loop-round.self c.loop-round.within.items c.loop-round.round-index c.loop-round.number c.round-item.result few is c.loop-round.invariant.number c.loop-round.invariant.rounds c.requires.valid

pub returns-in_err-round_lines-clause-failed : goal.returns-in_err-round_lines-clause-failed
returns-in_err-round_lines-clause-failed c =
    let rounds_are = c.as_slice-round-items.ensures in
    let few = subst (λ (rounds : List (List Line)). c.loop-round.round-index < length rounds) rounds_are c.loop-round-test.true in
    let is = subst (λ (rounds : List (List Line)). c.round-item.result ≡ slice_index_or rounds c.loop-round.round-index c.round-item.result) rounds_are c.round-item.is in
    on-line (Unit {0}) _ c.from_residual-in_err-round_lines.result _ _ _ c.from_residual-in_err-round_lines.ensures
    (λ line fails. rounds-fail c.args.script.now c.args.self.now c.loop-round.self c.loop-round.within.items c.loop-round.round-index c.loop-round.number c.round-item.result few is c.loop-round.invariant.number c.loop-round.invariant.rounds line
    (subst (λ (lines : List Line). FailsAt c.loop-round.self (dues_in c.args.script.now (c.loop-round.number + 1) lines) line) c.as_slice.ensures fails))
    c.in_err-round_lines.ensures.failed

pub loop-round-preserved : goal.loop-round-preserved
loop-round-preserved c =
    let rounds_are = c.as_slice-round-items.ensures in
    let few = subst (λ (rounds : List (List Line)). c.loop-round.round-index < length rounds) rounds_are c.loop-round-test.true in
    let is = subst (λ (rounds : List (List Line)). c.round-item.result ≡ slice_index_or rounds c.loop-round.round-index c.round-item.result) rounds_are c.round-item.is in
    record {
      number = ap (λ (n : ℕ). n + 1) c.loop-round.invariant.number;
      rounds = rounds-next c.args.script.now c.args.self.now c.loop-round.self c.loop-round.within.items c.loop-round.round-index c.loop-round.number c.round-item.result few is c.loop-round.invariant.number c.loop-round.invariant.rounds
          c.round_lines.new.self c.round_lines.new.within.items c.round_lines.ensures.tables c.in_ok-round_lines.ensures.read
          (subst (λ (lines : List Line). Passes c.loop-round.self c.round_lines.new.self (dues_in c.args.script.now (c.loop-round.number + 1) lines)) c.as_slice.ensures c.in_ok-round_lines.ensures.passed);
    }
