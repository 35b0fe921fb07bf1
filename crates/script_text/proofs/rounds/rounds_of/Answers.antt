use Rattle.std.proofs.Common.{◌≡◌, false, true, sym, ap, ◌∙◌, arith}
use Rattle.std.specs.Prelude.{◌&&◌, bytes_eq, codes}
use Rattle.workload_spec.specs.Words.{line_feed}
use Rattle.workload_spec.specs.Reading.{parts}
use Rattle.script_text.proofs.RoundLines.{Read, begun, line_read, line_bad, round_read}
use Rattle.script_text.proofs.rounds.rounds_of.Goals as goal
use Rattle.script_text.proofs.rounds.rounds_of.Goals.{then-is_parting+in_ok-push+in_ok-lines, else-is_parting+in-Ok+in_ok-push-2}

pub loop-line-init : goal.loop-line-init
loop-line-init c = record {
  numbered = omega arith;
  read = rw (c.new-rounds.ensures.items, c.new-lines.ensures.items) (begun c.args.extent.now c.args.tables.now c.args.sessions c.args.first false (parts line_feed c.args.bytes.now));
}

pub returns-in-Err : goal.returns-in-Err
returns-in-Err c =
    let other : (c.args.extent.now.parts_rounds && bytes_eq c.in-Some.line.now (codes "--")) ≡ false = sym c.is_parting.ensures ∙ c.if-is_parting.false in
    rw (c.on_line.ensures, c.loop-line.invariant.read, c.in-Some.ensures.some)
    (line_bad c.args.extent.now c.args.tables.now c.args.sessions c.loop-line.at c.loop-line.exported c.in-Some.line.now c.in-Some.behind.now c.loop-line.rounds.items c.loop-line.lines.items c.in-Err.fault other c.in-Err.ensures)

pub loop-line-preserved : goal.loop-line-preserved
loop-line-preserved c =
    let first = ap (λ all. Read c.args.extent.now c.args.tables.now c.args.sessions c.loop-line.at c.loop-line.exported all c.loop-line.rounds.items c.loop-line.lines.items) c.in-Some.ensures.some in
    record {
      numbered = omega (arith, c.in-Some.ensures.shorter);
      read = elim c.if-is_parting.branch [
        | then-is_parting+in_ok-push+in_ok-lines w ↦
            let is : (c.args.extent.now.parts_rounds && bytes_eq c.in-Some.line.now (codes "--")) ≡ true = sym c.is_parting.ensures ∙ w.if-is_parting.true in
            rw (w.rounds-is, w.lines-is, w.exported-is, w.in_ok-push.ensures.items, w.in_ok-lines.ensures.items, w.round_of.ensures)
            (c.loop-line.invariant.read ∙ first
            ∙ round_read c.args.extent.now c.args.tables.now c.args.sessions c.loop-line.at c.loop-line.exported c.in-Some.line.now c.in-Some.behind.now c.loop-line.rounds.items c.loop-line.lines.items is)
        | else-is_parting+in-Ok+in_ok-push-2 w ↦
            let other : (c.args.extent.now.parts_rounds && bytes_eq c.in-Some.line.now (codes "--")) ≡ false = sym c.is_parting.ensures ∙ w.if-is_parting.false in
            rw (w.rounds-is, w.lines-is, w.exported-is, w.in_ok-push-2.ensures.items, w.is_export-exported.ensures)
            (c.loop-line.invariant.read ∙ first
            ∙ line_read c.args.extent.now c.args.tables.now c.args.sessions c.loop-line.at c.loop-line.exported c.in-Some.line.now c.in-Some.behind.now c.loop-line.rounds.items c.loop-line.lines.items w.in-Ok.read other w.in-Ok.ensures)
      ];
    }
