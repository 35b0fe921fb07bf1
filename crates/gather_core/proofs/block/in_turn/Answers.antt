use Rattle.std.proofs.Common.{take, arith}
use Rattle.gather_core.specs.Gathered.{buffers_from}
use Rattle.gather_core.proofs.Columns.{buffers_all, buffers_long, buffers_more}
use Rattle.gather_core.proofs.block.in_turn.Goals as goal

pub loop-at-preserved : goal.loop-at-preserved
loop-at-preserved c =
    buffers_more (buffers_from 0 c.args.columns.now.columns (take c.args.n c.args.columns.now.rows)) c.loop-at.buffers.items c.push.new.self.items c.loop-at.at
    c.in_ok-buffers_at.field-0 c.loop-at.invariant
    (omega (arith, c.loop-at-test.true, c.width-at-end.ensures, buffers_long 0 c.args.columns.now.columns (take c.args.n c.args.columns.now.rows)))
    c.in_ok-buffers_at.ensures c.in_ok-push.ensures.items

pub returns : goal.returns
returns c =
    buffers_all c.args.columns.now.columns (take c.args.n c.args.columns.now.rows) c.loop-at.at c.loop-at.buffers.items c.loop-at.invariant
    (omega (arith, c.loop-at-test.false, c.width-at-end.ensures))
