use Rattle.std.proofs.Common.{sym, ◌∙◌}
use Rattle.cell_model.specs.Widths.{offset_width}
use Rattle.ipc_read.specs.Offsets.{rises}
use Rattle.ipc_read.proofs.RangeLemmas.{all_fails, all_next}
use Rattle.ipc_read.proofs.offsets.all_rise.Goals as goal

pub returns-then-not-rises : goal.returns-then-not-rises
returns-then-not-rises c = sym (all_fails (rises (offset_width c.args.width) c.args.offsets.now) c.loop-i.i c.args.rows c.loop-i-test.true (sym c.rises.ensures ∙ c.if-not-rises.true))

pub loop-i-preserved : goal.loop-i-preserved
loop-i-preserved c = all_next (rises (offset_width c.args.width) c.args.offsets.now) c.loop-i.i c.loop-i.invariant (sym c.rises.ensures ∙ c.if-not-rises.false)
