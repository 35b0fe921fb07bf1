use Rattle.std.proofs.Common.{arith, ◌∙◌}
use Rattle.byte_ports.proofs.KnownMore.{Appends-more}
use Rattle.byte_ports.proofs.whole.write_all.Goals as goal

pub loop-at-preserved : goal.loop-at-preserved
loop-at-preserved g c =
    let rest = rw c.split_at.ensures.back at c.in-Ok.ensures.bytes in
    record {
      within = omega (arith, c.split_at.ensures.back_len, c.in-Ok.ensures.bound);
      bytes = Appends-more _ _ _ _ _ _ c.loop-at.invariant.bytes rest;
      told = cc (c.in-Ok.ensures.told, c.loop-at.invariant.told);
      started = cc (c.in-Ok.ensures.started, c.loop-at.invariant.started);
      loan = cc (c.in-Ok.ensures.loan, c.loop-at.invariant.loan);
      kept = c.in-Ok.ensures.kept ∙ c.loop-at.invariant.kept;
    }
