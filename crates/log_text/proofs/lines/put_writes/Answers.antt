use Rattle.std.proofs.Common.{◌∙◌}
use Rattle.log_text.proofs.Behind.{write_next}
use Rattle.log_text.proofs.lines.put_writes.Goals as goal

pub loop-write-preserved : goal.loop-write-preserved
loop-write-preserved c =
    write_next c.args.tables.now c.loop-write.out.items c.put_write.new.out.items
    c.loop-write.write-index c.args.writes.now c.write-item.result c.loop-write-test.true
    c.write-item.is c.in_ok-put_write.ensures
    ∙ c.loop-write.invariant
