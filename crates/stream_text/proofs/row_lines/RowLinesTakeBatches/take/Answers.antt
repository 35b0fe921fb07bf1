use Rattle.std.proofs.Common.{◌+◌, ◌≤◌, length, arith}
use Rattle.stream_text.proofs.RowLemmas.{rows_are_fewer}
use Rattle.stream_text.proofs.row_lines.RowLinesTakeBatches.take.Goals as goal

pub overflow_add-self : goal.overflow_add-self
overflow_add-self c =
    let text = c.args.self.now.text in
    let more = c.put_rows.new.out in
    let fits : length text.items + length c.args.batch.now.rows ≤ length more.items =
    rows_are_fewer text.items c.args.batch.now.rows more.items c.in_ok-put_rows.ensures in
    omega (
      arith,
      fits,
      text.ok.0,
      more.ok.0,
      more.ok.1,
      more.small,
      c.args.self.now.few,
      c.len.ensures,
      c.replace-counted.ensures.value,
    )

pub invariant_of-self-2 : goal.invariant_of-self-2
invariant_of-self-2 c =
    let text = c.args.self.now.text in
    let more = c.put_rows.new.out in
    let fits : length text.items + length c.args.batch.now.rows ≤ length more.items =
    rows_are_fewer text.items c.args.batch.now.rows more.items c.in_ok-put_rows.ensures in
    record {
      few = omega (
        arith,
        fits,
        text.ok.0,
        more.ok.0,
        c.args.self.now.few,
        c.len.ensures,
        c.replace-counted.ensures.value,
      );
    }
