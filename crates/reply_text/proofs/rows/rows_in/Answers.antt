use Rattle.std.proofs.Common.{◌≡◌, sym, refl}
use Rattle.std.specs.Prelude.{None, codes}
use Rattle.workload_spec.specs.Words.{line_feed}
use Rattle.workload_spec.specs.Reading.{parts}
use Rattle.workload_laws.proofs.Parts.{parts_some}
use Rattle.reply_text.specs.Readers.{behind}
use Rattle.reply_text.proofs.RowLemmas.{no_row}
use Rattle.reply_text.proofs.rows.rows_in.Goals as goal

pub returns-in_default-behind : goal.returns-in_default-behind
returns-in_default-behind c =
    let none : behind (codes "| ") c.in-Some.line.now ≡ None = sym c.in_default-behind.ensures in
    rw (c.loop-line.invariant, c.in-Some.ensures.some, no_row c.in-Some.line.now (parts line_feed c.in-Some.others.now) (parts_some line_feed c.in-Some.others.now) none) refl
