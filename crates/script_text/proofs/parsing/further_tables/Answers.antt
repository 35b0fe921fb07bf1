use Rattle.std.proofs.Common.{◌≡◌, ◌+◌, ◌<◌, true, length, sym, ap, ◌∙◌, arith, ◌∷◌, []}
use Rattle.std.proofs.lemmas.List.{length-append}
use Rattle.workload_spec.specs.Words.{line_feed}
use Rattle.workload_spec.specs.Reading.{parts}
use Rattle.workload_spec.specs.Grammar.{is_table_line, tables_from}
use Rattle.script_text.proofs.NextLines.{parts_some}
use Rattle.script_text.proofs.TableLines.{table_full, table_next, table_bad}
use Rattle.script_text.proofs.parsing.further_tables.Goals as goal

pub returns-then-len-extent-clause-read : goal.returns-then-len-extent-clause-read
returns-then-len-extent-clause-read c =
    let tables = c.loop-line.tables in
    let at = length tables + 2 in
    let is : is_table_line c.in-Some.line.now ≡ true = sym c.is_table_line.ensures ∙ c.if-not-is_table_line.false in
    let counted : c.len.result ≡ length tables = omega arith in
    rw counted (c.loop-line.invariant.read ∙ ap (tables_from c.args.extent.now at tables) c.in-Some.ensures.some
    ∙ table_full c.args.extent.now at tables c.in-Some.line.now (parts line_feed c.in-Some.behind.now) (parts_some line_feed c.in-Some.behind.now) is (omega arith))

pub returns-in-Err-clause-read : goal.returns-in-Err-clause-read
returns-in-Err-clause-read c =
    let tables = c.loop-line.tables in
    let at = length tables + 2 in
    let is : is_table_line c.in-Some.line.now ≡ true = sym c.is_table_line.ensures ∙ c.if-not-is_table_line.false in
    let counted : c.len.result ≡ length tables = omega arith in
    rw (c.on_line.ensures, counted, c.loop-line.invariant.read, c.in-Some.ensures.some)
    (table_bad c.args.extent.now at tables c.in-Some.line.now (parts line_feed c.in-Some.behind.now) c.in-Err.fault (parts_some line_feed c.in-Some.behind.now) is (omega arith) c.in-Err.ensures.read)

pub loop-line-preserved : goal.loop-line-preserved
loop-line-preserved c =
    let tables = c.loop-line.tables in
    let at = length tables + 2 in
    let is : is_table_line c.in-Some.line.now ≡ true = sym c.is_table_line.ensures ∙ c.if-not-is_table_line.false in
    let room : length tables < c.args.extent.now.tables = omega arith in
    let pushed = c.in_ok-tables-in-Ok.ensures in
    let grown = length-append tables (c.in-Ok.table ∷ []) in
    let next : length c.in_ok-tables-in-Ok.tables + 2 ≡ at + 1 = omega (arith, ap length pushed, grown) in
    record {
      few = omega (arith, ap length pushed, grown, room);
      read = rw (next, pushed) (c.loop-line.invariant.read ∙ ap (tables_from c.args.extent.now at tables) c.in-Some.ensures.some
          ∙ table_next c.args.extent.now at tables c.in-Some.line.now (parts line_feed c.in-Some.behind.now) c.in-Ok.table (parts_some line_feed c.in-Some.behind.now) is room c.in-Ok.ensures.read);
    }
