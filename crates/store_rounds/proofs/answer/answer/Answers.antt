use Rattle.std.proofs.Common.{ap, sym, ◌∙◌}
use Rattle.workload_spec.specs.Valid.{is_command}
use Rattle.shared_store.specs.Store.{shape_in}
use Rattle.store_rounds.proofs.Answering.{refused, table_named, table_of_key, table_of_range}
use Rattle.store_rounds.proofs.answer.answer.Goals as goal

pub returns-then-not-busy-clause-answers : goal.returns-then-not-busy-clause-answers
returns-then-not-busy-clause-answers g c =
    refused c.args.store.now c.args.session.now c.args.command c.requires.session
    (sym c.needs_transaction.ensures ∙ c.if-needs_transaction.true) (sym c.busy.ensures ∙ c.if-not-busy.true)

pub get-requires-clause-table : goal.get-requires-clause-table
get-requires-clause-table g c =
    table_of_key (shape_in c.args.store.now).tables c.in-Get.table c.in-Get.key
    (ap (is_command (shape_in c.args.store.now).tables) (sym c.in-Get.is) ∙ c.requires.command)

pub scan_uncounted-requires-clause-table : goal.scan_uncounted-requires-clause-table
scan_uncounted-requires-clause-table g c =
    table_named (shape_in c.args.store.now).tables c.in-Scan.table
    (ap (is_command (shape_in c.args.store.now).tables) (sym c.in-Scan.is) ∙ c.requires.command)

pub delete-requires-clause-table : goal.delete-requires-clause-table
delete-requires-clause-table g c =
    table_of_key (shape_in c.args.store.now).tables c.in-Delete.table c.in-Delete.key
    (ap (is_command (shape_in c.args.store.now).tables) (sym c.in-Delete.is) ∙ c.requires.command)

pub range_uncounted-requires-clause-table : goal.range_uncounted-requires-clause-table
range_uncounted-requires-clause-table g c =
    table_of_range (shape_in c.args.store.now).tables c.in-Range.table c.in-Range.low c.in-Range.high
    (ap (is_command (shape_in c.args.store.now).tables) (sym c.in-Range.is) ∙ c.requires.command)
