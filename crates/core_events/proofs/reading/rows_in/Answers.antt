use Rattle.std.proofs.Common.{◌∙◌, sym}
use Rattle.core_events.proofs.Rows.{each_ok, none_there, quiet_rows}
use Rattle.core_events.proofs.reading.rows_in.Goals as goal

pub returns-then-is_front-clause-rows : goal.returns-then-is_front-clause-rows
returns-then-is_front-clause-rows g c =
    let none = sym c.by_row.ensures ∙ none_there c.by_row.result.now.entries (c.is_empty.ensures.0 c.if-is_empty.true) in
    each_ok c.front_rows.result
    (λ rows told. told ∙ quiet_rows c.args.own.now c.args.table c.args.block none c.args.body.now (sym c.is_quiet.ensures ∙ c.if-is_quiet.true))
    c.front_rows.ensures.rows
