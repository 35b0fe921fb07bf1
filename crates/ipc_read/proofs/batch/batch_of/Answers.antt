use Rattle.std.proofs.Common.{◌∙◌, ℕ, List, ap, sym, refl, Ok, Result}
use Rattle.cell_model.specs.declared.cell.Cell.{Cell}
use Rattle.stream_spec.specs.declared.fault.Cause.{Cause}
use Rattle.ipc_read.specs.Batches.{rows_in}
use Rattle.ipc_read.proofs.BatchLemmas.{rows_read}
use Rattle.ipc_read.proofs.batch.batch_of.Goals as goal

pub returns-clause-ok : goal.returns-clause-ok
returns-clause-ok c =
    let views = c.in_ok-views.views.items in
    let told : ℕ → Result (List (List Cell)) Cause = λ count. Ok (rows_in count views) in
    rows_read c.args.dictionaries.now c.args.fields.now c.args.meta.now c.args.body.now c.args.meta.now.rows views refl c.in_ok-views.ensures.ok
    ∙ ap told (sym c.rows.ensures)
