use Rattle.std.proofs.Common.{◌≡◌, ◌∙◌, Vec, Global, ℕ, List, map, ap, sym, Ok, Result}
use Rattle.std.proofs.lemmas.Result.{IfOk-weaker}
use Rattle.cell_model.specs.declared.cell.Cell.{Cell}
use Rattle.stream_spec.specs.Columns.{cells_in, columns_of}
use Rattle.stream_spec.specs.declared.fault.Cause.{Cause}
use Rattle.ipc_read.specs.Fields.{cells_told}
use Rattle.ipc_read.specs.declared.fields.FieldView.{FieldView}
use Rattle.ipc_read.proofs.BatchLemmas.{cells_read}
use Rattle.ipc_read.proofs.batch.checked_views.Goals as goal

pub returns-clause-ok : goal.returns-clause-ok
returns-clause-ok c =
    let dictionaries = c.args.dictionaries.now in
    let fields = c.args.fields.now in
    let meta = c.args.meta.now in
    let body = c.args.body.now in
    let rows = c.rows-rows.result in
    let nodes = c.nodes-nodes.result.now in
    let buffers = c.buffers-buffers.result.now in
    IfOk-weaker c.views_of.result
    (λ (views : Vec FieldView Global). columns_of body rows dictionaries fields nodes buffers ≡ Ok (map (cells_told rows) views.items))
    (λ (views : Vec FieldView Global). cells_in dictionaries fields meta body ≡ Ok (map (cells_told meta.rows) views.items))
    (λ views read.
    let told : ℕ → Result (List (List Cell)) Cause = λ count. Ok (map (cells_told count) views.items) in
    cells_read dictionaries fields meta body rows nodes buffers (map (cells_told rows) views.items)
    c.rows-rows.ensures c.nodes-nodes.ensures c.buffers-buffers.ensures c.if-nodes-fields.false
    (sym c.are_buffers_of.ensures ∙ c.if-not-are_buffers_of.false) (sym c.have_slots.ensures ∙ c.if-not-have_slots.false) read
    ∙ ap told c.rows-rows.ensures)
    c.views_of.ensures.ok
