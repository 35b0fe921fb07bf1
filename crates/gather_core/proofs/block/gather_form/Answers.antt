use Rattle.std.proofs.Common.{◌≡◌, ◌∙◌, length, take, ap}
use Rattle.std.proofs.lemmas.Result.{IfOk-weaker}
use Rattle.block_columns.specs.Images.{FormValue}
use Rattle.gather_core.proofs.Columns.{buffers_long, whole_buffers}
use Rattle.gather_core.proofs.block.gather_form.Goals as goal

pub form_of-requires : goal.form_of-requires
form_of-requires g c = whole_buffers c.args.columns.now c.args.rows c.in_ok-buffers.buffers.items c.requires.held c.in_ok-buffers.ensures

pub returns-clause-each : goal.returns-clause-each
returns-clause-each g c =
    IfOk-weaker c.form_of.result
    (λ (form : FormValue). form.buffers ≡ c.in_ok-buffers.buffers.items)
    (λ (form : FormValue). length form.buffers ≡ length c.args.columns.now.columns)
    (λ form same. ap length (same ∙ c.in_ok-buffers.ensures) ∙ buffers_long 0 c.args.columns.now.columns (take c.args.rows c.args.columns.now.rows))
    c.form_of.ensures.buffers
