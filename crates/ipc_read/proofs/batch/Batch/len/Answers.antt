use Rattle.std.proofs.Common.{length, sym, ap, ◌∙◌}
use Rattle.std.proofs.lemmas.List.FromFn.{length-map-range_with_len}
use Rattle.ipc_read.specs.Batches.{BatchRead}
use Rattle.ipc_read.specs.Batches.{row_in}
use Rattle.ipc_read.proofs.batch.Batch.len.Goals as goal

pub returns : goal.returns
returns c =
    sym (length-map-range_with_len (row_in c.self.inside.views.items) 0 c.self.inside.rows)
    ∙ ap (λ (b : BatchRead). length b.rows) c.self.view_is
