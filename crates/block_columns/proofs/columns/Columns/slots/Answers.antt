use Rattle.std.proofs.Common.{ap, ◌∙◌, sym, length}
use Rattle.block_columns.specs.Columns.{ColumnsValue, row_in}
use Rattle.std.proofs.lemmas.List.FromFn.{length-map-range_with_len}
use Rattle.block_columns.proofs.columns.Columns.slots.Goals as goal

pub returns : goal.returns
returns c = sym (length-map-range_with_len (row_in c.self.inside.taken c.self.inside.columns.items) 0 c.self.inside.slots) ∙ ap (λ (v : ColumnsValue). length v.rows) c.self.view_is
