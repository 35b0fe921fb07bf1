use Rattle.std.proofs.Common.{◌+◌, ℕ, min, unsigned_abs, length, ap, ◌∙◌}
use Rattle.cell_model.specs.Widths.{offset_width}
use Rattle.stream_spec.specs.Columns.{offset_of}
use Rattle.ipc_read.proofs.OffsetLemmas.{cut_value}
use Rattle.ipc_read.proofs.offsets.value.Goals as goal

pub returns : goal.returns
returns c =
    let offsets = c.args.offsets.now in
    let width = offset_width c.args.width in
    let i = c.args.i in
    cut_value c.args.values.now (unsigned_abs (offset_of width offsets i)) (unsigned_abs (offset_of width offsets (i + 1))) c.min-start.result c.min-end.result
    (c.min-end.ensures ∙ ap (λ (n : ℕ). min n (length c.args.values.now)) c.distance.ensures)
    (c.min-start.ensures ∙ ap (λ (n : ℕ). min n c.min-end.result) c.distance-2.ensures)
