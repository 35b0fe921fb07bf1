-- What values lie so in a column's buffers.
use Rattle.cell_model.specs.declared.values.Values.{Values}
use Rattle.cell_model.specs.declared.values.Values.TheVariants as values
use Rattle.ipc_read.specs.declared.layout.Layout.{Layout}
use Rattle.ipc_read.specs.declared.layout.Layout.TheVariants as layout

abbrev pub values_in : Layout → Values
values_in (layout.Signed width) = values.Signed width
values_in (layout.Unsigned width) = values.Unsigned width
values_in layout.Truths = values.Truths
values_in (layout.Texts width) = values.Texts width
values_in (layout.Blobs width) = values.Blobs width
values_in (layout.Strips bytes) = values.Strips bytes
