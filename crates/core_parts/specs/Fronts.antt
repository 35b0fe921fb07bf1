-- Rows that a read of a block finds, in the form in which it finds them.
use Rattle.std.specs.Prelude.{List}
use Rattle.block_spec.specs.Slots.{Row}
use Rattle.core_parts.specs.declared.read_rows.ReadForm.{ReadForm}
use Rattle.core_parts.specs.declared.read_rows.ReadForm.TheVariants as form
use Rattle.core_parts.specs.FrontValues.{rows_of_front}

-- the rows that were found
abbrev pub rows_of_form : ReadForm → List Row
rows_of_form (form.Listed rows) = rows
rows_of_form (form.Columns front) = rows_of_front front
