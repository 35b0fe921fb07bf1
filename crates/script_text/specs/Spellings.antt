-- The cells of columns that words spell.
use Rattle.std.specs.Prelude.{ℕ, List, Option, None, Some, option_map}
use Rattle.std.specs.Option.{option_map_or}
use Rattle.cell_model.specs.declared.cell.Cell.{Cell}
use Rattle.cell_model.specs.declared.cell.Cell.TheVariants.{Num, Truth, Text, Blob}
use Rattle.cell_model.specs.declared.column.Column.{Column}
use Rattle.cell_model.specs.Rows.{cell_fault}
use Rattle.cell_model.specs.declared.values.Values.{Values}
use Rattle.cell_model.specs.declared.values.Values.TheVariants.{Signed, Unsigned, Truths}
use Rattle.cell_model.specs.declared.values.Values.TheVariants.{Texts, Blobs, Strips}
use Rattle.workload_spec.specs.Reading.{integer_of}
use Rattle.word_read.specs.Numbers.{small_integer}
use Rattle.word_read.specs.Spellings.{truth_of, text_of, blob_of}

-- the value among these that a word spells; an integer only where its magnitude is below 2^64
abbrev pub value_spelled : Values → List ℕ → Option Cell
value_spelled (Signed width) word = option_map Num (small_integer (integer_of word))
value_spelled (Unsigned width) word = option_map Num (small_integer (integer_of word))
value_spelled Truths word = option_map Truth (truth_of word)
value_spelled (Texts width) word = option_map Text (text_of word)
value_spelled (Blobs width) word = option_map Blob (blob_of word)
value_spelled (Strips bytes) word = option_map Blob (blob_of word)

-- the cell, where it may stand in the column
abbrev pub standing : Column → Cell → Option Cell
standing column cell = option_map_or (λ fault. None) (cell_fault 0 column cell) (Some cell)
