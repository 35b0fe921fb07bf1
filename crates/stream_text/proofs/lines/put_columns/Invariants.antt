use Rattle.std.proofs.Common.{◌≡◌, ◌++◌, drop, map}
use Rattle.stream_text.specs.Shown.{column_text, field_columns}
use Rattle.word_text.specs.Words.{behind_spaces}
use Rattle.stream_text.proofs.lines.put_columns.Given as goal

-- the fields so far, and then those that are left
abbrev pub invariant-loop-field : goal.invariant-loop-field
invariant-loop-field l =
    l.out.items ++ behind_spaces (map column_text (field_columns (drop l.field-index l.fields)))
    ≡ l.initial.out.items ++ behind_spaces (map column_text (field_columns l.fields))
