use Rattle.std.proofs.Common.{◌++◌, ◌∷◌, ap, ◌∙◌, map, List, ℕ}
use Rattle.cell_model.specs.declared.column.Column.{Column}
use Rattle.workload_spec.specs.ScriptText.{column_text}
use Rattle.word_text.specs.Words.{behind_spaces}
use Rattle.script_text.proofs.Spaces.{table_line}
use Rattle.script_text.proofs.printing.put_table.Goals as goal

pub returns : goal.returns
returns c =
    table_line c.args.table.now c.args.out.now.items c.extend_from_slice.new.self.items c.put_word.new.out.items c.put_columns.new.out.items c.put_limits.new.out.items c.push.new.self.items
    c.in_ok-extend_from_slice.ensures.items
    (c.in_ok-put_word.ensures ∙ ap (λ (name : List ℕ). c.extend_from_slice.new.self.items ++ 32 ∷ name) c.as_slice.ensures)
    (c.in_ok-put_columns.ensures ∙ ap (λ (columns : List Column). c.put_word.new.out.items ++ behind_spaces (map column_text columns)) c.columns.ensures.columns)
    c.in_ok-put_limits.ensures c.in_ok-push.ensures.items
