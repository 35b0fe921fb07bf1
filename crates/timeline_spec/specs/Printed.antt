-- The printed replies of a run: each answers what is due, in the order of the lines.
use Rattle.std.specs.Prelude.{ℕ, List, [], ◌∷◌, ◌++◌, map, Option, None, Some}
use Rattle.cell_model.specs.declared.table.TableDecl.{TableDecl}
use Rattle.workload_spec.specs.declared.script.Script.{Script}
use Rattle.workload_spec.specs.declared.reply.Said.{Said}
use Rattle.workload_spec.specs.ReplyText.{replies_text}
use Rattle.outcome_spec.specs.Entries.{Entry}
use Rattle.outcome_spec.specs.Forms.{Due, dues_of, entry_behind}

-- the replies behind these that answer what is due; what is silent leaves no line
abbrev pub printed_from : List TableDecl → List Entry → List Due → List (Option Said) → List Entry
printed_from tables earlier [] told = []
printed_from tables earlier (due ∷ dues) [] = []
printed_from tables earlier (due ∷ dues) (None ∷ told) = printed_from tables earlier dues told
printed_from tables earlier (due ∷ dues) (Some said ∷ told) =
    entry_behind tables earlier due said ∷ printed_from tables
    (earlier ++ entry_behind tables earlier due said ∷ []) dues told

-- the printed replies of a script that is answered so
abbrev pub printed_of : Script → List (Option Said) → List Entry
printed_of script told = printed_from script.tables [] (dues_of script) told

-- The text of the printed replies.
abbrev pub text_of : Script → List (Option Said) → List ℕ
text_of script told = replies_text script.tables
    (map (λ entry. entry.reply) (printed_of script told))
