-- The replies that are read from an output.
use Rattle.std.specs.Prelude.{◌≡◌, ℕ, List, Ok}
use Rattle.workload_spec.specs.declared.script.Script.{Script}
use Rattle.outcome_spec.specs.Entries.{Entry}
use Rattle.outcome_spec.specs.Explained.{replies_of}
use Rattle.order_laws.specs.Opened.{OpensOutside}
use Rattle.order_laws.specs.Places.{Rises}

-- The replies of a text that was read stand in the order of their lines.
abbrev pub ReadRepliesRise : Type 0
ReadRepliesRise = (script : Script) (text : List ℕ) (entries : List Entry) → replies_of script text
    ≡ Ok entries → Rises entries

-- They open transactions only where their session is in none.
abbrev pub ReadRepliesOpenOutside : Type 0
ReadRepliesOpenOutside = (script : Script) (text : List ℕ) (entries : List Entry)
    → replies_of script text ≡ Ok entries → OpensOutside entries
