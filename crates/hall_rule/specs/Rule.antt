-- The rule of a hall's table.
use Rattle.std.specs.Prelude.{List, Option}
use Rattle.atomic_table.specs.Table.{State}
use Rattle.hall_rule.specs.HallInvariant.{HallInvariant, Owners}
use Rattle.hall_rule.specs.Meaning.{Meaning}
use Rattle.hall_rule.specs.declared.view.Entry.{Entry}
use Rattle.hall_rule.specs.declared.view.View.{View}

-- The invariant holds for some log and for some owners.
abbrev pub Rule : {P E T F : Type 0} → Meaning P E T F → State (Option P) (View E) → Type 0
Rule {P} {E} {T} {F} M s = (log : List (Entry E)) × (owners : Owners) × HallInvariant M log owners s
