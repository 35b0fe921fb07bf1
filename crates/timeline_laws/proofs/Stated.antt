-- Replies in the states of their sessions, with rows of their tables: what the lines must say to be
-- read back.
use Rattle.std.proofs.Common.{◌≡◌, ℕ, ◌≤◌, Bool, true, false, ◌||◌, List, [], ◌∷◌, ◌++◌, Option, None, Some, ℤ}
use Rattle.std.specs.Prelude.{int_lt, bytes_eq, position}
use Rattle.std.specs.Option.{option_map_or}
use Rattle.std.specs.Ordering.{int_eq}
use Rattle.cell_model.specs.declared.cell.Cell.{Cell}
use Rattle.cell_model.specs.declared.column.Column.{Column}
use Rattle.cell_model.specs.declared.table.TableDecl.{TableDecl}
use Rattle.cell_model.specs.Rows.{fits}
use Rattle.isolation_spec.specs.Contents.{key_of}
use Rattle.workload_spec.specs.declared.command.Command.{Command}
use Rattle.workload_spec.specs.declared.command.Command.TheVariants as command
use Rattle.workload_spec.specs.declared.reply.Said.{Said}
use Rattle.workload_spec.specs.declared.reply.Said.TheVariants as said
use Rattle.workload_spec.specs.declared.reply.StaleRead.{StaleRead}
use Rattle.workload_spec.specs.declared.reply.StaleRead.TheVariants as stale
use Rattle.workload_spec.specs.ScriptText.{name_of_table}
use Rattle.outcome_spec.specs.Entries.{Entry}
use Rattle.outcome_spec.specs.Forms.{Due, is_within, is_upkeep, may_be_silent, entry_behind}
use Rattle.outcome_spec.specs.Tables.{columns_at}
use Rattle.timeline_spec.specs.Forms.{IsReplyWithin, IsReplyWithout}
use Rattle.timeline_laws.proofs.Lines.{is_said}

-- rows of the columns whose keys rise, the first above this key
abbrev pub RowsRise : List Column → Option ℤ → List (List Cell) → Type 0
RowsRise columns key [] = Unit {0}
RowsRise columns key (row ∷ rows) =
    (fits columns row ≡ true) × (option_map_or (λ below. int_lt below (key_of row)) key true ≡ true) × RowsRise columns (Some (key_of row)) rows

-- a row that is got is one of the table, with the key
abbrev pub GotFits : List Column → ℤ → Said → Type 0
GotFits columns key (said.Found row) = (fits columns row ≡ true) × (int_eq (key_of row) key ≡ true)
GotFits columns key _ = Unit {0}

-- rows that are scanned are rows of the table, with keys that rise
abbrev pub ScannedFits : List Column → Said → Type 0
ScannedFits columns (said.Scanned rows) = RowsRise columns None rows
ScannedFits columns _ = Unit {0}

-- a table's name is read as its place, and begins with a letter
pub record IsNamed (tables : List TableDecl) (table : ℕ) : Type 0 where
  pub at : position (λ decl. bytes_eq decl.name (name_of_table tables table)) tables ≡ Some table
  pub first : ℕ
  pub rest : List ℕ
  pub is : name_of_table tables table ≡ first ∷ rest
  pub letter : 58 ≤ first

-- the table of a stale read
abbrev pub stale_table : StaleRead → ℕ
stale_table (stale.Key table key) = table
stale_table (stale.Table table) = table
stale_table (stale.Range table low high) = table

-- a stale read is of a table that is named
abbrev pub StaleFits : List TableDecl → Said → Type 0
StaleFits tables (said.Stale what number) = IsNamed tables (stale_table what)
StaleFits tables _ = Unit {0}

-- the rows of a reply are those of the command's table, and so is a read that it names
abbrev pub RowsFit : List TableDecl → Command → Said → Type 0
RowsFit tables (command.Get table key) told = GotFits (columns_at tables table) key told
RowsFit tables (command.Scan table) told = ScannedFits (columns_at tables table) told
RowsFit tables (command.Range table low high) told = ScannedFits (columns_at tables table) told
RowsFit tables command.Commit told = StaleFits tables told
RowsFit tables _ told = Unit {0}

-- The reply may stand where one is due, in a transaction or not.
abbrev pub IsReply : Bool → Command → Said → Type 0
IsReply within asked told = elim (within || is_upkeep asked) [ true ↦ IsReplyWithin asked told | false ↦ IsReplyWithout asked told ]

-- Each due is answered by a reply that may stand there behind those before it, or in silence where
-- that may be.
abbrev pub AreReplies : List TableDecl → List Entry → List Due → List (Option Said) → Type 0
AreReplies tables earlier [] [] = Unit {0}
AreReplies tables earlier [] (told ∷ answers) = ⊥
AreReplies tables earlier (due ∷ dues) [] = ⊥
AreReplies tables earlier (due ∷ dues) (None ∷ answers) = (may_be_silent due ≡ true) × AreReplies tables earlier dues answers
AreReplies tables earlier (due ∷ dues) (Some told ∷ answers) =
    (is_said due told ≡ true) × IsReply (is_within due.who earlier) due.command told × RowsFit tables due.command told
    × AreReplies tables (earlier ++ entry_behind tables earlier due told ∷ []) dues answers
