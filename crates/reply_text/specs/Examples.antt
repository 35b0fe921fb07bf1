-- Worked examples of replies over tables, as facts.
use Rattle.std.specs.Prelude.{◌≡◌, ◌-◌, ◌^◌, true, false, List, [], ◌∷◌, ◌++◌, map, pos, negsuc}
use Rattle.std.specs.Prelude.{codes, None, Some}
use Rattle.cell_model.specs.declared.cell.Cell.TheVariants.{Null, Num, Blob}
use Rattle.cell_model.specs.declared.kind.Kind.TheVariants as kind
use Rattle.cell_model.specs.declared.table.TableDecl.{TableDecl}
use Rattle.workload_spec.specs.declared.reply.Who.TheVariants.{Session, Worker}
use Rattle.workload_spec.specs.declared.reply.Said.TheVariants as said
use Rattle.reply_text.specs.Shown.{are_tables, is_row, is_said, is_who}

abbrev one_table : List TableDecl
one_table = record {
  name = codes "a";
  schema = record { name = codes "key"; kind = kind.I64; nullable = false } ∷ [];
  slots = 8;
  blocks = 2;
} ∷ []

abbrev pub TablesAreJudged : Type 0
TablesAreJudged = map are_tables ([] ∷ one_table ∷ (one_table ++ one_table) ∷ [])
    ≡ true ∷ true ∷ false ∷ []

abbrev pub NumbersAreJudged : Type 0
NumbersAreJudged = map (is_said []) (
    said.At (2 ^ 64 - 1) ∷ said.At (2 ^ 64) ∷ said.ConflictSession (2 ^ 32 - 1)
    ∷ said.ConflictSession (2 ^ 32) ∷ said.Committed None ∷ said.Committed (Some (2 ^ 64))
    ∷ said.Dirty (negsuc (2 ^ 63 - 1)) ∷ said.Dirty (pos (2 ^ 63)) ∷ said.Exported 0 0 0
    (2 ^ 32 - 1) ∷ said.Exported 0 0 (2 ^ 32) 0 ∷ [])
    ≡ true ∷ false ∷ true ∷ false ∷ true ∷ false ∷ true ∷ false ∷ true ∷ false ∷ []

abbrev pub ReceiversAreJudged : Type 0
ReceiversAreJudged = map is_who
    (Session (2 ^ 32 - 1) ∷ Session (2 ^ 32) ∷ Worker (2 ^ 32 - 1) ∷ Worker (2 ^ 32) ∷ [])
    ≡ true ∷ false ∷ true ∷ false ∷ []

abbrev pub RowsAreJudged : Type 0
RowsAreJudged = map is_row (
    [] ∷ (Null ∷ []) ∷ (Num (pos (2 ^ 64 - 1)) ∷ []) ∷ (Num (pos (2 ^ 64)) ∷ [])
    ∷ (Num (negsuc (2 ^ 64 - 1)) ∷ []) ∷ (Null ∷ Blob (255 ∷ []) ∷ [])
    ∷ (Null ∷ Blob (256 ∷ []) ∷ []) ∷ [])
    ≡ false ∷ true ∷ true ∷ false ∷ false ∷ true ∷ false ∷ []

abbrev pub BlocksAreJudged : Type 0
BlocksAreJudged = map (is_said one_table) (
    said.Freezing 0 0 1 ∷ said.Freezing 1 0 1 ∷ said.Sealed 0 0 1 ∷ said.Sealed 0 (2 ^ 32) 1
    ∷ said.Frozen 0 0 8 ∷ said.Frozen 0 0 (2 ^ 32) ∷ [])
    ≡ true ∷ false ∷ true ∷ false ∷ true ∷ false ∷ []
