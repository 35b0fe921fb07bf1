-- Which tables are marked.
use Rattle.std.specs.Prelude.{ℕ, Bool, false, List, filter, slice_index_or}
use Rattle.std.specs.List.{range_with_len}
use Rattle.txn_desk.specs.declared.marks.TableMarks.{TableMarks}

-- the table is marked
abbrev pub is_marked : TableMarks → ℕ → Bool
is_marked tables table = slice_index_or tables.marks table false

-- the marked tables, in order
unfoldable pub marked_tables : TableMarks → List ℕ
marked_tables tables = filter (is_marked tables) (range_with_len 0 16)
