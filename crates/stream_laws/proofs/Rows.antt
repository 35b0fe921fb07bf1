-- The rows of a batch, read back from the columns of its body.
use Rattle.std.proofs.Common.{◌≡◌, ℕ, ℤ, pos, suc, ◌+◌, ◌^◌, ◌<◌, ◌≤◌, Bool, true, false, List, [], ◌∷◌, ◌++◌, length, map, take, drop, get_or, refl, sym, ap, ◌∙◌, subst, arith, length-append, Option, Some, None, Ok}
use Rattle.std.specs.Prelude.{◌==◌, not, nat_lt, flat_map, is_none, if◌then◌else◌}
use Rattle.std.proofs.lemmas.Bool.{and_from, eqb-true, eq-eqb, ltb-false}
use Rattle.std.proofs.lemmas.List.{length-map, take_at, drop_at, drop_more, drop_all, get_or-map}
use Rattle.std.proofs.lemmas.List.FromFn.{fill_by_all}
use Rattle.std.specs.List.{All, enumerate_from, list_all, range_with_len}
use Rattle.std.specs.Ordering.{int_eq}
use Rattle.cell_model.specs.Kinds.{values_of, most_bytes_in}
use Rattle.cell_model.specs.Rows.{Fits, cell_fault, first_fault}
use Rattle.cell_model.specs.Values.{is_null, is_value_in, is_value_of, byte_length}
use Rattle.cell_model.specs.declared.cell.Cell.{Cell}
use Rattle.cell_model.specs.declared.cell.Cell.TheVariants.{Null}
use Rattle.cell_model.specs.declared.column.Column.{Column}
use Rattle.cell_model.specs.declared.values.Values.{Values}
use Rattle.cell_model.specs.declared.row.RowFault.{RowFault}
use Rattle.cell_model.specs.declared.row.RowFault.TheVariants.{Arity, NullAt, RangeAt, LongAt}
use Rattle.arrow_spec.specs.Arrays.{layout_in, layout_of, column_buffers, data_buffers, validity, null_count}
use Rattle.arrow_spec.specs.Batches.{Array, Batch, column_cells, batch_of}
use Rattle.arrow_spec.specs.Bytes.{padded}
use Rattle.stream_spec.specs.declared.message.BufferPlace.{BufferPlace}
use Rattle.stream_spec.specs.declared.message.FieldNode.{FieldNode}
use Rattle.arrow_spec.specs.Fields.{plain_field, plain_fields}
use Rattle.stream_spec.specs.Columns.{Dictionary, buffer_count, column_of, columns_of, data_count, row_at, rows_of}
use Rattle.stream_spec.specs.Metadata.{BatchTable}
use Rattle.stream_laws.proofs.Pieces.{Has}
use Rattle.stream_laws.proofs.BatchTables.{buffer_of, node_of}
use Rattle.stream_laws.proofs.Buffers.{HasBuffers, buffers-split, buffers-there, column-read, length-data, length-places, places, places-split, same-count}
use Rattle.stream_laws.proofs.Cells.{AllSlots, IsSlot, null, value}

-- ---- rows that fit

-- an answer without a fault has none at either test
no-fault : (first rest : Option RowFault) → (if is_none first then rest else first) ≡ None
    → (first ≡ None) × (rest ≡ None)
no-fault None rest is = (refl, is)
no-fault (Some fault) rest is = absurd (cc)

-- A cell in which no fault is found is one that a slot may hold.
slot-by : (values : Values) (cell : Cell) (empty nullable right long : Bool) (at : ℕ)
    → is_null cell ≡ empty → is_value_in values cell ≡ right
    → nat_lt (most_bytes_in values) (byte_length cell) ≡ long
    → (if empty then (if nullable then None else Some (NullAt at)) else if not right then Some
    (RangeAt at) else if long then Some (LongAt at) else None) ≡ None
    → IsSlot values cell
slot-by values cell true nullable right long at is fits short none = null is
slot-by values cell false nullable false long at is fits short none = absurd (cc)
slot-by values cell false nullable true true at is fits short none = absurd (cc)
slot-by values cell false nullable true false at is fits short none =
    value is fits (ltb-false (most_bytes_in values) (byte_length cell) short)

-- the slots of a row, from a column on
abbrev pub SlotsFrom : ℕ → List Column → List Cell → Type 0
SlotsFrom k [] row = Unit {0}
SlotsFrom k (column ∷ columns) row =
    IsSlot (values_of column.kind) (get_or row k Null) × SlotsFrom (k + 1) columns row

-- A row without a fault from a column on has a lawful slot for each from there.
slots-from : (k at : ℕ) (columns : List Column) (row : List Cell) → length row ≡ k + length columns
    → first_fault at columns (drop k row) ≡ None → SlotsFrom k columns row
slots-from k at [] row long none = tt
slots-from k at (column ∷ columns) row long none =
    let cell : Cell = get_or row k Null in
    let parts : drop k row ≡ cell ∷ drop (k + 1) row = drop_more row k Null (omega arith) in
    let P : List Cell → Type 0 = λ cells. first_fault at (column ∷ columns) cells ≡ None in
    let both = no-fault (cell_fault at column cell)
    (first_fault (at + 1) columns (drop (k + 1) row)) (subst P parts none) in (
      slot-by (values_of column.kind) cell (is_null cell) column.nullable
          (is_value_of column.kind cell)
          (nat_lt (most_bytes_in (values_of column.kind)) (byte_length cell)) at
          refl refl refl both.0,
      slots-from (k + 1) (at + 1) columns row (omega arith) both.1,
    )

-- Where no fault is found, the test passes and the rest has no fault.
passed : (test : Bool) (rest : Option RowFault) → (if test then rest else Some Arity) ≡ None
    → (test ≡ true) × (rest ≡ None)
passed true rest is = (refl, is)
passed false rest is = absurd (cc)

-- a row that fits has as many cells as there are columns, each as its column has it
pub record IsRow (columns : List Column) (row : List Cell) : Type 0 where
  pub long : length row ≡ length columns
  pub slots : SlotsFrom 0 columns row

-- a row that fits has a slot for each column
pub row-of : (columns : List Column) (row : List Cell) → Fits columns row → IsRow columns row
row-of columns row fits =
    let both = passed (length row == length columns) (first_fault 0 columns row) fits in
    let long : length row ≡ length columns = eqb-true (length row) (length columns) both.0 in
    record { long = long; slots = slots-from 0 0 columns row (long ∙ omega arith) both.1 }

-- ---- columns

-- the cells of the columns, counted from a number on
abbrev pub cells_from : ℕ → List Column → List (List Cell) → List (List Cell)
cells_from k [] rows = []
cells_from k (column ∷ columns) rows = column_cells k rows ∷ cells_from (k + 1) columns rows

-- the arrays of columns that are counted from a number on
abbrev pub arrays_from : ℕ → List Column → List (List Cell) → List Array
arrays_from k columns rows =
    map
    (λ (place, column). record {
      nulls = null_count (column_cells place rows);
      buffers = column_buffers column.kind (column_cells place rows);
    })
    (enumerate_from k columns)

-- the buffers of the columns, counted from a number on
abbrev pub buffers_from : ℕ → List Column → List (List Cell) → List (List ℕ)
buffers_from k columns rows = flat_map (λ array. array.buffers) (arrays_from k columns rows)

-- the nodes of these columns: how many rows there are, and how many nulls
abbrev pub nodes_from : ℕ → List Column → List (List Cell) → List (ℤ × ℤ)
nodes_from k columns rows =
    map (λ array. (pos (length rows), pos array.nulls)) (arrays_from k columns rows)

-- the slots of each row, from a column on
abbrev pub AllFrom : ℕ → List Column → List (List Cell) → Type 0
AllFrom k columns rows = (i : ℕ) → i < length rows → SlotsFrom k columns (get_or rows i [])

-- the cells of the first column are its slots
pub column-slots : (k : ℕ) (column : Column) (columns : List Column) (rows : List (List Cell))
    → AllFrom k (column ∷ columns) rows
    → AllSlots (values_of column.kind) (column_cells k rows)
column-slots k column columns rows all = λ i inside.
    let row : List Cell → Cell = λ cells. get_or cells k Null in
    let long : length (map row rows) ≡ length rows = length-map rows row in
    let P : Cell → Type 0 = λ cell. IsSlot (values_of column.kind) cell in
    subst P (sym (get_or-map row rows i [] Null (omega arith))) (all i (omega arith)).0

-- The columns of a body are read back as the cells of the rows.
columns-read : (body : List ℕ) (from k : ℕ) (dictionaries : List Dictionary) (columns : List Column)
    (rows : List (List Cell))
    → length rows ≤ 2 ^ 15 → AllFrom k columns rows
    → HasBuffers body from (buffers_from k columns rows)
    → columns_of body (length rows) dictionaries (plain_fields columns)
    (map node_of (nodes_from k columns rows))
    (places from (buffers_from k columns rows)) ≡ Ok (cells_from k columns rows)
columns-read body from k dictionaries [] rows few all has = refl
columns-read body from k dictionaries (column ∷ columns) rows few all has =
    let values : Values = values_of column.kind in
    let cells : List Cell = column_cells k rows in
    let filled : List (List ℕ) = data_buffers (layout_in values) cells in
    let more : List (List ℕ) = buffers_from (k + 1) columns rows in
    let own : List (List ℕ) = validity cells ∷ filled in
    let parts = buffers-split body from own more has in
    let next : ℕ = from + length (flat_map padded own) in
    let behind : ℕ = from + length (padded (validity cells)) in
    let count : length (places behind filled) ≡ data_count values =
    length-places behind filled ∙ length-data values cells in
    let split : places behind (filled ++ more) ≡ places behind filled
    ++ places (behind + length (flat_map padded filled)) more = places-split behind filled more in
    let on : behind + length (flat_map padded filled) ≡ next =
    omega (arith, length-append (padded (validity cells)) (flat_map padded filled)) in
    let front : take (data_count values) (places behind (filled ++ more)) ≡ places behind filled =
    ap (take (data_count values)) split
    ∙ take_at (places behind filled) (places (behind + length (flat_map padded filled)) more)
    (data_count values) count in
    let back : drop (data_count values) (places behind (filled ++ more)) ≡ places next more =
    ap (drop (data_count values)) split
    ∙ drop_at (places behind filled) (places (behind + length (flat_map padded filled)) more)
    (data_count values) count
    ∙ ap (λ (n : ℕ). places n more) on in
    let long : length cells ≡ length rows = length-map rows (λ row. get_or row k Null) in
    let P : ℕ → Type 0 = λ n.
    column_of body n values (pos (null_count cells))
    (buffer_of (pos from, pos (length (validity cells)))) (places behind filled) ≡ Ok cells in
    let first =
    subst P long (column-read body from values cells parts.0
    (column-slots k column columns rows all) (omega arith)) in
    let rest =
    columns-read body next (k + 1) dictionaries columns rows few (λ i inside. (all i inside).1) parts.1 in
    rw (front, back, first, rest) refl

-- ---- rows

-- a row is the cells of the columns at its place
row-back : (k i : ℕ) (columns : List Column) (rows : List (List Cell)) → i < length rows
    → length (get_or rows i []) ≡ k + length columns
    → map (λ cells. get_or cells i Null) (cells_from k columns rows) ≡ drop k (get_or rows i [])
row-back k i [] rows inside long = sym (drop_all k (get_or rows i []) (omega arith))
row-back k i (column ∷ columns) rows inside long =
    let row : List Cell = get_or rows i [] in
    let first : get_or (column_cells k rows) i Null ≡ get_or row k Null =
    get_or-map (λ cells. get_or cells k Null) rows i [] Null inside in
    let rest = row-back (k + 1) i columns rows inside (omega arith) in
    let parts : drop k row ≡ get_or row k Null ∷ drop (k + 1) row =
    drop_more row k Null (omega arith) in
    rw (first, rest) (sym parts)

-- The rows are read back slot by slot from the cells of their columns.
pub rows-back : (columns : List Column) (rows : List (List Cell))
    → ((i : ℕ) → i < length rows → length (get_or rows i []) ≡ length columns)
    → map (row_at (cells_from 0 columns rows)) (range_with_len 0 (length rows)) ≡ rows
rows-back columns rows long =
    sym (fill_by_all (row_at (cells_from 0 columns rows)) rows (length rows) [] refl
    (λ i inside. sym (row-back 0 i columns rows inside (long i inside ∙ omega arith))))

-- ---- counts

-- There is one array for each column.
length-arrays : (k : ℕ) (columns : List Column) (rows : List (List Cell))
    → length (arrays_from k columns rows) ≡ length columns
length-arrays k [] rows = refl
length-arrays k (column ∷ columns) rows = ap suc (length-arrays (k + 1) columns rows)

-- a node for each column
pub length-nodes : (k : ℕ) (columns : List Column) (rows : List (List Cell))
    → length (nodes_from k columns rows) ≡ length columns
length-nodes k columns rows =
    length-map (arrays_from k columns rows) (λ array. (pos (length rows), pos array.nulls))
    ∙ length-arrays k columns rows

-- the buffers of each column
pub length-buffers : (k : ℕ) (columns : List Column) (rows : List (List Cell))
    → length (buffers_from k columns rows) ≡ buffer_count (plain_fields columns)
length-buffers k [] rows = refl
length-buffers k (column ∷ columns) rows =
    let cells : List Cell = column_cells k rows in
    omega (
      arith,
      length-append (data_buffers (layout_of column.kind) cells)
          (buffers_from (k + 1) columns rows),
      length-data (values_of column.kind) cells,
      length-buffers (k + 1) columns rows,
    )

-- each node has as many slots as there are rows
nodes-even : (k : ℕ) (columns : List Column) (rows : List (List Cell))
    → list_all (λ node. int_eq node.length (pos (length rows)))
    (map node_of (nodes_from k columns rows)) ≡ true
nodes-even k [] rows = refl
nodes-even k (column ∷ columns) rows =
    and_from (int_eq (pos (length rows)) (pos (length rows)))
    (list_all (λ node. int_eq node.length (pos (length rows)))
    (map node_of (nodes_from (k + 1) columns rows)))
    (same-count (length rows)) (nodes-even (k + 1) columns rows)

-- a body has all its bytes
pub has-whole : (body : List ℕ) → Has body 0 body
has-whole body =
    record { within = omega arith; same = λ i h. ap (λ (n : ℕ). get_or body n 0) (omega arith) }

-- how the reader has a batch's table
abbrev pub table_of : Batch → BatchTable
table_of batch =
    record {
      rows = batch.rows;
      nodes = map node_of batch.nodes;
      buffers = map buffer_of
          batch.buffers;
      compressed = false;
    }

-- each row of a batch has a slot for each column
pub each-row : (columns : List Column) (rows : List (List Cell)) → All (Fits columns) rows → (i : ℕ)
    → i < length rows → IsRow columns (get_or rows i [])
each-row columns rows fit i inside = row-of columns (get_or rows i []) (fit i [] inside)

-- The rows of a batch are read back from its body.
pub rows-read : (dictionaries : List Dictionary) (columns : List Column) (rows : List (List Cell))
    → All (Fits columns) rows → length rows ≤ 2 ^ 15
    → rows_of dictionaries (plain_fields columns) (table_of (batch_of columns rows))
    (batch_of columns rows).body ≡ Ok rows
rows-read dictionaries columns rows fit few =
    let body : List ℕ = (batch_of columns rows).body in
    let each = each-row columns rows fit in
    let nodes : List FieldNode = map node_of (nodes_from 0 columns rows) in
    let buffers : List BufferPlace = places 0 (buffers_from 0 columns rows) in
    let one : (length nodes == length (plain_fields columns)) ≡ true =
    eq-eqb (length nodes) (length (plain_fields columns))
    (length-map (nodes_from 0 columns rows) node_of ∙ length-nodes 0 columns rows
    ∙ sym (length-map columns plain_field)) in
    let two : (length buffers == buffer_count (plain_fields columns)) ≡ true =
    eq-eqb (length buffers) (buffer_count (plain_fields columns))
    (length-places 0 (buffers_from 0 columns rows) ∙ length-buffers 0 columns rows) in
    let three = nodes-even 0 columns rows in
    let has : HasBuffers body 0 (buffers_from 0 columns rows) =
    buffers-there body 0 (buffers_from 0 columns rows) (has-whole body) in
    let cells = columns-read body 0 0 dictionaries columns rows few (λ i inside. (each i inside).slots) has in
    let all = rows-back columns rows (λ i inside. (each i inside).long) in
    rw (one, two, three, cells) (ap (λ (found : List (List Cell)). Ok found) all)
