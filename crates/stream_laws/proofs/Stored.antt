-- Fields with what stands in their buffers: the columns of a batch of these are read back as the
-- cells that they tell.
use Rattle.std.proofs.Common.{◌≡◌, ℕ, ℤ, pos, ◌+◌, ◌*◌, ◌^◌, ◌≤◌, true, List, [], ◌∷◌, ◌++◌, length, map, take, drop, refl, sym, ap, ◌∙◌, subst, arith, length-append, Ok}
use Rattle.std.specs.Prelude.{◌==◌, flat_map}
use Rattle.std.specs.List.{list_all}
use Rattle.std.specs.Ordering.{int_eq}
use Rattle.std.proofs.lemmas.Bool.{and_from, eq-eqb}
use Rattle.std.proofs.lemmas.List.{length-map, take_at, drop_at}
use Rattle.std.proofs.lemmas.List.Concat.{flat_map-append}
use Rattle.std.proofs.lemmas.List.Sums.{count_by-le-length}
use Rattle.cell_model.specs.Kinds.{has_width, values_of}
use Rattle.cell_model.specs.Values.{is_null}
use Rattle.cell_model.specs.declared.cell.Cell.{Cell}
use Rattle.cell_model.specs.declared.values.Values.{Values}
use Rattle.arrow_spec.specs.Arrays.{data_buffers, layout_in, null_count, validity}
use Rattle.arrow_spec.specs.Batches.{Array, Batch, batch_of_arrays}
use Rattle.arrow_spec.specs.Bytes.{padded}
use Rattle.arrow_spec.specs.DictBatches.{array_of}
use Rattle.arrow_spec.specs.declared.fields.Field.{Field}
use Rattle.stream_spec.specs.Columns.{Dictionary, buffer_count, cells_by, cells_in, column_of, columns_of, data_count, stored_kind}
use Rattle.stream_spec.specs.declared.message.BufferPlace.{BufferPlace}
use Rattle.stream_spec.specs.declared.message.FieldNode.{FieldNode}
use Rattle.stream_laws.proofs.BatchTables.{AllFit, buffer_of, node_of}
use Rattle.stream_laws.proofs.BodySizes.{data-short, padded-short, validity-short}
use Rattle.stream_laws.proofs.Buffers.{HasBuffers, buffers-split, buffers-there, column-read, length-data, length-places, places, places-split, same-count}
use Rattle.stream_laws.proofs.Cells.{AllSlots}
use Rattle.stream_laws.proofs.Rows.{has-whole, table_of}

-- a field, the cells that stand in its buffers, and the cells that these tell
pub record Stored : Type 0 where
  pub field : Field
  pub cells : List Cell
  pub told : List Cell

-- the sort of values that stand in a field's buffers
abbrev pub stored_values : Field → Values
stored_values field = values_of (stored_kind field)

-- With these dictionaries so many cells, each lawful, tell what they are to tell.
pub record IsStored (dictionaries : List Dictionary) (rows : ℕ) (item : Stored) : Type 0 where
  pub long : length item.cells ≡ rows
  pub slots : AllSlots (stored_values item.field) item.cells
  pub wide : has_width (stored_values item.field) ≡ true
  pub tells : cells_by item.field.encoding dictionaries item.cells ≡ Ok item.told

abbrev pub AreStored : List Dictionary → ℕ → List Stored → Type 0
AreStored dictionaries rows [] = Unit {0}
AreStored dictionaries rows (item ∷ items) =
    IsStored dictionaries rows item × AreStored dictionaries rows items

-- their columns
abbrev pub array_in : Stored → Array
array_in item = array_of (stored_kind item.field) item.cells

abbrev pub arrays_in : List Stored → List Array
arrays_in items = map array_in items

abbrev pub buffers_in : List Stored → List (List ℕ)
buffers_in items = flat_map (λ array. array.buffers) (arrays_in items)

abbrev pub nodes_in : ℕ → List Stored → List (ℤ × ℤ)
nodes_in rows items = map (λ array. (pos rows, pos array.nulls)) (arrays_in items)

abbrev pub fields_in : List Stored → List Field
fields_in items = map (λ item. item.field) items

abbrev pub told_in : List Stored → List (List Cell)
told_in items = map (λ item. item.told) items

-- the batch of so many rows with these columns
abbrev pub batch_in : ℕ → List Stored → Batch
batch_in rows items = batch_of_arrays rows (arrays_in items)

-- ---- counts

-- a node for each column
pub length-nodes_in : (rows : ℕ) (items : List Stored) → length (nodes_in rows items) ≡ length items
length-nodes_in rows items =
    length-map (arrays_in items) (λ (array : Array). (pos rows, pos array.nulls))
    ∙ length-map items array_in

-- the buffers of each column
pub length-buffers_in : (items : List Stored) → length (buffers_in items) ≡ buffer_count (fields_in items)
length-buffers_in [] = refl
length-buffers_in (item ∷ items) =
    let values : Values = stored_values item.field in
    omega (
      arith,
      length-append (data_buffers (layout_in values) item.cells) (buffers_in items),
      length-data values item.cells,
      length-buffers_in items,
    )

-- each node has as many slots as there are rows
nodes-even_in : (rows : ℕ) (items : List Stored)
    → list_all (λ node. int_eq node.length (pos rows)) (map node_of (nodes_in rows items)) ≡ true
nodes-even_in rows [] = refl
nodes-even_in rows (item ∷ items) =
    and_from (int_eq (pos rows) (pos rows))
    (list_all (λ node. int_eq node.length (pos rows)) (map node_of (nodes_in rows items)))
    (same-count rows) (nodes-even_in rows items)

-- how many bytes the body of so few rows has at most
pub body-short_in : (dictionaries : List Dictionary) (rows : ℕ) (items : List Stored) → rows ≤ 2 ^ 15
    → AreStored dictionaries rows items
    → length (flat_map padded (buffers_in items)) ≤ 2 ^ 37 * length items
body-short_in dictionaries rows [] few stored = omega arith
body-short_in dictionaries rows (item ∷ items) few stored =
    let values : Values = stored_values item.field in
    let cells : List Cell = item.cells in
    let filled : List (List ℕ) = data_buffers (layout_in values) cells in
    let more : List (List ℕ) = buffers_in items in
    let own = data-short values cells (omega (arith, stored.0.long)) stored.0.wide stored.0.slots in
    let valid = validity-short cells (omega (arith, stored.0.long)) in
    let rest = body-short_in dictionaries rows items few stored.1 in
    let split : length (flat_map padded (filled ++ more))
    ≡ length (flat_map padded filled) + length (flat_map padded more) =
    ap length (flat_map-append padded filled more)
    ∙ length-append (flat_map padded filled) (flat_map padded more) in
    omega (
      arith,
      length-append (padded (validity cells)) (flat_map padded (filled ++ more)),
      padded-short (validity cells),
      own,
      valid,
      rest,
      split,
    )

-- counts of rows and nulls fit
pub nodes-fit_in : (dictionaries : List Dictionary) (rows : ℕ) (items : List Stored) → rows ≤ 2 ^ 15
    → AreStored dictionaries rows items → AllFit (nodes_in rows items)
nodes-fit_in dictionaries rows [] few stored = tt
nodes-fit_in dictionaries rows (item ∷ items) few stored =
    let long : length item.cells ≡ rows = stored.0.long in
    let nulls : null_count item.cells ≤ length item.cells = count_by-le-length is_null item.cells in (
      record { sfits = omega arith },
      record { sfits = omega arith },
      nodes-fit_in dictionaries rows items few stored.1,
    )

-- ---- columns

-- The columns of a body are read back as what they tell.
columns-told : (body : List ℕ) (from rows : ℕ) (dictionaries : List Dictionary) (items : List Stored)
    → rows ≤ 2 ^ 15 → AreStored dictionaries rows items → HasBuffers body from (buffers_in items)
    → columns_of body rows dictionaries (fields_in items) (map node_of (nodes_in rows items))
    (places from (buffers_in items)) ≡ Ok (told_in items)
columns-told body from rows dictionaries [] few stored has = refl
columns-told body from rows dictionaries (item ∷ items) few stored has =
    let values : Values = stored_values item.field in
    let cells : List Cell = item.cells in
    let filled : List (List ℕ) = data_buffers (layout_in values) cells in
    let more : List (List ℕ) = buffers_in items in
    let own : List (List ℕ) = validity cells ∷ filled in
    let parts = buffers-split body from own more has in
    let next : ℕ = from + length (flat_map padded own) in
    let behind : ℕ = from + length (padded (validity cells)) in
    let count : length (places behind filled) ≡ data_count values =
    length-places behind filled ∙ length-data values cells in
    let split : places behind (filled ++ more) ≡ places behind filled
    ++ places (behind + length (flat_map padded filled)) more = places-split behind filled more in
    let on : behind + length (flat_map padded filled) ≡ next =
    omega (arith, length-append (padded (validity cells)) (flat_map padded filled)) in
    let front : take (data_count values) (places behind (filled ++ more)) ≡ places behind filled =
    ap (take (data_count values)) split
    ∙ take_at (places behind filled) (places (behind + length (flat_map padded filled)) more)
    (data_count values) count in
    let back : drop (data_count values) (places behind (filled ++ more)) ≡ places next more =
    ap (drop (data_count values)) split
    ∙ drop_at (places behind filled) (places (behind + length (flat_map padded filled)) more)
    (data_count values) count
    ∙ ap (λ (n : ℕ). places n more) on in
    let P : ℕ → Type 0 = λ n.
    column_of body n values (pos (null_count cells))
    (buffer_of (pos from, pos (length (validity cells)))) (places behind filled) ≡ Ok cells in
    let first =
    subst P stored.0.long (column-read body from values cells parts.0 stored.0.slots
    (omega (arith, stored.0.long))) in
    let tells = stored.0.tells in
    let rest = columns-told body next rows dictionaries items few stored.1 parts.1 in
    rw (front, back, first, tells, rest) refl

-- The columns of a batch are read back as what they tell.
pub cells-told : (dictionaries : List Dictionary) (rows : ℕ) (items : List Stored) → rows ≤ 2 ^ 15
    → AreStored dictionaries rows items
    → cells_in dictionaries (fields_in items) (table_of (batch_in rows items))
    (batch_in rows items).body ≡ Ok (told_in items)
cells-told dictionaries rows items few stored =
    let body : List ℕ = (batch_in rows items).body in
    let nodes : List FieldNode = map node_of (nodes_in rows items) in
    let buffers : List BufferPlace = places 0 (buffers_in items) in
    let one : (length nodes == length (fields_in items)) ≡ true =
    eq-eqb (length nodes) (length (fields_in items))
    (length-map (nodes_in rows items) node_of ∙ length-nodes_in rows items
    ∙ sym (length-map items (λ (item : Stored). item.field))) in
    let two : (length buffers == buffer_count (fields_in items)) ≡ true =
    eq-eqb (length buffers) (buffer_count (fields_in items))
    (length-places 0 (buffers_in items) ∙ length-buffers_in items) in
    let three = nodes-even_in rows items in
    let has : HasBuffers body 0 (buffers_in items) =
    buffers-there body 0 (buffers_in items) (has-whole body) in
    let cells = columns-told body 0 rows dictionaries items few stored has in
    rw (one, two, three, cells) refl
