-- A batch that is read is whole, and the search for batches is long enough.
use Rattle.std.proofs.Common.{◌≡◌, ℕ, zero, suc, ◌+◌, Bool, true, false, ◌&&◌, ◌||◌, ◌==◌, List, [], ◌∷◌, length, map, take, drop, refl, sym, ap, ◌∙◌, subst, arith, length-drop, length-take, eqb-true, take-append-drop}
use Rattle.std.proofs.lemmas.List.{length-map}
use Rattle.std.specs.Prelude.{Result, Ok, Err, ℤ, pos, nat_le, unsigned_abs}
use Rattle.std.specs.List.{All, list_all, range_with_len}
use Rattle.std.specs.Ordering.{int_eq}
use Rattle.std.proofs.lemmas.Bool.{and_parts}
use Rattle.std.proofs.lemmas.List.Elements.{All-nil, All-cons, All-append}
use Rattle.cell_model.specs.Kinds.{values_of}
use Rattle.cell_model.specs.declared.cell.Cell.{Cell}
use Rattle.arrow_spec.specs.declared.fields.Field.{Field}
use Rattle.cell_model.specs.declared.values.Values.{Values}
use Rattle.cell_model.specs.declared.values.Values.TheVariants.{Signed, Unsigned, Truths, Texts, Blobs, Strips}
use Rattle.stream_spec.specs.Checks.{◌>>=◌, rule}
use Rattle.stream_spec.specs.Columns.{Dictionary, are_buffers, bitmap_length, buffer_count, bytes_of, cells_by, cells_of, column_of, columns_of, data_count, data_needs, field_cells, has_offsets, is_buffer, is_text, is_validity, lies_in, null_count_of, row_at, stored_kind}
use Rattle.stream_spec.specs.Streams.{known_by}
use Rattle.stream_spec.specs.declared.fault.Cause.{Cause}
use Rattle.stream_spec.specs.declared.fault.Cause.TheVariants as cause
use Rattle.stream_spec.specs.declared.message.BufferPlace.{BufferPlace}
use Rattle.stream_spec.specs.declared.message.FieldNode.{FieldNode}
use Rattle.stream_laws.specs.Laws.{BatchesAreWhole, NeedsAreCounted, SearchIsLongEnough}
use Rattle.stream_pieces.proofs.GoesOn.{any-fuel, by}

-- Any number of messages above that of the bytes is enough.
pub search_is_long_enough : SearchIsLongEnough
search_is_long_enough bytes schema more is enough =
    let left = length-drop schema.size bytes in
    ap (by bytes) is
    ∙ any-fuel (length bytes + 1) more (known_by schema) schema.size (drop schema.size bytes) (omega (arith, left)) (omega (arith, left, enough))

-- Behind its validity a column has as many buffers as needs.
pub needs_are_counted : NeedsAreCounted
needs_are_counted (Signed width) rows = refl
needs_are_counted (Unsigned width) rows = refl
needs_are_counted Truths rows = refl
needs_are_counted (Texts width) rows = refl
needs_are_counted (Blobs width) rows = refl
needs_are_counted (Strips bytes) rows = refl

-- ---- the parts of what was read

-- A column that is read passed its first rule.
first_rule : (a b c d : Bool) (cells out : List Cell)
    → (rule cause.Buffer a >>= λ x. rule cause.NullCount b >>= λ y. rule cause.Offsets c >>= λ z. rule cause.Utf8 d >>= λ w. Ok cells) ≡ Ok out → a ≡ true
first_rule true b c d cells out is = refl
first_rule false b c d cells out is = cc

-- What is read of a column and of those behind it.
record First (one : Result (List Cell) Cause) (more : Result (List (List Cell)) Cause) (out : List (List Cell)) : Type 0 where
  cells : List Cell
  rest : List (List Cell)
  one_is : one ≡ Ok cells
  more_is : more ≡ Ok rest
  out_is : out ≡ cells ∷ rest

-- What is read has one value.
same_ok : {X : Type 0} (read : Result X Cause) (a b : X) → read ≡ Ok a → read ≡ Ok b → a ≡ b
same_ok read a b one two = cc

-- A column and those behind it that are read together are read each.
first : (one : Result (List Cell) Cause) (more : Result (List (List Cell)) Cause) (out : List (List Cell))
    → (one >>= λ cells. more >>= λ rest. Ok (cells ∷ rest)) ≡ Ok out → First one more out
first (Ok cells) (Ok rest) out is = record { cells = cells; rest = rest; one_is = refl; more_is = refl; out_is = sym (same_ok (Ok (cells ∷ rest)) (cells ∷ rest) out refl is) }
first (Ok cells) (Err fault) out is = absurd (let never : ⊥ = cc in never)
first (Err fault) more out is = absurd (let never : ⊥ = cc in never)

-- A first step that is read, where the second is.
stepped : (one : Result (List Cell) Cause) (tell : List Cell → Result (List Cell) Cause) (out : List Cell)
    → (one >>= tell) ≡ Ok out → (stored : List Cell) × (one ≡ Ok stored)
stepped (Ok stored) tell out is = (stored, refl)
stepped (Err fault) tell out is = absurd (let never : ⊥ = cc in never)

-- What is read of a batch.
record Batch (nodes buffers : Bool) (columns : Result (List (List Cell)) Cause) (count : ℕ) (rows : List (List Cell)) : Type 0 where
  nodes_are : nodes ≡ true
  buffers_are : buffers ≡ true
  cells : List (List Cell)
  columns_are : columns ≡ Ok cells
  rows_are : rows ≡ map (row_at cells) (range_with_len 0 count)

-- A batch that is read passed its rules, and its columns are read.
batch_parts : (a b c : Bool) (columns : Result (List (List Cell)) Cause) (count : ℕ) (rows : List (List Cell))
    → ((rule cause.Shape a >>= λ x. rule cause.Shape b >>= λ y. rule cause.Shape c >>= λ z. columns) >>= λ cells. Ok (map (row_at cells) (range_with_len 0 count))) ≡ Ok rows
    → Batch a b columns count rows
batch_parts true true true (Ok cells) count rows is = record { nodes_are = refl; buffers_are = refl; cells = cells; columns_are = refl; rows_are = sym (same_ok (Ok (map (row_at cells) (range_with_len 0 count))) (map (row_at cells) (range_with_len 0 count)) rows refl is) }
batch_parts true true true (Err fault) count rows is = absurd (let never : ⊥ = cc in never)
batch_parts true true false columns count rows is = absurd (let never : ⊥ = cc in never)
batch_parts true false c columns count rows is = absurd (let never : ⊥ = cc in never)
batch_parts false b c columns count rows is = absurd (let never : ⊥ = cc in never)

-- ---- buffers

module _ (body : List ℕ) (rows : ℕ) where
  -- the buffer lies in the body
  abbrev Lies : BufferPlace → Type 0
  Lies buffer = lies_in body buffer ≡ true

  -- Where there are as many buffers as needs each of them lies in the body.
  each_lies : (needs : List ℕ) (buffers : List BufferPlace) → length needs ≡ length buffers → are_buffers body rows needs buffers ≡ true → All Lies buffers
  each_lies [] [] same are = All-nil Lies
  each_lies [] (buffer ∷ buffers) same are = absurd (let never : ⊥ = omega (arith, same) in never)
  each_lies (need ∷ needs) [] same are = absurd (let never : ⊥ = omega (arith, same) in never)
  each_lies (need ∷ needs) (buffer ∷ buffers) same are =
      let parts = and_parts (is_buffer body rows need buffer) (are_buffers body rows needs buffers) are in
      let here = and_parts (lies_in body buffer) (rows == 0 || nat_le need (unsigned_abs buffer.length)) parts.0 in
      All-cons Lies buffer buffers here.0 (each_lies needs buffers (omega (arith, same)) parts.1)

  -- The buffers of a column that is read lie in the body, the validity first.
  column_lies : (values : Values) (nulls : ℤ) (validity : BufferPlace) (buffers : List BufferPlace) (out : List Cell) → length buffers ≡ data_count values
      → column_of body rows values nulls validity buffers ≡ Ok out → Lies validity × All Lies buffers
  column_lies values nulls validity buffers out count is =
      let inside = first_rule
      (is_validity body rows validity && are_buffers body rows (data_needs values rows) buffers)
      (int_eq nulls (pos (null_count_of (bytes_of body validity) rows)))
      (has_offsets values (map (bytes_of body) buffers) rows)
      (list_all is_text (cells_of values (bytes_of body validity) (map (bytes_of body) buffers) rows))
      (cells_of values (bytes_of body validity) (map (bytes_of body) buffers) rows) out is in
      let parts = and_parts (is_validity body rows validity) (are_buffers body rows (data_needs values rows) buffers) inside in
      let first_lies = and_parts (lies_in body validity) (unsigned_abs validity.length == 0 || (rows == 0 || nat_le (bitmap_length rows) (unsigned_abs validity.length))) parts.0 in
      (first_lies.0, each_lies (data_needs values rows) buffers (needs_are_counted values rows ∙ sym count) parts.1)

  -- Columns that are read, with a node each and as many buffers as they have, are whole.
  columns_whole : (dictionaries : List Dictionary) (fields : List Field) (nodes : List FieldNode) (buffers : List BufferPlace) (out : List (List Cell))
      → length nodes ≡ length fields → length buffers ≡ buffer_count fields → columns_of body rows dictionaries fields nodes buffers ≡ Ok out
      → (length out ≡ length fields) × All Lies buffers
  columns_whole dictionaries [] nodes [] out same count is = (ap length (sym (same_ok (Ok []) [] out refl is)), All-nil Lies)
  columns_whole dictionaries [] nodes (buffer ∷ buffers) out same count is = absurd (let never : ⊥ = omega (arith, count) in never)
  columns_whole dictionaries (field ∷ fields) [] buffers out same count is = absurd (let never : ⊥ = omega (arith, same) in never)
  columns_whole dictionaries (field ∷ fields) (node ∷ nodes) [] out same count is = absurd (let never : ⊥ = omega (arith, count) in never)
  columns_whole dictionaries (field ∷ fields) (node ∷ nodes) (validity ∷ buffers) out same count is =
      let values : Values = values_of (stored_kind field) in
      let many : ℕ = data_count values in
      let one : Result (List Cell) Cause = column_of body rows values node.null_count validity (take many buffers) in
      let parts = first (field_cells body rows dictionaries field node.null_count validity (take many buffers)) (columns_of body rows dictionaries fields nodes (drop many buffers)) out is in
      let stored = stepped one (cells_by field.encoding dictionaries) parts.cells parts.one_is in
      let left = length-drop many buffers in
      let taken = length-take many buffers in
      let own = column_lies values node.null_count validity (take many buffers) stored.0 (omega (arith, taken, count)) stored.1 in
      let more = columns_whole dictionaries fields nodes (drop many buffers) parts.rest (omega (arith, same)) (omega (arith, left, count)) parts.more_is in
      let out_is = ap length parts.out_is in
      let rest_is = more.0 in (
        omega (arith, out_is, rest_is),
        All-cons Lies validity buffers own.0 (subst (All Lies) (take-append-drop many buffers) (All-append Lies (take many buffers) (drop many buffers) own.1 more.1)),
      )

-- Each row of columns has a cell of each of them.
rows_whole : (cells : List (List Cell)) (many : ℕ) → length cells ≡ many → (a n : ℕ) → All (λ (row : List Cell). length row ≡ many) (map (row_at cells) (range_with_len a n))
rows_whole cells many same a zero = All-nil (λ (row : List Cell). length row ≡ many)
rows_whole cells many same a (suc n) =
    All-cons (λ (row : List Cell). length row ≡ many) (row_at cells a) (map (row_at cells) (range_with_len (a + 1) n))
    (length-map cells (λ column. Rattle.std.specs.List.slice_index_or column a Rattle.cell_model.specs.declared.cell.Cell.TheVariants.Null) ∙ same) (rows_whole cells many same (a + 1) n)

-- A batch that is read is whole.
pub batches_are_whole : BatchesAreWhole
batches_are_whole dictionaries fields batch body rows is =
    let parts = batch_parts (length batch.nodes == length fields) (length batch.buffers == buffer_count fields)
    (list_all (λ node. int_eq node.length (pos batch.rows)) batch.nodes) (columns_of body batch.rows dictionaries fields batch.nodes batch.buffers) batch.rows rows is in
    let whole = columns_whole body batch.rows dictionaries fields batch.nodes batch.buffers parts.cells
    (eqb-true (length batch.nodes) (length fields) parts.nodes_are) (eqb-true (length batch.buffers) (buffer_count fields) parts.buffers_are) parts.columns_are in
    record {
      cells = subst (All (λ (row : List Cell). length row ≡ length fields)) (sym parts.rows_are) (rows_whole parts.cells (length fields) whole.0 0 batch.rows);
      buffers = whole.1;
    }
