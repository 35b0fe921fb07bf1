-- The columns of a batch one after another, and the rows that they are.
use Rattle.std.proofs.Common.{◌≡◌, ℕ, zero, suc, ◌+◌, ◌<◌, ◌≤◌, Bool, true, false, List, [], ◌∷◌, ◌++◌, length, map, take, drop, get_or, Ok, Err, refl, sym, ap, ◌∙◌, arith, drop-cons, length-drop, length-take, add-one, append_assoc, ◌-◌, ◌==◌, eq-eqb}
use Rattle.std.specs.Prelude.{pos, Result, IfOk, Some, slice_get, slice_index_or}
use Rattle.std.specs.List.{list_all, range_with_len}
use Rattle.std.proofs.lemmas.Bool.{le-leb, and_parts, and_from}
use Rattle.std.proofs.lemmas.List.{get_or_default, take_all}
use Rattle.std.proofs.lemmas.List.Folds.{list_all_at}
use Rattle.std.proofs.lemmas.List.FromFn.{get_or-map-range_with_len, length-map-range_with_len}
use Rattle.std.proofs.lemmas.Option.{slice_get-get_or}
use Rattle.cell_model.specs.Kinds.{values_of}
use Rattle.cell_model.specs.declared.cell.Cell.{Cell}
use Rattle.cell_model.specs.declared.cell.Cell.TheVariants.{Null}
use Rattle.arrow_spec.specs.declared.fields.Field.{Field}
use Rattle.stream_spec.specs.Checks.{◌>>=◌, rule}
use Rattle.stream_spec.specs.Columns.{Dictionary, buffer_count, cells_in, columns_of, data_count, field_cells, row_at, rows_of, stored_kind}
use Rattle.stream_spec.specs.Metadata.{BatchTable}
use Rattle.std.specs.Ordering.{int_eq}
use Rattle.stream_spec.specs.declared.fault.Cause.{Cause}
use Rattle.stream_spec.specs.declared.fault.Cause.TheVariants as cause
use Rattle.stream_spec.specs.declared.message.BufferPlace.{BufferPlace}
use Rattle.stream_spec.specs.declared.message.FieldNode.{FieldNode}
use Rattle.ipc_read.specs.declared.fields.FieldView.{FieldView}
use Rattle.ipc_read.specs.Layouts.{values_in}
use Rattle.ipc_read.specs.Fields.{cell_told, cells_told}
use Rattle.ipc_read.specs.Batches.{has_all, has_slot, have_room, have_slot, row_in, rows_in}
use Rattle.ipc_read.proofs.ViewLemmas.{room_at}

-- what holds of all holds of each
module _ {X : Type 0} (p : X → Bool) (xs : List X) (k : ℕ) (x : X) (all : list_all p xs ≡ true) (lt : k < length xs) (is : x ≡ get_or xs k x) where
  -- The element passes the test that all pass, whatever its answer is.
  all_by : (b : Bool) → p x ≡ b → p x ≡ true
  all_by true e = e
  all_by false e = let none : list_all p xs ≡ false = list_all_at p xs k x lt (ap p (sym is) ∙ e) in absurd (let f : true ≡ false = sym all ∙ none in cc)

  -- what all pass each passes
  pub all_at : p x ≡ true
  all_at = all_by (p x) refl

-- one more of which it holds
pub all_more : {X : Type 0} (p : X → Bool) (xs : List X) (x : X) → list_all p xs ≡ true → p x ≡ true → list_all p (xs ++ x ∷ []) ≡ true
all_more p [] x all here = and_from (p x) true here refl
all_more p (y ∷ ys) x all here = let both = and_parts (p y) (list_all p ys) all in and_from (p y) (list_all p (ys ++ x ∷ [])) both.0 (all_more p ys x both.1 here)

-- the data of columns with room for all rows reach as far as each slot
pub slot_in_room : (rows i : ℕ) → i < rows → (views : List FieldView) → have_room rows views ≡ true → have_slot i views ≡ true
slot_in_room rows i lt [] all = refl
slot_in_room rows i lt (view ∷ views) all =
    let both = and_parts (has_all rows view) (have_room rows views) all in
    and_from (has_slot i view) (have_slot i views) (le-leb _ _ (room_at (values_in view.view.layout) i rows (length view.view.data.now) lt both.0)) (slot_in_room rows i lt views both.1)

-- ---- columns one after another

module _ (body : List ℕ) (rows : ℕ) (dictionaries : List Dictionary) where
  -- the first column has the first buffers
  step_by : (c : Field) (cs : List Field) (n : FieldNode) (ns : List FieldNode) (buffers : List BufferPlace) (v : BufferPlace)
      → length buffers ≡ buffer_count (c ∷ cs) → v ≡ get_or (take (1 + data_count (values_of (stored_kind c))) buffers) 0 v
      → columns_of body rows dictionaries (c ∷ cs) (n ∷ ns) buffers
      ≡ (field_cells body rows dictionaries c n.null_count v (drop 1 (take (1 + data_count (values_of (stored_kind c))) buffers))
      >>= λ cells. columns_of body rows dictionaries cs ns (drop (1 + data_count (values_of (stored_kind c))) buffers) >>= λ rest. Ok (cells ∷ rest))
  step_by c cs n ns [] v count is = absurd (omega (arith, count))
  step_by c cs n ns (w ∷ more) v count is =
      let dc : ℕ = data_count (values_of (stored_kind c)) in
      let one : 1 + dc ≡ suc dc = omega arith in
      let same : v ≡ w = is ∙ ap (λ k. get_or (take k (w ∷ more)) 0 v) one in
      let by : BufferPlace → List BufferPlace → List BufferPlace → Result (List (List Cell)) Cause =
      λ (x : BufferPlace) (own : List BufferPlace) (others : List BufferPlace). (field_cells body rows dictionaries c n.null_count x (drop 1 own) >>= λ cells. columns_of body rows dictionaries cs ns others >>= λ rest. Ok (cells ∷ rest)) in
      ap (λ x. by x (w ∷ take dc more) (drop dc more)) (sym same)
      ∙ ap (λ k. by v (take k (w ∷ more)) (drop k (w ∷ more))) (sym one)

  -- the columns from one on are the view of this one and those behind it
  pub column_step : (columns : List Field) (nodes : List FieldNode) (buffers : List BufferPlace) (i : ℕ) (c : Field) (n : FieldNode) (v : BufferPlace)
      → i < length columns → c ≡ get_or columns i c → i < length nodes → n ≡ get_or nodes i n
      → length buffers ≡ buffer_count (drop i columns) → v ≡ get_or (take (1 + data_count (values_of (stored_kind c))) buffers) 0 v
      → columns_of body rows dictionaries (drop i columns) (drop i nodes) buffers
      ≡ (field_cells body rows dictionaries c n.null_count v (drop 1 (take (1 + data_count (values_of (stored_kind c))) buffers))
      >>= λ cells. columns_of body rows dictionaries (drop (i + 1) columns) (drop (i + 1) nodes) (drop (1 + data_count (values_of (stored_kind c))) buffers) >>= λ rest. Ok (cells ∷ rest))
  column_step columns nodes buffers i c n v lt c_is less n_is count v_is =
      let front : drop i columns ≡ c ∷ drop (i + 1) columns = drop-cons columns i c lt ∙ (ap (λ x. x ∷ drop (suc i) columns) (sym c_is) ∙ ap (λ k. c ∷ drop k columns) (sym (add-one i))) in
      let first : drop i nodes ≡ n ∷ drop (i + 1) nodes = drop-cons nodes i n less ∙ (ap (λ x. x ∷ drop (suc i) nodes) (sym n_is) ∙ ap (λ k. n ∷ drop k nodes) (sym (add-one i))) in
      ap (λ cs. columns_of body rows dictionaries cs (drop i nodes) buffers) front
      ∙ (ap (λ ns. columns_of body rows dictionaries (c ∷ drop (i + 1) columns) ns buffers) first
      ∙ step_by c (drop (i + 1) columns) n (drop (i + 1) nodes) buffers v (count ∙ ap buffer_count front) v_is)

  -- the column that is due, with its node and its buffers, and then the others
  pub column_due : (columns : List Field) (nodes : List FieldNode) (left own others : List BufferPlace) (i mid : ℕ) (c : Field) (d : FieldNode) (e : BufferPlace)
      → i < length columns → c ≡ get_or columns i c → length nodes ≡ length columns → length left ≡ buffer_count (drop i columns)
      → mid ≡ 1 + data_count (values_of (stored_kind c)) → own ≡ take mid left → others ≡ drop mid left
      → columns_of body rows dictionaries (drop i columns) (drop i nodes) left
      ≡ (field_cells body rows dictionaries c (get_or nodes i d).null_count (get_or own 0 e) (take (length own - 1) (drop 1 own))
      >>= λ cells. columns_of body rows dictionaries (drop (i + 1) columns) (drop (i + 1) nodes) others >>= λ rest. Ok (cells ∷ rest))
  column_due columns nodes left own others i mid c d e lt c_is same count mid_is own_is others_is =
      let n : FieldNode = get_or nodes i d in
      let v : BufferPlace = get_or own 0 e in
      let here : i < length nodes = omega (arith, lt, same) in
      let all : ℕ = 1 + data_count (values_of (stored_kind c)) in
      let first : own ≡ take all left = own_is ∙ ap (λ k. take k left) mid_is in
      let front : drop i columns ≡ c ∷ drop (i + 1) columns = drop-cons columns i c lt ∙ (ap (λ x. x ∷ drop (suc i) columns) (sym c_is) ∙ ap (λ k. c ∷ drop k columns) (sym (add-one i))) in
      let enough : length left ≡ all + buffer_count (drop (i + 1) columns) = count ∙ ap buffer_count front in
      let some : 0 < length own = omega (arith, ap length first, length-take all left, enough) in
      let v_is : v ≡ get_or (take all left) 0 v = get_or_default own 0 e v some ∙ ap (λ xs. get_or xs 0 v) first in
      let behind : take (length own - 1) (drop 1 own) ≡ drop 1 (take all left) =
      take_all (length own - 1) (drop 1 own) (omega (arith, length-drop 1 own)) ∙ ap (drop 1) first in
      column_step columns nodes left i c n v lt c_is here (get_or_default nodes i d n here) count v_is
      ∙ (ap (λ xs. field_cells body rows dictionaries c n.null_count v xs >>= λ cells. columns_of body rows dictionaries (drop (i + 1) columns) (drop (i + 1) nodes) (drop all left) >>= λ rest. Ok (cells ∷ rest)) (sym behind)
      ∙ ap (λ xs. field_cells body rows dictionaries c n.null_count v (take (length own - 1) (drop 1 own)) >>= λ cells. columns_of body rows dictionaries (drop (i + 1) columns) (drop (i + 1) nodes) xs >>= λ rest. Ok (cells ∷ rest))
      (sym (others_is ∙ ap (λ k. drop k left) mid_is)))

-- what is left behind the column's buffers is for the others
pub count_left : (columns : List Field) (left : List BufferPlace) (i mid n : ℕ) (c : Field)
    → i < length columns → c ≡ get_or columns i c → length left ≡ buffer_count (drop i columns) → mid ≡ 1 + data_count (values_of (stored_kind c))
    → n + mid ≡ length left → n ≡ buffer_count (drop (i + 1) columns)
count_left columns left i mid n c lt c_is count mid_is left_is =
    let front : drop i columns ≡ c ∷ drop (i + 1) columns = drop-cons columns i c lt ∙ (ap (λ x. x ∷ drop (suc i) columns) (sym c_is) ∙ ap (λ k. c ∷ drop k columns) (sym (add-one i))) in
    let all : length left ≡ 1 + data_count (values_of (stored_kind c)) + buffer_count (drop (i + 1) columns) = count ∙ ap buffer_count front in
    omega (arith, all, mid_is, left_is)

-- the columns so far, and then the others
abbrev pub behind : List (List Cell) → Result (List (List Cell)) Cause → Result (List (List Cell)) Cause
behind front rest = rest >>= λ items. Ok (front ++ items)

-- a column that is read goes behind those before it
pub behind_more : (front : List (List Cell)) (cells : List Cell) (one : Result (List Cell) Cause) (rest : Result (List (List Cell)) Cause)
    → one ≡ Ok cells → behind front (one >>= λ cells. rest >>= λ items. Ok (cells ∷ items)) ≡ behind (front ++ cells ∷ []) rest
behind_more front cells one (Ok items) is = ap (λ (r : Result (List Cell) Cause). behind front (r >>= λ cells. Ok (cells ∷ items))) is ∙ ap Ok (sym (append_assoc front (cells ∷ []) items))
behind_more front cells one (Err cause) is = ap (λ (r : Result (List Cell) Cause). behind front (r >>= λ cells. Err cause)) is

-- ---- rows

-- Functions that agree everywhere give the same images of a list.
map_same : {A B : Type 0} (f g : A → B) → ((x : A) → f x ≡ g x) → (xs : List A) → map f xs ≡ map g xs
map_same f g same [] = refl
map_same f g same (x ∷ xs) = ap (λ y. y ∷ map f xs) (same x) ∙ ap (λ ys. g x ∷ ys) (map_same f g same xs)

-- The images of images are those of the two functions in turn.
pub map_map : {A B C : Type 0} (f : A → B) (g : B → C) (xs : List A) → map g (map f xs) ≡ map (λ x. g (f x)) xs
map_map f g [] = refl
map_map f g (x ∷ xs) = ap (λ ys. g (f x) ∷ ys) (map_map f g xs)

-- functions that agree on the numbers give the same
range_same : {B : Type 0} (f g : ℕ → B) (a n : ℕ) → ((i : ℕ) → a ≤ i → i < a + n → f i ≡ g i) → map f (range_with_len a n) ≡ map g (range_with_len a n)
range_same f g a zero same = refl
range_same f g a (suc n) same =
    ap (λ y. y ∷ map f (range_with_len (a + 1) n)) (same a (omega arith) (omega arith))
    ∙ ap (λ ys. g a ∷ ys) (range_same f g (a + 1) n (λ i low high. same i (omega arith) (omega arith)))

-- the cells in a slot of each column
row_of_cells : (rows i : ℕ) → i < rows → (views : List FieldView) → row_at (map (cells_told rows) views) i ≡ row_in views i
row_of_cells rows i lt views =
    map_map (cells_told rows) (λ cells. slice_index_or cells i Null) views
    ∙ map_same (λ view. slice_index_or (cells_told rows view) i Null) (λ view. cell_told view i) (λ view. get_or-map-range_with_len (cell_told view) 0 rows i i Null lt (omega arith)) views

-- the rows of the columns' cells are those of their views
pub rows_of_cells : (rows : ℕ) (views : List FieldView) → map (row_at (map (cells_told rows) views)) (range_with_len 0 rows) ≡ rows_in rows views
rows_of_cells rows views = range_same (row_at (map (cells_told rows) views)) (row_in views) 0 rows (λ i low high. row_of_cells rows i (omega (arith, high)) views)

-- a slot is one of so many
pub fewer : (rows i : ℕ) (views : List FieldView) (all : List (List Cell)) → rows_in rows views ≡ all → i < length all → i < rows
fewer rows i views all is lt = omega (arith, lt, ap length is, length-map-range_with_len (row_in views) 0 rows)

-- a row is the one in its slot
pub row_at_slot : {E : Type 0} (rows i : ℕ) → i < rows → (views : List FieldView) (all : List (List Cell)) → rows_in rows views ≡ all → (lent : List FieldView) → lent ≡ views
    → (read : Result (List Cell) E) → IfOk read (λ row. row ≡ row_in lent i) → IfOk read (λ row. slice_get all i ≡ Some row)
row_at_slot rows i lt views all is lent same (Ok row) row_is =
    ap (λ xs. slice_get xs i) (sym is)
    ∙ (slice_get-get_or (rows_in rows views) i row (omega (arith, lt, length-map-range_with_len (row_in views) 0 rows))
    ∙ ap Some (get_or-map-range_with_len (row_in views) 0 rows i i row lt (omega arith) ∙ (ap (λ v. row_in v i) (sym same) ∙ sym row_is)))
row_at_slot rows i lt views all is lent same (Err e) row_is = row_is

-- the checks of a batch that hold, and the columns that are read
holding : (dictionaries : List Dictionary) (fields : List Field) (batch : BatchTable) (body : List ℕ) (cells : List (List Cell)) → length batch.nodes ≡ length fields
    → (length batch.buffers == buffer_count fields) ≡ true → list_all (λ node. int_eq node.length (pos batch.rows)) batch.nodes ≡ true
    → columns_of body batch.rows dictionaries fields batch.nodes batch.buffers ≡ Ok cells
    → cells_in dictionaries fields batch body ≡ Ok cells
holding dictionaries fields batch body cells nodes buffers slots read =
    let by : Bool → Bool → Bool → Result (List (List Cell)) Cause → Result (List (List Cell)) Cause =
    λ (a b s : Bool) (cells : Result (List (List Cell)) Cause). (rule cause.Shape a >>= λ x. rule cause.Shape b >>= λ y. rule cause.Shape s >>= λ z. cells) in
    let slots_of : Bool = list_all (λ node. int_eq node.length (pos batch.rows)) batch.nodes in
    let all : Result (List (List Cell)) Cause = columns_of body batch.rows dictionaries fields batch.nodes batch.buffers in
    ap (λ a. by a (length batch.buffers == buffer_count fields) slots_of all) (eq-eqb (length batch.nodes) (length fields) nodes)
    ∙ (ap (λ b. by true b slots_of all) buffers
    ∙ (ap (λ s. by true true s all) slots
    ∙ read))

-- a batch whose columns are viewed has their cells
pub cells_read : (dictionaries : List Dictionary) (fields : List Field) (batch : BatchTable) (body : List ℕ) (rows : ℕ) (nodes : List FieldNode) (buffers : List BufferPlace) (cells : List (List Cell))
    → rows ≡ batch.rows → nodes ≡ batch.nodes → buffers ≡ batch.buffers
    → length nodes ≡ length fields → (length buffers == buffer_count fields) ≡ true → list_all (λ node. int_eq node.length (pos rows)) nodes ≡ true
    → columns_of body rows dictionaries fields nodes buffers ≡ Ok cells
    → cells_in dictionaries fields batch body ≡ Ok cells
cells_read dictionaries fields batch body rows nodes buffers cells a b c counted theirs slots read =
    let of : ℕ → List FieldNode → List BufferPlace → BatchTable =
    λ (r : ℕ) (n : List FieldNode) (b : List BufferPlace). record { rows = r; nodes = n; buffers = b; compressed = batch.compressed } in
    ap (λ r. cells_in dictionaries fields (of r batch.nodes batch.buffers) body) (sym a)
    ∙ (ap (λ n. cells_in dictionaries fields (of rows n batch.buffers) body) (sym b)
    ∙ (ap (λ b. cells_in dictionaries fields (of rows nodes b) body) (sym c)
    ∙ holding dictionaries fields (of rows nodes buffers) body cells counted theirs slots read))

-- its rows are those of the views
pub rows_read : (dictionaries : List Dictionary) (fields : List Field) (batch : BatchTable) (body : List ℕ) (rows : ℕ) (views : List FieldView)
    → rows ≡ batch.rows → cells_in dictionaries fields batch body ≡ Ok (map (cells_told rows) views)
    → rows_of dictionaries fields batch body ≡ Ok (rows_in rows views)
rows_read dictionaries fields batch body rows views same read =
    ap (λ (cells : Result (List (List Cell)) Cause). cells >>= λ cells. Ok (map (row_at cells) (range_with_len 0 batch.rows))) read
    ∙ ap (λ (n : ℕ). Ok (map (row_at (map (cells_told rows) views)) (range_with_len 0 n))) (sym same)
    ∙ ap Ok (rows_of_cells rows views)
