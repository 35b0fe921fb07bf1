-- The Arrow form of rows goes by the columns' kinds.
use Rattle.std.proofs.Common.{◌≡◌, ◌∙◌, ℕ, zero, suc, ◌+◌, List, [], ◌∷◌, Some, length, map, get_or, refl, ap, subst}
use Rattle.std.specs.Prelude.{IfSome, slice_get}
use Rattle.arrow_array.proofs.ArrayLemmas.{arrays_from}
use Rattle.arrow_spec.specs.Arrays.{column_buffers, null_count}
use Rattle.arrow_spec.specs.Batches.{Array, batch_of_arrays, column_cells}
use Rattle.arrow_spec.specs.Streams.{batch_message, message_of_batch}
use Rattle.block_columns.specs.Images.{FormValue, IsFormOf}
use Rattle.block_spec.specs.Slots.{Row}
use Rattle.cell_model.specs.declared.column.Column.{Column}
use Rattle.cell_model.specs.declared.kind.Kind.{Kind}
use Rattle.core_parts.specs.Kinds.{kinds_of}

-- Columns of the same kinds make the same arrays of rows, from any number on.
from_kinds : (at : ℕ) (one other : List Column) (rows : List Row) → kinds_of one ≡ kinds_of other → arrays_from at one rows ≡ arrays_from at other rows
from_kinds at [] [] rows same = refl
from_kinds at [] (d ∷ ds) rows same = cc
from_kinds at (c ∷ cs) [] rows same = cc
from_kinds at (c ∷ cs) (d ∷ ds) rows same =
    let first : c.kind ≡ d.kind = cc in
    let rest : kinds_of cs ≡ kinds_of ds = cc in
    ap (λ (k : Kind). record { nulls = null_count (column_cells at rows); buffers = column_buffers k (column_cells at rows) } ∷ arrays_from (at + 1) cs rows) first
    ∙ ap (λ (l : List Array). record { nulls = null_count (column_cells at rows); buffers = column_buffers d.kind (column_cells at rows) } ∷ l) (from_kinds (at + 1) cs ds rows rest)

-- the batches of the same rows by columns of the same kinds have one message
pub same_message : (one other : List Column) (rows : List Row) → kinds_of one ≡ kinds_of other → batch_message one rows ≡ batch_message other rows
same_message one other rows same = ap (λ arrays. message_of_batch (batch_of_arrays (length rows) arrays)) (from_kinds 0 one other rows same)

-- and one form
pub same_form : (one other : List Column) (rows : List Row) (form : FormValue) → kinds_of one ≡ kinds_of other → IsFormOf one rows form → IsFormOf other rows form
same_form one other rows form same is = record {
  buffers = is.buffers ∙ ap (λ (arrays : List Array). map (λ (array : Array). array.buffers) arrays) (from_kinds 0 one other rows same);
  message = subst (λ (message : List ℕ). IfSome form.message (λ told. told ≡ message)) (same_message one other rows same) is.message;
}

-- the kind of the column at a place
pub kind_at : (columns : List Column) (at : ℕ) (c : Column) (d : Kind) → slice_get columns at ≡ Some c → get_or (kinds_of columns) at d ≡ c.kind
kind_at [] at c d there = cc
kind_at (e ∷ es) zero c d there = let same : e ≡ c = cc in ap (λ (x : Column). x.kind) same
kind_at (e ∷ es) (suc at) c d there = kind_at es at c d there
