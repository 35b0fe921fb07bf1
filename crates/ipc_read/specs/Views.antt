-- A column of a batch as the reader has it: its buffers, lent from the body.
use Rattle.std.specs.Prelude.{◌≡◌, ℕ, Bool, true, ◌&&◌, ◌||◌, map, ◌==◌, nat_le, List, [], ◌∷◌}
use Rattle.std.specs.Prelude.{length, take, slice_index, unsigned_abs}
use Rattle.cell_model.specs.declared.cell.Cell.{Cell}
use Rattle.cell_model.specs.declared.values.Values.{Values}
use Rattle.stream_spec.specs.declared.message.BufferPlace.{BufferPlace}
use Rattle.stream_spec.specs.Columns.{are_buffers, bytes_of, cell_at, cells_of, data_count}
use Rattle.stream_spec.specs.Columns.{data_needs, is_buffer, is_validity, lies_in}
use Rattle.ipc_read.specs.Layouts.{values_in}
use Rattle.ipc_read.specs.declared.views.View.{View}

-- The buffer lies in the body, and these are its bytes.
pub record Lies (body : List ℕ) (buffer : BufferPlace) (bytes : List ℕ) : Type 0 where
  pub inside : lies_in body buffer ≡ true
  pub bytes_are : bytes ≡ bytes_of body buffer
  pub length_is : length bytes ≡ unsigned_abs buffer.length

-- how many bytes the first buffer behind the validity needs
abbrev pub need_of : Values → ℕ → ℕ
need_of sort rows = slice_index (data_needs sort rows) 0

-- The first buffer behind the validity lies in the body and is long enough, and these are its
-- bytes.
pub record IsData
    (body : List ℕ) (sort : Values) (rows : ℕ) (buffer : BufferPlace) (bytes : List ℕ)
    : Type 0 where
  pub inside : is_buffer body rows (need_of sort rows) buffer ≡ true
  pub bytes_are : bytes ≡ bytes_of body buffer
  pub room : (rows == 0 || nat_le (need_of sort rows) (length bytes)) ≡ true

-- the buffers behind the validity
abbrev pub data_of : View → List (List ℕ)
data_of view = take (data_count (values_in view.layout)) (view.data.now ∷ view.values.now ∷ [])

-- the cell in a slot
abbrev pub cell_in : View → ℕ → Cell
cell_in view i = cell_at (values_in view.layout) view.validity.now (data_of view) i

-- the cells of so many rows
abbrev pub cells_in : ℕ → View → List Cell
cells_in rows view = cells_of (values_in view.layout) view.validity.now (data_of view) rows

-- the data are long enough for so many rows
abbrev pub has_room : ℕ → View → Bool
has_room rows view = rows == 0 || nat_le (need_of (values_in view.layout) rows) (length view.data.now)

-- the buffers lie in the body and are long enough
abbrev pub have_buffers : List ℕ → ℕ → Values → BufferPlace → List BufferPlace → Bool
have_buffers body rows sort validity buffers = is_validity body rows validity
    && are_buffers body rows (data_needs sort rows) buffers

-- The view is that of a column's buffers, which lie in the body and are long enough.
pub record IsView
    (body : List ℕ) (rows : ℕ) (sort : Values) (validity : BufferPlace)
    (buffers : List BufferPlace) (view : View)
    : Type 0 where
  pub inside : have_buffers body rows sort validity buffers ≡ true
  pub of_sort : values_in view.layout ≡ sort
  pub of_validity : view.validity.now ≡ bytes_of body validity
  pub of_data : data_of view ≡ map (bytes_of body) buffers
  pub room : has_room rows view ≡ true
