-- One slot: its current row, and the undo entries of its changes, newest first.
use Rattle.std.specs.Prelude.{ℕ, Bool, true, false, not, ◌&&◌, List, [], ◌∷◌, Option, None, Some}
use Rattle.std.specs.Prelude.{option_map, map, filter, fold, is_none, slice_index_or, slice_set}
use Rattle.std.specs.Prelude.{if◌then◌else◌}
use Rattle.cell_model.specs.declared.cell.Cell.{Cell}
use Rattle.cell_model.specs.declared.cell.Cell.TheVariants.{Null}
use Rattle.undo_chain.specs.declared.undo.Undo.{Undo}
use Rattle.undo_chain.specs.declared.undo.UndoKind.{UndoKind}
use Rattle.undo_chain.specs.declared.undo.UndoKind.TheVariants as kind
use Rattle.undo_chain.specs.Entry.{is_own, is_stamped_by}
use Rattle.undo_chain.specs.Stamped.{stamped}
use Rattle.undo_chain.specs.Visible.{visible_row}
use Rattle.block_spec.specs.declared.patch.Assignment.{Assignment}
use Rattle.block_spec.specs.declared.change.Before.{Before}
use Rattle.block_spec.specs.declared.change.Before.TheVariants as before
use Rattle.block_spec.specs.declared.change.Change.{Change}
use Rattle.block_spec.specs.declared.change.Change.TheVariants as change

abbrev pub Row : Type 0
Row = List Cell

-- the attributes that an update changes: columns and their new cells
abbrev pub Patch : Type 0
Patch = List Assignment

pub record Slot : Type 0 where
  pub row : Option Row
  pub entries : List (Undo Before)

-- a slot without row and entry
abbrev pub bare : Slot
bare = record { row = None; entries = [] }

abbrev pub has_none : List (Undo Before) → Bool
has_none [] = true
has_none (e ∷ es) = false

abbrev pub is_bare : Slot → Bool
is_bare slot = is_none slot.row && has_none slot.entries

-- The session whose uncommitted entries stand on top, if any do.
abbrev pub writer_of : List (Undo Before) → Option ℕ
writer_of [] = None
writer_of (e ∷ es) = if is_none e.stamp then Some e.session else None

-- a row with the cells of a patch in their columns
abbrev pub patched : Row → Patch → Row
patched row patch = fold (λ cells assignment. slice_set cells assignment.column assignment.cell) row
    patch

-- a before-image laid back on a row
abbrev pub laid_back : Option Row → Before → Option Row
laid_back row before.Empty = None
laid_back row (before.Whole old) = Some old
laid_back row (before.Part patch) = option_map (λ cells. patched cells patch) row

-- The visible row of a slot, to a session with a snapshot of this stamp. The session 0 is nobody's.
abbrev pub seen : Slot → ℕ → ℕ → Option Row
seen slot stamp session = visible_row laid_back slot.row slot.entries stamp session

-- the row after a write
abbrev pub row_after : Option Row → Change → Option Row
row_after row (change.Put new) = Some new
row_after row (change.Patch patch) = option_map (λ cells. patched cells patch) row
row_after row change.Gone = None

-- what stands in the column of an assignment
abbrev pub standing : Row → Assignment → Assignment
standing cells assignment = record assignment { cell = slice_index_or cells assignment.column Null }

-- what stood in the columns of a patch
abbrev pub columns_before : Row → Patch → Patch
columns_before cells patch =
    map (standing cells) patch

-- The before-image that undoes a write: a patch's keeps the changed columns alone.
abbrev pub image_before : Option Row → Change → Before
image_before None new = before.Empty
image_before (Some cells) (change.Put new) = before.Whole cells
image_before (Some cells) (change.Patch patch) = before.Part (columns_before cells patch)
image_before (Some cells) change.Gone = before.Whole cells

-- what a write's entry is called
abbrev pub kind_of : Change → UndoKind
kind_of (change.Put new) = kind.Put
kind_of (change.Patch patch) = kind.Change
kind_of change.Gone = kind.Gone

-- A session's write: the row after it, and an uncommitted entry on top.
abbrev pub written : ℕ → Change → Slot → Slot
written session new slot = record {
  row = row_after slot.row new;
  entries = record {
    session = session;
    stamp = None;
    number = 0;
    kind = kind_of new;
    before = image_before slot.row new;
  } ∷ slot.entries;
}

-- A commit: the session's entries have its stamp and number.
abbrev pub committed : ℕ → ℕ → ℕ → Slot → Slot
committed session stamp number slot = record slot
    { entries = map (stamped session stamp number) slot.entries }

-- A roll-back: the before-images of the session's entries are laid back, newest first, and the
-- entries are gone.
abbrev pub rolled_back : ℕ → Slot → Slot
rolled_back session slot = record {
  row = fold laid_back slot.row
      (map (λ undo. undo.before) (filter (λ undo. is_own undo session) slot.entries));
  entries = filter (λ undo. not (is_own undo session)) slot.entries;
}

-- A pruning: the entries with a stamp at most `oldest` are gone.
abbrev pub pruned : ℕ → Slot → Slot
pruned oldest slot = record slot
    { entries = filter (λ undo. not (is_stamped_by undo oldest)) slot.entries }

-- The two halves of a move: the row leaves one slot for another, and each has an entry with the
-- move's stamp.
abbrev pub moved_out : ℕ → Row → Slot → Slot
moved_out stamp row slot = record {
  row = None;
  entries = record {
    session = 0;
    stamp = Some stamp;
    number = 0;
    kind = kind.MoveOut;
    before = before.Whole row;
  } ∷ slot.entries;
}

abbrev pub moved_in : ℕ → Row → Slot → Slot
moved_in stamp row slot = record {
  row = Some row;
  entries = record {
    session = 0;
    stamp = Some stamp;
    number = 0;
    kind = kind.MoveIn;
    before = before.Empty;
  } ∷ slot.entries;
}

abbrev pub taken_from : Option Row → List (Undo Before) → Slot
taken_from row [] = record { row = row; entries = [] }
taken_from row (e ∷ es) = record { row = laid_back row e.before; entries = es }

-- A change taken back: the before-image of the newest entry is laid back, and the entry is gone.
abbrev pub taken_back : Slot → Slot
taken_back slot = taken_from slot.row slot.entries
