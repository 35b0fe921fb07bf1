-- What the worked examples of a visible row are written in.
use Rattle.std.specs.Prelude.{ℕ, List, Option, None, Some}
use Rattle.undo_chain.specs.declared.undo.Undo.{Undo}
use Rattle.undo_chain.specs.declared.undo.UndoKind.{UndoKind}
use Rattle.undo_chain.specs.Visible.{visible_row}

-- In the worked examples a row is a number, and a before-image is the whole row, none where the
-- slot had no row.
abbrev pub Image : Type 0
Image = Option ℕ

-- A session's write that is not committed.
abbrev pub open_write : ℕ → UndoKind → Image → Undo Image
open_write session kind before = record {
  session = session;
  stamp = None;
  number = 0;
  kind = kind;
  before = before;
}

-- A session's write that was committed.
abbrev pub committed : ℕ → ℕ → UndoKind → Image → Undo Image
committed session stamp kind before =
    record { session = session; stamp = Some stamp; number = stamp; kind = kind; before = before }

-- One half of a move.
abbrev pub moved : ℕ → UndoKind → Image → Undo Image
moved stamp kind before = record {
  session = 0;
  stamp = Some stamp;
  number = 0;
  kind = kind;
  before = before;
}

-- What a reader sees, where laying an image back puts it in the row's place.
abbrev pub seen : Image → List (Undo Image) → ℕ → ℕ → Image
seen row entries stamp session = visible_row (λ _ before. before) row entries stamp session
