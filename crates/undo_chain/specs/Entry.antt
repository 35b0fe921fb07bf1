-- Whose an undo entry is, and which readers and writers it concerns.
use Rattle.std.specs.Prelude.{ℕ, Bool, true, false, not, ◌&&◌, ◌||◌, ◌==◌, Option, None, Some}
use Rattle.std.specs.Prelude.{is_none, is_some, nat_le}
use Rattle.undo_chain.specs.declared.undo.Undo.{Undo}
use Rattle.undo_chain.specs.declared.undo.UndoKind.{UndoKind}
use Rattle.undo_chain.specs.declared.undo.UndoKind.TheVariants.{Put, Change, Gone, MoveOut, MoveIn}

-- A move has two entries, one at the slot that the row left and one at the slot that it came to.
abbrev pub is_move : UndoKind → Bool
is_move Put = false
is_move Change = false
is_move Gone = false
is_move MoveOut = true
is_move MoveIn = true

-- An entry is a session's own only while it has no stamp, and a move's is no session's.
abbrev pub is_own : {D : Type 0} → Undo D → ℕ → Bool
is_own undo session = is_none undo.stamp && not (is_move undo.kind) && (undo.session == session)

-- A stamp is there and is at most a given one.
abbrev pub is_at_most : Option ℕ → ℕ → Bool
is_at_most None limit = false
is_at_most (Some stamp) limit = nat_le stamp limit

-- An entry was committed with a stamp at most a given one.
abbrev pub is_stamped_by : {D : Type 0} → Undo D → ℕ → Bool
is_stamped_by undo limit = is_at_most undo.stamp limit

-- A reader has in view the entries that are its own and those committed with a stamp at most its
-- snapshot's.
abbrev pub is_in_view : {D : Type 0} → Undo D → ℕ → ℕ → Bool
is_in_view undo stamp session = is_own undo session || is_stamped_by undo stamp

-- An uncommitted write of another session.
abbrev pub is_open_write_of_another : {D : Type 0} → Undo D → ℕ → Bool
is_open_write_of_another undo session = is_none undo.stamp && not (is_move undo.kind)
    && not (undo.session == session)

-- A commit above a snapshot's stamp; a move is none.
abbrev pub is_commit_above : {D : Type 0} → Undo D → ℕ → Bool
is_commit_above undo stamp = is_some undo.stamp && not (is_stamped_by undo stamp)
    && not (is_move undo.kind)
