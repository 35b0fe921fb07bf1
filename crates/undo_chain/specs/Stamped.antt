-- What a commit makes of the entries of a slot.
use Rattle.std.specs.Prelude.{ℕ, Some, if◌then◌else◌}
use Rattle.undo_chain.specs.declared.undo.Undo.{Undo}
use Rattle.undo_chain.specs.Entry.{is_own}

-- A commit gives each of its session's own entries its stamp and its number, and leaves the others.
abbrev pub stamped : {D : Type 0} → ℕ → ℕ → ℕ → Undo D → Undo D
stamped session stamp number undo = record undo {
  stamp = if is_own undo session then Some stamp else undo.stamp;
  number = if is_own undo session then number else undo.number;
}
