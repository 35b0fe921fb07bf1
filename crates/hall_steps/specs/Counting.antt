-- What is known when an event was counted, and the words of its parts are still to follow them.
use Rattle.std.specs.Prelude.{◌≡◌, ℕ, ◌+◌, ◌≤◌, false, List, Option, Some, MatchBool, slice_get}
use Rattle.atomic_table.specs.Seated.{TableId}
use Rattle.atomic_table.specs.declared.shared.Seat.{Seat}
use Rattle.hall_rule.specs.EventLog.{replay}
use Rattle.hall_rule.specs.HallInvariant.{worn_by}
use Rattle.hall_rule.specs.Hands.{SameRoom}
use Rattle.hall_rule.specs.Heads.{MayTurn}
use Rattle.hall_rule.specs.Meaning.{Meaning}
use Rattle.hall_rule.specs.Views.{entry_of}
use Rattle.hall_rule.specs.declared.parts.Parts.{Ghosts}
use Rattle.hall_rule.specs.declared.view.Entry.{Entry}
use Rattle.hall_rule.specs.declared.view.View.{View}
use Rattle.hall_steps.specs.Hall.{Extends, FollowParts, Knows}

-- Of a pass of the table z, with its seat and its hand before and after: it knows what lies in the
-- hand. The word of each part may be turned to it, and follows it where the event turns none. The
-- log ends with the event, whose reply and steps are those of the state that the log before it
-- leaves.
pub record Counts
    {C P E R S T F : Type 0} (core_type : Ghosts C P E R S T F) (M : Meaning P E T F) (z : TableId)
    (shape : S) (event : E) (reply : R) (s t : Seat (Option P) (View E))
    (hand later : List (Option P)) (old new : ℕ)
    : Type 0 where
  pub table : t.table_id ≡ z
  pub knows : Knows M t.id t.me later
  pub turns : (k : ℕ) (p : P) → slice_get later k ≡ Some (Some p)
      → MayTurn (worn_by t.me.0 k) (M.head p)
  pub still : M.turning event ≡ false → FollowParts core_type t.me.0 later
  pub drained : t.me.0.drained ≡ 0
  pub room : SameRoom hand later
  pub before : List (Entry E)
  pub extends : Extends M s before (entry_of s.id s.me.0 (core_type.refused reply) event) t
  pub answers : MatchBool (core_type.refused reply) (later ≡ hand)
      (reply ≡ core_type.reply shape event (replay M before))
  pub costs : new ≤ old + core_type.cost shape event (replay M before)
