use Rattle.std.proofs.Common.{◌≡◌, ℕ, ◌-◌, ◌<◌, ◌≤◌, [], Some, length}
use Rattle.std.specs.Prelude.{slice_get}
use Rattle.hall_rule.specs.HallInvariant.{worn_by}
use Rattle.hall_rule.specs.Heads.{head_of}
use Rattle.hall_steps.proofs.events.follow_all.Given as goal

abbrev pub invariant-loop-part : goal.invariant-loop-part
invariant-loop-part g l = record {
  table : l.seat.table_id ≡ l.fn.seat.table_id;
  id : l.seat.id ≡ l.fn.seat.id;
  none_out : l.seat.me.1 ≡ [];
  same : l.seat.me.0 ≡ record l.fn.seat.me.0 { worn = l.seat.me.0.worn; drained = l.seat.me.0.drained };
  room : length l.seat.me.0.worn ≡ length l.fn.seat.me.0.worn;
  drained : l.seat.me.0.drained ≡ 0;
  done : (k : ℕ) (p : g.row.C-Part.Denot) → k < l.from → slice_get l.hand k ≡ Some (Some p) → worn_by l.seat.me.0 k ≡ head_of (g.C.Parts.wears p);
  todo : (k : ℕ) → l.from ≤ k → worn_by l.seat.me.0 k ≡ worn_by l.fn.seat.me.0 k;
}

abbrev pub decreases-loop-part : goal.decreases-loop-part
decreases-loop-part g l = length l.hand - l.from
