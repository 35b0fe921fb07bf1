use Rattle.std.proofs.Common.{◌≡◌, ◌≤◌, ◌-◌, length}
use Rattle.store_rounds.proofs.Rows.{Back}
use Rattle.store_rounds.proofs.row.see_back.Given as goal

abbrev pub invariant-loop-from_end : goal.invariant-loop-from_end
invariant-loop-from_end l = record {
  back : Back l.store l.fn.row l.row (length l.fn.row - l.from_end);
  low : 1 ≤ l.from_end;
  high : l.from_end ≤ length l.fn.row;
  end : l.from_end-end ≡ length l.fn.row;
}
