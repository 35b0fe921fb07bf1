use Rattle.std.proofs.Common.{◌≡◌, ◌≤◌, ◌-◌, length}
use Rattle.store_rounds.proofs.Rows.{Along}
use Rattle.store_rounds.proofs.row.show_along.Given as goal

abbrev pub invariant-loop-second : goal.invariant-loop-second
invariant-loop-second l = record {
  along : Along l.store l.fn.row l.row (l.second - 1);
  low : 1 ≤ l.second;
  high : l.second ≤ length l.fn.row;
  end : l.second-end ≡ length l.fn.row;
}
