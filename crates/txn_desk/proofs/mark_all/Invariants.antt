use Rattle.std.proofs.Common.{◌≡◌, ◌<◌, ℕ, ◌&&◌, nat_lt, cond, length, slice_index_or}
use Rattle.txn_desk.specs.Marks.{is_marked}
use Rattle.txn_desk.proofs.mark_all.Given as goal

abbrev pub invariant-loop-table : goal.invariant-loop-table
invariant-loop-table l =
    (length l.wrote ≡ 16)
    × ((t : ℕ) → t < 16
    → slice_index_or l.wrote t 0 ≡ cond (nat_lt t l.table && is_marked l.tables t) l.number (slice_index_or l.initial.wrote t 0))
