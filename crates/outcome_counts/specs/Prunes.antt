-- Sums of what is pruned, of what is moved, and of the writes that are committed.
use Rattle.std.specs.Prelude.{ℕ, ◌+◌, ◌-◌, List}
use Rattle.outcome_spec.specs.Entries.{Entry}
use Rattle.mark_index.specs.Marks.{AreSums, total_below}
use Rattle.mark_index.specs.declared.marks.Sum.{Sum}
use Rattle.outcome_counts.specs.declared.stretch.Stretch.{Stretch}
use Rattle.outcome_counts.specs.Weights.{pruned_by, moved_by, committed_by}
use Rattle.outcome_counts.specs.declared.prunes.Prunes.{Prunes}

pub record ArePrunes (entries : List Entry) (taken : ℕ) (prunes : Prunes) : Type 0 where
  pub pruned : AreSums pruned_by entries taken prunes.pruned.items
  pub moved : AreSums moved_by entries taken prunes.moved.items
  pub committed : AreSums (committed_by entries) entries taken prunes.committed.items

-- the sum before the reply at a place, and that not after it
abbrev pub sum_before : List Sum → ℕ → Stretch → ℕ
sum_before sums at stretch = total_below at sums -
    (total_below stretch.own_start sums - total_below stretch.round_start sums)

abbrev pub sum_not_after : List Sum → ℕ → Stretch → ℕ
sum_not_after sums at stretch = total_below stretch.round_end sums -
    (total_below stretch.own_end sums - total_below (at + 1) sums)
