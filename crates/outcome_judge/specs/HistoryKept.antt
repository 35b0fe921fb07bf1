-- What is kept of the writes of owners, and what it means.
use Rattle.std.specs.Prelude.{◌≡◌, ℕ, ◌+◌, Bool, true, ◌&&◌, nat_le, List, [], ◌∷◌, ◌++◌, count_by}
use Rattle.std.specs.Prelude.{Option, None, option_map, if◌then◌else◌, ◌==◌}
use Rattle.std.specs.List.{filter, last_or, list_all}
use Rattle.std.specs.List.Sorted.{IsNonDecreasing, IsNonDecreasingBy}
use Rattle.std.specs.Ordering.{nat_cmp, int_cmp, ordering_then, is_eq}
use Rattle.std.specs.declared.cmp.Ordering.{Ordering}
use Rattle.cell_model.specs.declared.cell.Cell.{Cell}
use Rattle.isolation_spec.specs.Contents.{State}
use Rattle.isolation_spec.specs.declared.place.Place.{Place}
use Rattle.mark_index.specs.Lists.{marks_at, with_mark}
use Rattle.outcome_judge.specs.Timed.{TimedWrite, after_writes, left_at, up_to, rows_in, gains}
use Rattle.outcome_judge.specs.Timed.{loses}
use Rattle.outcome_judge.specs.Spots.{row_at}
use Rattle.outcome_judge.specs.declared.keys.RowKey.{RowKey}
use Rattle.outcome_judge.specs.declared.keys.Spot.{Spot}
use Rattle.outcome_judge.specs.declared.keys.Shelf.{Shelf}
use Rattle.outcome_judge.specs.declared.writes.Left.{Left}
use Rattle.outcome_judge.specs.declared.writes.Writes.{Writes}

-- keys of rows go by table and then by key, places by key, by table and then by owner, and tables
-- by owner and then by table
abbrev pub key_cmp : RowKey → RowKey → Ordering
key_cmp a b = ordering_then (nat_cmp a.table b.table) (int_cmp a.key b.key)

abbrev pub spot_cmp : Spot → Spot → Ordering
spot_cmp a b = ordering_then (int_cmp a.key b.key)
    (ordering_then (nat_cmp a.table b.table) (nat_cmp a.owner b.owner))

abbrev pub shelf_cmp : Shelf → Shelf → Ordering
shelf_cmp a b = ordering_then (nat_cmp a.owner b.owner) (nat_cmp a.table b.table)

-- the place of a row's key, and an owner's place and table
abbrev pub place_in : RowKey → Place
place_in of = record { table = of.table; key = of.key }

abbrev pub spot_of : ℕ → Place → Spot
spot_of owner place = record { key = place.key; table = place.table; owner = owner }

abbrev pub shelf_of : ℕ → ℕ → Shelf
shelf_of owner table = record { owner = owner; table = table }

-- how many times are up to a bound
abbrev pub count_up_to : ℕ → List ℕ → ℕ
count_up_to bound times = count_by (λ time. nat_le time bound) times

-- times with one more behind them, if it is to be put there and the tables are one
abbrev pub with_time : Bool → Shelf → Shelf → ℕ → List ℕ → List ℕ
with_time put of shelf time times = with_mark (put && is_eq (shelf_cmp of shelf)) time times

-- the row that a write left, or none where it is gone
abbrev pub row_left : Left → Option (List Cell)
row_left left = option_map (λ row. row.now) left.row

-- the last of the writes up to a bound, and what it left
abbrev pub last_up_to : ℕ → List Left → Option Left
last_up_to bound lefts = last_or None (filter (λ left. nat_le left.time bound) lefts)

abbrev pub row_up_to : ℕ → List Left → Option (Option (List Cell))
row_up_to bound lefts = option_map row_left (last_up_to bound lefts)

-- A write at a place, where there was a row or not, is kept beside the others.
pub record IsNoted (spot : Spot) (left : Left) (had : Bool) (before now : Writes) : Type 0 where
  pub rows : (other : Spot) → marks_at spot_cmp now.left other
      ≡ with_mark (is_eq (spot_cmp spot other)) left (marks_at spot_cmp before.left other)
  pub gained : (other : Shelf) → marks_at shelf_cmp now.gained other
      ≡ with_time (gains had (row_left left)) (shelf_of spot.owner spot.table) other left.time
      (marks_at shelf_cmp before.gained other)
  pub lost : (other : Shelf) → marks_at shelf_cmp now.lost other
      ≡ with_time (loses had (row_left left)) (shelf_of spot.owner spot.table) other left.time
      (marks_at shelf_cmp before.lost other)

-- What is kept are the writes of each owner, in order, laid over the rows that its first write
-- finds.
pub record AreKept (bases : ℕ → State) (written : ℕ → List TimedWrite) (writes : Writes) : Type 0 where
  pub left : (owner : ℕ) (place : Place) (bound : ℕ)
      → row_up_to bound (marks_at spot_cmp writes.left (spot_of owner place))
      ≡ left_at place (up_to bound (written owner))
  pub left_rise : (spot : Spot)
      → IsNonDecreasingBy (λ left. left.time) (marks_at spot_cmp writes.left spot)
  pub gained_rise : (shelf : Shelf) → IsNonDecreasing (marks_at shelf_cmp writes.gained shelf)
  pub lost_rise : (shelf : Shelf) → IsNonDecreasing (marks_at shelf_cmp writes.lost shelf)
  pub left_within : (spot : Spot) (bound : ℕ)
      → list_all (λ write. nat_le write.time bound) (written spot.owner) ≡ true
      → list_all (λ left. nat_le left.time bound) (marks_at spot_cmp writes.left spot) ≡ true
  pub gained_within : (shelf : Shelf) (bound : ℕ)
      → list_all (λ write. nat_le write.time bound) (written shelf.owner) ≡ true
      → list_all (λ time. nat_le time bound) (marks_at shelf_cmp writes.gained shelf) ≡ true
  pub lost_within : (shelf : Shelf) (bound : ℕ)
      → list_all (λ write. nat_le write.time bound) (written shelf.owner) ≡ true
      → list_all (λ time. nat_le time bound) (marks_at shelf_cmp writes.lost shelf) ≡ true
  pub rows : (owner table bound : ℕ) →
      rows_in table (after_writes (bases owner) (up_to bound (written owner))) + count_up_to bound
      (marks_at shelf_cmp writes.lost (shelf_of owner table))
      ≡ rows_in table (bases owner) + count_up_to bound
      (marks_at shelf_cmp writes.gained (shelf_of owner table))

-- the writes of owners with one more of an owner
abbrev pub with_one : ℕ → TimedWrite → (ℕ → List TimedWrite) → ℕ → List TimedWrite
with_one owner write written other = if owner == other then written other ++ write ∷ []
    else written other

-- the write that is noted
abbrev pub write_noted : Spot → Left → TimedWrite
write_noted spot left = record {
  time = left.time;
  place = place_in (row_at spot);
  row = row_left left;
}
