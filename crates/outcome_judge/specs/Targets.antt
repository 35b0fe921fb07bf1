-- What the commits that wrote something are kept by: rows, and whole tables.
use Rattle.std.specs.Prelude.{ℕ, pos, Bool, true, false, ◌||◌, Option, None, Some}
use Rattle.std.specs.List.{list_any}
use Rattle.std.specs.Ordering.{nat_cmp, int_cmp, bool_cmp, ordering_then, is_eq}
use Rattle.std.specs.declared.cmp.Ordering.{Ordering}
use Rattle.isolation_spec.specs.Contents.{WriteSet, place_at}
use Rattle.isolation_spec.specs.declared.place.Place.{Place}
use Rattle.isolation_spec.specs.declared.read.Read.{Read}
use Rattle.isolation_spec.specs.declared.read.Read.TheVariants as read
use Rattle.outcome_judge.specs.declared.keys.Target.{Target}

-- they go by table; rows go first, by their keys
abbrev pub target_cmp : Target → Target → Ordering
target_cmp a b = ordering_then (nat_cmp a.table b.table)
    (ordering_then (bool_cmp a.whole b.whole) (int_cmp a.key b.key))

-- the row of a place, and a whole table
abbrev pub row_target : Place → Target
row_target place = record { table = place.table; whole = false; key = place.key }

abbrev pub table_target : ℕ → Target
table_target table = record { table = table; whole = true; key = pos 0 }

-- it has the place: as its row, or in its table
abbrev pub covers : Target → Place → Bool
covers of place = is_eq (target_cmp (row_target place) of)
    || is_eq (target_cmp (table_target place.table) of)

-- a write set has a place of it
abbrev pub wrote : Target → WriteSet → Bool
wrote of writes = list_any (λ write. covers of write.0) writes

-- what a read asks for: the row of its key, or the whole table; no range is kept
abbrev pub target_of : Read → Option Target
target_of (read.Key table key) = Some (row_target (place_at table key))
target_of (read.Table table) = Some (table_target table)
target_of (read.Range table low high) = None
