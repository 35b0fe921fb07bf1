-- Where a write is into a read.
use Rattle.std.specs.Prelude.{Bool, ◌==◌, ◌&&◌}
use Rattle.std.specs.Ordering.{int_eq}
use Rattle.isolation_spec.specs.Contents.{is_in_range}
use Rattle.isolation_spec.specs.declared.place.Place.{Place}
use Rattle.isolation_spec.specs.declared.read.Read.{Read}
use Rattle.isolation_spec.specs.declared.read.Read.TheVariants as read

-- a write at the place is into the read
abbrev pub is_met_at : Read → Place → Bool
is_met_at (read.Key table key) place = place.table == table && int_eq place.key key
is_met_at (read.Table table) place = place.table == table
is_met_at (read.Range table low high) place = is_in_range table low high place
