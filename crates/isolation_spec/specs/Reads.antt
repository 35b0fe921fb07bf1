-- What a transaction read, and which later commits wrote into it.
use Rattle.std.specs.Prelude.{ℕ, Bool, ◌==◌, List, [], ◌∷◌, ◌++◌, map, Option, None}
use Rattle.std.specs.Prelude.{option_map}
use Rattle.std.specs.List.{last_or, list_any}
use Rattle.std.specs.Option.{option_or}
use Rattle.std.specs.Ordering.{nat_cmp}
use Rattle.std.specs.BTreeSet.{insert_key}
use Rattle.isolation_spec.specs.Contents.{place_cmp, place_at, is_in_range, WriteSet, History}
use Rattle.isolation_spec.specs.declared.place.Place.{Place}
use Rattle.isolation_spec.specs.declared.read.KeyRange.{KeyRange}
use Rattle.isolation_spec.specs.declared.read.Read.{Read}
use Rattle.isolation_spec.specs.declared.read.Read.TheVariants as read
use Rattle.isolation_spec.specs.Machine.{later_commits, writes_place}

-- A write set meets a read: it has a place of it, with a row or gone.
abbrev pub meets : Read → WriteSet → Bool
meets (read.Key table key) writes = writes_place (place_at table key) writes
meets (read.Table table) writes = list_any (λ write. write.0.table == table) writes
meets (read.Range table low high) writes = list_any (λ write. is_in_range table low high write.0)
    writes

-- The last commit after a snapshot whose write set meets the read.
abbrev pub last_meeting : History → ℕ → Read → Option ℕ
last_meeting history snapshot what = last_or None (later_commits history snapshot (meets what))

-- The read set of a transaction: the places whose keys it got, in order, each once; the tables that
-- it read as a whole, in order, each once; and the ranges, in the order of their calls.
pub record ReadSet : Type 0 where
  pub places : List Place
  pub tables : List ℕ
  pub ranges : List KeyRange

-- nothing was read
abbrev pub no_reads : ReadSet
no_reads = record { places = []; tables = []; ranges = [] }

-- the read set with one more read
abbrev pub with_read : Read → ReadSet → ReadSet
with_read (read.Key table key) reads = record reads
    { places = insert_key place_cmp reads.places (place_at table key) }
with_read (read.Table table) reads = record reads
    { tables = insert_key nat_cmp reads.tables table }
with_read (read.Range table low high) reads = record reads
    { ranges = reads.ranges ++ record { table = table; low = low; high = high } ∷ [] }

-- Its reads in the order in which a commit looks at them: keys, then tables, then ranges.
abbrev pub reads_in : ReadSet → List Read
reads_in reads =
    map (λ (place : Place). read.Key place.table place.key) reads.places
    ++ map read.Table reads.tables
    ++ map (λ (range : KeyRange). read.Range range.table range.low range.high) reads.ranges

-- Of some reads the first that a later commit met, with the last such commit's number.
abbrev pub first_stale : (Read → Option ℕ) → List Read → Option (Read × ℕ)
first_stale last_of [] = None
first_stale last_of (what ∷ reads) = option_or
    (option_map (λ number. (what, number)) (last_of what))
    (first_stale last_of reads)
