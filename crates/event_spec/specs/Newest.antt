-- Which later commits wrote into what a transaction read: by the entries of slots, the keys of the
-- index and the desk's last writer of each table.
use Rattle.std.specs.Prelude.{ℕ, ℤ, nat_lt, List, [], ◌∷◌, Option, None, Some, option_to_list}
use Rattle.std.specs.Prelude.{option_and_then, filter, if◌then◌else◌}
use Rattle.std.specs.List.{flat_map}
use Rattle.std.specs.FinMap as finite
use Rattle.block_spec.specs.Slots.{Slot}
use Rattle.cell_model.specs.Values.{is_between}
use Rattle.isolation_spec.specs.Contents.{PlaceMap}
use Rattle.isolation_spec.specs.Reads.{ReadSet, first_stale, reads_in}
use Rattle.isolation_spec.specs.declared.read.Read.{Read}
use Rattle.isolation_spec.specs.declared.read.Read.TheVariants as read
use Rattle.key_index.specs.Candidates.{Places}
use Rattle.txn_desk.specs.declared.Snapshot.{Snapshot}
use Rattle.undo_chain.specs.Conflict.{numbers_above, largest}

-- the keys of a shard between two, both counted
abbrev pub keys_within : ℤ → ℤ → Places → List ℤ
keys_within low high places = filter (is_between low high)
    (finite.keys places)

-- The reads that a commit is judged by: without writes by none.
abbrev pub judged_reads : PlaceMap ℕ → Option ReadSet → Option ReadSet
judged_reads [] reads = None
judged_reads (first ∷ rest) reads = reads

-- over the slot of each table and place, the candidates of each table and key, the keys of a table
-- between two, and the number of the last commit that wrote each table
module _ (slot : ℕ → ℕ → Slot) (places : ℕ → ℤ → List ℕ) (keys : ℕ → ℤ → ℤ → List ℤ) (wrote : ℕ → ℕ) where
  -- the largest number of a commit above a snapshot among the entries at a key's places
  abbrev pub number_of : Snapshot → ℕ → ℤ → Option ℕ
  number_of snapshot table key = largest
      (flat_map (λ place. numbers_above (slot table place).entries snapshot.stamp) (places table key))

  -- The last commit above a snapshot that wrote into a read.
  abbrev pub newest_of : Snapshot → Read → Option ℕ
  newest_of snapshot (read.Key table key) = number_of snapshot table key
  newest_of snapshot (read.Table table) = if nat_lt snapshot.number (wrote table)
      then Some (wrote table) else None
  newest_of snapshot (read.Range table low high) = largest
      (flat_map (λ key. option_to_list (number_of snapshot table key)) (keys table low high))

  -- The first of a transaction's reads that a commit above its snapshot wrote into, with the last
  -- such commit; none where it wrote nothing, or keeps no reads.
  abbrev pub stale_by : Snapshot → PlaceMap ℕ → Option ReadSet → Option (Read × ℕ)
  stale_by snapshot writes reads = option_and_then
      (λ set. first_stale (newest_of snapshot) (reads_in set))
      (judged_reads writes reads)
