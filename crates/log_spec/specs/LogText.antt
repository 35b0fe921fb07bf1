-- The bytes of a log of commits, as they are printed. Numbers are little-endian.
use Rattle.std.specs.Prelude.{◌≡◌, ◌≢◌, ℕ, ◌%◌, ◌^◌, ◌<◌, List, [], ◌∷◌, ◌++◌, map, length, drop}
use Rattle.std.specs.Prelude.{codes, Option, None, Some, if◌then◌else◌}
use Rattle.std.specs.List.{AllByRecursion, flat_map}
use Rattle.std.specs.Int.{w32, w64, w128, cast_unsigned, to_le_bytes}
use Rattle.cell_model.specs.declared.cell.Cell.{Cell}
use Rattle.cell_model.specs.declared.cell.Cell.TheVariants.{Null, Num, Truth, Text, Blob}
use Rattle.isolation_spec.specs.Contents.{WriteSet, History}
use Rattle.isolation_spec.specs.declared.place.Place.{Place}

-- ---- payloads

-- bytes behind their length
abbrev pub sized : List ℕ → List ℕ
sized bytes = to_le_bytes w32 (length bytes) ++ bytes

-- items behind their count
abbrev pub counted : {X : Type 0} → (X → List ℕ) → List X → List ℕ
counted text items = to_le_bytes w32 (length items) ++ flat_map text items

-- a cell behind the byte of its kind; numbers and days are in two's complement
abbrev pub cell_text : Cell → List ℕ
cell_text Null = 0 ∷ []
cell_text (Num number) = 1 ∷ to_le_bytes w128 (cast_unsigned w128 number)
cell_text (Truth truth) = 2 ∷ ((if truth then 1 else 0) ∷ [])
cell_text (Text text) = 3 ∷ sized text
cell_text (Blob bytes) = 4 ∷ sized bytes

-- what was left at a place: nothing, or the row's cells behind its key
abbrev pub left_text : Option (List Cell) → List ℕ
left_text None = 0 ∷ []
left_text (Some row) = 1 ∷ flat_map cell_text (drop 1 row)

-- the place, its table in 8 bits and its key, and what was left there
abbrev pub write_text : Place × Option (List Cell) → List ℕ
write_text write = (write.0.table % 256)
    ∷ (to_le_bytes w64 (cast_unsigned w64 write.0.key) ++ left_text write.1)

-- The writes of a commit, in the order of their places.
abbrev pub set_text : WriteSet → List ℕ
set_text writes = counted write_text writes

-- The payload of a record: some commits, in the order of their numbers.
abbrev pub payload_text : History → List ℕ
payload_text commits = counted set_text commits

-- ---- records

-- A record: its gate, and its payload.
pub record Record : Type 0 where
  pub gate : ℕ
  pub payload : List ℕ

abbrev pub record_text : Record → List ℕ
record_text r = r.gate ∷ sized r.payload

abbrev pub magic : List ℕ
magic = codes "MAINLOG1"

-- what stands before the gate behind these records
abbrev pub front_text : List Record → List ℕ
front_text records = magic ++ flat_map record_text records

-- the gate is open, and the length has 32 bits
pub record IsOpen (r : Record) : Type 0 where
  pub gate : r.gate ≢ 0
  pub short : length r.payload < 2 ^ 32

-- The bytes are the log of these payloads, with its closed gate at this place. What stands behind
-- the gate is ignored.
pub record IsLogAt (payloads : List (List ℕ)) (gate : ℕ) (bytes : List ℕ) : Type 0 where
  pub records : List Record
  pub behind : List ℕ
  pub same : map (λ r. r.payload) records ≡ payloads
  pub are_open : AllByRecursion IsOpen records
  pub place : length (front_text records) ≡ gate
  pub is : bytes ≡ front_text records ++ 0 ∷ behind
