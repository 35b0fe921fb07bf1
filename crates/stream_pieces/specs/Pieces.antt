-- A stream that comes in pieces: where its reader stands, and what is still read from there.
use Rattle.std.specs.Prelude.{◌≡◌, ◌≤◌, ◌⊎◌, flat_map, ℕ, ◌+◌, Bool, true, false, ◌&&◌, ◌==◌}
use Rattle.std.specs.Prelude.{nat_le, List, [], ◌∷◌, ◌++◌}
use Rattle.std.specs.Prelude.{length, option_map, Option, None, Some, Result, Ok, Err}
use Rattle.cell_model.specs.declared.cell.Cell.{Cell}
use Rattle.cell_model.specs.declared.column.Column.{Column}
use Rattle.flat_read.specs.Reading.{number_from}
use Rattle.stream_spec.specs.Streams.{Known, Reading, behind, columns_in, fault_at, first_schema}
use Rattle.stream_spec.specs.Streams.{messages_from, next_message, reading_of}
use Rattle.stream_spec.specs.declared.fault.Cause.{Cause}
use Rattle.stream_spec.specs.declared.fault.Cause.TheVariants as cause
use Rattle.stream_spec.specs.declared.fault.StreamFault.{StreamFault}
use Rattle.stream_pieces.specs.declared.stand.Stand.{Stand}
use Rattle.stream_pieces.specs.declared.stand.Stand.TheVariants as stand

-- the columns, once they are known
abbrev pub schema_of : Option Known → Option (List Column)
schema_of known = option_map columns_in known

-- ---- where a reader stands

-- What is known, once the schema's message has come whole; the place where the next message begins;
-- and the bytes of it that have come, while more may come.
pub record Standing : Type 0 where
  pub known : Option Known
  pub place : ℕ
  pub begun : List ℕ
  pub stand : Stand

-- before the first byte
abbrev pub opening : Standing
opening = record { known = None; place = 0; begun = []; stand = stand.Going }

-- nothing more is read
abbrev pub no_more : Option Known → Option StreamFault → Reading
no_more known fault = record { schema = schema_of known; batches = []; fault = fault }

-- what bytes from this place on read as, where this is known
abbrev pub read_from : Option Known → ℕ → List ℕ → Reading
read_from None place bytes = reading_of bytes
read_from (Some known) place bytes = messages_from (length bytes + 1) known place bytes

-- What is still read where these bytes come, and then the input ends.
abbrev pub still_read_by : Standing → Stand → List ℕ → Reading
still_read_by s stand.Going bytes = read_from s.known s.place (s.begun ++ bytes)
still_read_by s stand.Ended bytes = no_more s.known None
still_read_by s (stand.Stopped fault) bytes = no_more s.known (Some fault)

abbrev pub still_read : Standing → List ℕ → Reading
still_read s bytes = still_read_by s s.stand bytes

-- ---- what is not decided yet

-- The bytes end before a check is decided.
abbrev pub is_waiting : {A : Type 0} → Result A Cause → Bool
is_waiting (Ok value) = false
is_waiting (Err cause.Short) = true
is_waiting (Err cause.Marker) = false
is_waiting (Err cause.Flat) = false
is_waiting (Err cause.Version) = false
is_waiting (Err cause.Dictionary) = false
is_waiting (Err cause.Kind) = false
is_waiting (Err cause.Shape) = false
is_waiting (Err cause.Endian) = false
is_waiting (Err cause.Utf8) = false
is_waiting (Err cause.Compressed) = false
is_waiting (Err cause.Buffer) = false
is_waiting (Err cause.NullCount) = false
is_waiting (Err cause.Offsets) = false

-- Eight bytes have come and tell no metadata: the end word, which is `Short` in front of a schema
-- whatever comes behind it.
abbrev pub tells_end : List ℕ → Bool
tells_end bytes = nat_le 8 (length bytes) && (number_from bytes 4 4 == 0)

-- The bytes that have come of the schema's message do not make it whole, and decide no fault of it.
pub record WaitsForSchema (place : ℕ) (begun : List ℕ) : Type 0 where
  pub first : place ≡ 0
  pub short : first_schema begun ≡ Err cause.Short
  pub going : tells_end begun ≡ false

-- Those that have come of a later message do not, if any have come.
abbrev pub WaitsForMessage : Known → List ℕ → Type 0
WaitsForMessage known begun = (begun ≡ []) ⊎ (next_message known begun ≡ Err cause.Short)

abbrev pub WaitsFor : Option Known → ℕ → List ℕ → Type 0
WaitsFor None place begun = WaitsForSchema place begun
WaitsFor (Some known) place begun = WaitsForMessage known begun

-- Between two pieces no message is whole and no fault is decided; behind the end word or a fault no
-- bytes are kept.
abbrev pub Waits : Stand → Option Known → ℕ → List ℕ → Type 0
Waits stand.Going known place begun = WaitsFor known place begun
Waits stand.Ended known place begun = begun ≡ []
Waits (stand.Stopped fault) known place begun = begun ≡ []

abbrev pub IsWaiting : Standing → Type 0
IsWaiting s = Waits s.stand s.known s.place s.begun

-- ---- a piece

-- the fault at which a reader stands
abbrev pub fault_of : Stand → Option StreamFault
fault_of stand.Going = None
fault_of stand.Ended = None
fault_of (stand.Stopped fault) = Some fault

-- the fault where the stream ends at a reader: a message that has begun is short, and so is a
-- stream without a schema
abbrev pub end_fault : Stand → Option Known → ℕ → List ℕ → Option StreamFault
end_fault stand.Going None place begun = Some (fault_at place cause.Short)
end_fault stand.Going (Some known) place [] = None
end_fault stand.Going (Some known) place (byte ∷ bytes) = Some (fault_at place cause.Short)
end_fault stand.Ended known place begun = None
end_fault (stand.Stopped fault) known place begun = Some fault

-- the rows of batches
abbrev pub rows_of : List (List (List Cell)) → List (List Cell)
rows_of batches = flat_map (λ rows. rows) batches

-- A piece was read: of the rows of the batches that it made whole this is so, and behind them
-- stands what is still read, whatever comes; and the fault is told, if it is decided. The bytes that
-- are kept are some of those that came.
pub record FeedsTo (Took : List (List Cell) → Type 0) (old new : Standing) (piece : List ℕ)
    (fault : Option StreamFault) : Type 0 where
  pub batches : List (List (List Cell))
  pub taken : Took (rows_of batches)
  pub goes_on : (more : List ℕ) → still_read old (piece ++ more)
      ≡ behind batches (still_read new more)
  pub told : fault ≡ fault_of new.stand
  pub counted : new.place + length new.begun ≤ old.place + length old.begun + length piece

-- A piece was read, with these rows.
abbrev pub Feeds : Standing → Standing → List ℕ → List (List Cell) → Option StreamFault → Type 0
Feeds old new piece rows fault = FeedsTo (λ taken. rows ≡ taken) old new piece fault

-- These columns, rows and this fault are what is read.
pub record IsReadingOf (reading : Reading) (schema : Option (List Column)) (rows : List (List Cell))
    (fault : Option StreamFault) : Type 0 where
  pub schema_is : schema ≡ reading.schema
  pub rows_are : rows ≡ rows_of reading.batches
  pub fault_is : fault ≡ reading.fault

-- Behind the bytes that were fed stands this reader: they read as batches of these rows, and then
-- as what is still read, whatever comes.
pub record ReadSoFar (fed : List ℕ) (reader : Standing) (rows : List (List Cell)) : Type 0 where
  pub batches : List (List (List Cell))
  pub rows_are : rows ≡ rows_of batches
  pub goes_on : (more : List ℕ) → reading_of (fed ++ more) ≡ behind batches (still_read reader more)
  pub counted : reader.place + length reader.begun ≤ length fed

-- Whatever comes behind these bytes, they read as they do: the end word has come, or a fault that
-- no bytes mend.
abbrev pub IsOver : List ℕ → Type 0
IsOver bytes = (more : List ℕ) → reading_of (bytes ++ more) ≡ reading_of bytes
