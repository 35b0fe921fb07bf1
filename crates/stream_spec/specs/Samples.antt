-- Streams that were changed by a byte or cut, and what they read as.
use Rattle.std.specs.Prelude.{◌≡◌, ℕ, List, [], ◌∷◌, ◌++◌, map, take, Option, None, Some}
use Rattle.std.specs.Prelude.{true, length, slice_set, codes, pos}
use Rattle.cell_model.specs.declared.cell.Cell.{Cell}
use Rattle.cell_model.specs.declared.cell.Cell.TheVariants.{Null, Num, Text, Blob}
use Rattle.cell_model.specs.declared.kind.Kind.TheVariants as kind
use Rattle.arrow_spec.specs.Examples.{key_alone, key_and, three_keys, nine_rows}
use Rattle.arrow_spec.specs.LaterKinds.{later_bytes, later_columns, later_rows}
use Rattle.arrow_spec.specs.Streams.{stream_of}
use Rattle.stream_spec.specs.Streams.{Reads, reading_of, fault_at}
use Rattle.stream_spec.specs.declared.fault.Cause.{Cause}
use Rattle.stream_spec.specs.declared.fault.Cause.TheVariants as cause
use Rattle.stream_spec.specs.declared.fault.StreamFault.{StreamFault}

-- the stream of the keys 1, 2 and 3
abbrev pub keys_stream : List ℕ
keys_stream = stream_of key_alone (three_keys ∷ [])

-- the stream of nine rows in two batches
abbrev pub nine_stream : List ℕ
nine_stream = stream_of (key_and kind.Utf8 true) nine_rows

abbrev pub KeysAreRead : Type 0
KeysAreRead = Reads keys_stream key_alone (three_keys ∷ [])

abbrev pub NineRowsAreRead : Type 0
NineRowsAreRead = Reads nine_stream (key_and kind.Utf8 true) nine_rows

-- the bytes with these at their places
abbrev pub with_bytes : List (ℕ × ℕ) → List ℕ → List ℕ
with_bytes [] bytes = bytes
with_bytes (change ∷ changes) bytes = with_bytes changes (slice_set bytes change.0 change.1)

-- the fault of nine rows with these bytes changed
abbrev pub fault_with : List (ℕ × ℕ) → Option StreamFault
fault_with changes = (reading_of (with_bytes changes nine_stream)).fault

abbrev pub at : ℕ → Cause → Option StreamFault
at place cause = Some (fault_at place cause)

-- One byte changed, and the fault that it makes: at least one for each cause that a byte can make.
abbrev pub ChangedBytesAreFound : Type 0
ChangedBytesAreFound = map fault_with
    (((0, 0x00) ∷ []) ∷ ((50, 0x02) ∷ []) ∷ ((50, 0x03) ∷ []) ∷ ((72, 0x01) ∷ [])
    ∷ ((121, 0x03) ∷ []) ∷ ((128, 0xff) ∷ []) ∷ ((148, 0x18) ∷ []) ∷ ((264, 0x80) ∷ [])
    ∷ ((272, 0x02) ∷ []) ∷ ((274, 0x01) ∷ []) ∷ ((274, 0x02) ∷ []) ∷ ((274, 0x04) ∷ [])
    ∷ ((384, 0x38) ∷ []) ∷ ((384, 0x80) ∷ []) ∷ ((544, 0xff) ∷ [])
    ∷ ((344, 0x01) ∷ []) ∷ ((508, 0x09) ∷ []) ∷ ((536, 0x09) ∷ [])
    ∷ ((280, 0x0c) ∷ (290, 0x04) ∷ []) ∷ ((8, 0xff) ∷ []) ∷ [])
    ≡ at 0 cause.Marker ∷ at 0 cause.Shape ∷ at 0 cause.Shape ∷ at 0 cause.Endian
    ∷ at 0 cause.Kind ∷ at 0 cause.Utf8 ∷ at 0 cause.Kind ∷ at 568 cause.Marker
    ∷ at 224 cause.Version ∷ at 224 cause.Shape ∷ at 224 cause.Dictionary ∷ at 224 cause.Kind
    ∷ at 224 cause.Buffer ∷ at 224 cause.Buffer ∷ at 224 cause.Utf8
    ∷ at 224 cause.NullCount ∷ at 224 cause.Offsets ∷ at 224 cause.Offsets ∷ at 224 cause.Compressed
    ∷ at 0 cause.Flat ∷ []

-- the older version, in each message
abbrev pub OldVersionIsRead : Type 0
OldVersionIsRead = Reads (with_bytes ((48, 0x03) ∷ (272, 0x03) ∷ (600, 0x03) ∷ []) nine_stream)
    (key_and kind.Utf8 true) nine_rows

-- how many batches the first bytes of the stream read as, and the fault
abbrev pub cut : ℕ → ℕ × Option StreamFault
cut size = (
  length (reading_of (take size nine_stream)).batches,
  (reading_of (take size nine_stream)).fault,
)

-- A stream that is cut ends well between two messages behind its schema, and else is short.
abbrev pub CutsAreFound : Type 0
CutsAreFound = map cut (0 ∷ 3 ∷ 7 ∷ 8 ∷ 223 ∷ 224 ∷ 225 ∷ 551 ∷ 552 ∷ 553 ∷ 780 ∷ 791 ∷ 792 ∷ 793
    ∷ 799 ∷ [])
    ≡ (0, at 0 cause.Short) ∷ (0, at 0 cause.Short) ∷ (0, at 0 cause.Short) ∷ (0, at 0 cause.Short)
    ∷ (0, at 0 cause.Short) ∷ (0, None) ∷ (0, at 224 cause.Short)
    ∷ (0, at 224 cause.Short) ∷ (1, None) ∷ (1, at 552 cause.Short) ∷ (1, at 552 cause.Short)
    ∷ (1, at 552 cause.Short) ∷ (2, None) ∷ (2, at 792 cause.Short) ∷ (2, at 792 cause.Short)
    ∷ []

-- what is behind the end word is not looked at
abbrev pub BehindTheEndIsFree : Type 0
BehindTheEndIsFree = Reads (nine_stream ++ 1 ∷ 2 ∷ 3 ∷ []) (key_and kind.Utf8 true) nine_rows

-- the stream of a date, of two bytes and of a large text
abbrev pub LaterKindsAreRead : Type 0
LaterKindsAreRead = Reads later_bytes later_columns (later_rows ∷ [])

-- the same rows, but a `b` alone as the text of the first, and bytes in the second too
abbrev pub changed_rows : List (List Cell)
changed_rows =
    (Num (pos 1) ∷ Num (pos 19000) ∷ Blob (0x0a ∷ 0xff ∷ []) ∷ Text (codes "b") ∷ [])
    ∷ (Num (pos 2) ∷ Null ∷ Blob (0x07 ∷ 0x00 ∷ []) ∷ Text [] ∷ []) ∷ []

-- that stream with a first offset of 1, and with two bytes at the second slot, which is then no
-- longer null
abbrev pub ChangedLaterKindsAreRead : Type 0
ChangedLaterKindsAreRead = Reads
    (with_bytes ((736, 0x01) ∷ (512, 0x00) ∷ (720, 0x03) ∷ (730, 0x07) ∷ []) later_bytes)
    later_columns (changed_rows ∷ [])

-- the fault of that stream with these bytes changed
abbrev pub later_fault_with : List (ℕ × ℕ) → Option StreamFault
later_fault_with changes = (reading_of (with_bytes changes later_bytes)).fault

-- A unit that is absent or another than days, a width that is absent, 0, 1,025 or negative, a
-- date's and a width's table that is absent; too few bytes for the width, for two dates and for
-- three offsets; an offset beyond 32 bits, a negative one, one above the next, the last beyond the
-- values, and a large text that is none.
abbrev pub LaterBytesAreFound : Type 0
LaterBytesAreFound = map later_fault_with
    (((220, 0x00) ∷ []) ∷ ((228, 0x01) ∷ []) ∷ ((292, 0x00) ∷ []) ∷ ((300, 0x00) ∷ [])
    ∷ ((300, 0x01) ∷ (301, 0x04) ∷ []) ∷ ((303, 0x80) ∷ []) ∷ ((178, 0x00) ∷ [])
    ∷ ((250, 0x00) ∷ []) ∷ ((300, 0x03) ∷ []) ∷ ((600, 0x07) ∷ []) ∷ ((664, 0x17) ∷ [])
    ∷ ((748, 0x01) ∷ []) ∷ ((751, 0x80) ∷ []) ∷ ((736, 0xff) ∷ []) ∷ ((680, 0x01) ∷ [])
    ∷ ((760, 0xff) ∷ []) ∷ [])
    ≡ at 0 cause.Kind ∷ at 0 cause.Kind ∷ at 0 cause.Kind ∷ at 0 cause.Kind
    ∷ at 0 cause.Kind ∷ at 0 cause.Kind ∷ at 0 cause.Kind ∷ at 0 cause.Kind
    ∷ at 376 cause.Buffer ∷ at 376 cause.Buffer ∷ at 376 cause.Buffer
    ∷ at 376 cause.Offsets ∷ at 376 cause.Offsets ∷ at 376 cause.Offsets ∷ at 376 cause.Offsets
    ∷ at 376 cause.Utf8 ∷ []
