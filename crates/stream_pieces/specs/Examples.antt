-- A stream of nine rows in two batches, the second of which has come in part.
use Rattle.std.specs.Prelude.{◌≡◌, true, List, [], drop, take, Option, None, Some}
use Rattle.cell_model.specs.declared.cell.Cell.{Cell}
use Rattle.cell_model.specs.declared.kind.Kind.TheVariants as kind
use Rattle.arrow_spec.specs.Examples.{key_and, nine_rows}
use Rattle.arrow_spec.specs.Fields.{plain_fields}
use Rattle.stream_spec.specs.Samples.{nine_stream}
use Rattle.stream_spec.specs.Streams.{Reading, behind, fault_at}
use Rattle.stream_spec.specs.declared.fault.Cause.TheVariants as cause
use Rattle.stream_spec.specs.declared.fault.StreamFault.{StreamFault}
use Rattle.stream_pieces.specs.Pieces.{IsWaiting, Standing, opening, still_read}
use Rattle.stream_pieces.specs.declared.stand.Stand.TheVariants as stand

-- behind the first 600 bytes, of which the last 48 begin the second batch
abbrev pub behind_600 : Standing
behind_600 = record {
  known = Some (record { fields = plain_fields (key_and kind.Utf8 true); dictionaries = [] });
  place = 552;
  begun = drop 552 (take 600 nine_stream);
  stand = stand.Going;
}

-- No fault is decided there, and no message is whole.
abbrev pub WaitsBehind600 : Type 0
WaitsBehind600 = IsWaiting behind_600

-- what is still read: the batch behind the first, and this fault
abbrev pub left_with : Option StreamFault → List (List (List Cell)) → Reading
left_with fault batches = record
    { schema = Some (key_and kind.Utf8 true); batches = batches; fault = fault }

-- The other 200 bytes bring the second batch and the end.
abbrev pub SecondBatchIsLeft : Type 0
SecondBatchIsLeft = still_read behind_600 (drop 600 nine_stream) ≡ left_with None (drop 1 nine_rows)

-- Where only 180 of them come, the second batch is short.
abbrev pub CutBatchIsLeft : Type 0
CutBatchIsLeft = still_read behind_600 (take 180 (drop 600 nine_stream))
    ≡ left_with (Some (fault_at 552 cause.Short)) []

-- All that is read is the first batch, and what is still read behind it.
abbrev pub FirstBatchCame : Type 0
FirstBatchCame = still_read opening nine_stream
    ≡ behind (take 1 nine_rows) (still_read behind_600 (drop 600 nine_stream))
