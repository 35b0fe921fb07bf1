-- What a call of a writer did to its sink. A piece of a stream is the message of a schema, those of a
-- record batch with its dictionaries, or the end word (Arrow columnar format, "IPC Streaming
-- Format").
use Rattle.std.specs.Prelude.{◌≡◌, ℕ, Bool, true, false, List, Option, Result, Ok, Err}
use Rattle.std.specs.Io.KnownBytes.{Appends}
use Rattle.byte_ports.specs.Calls.{Rose, AppendsFront}
use Rattle.ipc_write.specs.declared.faults.PieceFault.{PieceFault}
use Rattle.ipc_write.specs.declared.faults.PieceFault.TheVariants.{Sink, Memory}
use Rattle.ipc_write.specs.declared.faults.SinkFault.{SinkFault}

-- A writer, as calls see it: its sink, and whether a call of the sink has failed.
pub record WriterView (W : Type 0) : Type 0 where
  pub sink : W
  pub failed : Bool

-- The whole piece was written, and no call of the sink has failed: its count of faults is as
-- before.
pub record WroteAll
    {W : Type 0} (written : W → Option (List ℕ)) (faults : W → ℕ) (old new : WriterView W)
    (piece : List ℕ)
    : Type 0 where
  pub before : old.failed ≡ false
  pub after : new.failed ≡ false
  pub bytes : Appends (written old.sink) (written new.sink) piece
  pub kept : faults new.sink ≡ faults old.sink

-- A call of the sink failed: an earlier one, and nothing changed; or one of this call, its count of
-- faults rose, and only a front of the piece was written.
abbrev pub SinkFailed :
    {W : Type 0} → (W → Option (List ℕ)) → (W → ℕ) → WriterView W → WriterView W → List ℕ
    → Bool → Type 0
SinkFailed written faults old new piece true = (old.failed ≡ true) × (new ≡ old)
SinkFailed written faults old new piece false =
    (old.failed ≡ false) × (new.failed ≡ true)
    × AppendsFront (written old.sink) (written new.sink) piece
    × Rose (faults old.sink) (faults new.sink)

-- The answer of a call that takes no memory.
abbrev pub WritesPiece :
    {W T : Type 0} → (W → Option (List ℕ)) → (W → ℕ) → WriterView W → WriterView W → List ℕ
    → Result T SinkFault → Type 0
WritesPiece written faults old new piece (Ok done) = WroteAll written faults old new piece
WritesPiece written faults old new piece (Err fault) = SinkFailed written faults old new piece
    fault.earlier

-- The answer of a call that makes the piece first: where there was no memory for it, nothing
-- changed, and no call of the sink had failed.
abbrev pub MakesPiece :
    {W T : Type 0} → (W → Option (List ℕ)) → (W → ℕ) → WriterView W → WriterView W → List ℕ
    → Result T PieceFault → Type 0
MakesPiece written faults old new piece (Ok done) = WroteAll written faults old new piece
MakesPiece written faults old new piece (Err (Sink fault)) = SinkFailed written faults old new piece
    fault.earlier
MakesPiece written faults old new piece (Err (Memory refused)) = (old.failed ≡ false) × (new ≡ old)

-- A front of the pieces was written that is not all, and no call of the sink has failed.
pub record WroteFront
    {W : Type 0} (written : W → Option (List ℕ)) (faults : W → ℕ) (old new : WriterView W)
    (pieces : List ℕ)
    : Type 0 where
  pub before : old.failed ≡ false
  pub after : new.failed ≡ false
  pub bytes : AppendsFront (written old.sink) (written new.sink) pieces
  pub kept : faults new.sink ≡ faults old.sink

-- The answer of a call that makes and writes pieces one after another: where there was no memory for
-- one, those before it were written.
abbrev pub WritesRun :
    {W T : Type 0} → (W → Option (List ℕ)) → (W → ℕ) → WriterView W → WriterView W → List ℕ
    → Result T PieceFault → Type 0
WritesRun written faults old new pieces (Ok done) = WroteAll written faults old new pieces
WritesRun written faults old new pieces (Err (Sink fault)) = SinkFailed written faults old new
    pieces fault.earlier
WritesRun written faults old new pieces (Err (Memory refused)) = WroteFront written faults old new
    pieces
