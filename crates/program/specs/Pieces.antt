-- How the telling of a piece of a stream ends, and that of its end.
use Rattle.std.specs.Prelude.{◌≡◌, ◌⊎◌, ℕ, List, ◌++◌, Option, None, Some, IsSome}
use Rattle.std.specs.Io.KnownBytes.{Appends}
use Rattle.byte_ports.specs.Calls.{AppendsFront}
use Rattle.stream_pieces.specs.Pieces.{IsOver}
use Rattle.stream_pieces.specs.declared.stand.Stand.{Stand}
use Rattle.stream_pieces.specs.declared.stand.Stand.TheVariants as stand
use Rattle.stream_spec.specs.Streams.{reading_of}
use Rattle.stream_spec.specs.declared.fault.StreamFault.{StreamFault}
use Rattle.stream_text.specs.Shown.{front_text, shown_text}
use Rattle.stream_text.specs.Showing.{ShowsSoFar}
use Rattle.stream_text.specs.declared.showing.Showing.{Showing}
use Rattle.program.specs.declared.status.Status.{Status}
use Rattle.program.specs.declared.status.Status.TheVariants as status

-- The lines of what was fed are printed, and more may come.
pub record ShowsFrom (before : Option (List ℕ)) (fed : List ℕ) (showing : Showing)
    (printed : Option (List ℕ)) : Type 0 where
  pub so : ShowsSoFar fed showing
  pub grown : Appends before printed (front_text (reading_of fed))

-- All of the text of a stream that is over is printed.
pub record IsTold (all : List ℕ) (before printed : Option (List ℕ)) : Type 0 where
  pub over : IsOver all
  pub grown : Appends before printed (shown_text (reading_of all))

-- A front of the lines is printed, or of the whole text where it is over.
pub record IsToldInPart (all : List ℕ) (before printed : Option (List ℕ)) : Type 0 where
  pub due : List ℕ
  pub is_due : (due ≡ front_text (reading_of all))
      ⊎ (IsOver all × (due ≡ shown_text (reading_of all)))
  pub grown : AppendsFront before printed due

-- What is printed where the program ends with a piece.
abbrev pub PieceEnds : Option (List ℕ) → List ℕ → List ℕ → Status → Option (List ℕ) → Type 0
PieceEnds before fed piece status.Done printed =
    ((reading_of (fed ++ piece)).fault ≡ None) × IsTold (fed ++ piece) before printed
PieceEnds before fed piece status.Usage printed = ⊥
PieceEnds before fed piece status.Refused printed = ⊥
PieceEnds before fed piece status.ReadFault printed = ⊥
PieceEnds before fed piece status.OutFault printed = IsToldInPart (fed ++ piece) before printed
PieceEnds before fed piece status.ExportFault printed = ⊥
PieceEnds before fed piece status.Memory printed =
    Appends before printed (front_text (reading_of fed))
PieceEnds before fed piece status.NotAStream printed =
    IsSome (reading_of (fed ++ piece)).fault × IsTold (fed ++ piece) before printed
PieceEnds before fed piece status.TooLong printed = ⊥
PieceEnds before fed piece status.LogFault printed = ⊥
PieceEnds before fed piece status.NotALog printed = ⊥
PieceEnds before fed piece status.LogFull printed = ⊥
PieceEnds before fed piece status.GroupTooLong printed = ⊥

-- What is printed where the input ends.
abbrev pub InputEnds : Option (List ℕ) → List ℕ → Status → Option (List ℕ) → Type 0
InputEnds before fed status.Done printed =
    ((reading_of fed).fault ≡ None) × Appends before printed (shown_text (reading_of fed))
InputEnds before fed status.Usage printed = ⊥
InputEnds before fed status.Refused printed = ⊥
InputEnds before fed status.ReadFault printed = ⊥
InputEnds before fed status.OutFault printed =
    AppendsFront before printed (shown_text (reading_of fed))
InputEnds before fed status.ExportFault printed = ⊥
InputEnds before fed status.Memory printed = Appends before printed (front_text (reading_of fed))
InputEnds before fed status.NotAStream printed =
    IsSome (reading_of fed).fault × Appends before printed (shown_text (reading_of fed))
InputEnds before fed status.TooLong printed = ⊥
InputEnds before fed status.LogFault printed = ⊥
InputEnds before fed status.NotALog printed = ⊥
InputEnds before fed status.LogFull printed = ⊥
InputEnds before fed status.GroupTooLong printed = ⊥

-- how the program ends with a piece, if it does, by how far the stream has come
abbrev pub ended_with : Stand → Option Status
ended_with stand.Going = None
ended_with stand.Ended = Some status.Done
ended_with (stand.Stopped fault) = Some status.NotAStream

-- how it ends where the input does, by the first fault
abbrev pub last_status : Option StreamFault → Status
last_status None = status.Done
last_status (Some fault) = status.NotAStream
