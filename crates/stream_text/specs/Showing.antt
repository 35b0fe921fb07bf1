-- A stream that is shown in pieces: the lines of what was fed, and those that a piece adds.
use Rattle.std.specs.Prelude.{◌≡◌, ℕ, List, [], ◌∷◌, ◌++◌, length, Option, None, Some}
use Rattle.cell_model.specs.declared.cell.Cell.{Cell}
use Rattle.stream_spec.specs.Streams.{reading_of}
use Rattle.stream_spec.specs.declared.fault.StreamFault.{StreamFault}
use Rattle.stream_pieces.specs.declared.stand.Stand.{Stand}
use Rattle.stream_pieces.specs.declared.stand.Stand.TheVariants as stand
use Rattle.stream_pieces.specs.Pieces.{IsOver, IsWaiting, ReadSoFar}
use Rattle.stream_text.specs.Shown.{front_text, last_line, shown_text}
use Rattle.stream_text.specs.declared.showing.Showing.{Showing}

-- These bytes were fed, their rows are counted, and more may come.
pub record ShowsSoFar (fed : List ℕ) (showing : Showing) : Type 0 where
  pub rows : List (List Cell)
  pub read : ReadSoFar fed showing.reader rows
  pub counted : showing.rows ≡ length rows
  pub waits : IsWaiting showing.reader
  pub going : showing.reader.stand ≡ stand.Going

-- The text behind the lines of what was fed first makes the whole text of all bytes, whose first
-- fault is this one.
pub record Ends (fed all text : List ℕ) (fault : Option StreamFault) : Type 0 where
  pub fault_is : (reading_of all).fault ≡ fault
  pub text_is : front_text (reading_of fed) ++ text ≡ shown_text (reading_of all)

-- The text behind the lines of what was fed before makes those of what is fed with the piece.
pub record GoesOn (fed piece text : List ℕ) (showing : Showing) : Type 0 where
  pub so : ShowsSoFar (fed ++ piece) showing
  pub text_is : front_text (reading_of fed) ++ text ≡ front_text (reading_of (fed ++ piece))

-- What a piece adds, by how far the stream has come with it: the lines of its batches; and the last
-- line too where the end word has come or a fault is decided.
abbrev pub ShowsPiece : List ℕ → List ℕ → List ℕ → Stand → Showing → Type 0
ShowsPiece fed piece text stand.Going showing = GoesOn fed piece text showing
ShowsPiece fed piece text stand.Ended showing =
    IsOver (fed ++ piece) × Ends fed (fed ++ piece) text None
ShowsPiece fed piece text (stand.Stopped fault) showing =
    IsOver (fed ++ piece) × Ends fed (fed ++ piece) text (Some fault)

-- the last line, where it is decided
abbrev pub last_text : Stand → ℕ → List ℕ
last_text stand.Going rows = []
last_text stand.Ended rows = last_line rows None ++ 10 ∷ []
last_text (stand.Stopped fault) rows = last_line rows (Some fault) ++ 10 ∷ []
