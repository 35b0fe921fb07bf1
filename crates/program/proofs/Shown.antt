-- A stream that is shown in pieces: what is printed of it.
use Rattle.std.proofs.Common.{◌≡◌, ℕ, ◌+◌, ◌*◌, ◌^◌, ◌<◌, ◌≤◌, ◌⊎◌, inl, inr, List, [], ◌++◌, length, take}
use Rattle.std.proofs.Common.{refl, sym, ap, subst, arith, append-nil, length-append, Option}
use Rattle.std.proofs.Common.{None, Some}
use Rattle.std.specs.Prelude.{IfSome, IsSome}
use Rattle.std.specs.Io.KnownBytes.{Appends, Consumes, IsAtEnd, Keeps}
use Rattle.std.proofs.KnownBytes.{Appends-nil, Appends-trans, Consumes-kept, Consumes-nil}
use Rattle.std.proofs.KnownBytes.{Consumes-trans}
use Rattle.std.proofs.Math.Seq.{take-append-add}
use Rattle.byte_ports.specs.Calls.{AppendsFront}
use Rattle.stream_spec.specs.Streams.{reading_of}
use Rattle.stream_spec.specs.declared.fault.StreamFault.{StreamFault}
use Rattle.stream_pieces.specs.declared.stand.Stand.{Stand}
use Rattle.stream_pieces.specs.declared.stand.Stand.TheVariants as stand
use Rattle.stream_pieces.specs.Pieces.{IsOver, IsWaiting, ReadSoFar, Standing, opening}
use Rattle.stream_pieces.proofs.Over.{going-is-open}
use Rattle.stream_pieces.proofs.SoFar.{nothing-so-far}
use Rattle.stream_text.specs.Shown.{front_text, shown_text}
use Rattle.stream_text.specs.Showing.{Ends, ShowsPiece}
use Rattle.stream_text.specs.declared.showing.Showing.{Showing}
use Rattle.program.specs.Outcome.{IsDue, IsReadThrough, IsShownSoFar, ShowEnds, outside}
use Rattle.program.specs.Pieces.{InputEnds, IsToldInPart, PieceEnds, ShowsFrom, ended_with}
use Rattle.program.specs.Pieces.{last_status}
use Rattle.program.specs.declared.status.Status.{Status}
use Rattle.program.specs.declared.status.Status.TheVariants as status

-- ---- what is printed

-- a text, and then a front of the next
Appends-front : (a b c : Option (List ℕ)) (text more : List ℕ) → Appends a b text
    → AppendsFront b c more → AppendsFront a c (text ++ more)
Appends-front a b c text more first second = (
  length text + second.0,
  omega (arith, second.1, length-append text more),
  subst (Appends a c) (sym (take-append-add text more second.0))
      (Appends-trans a b c text (take second.0 more) first second.2),
)

opening-waits : IsWaiting opening
opening-waits = record { first = refl; short = refl; going = refl }

-- at first nothing is printed
pub shows-first : (before : Option (List ℕ)) (showing : Showing) → showing.reader ≡ opening
    → showing.rows ≡ 0 → ShowsFrom before [] showing before
shows-first before showing reader rows = record {
  so = record {
    rows = [];
    read = subst (λ (r : Standing). ReadSoFar [] r []) (sym reader) nothing-so-far;
    counted = rows;
    waits = subst IsWaiting (sym reader) opening-waits;
    going = ap (λ (r : Standing). r.stand) reader;
  };
  grown = Appends-nil before;
}

-- and the reading is not over
pub first-is-open : IsOver [] → ⊥
first-is-open over = going-is-open [] opening [] nothing-so-far opening-waits refl over

pub shows-open : (before : Option (List ℕ)) (fed : List ℕ) (showing : Showing)
    (printed : Option (List ℕ)) → ShowsFrom before fed showing printed → IsOver fed → ⊥
shows-open before fed showing printed from over =
    going-is-open fed showing.reader from.so.rows from.so.read from.so.waits from.so.going over

module _
    (before printed now : Option (List ℕ)) (fed piece text : List ℕ) (old new : Showing)
    (from : ShowsFrom before fed old printed) where
  whole : (fault : Option StreamFault) → Ends fed (fed ++ piece) text fault
      → Appends printed now text → Appends before now (shown_text (reading_of (fed ++ piece)))
  whole fault ends grown = subst (Appends before now) ends.text_is
      (Appends-trans before printed now (front_text (reading_of fed)) text from.grown grown)

  -- the lines of a piece are printed
  pub piece-shown : (at : Stand) → ShowsPiece fed piece text at new → Appends printed now text
      → IfSome (ended_with at) (λ ended. PieceEnds before fed piece ended now)
  piece-shown stand.Going shows grown = tt
  piece-shown stand.Ended shows grown = (
    shows.1.fault_is,
    record { over = shows.0; grown = whole None shows.1 grown },
  )
  piece-shown (stand.Stopped fault) shows grown = (
    subst IsSome (sym shows.1.fault_is) refl,
    record { over = shows.0; grown = whole (Some fault) shows.1 grown },
  )

  pub piece-goes-on : (at : Stand) → ShowsPiece fed piece text at new → Appends printed now text
      → ended_with at ≡ None → ShowsFrom before (fed ++ piece) new now
  piece-goes-on stand.Going shows grown is = record {
    so = shows.so;
    grown = subst (Appends before now) shows.text_is
        (Appends-trans before printed now (front_text (reading_of fed)) text from.grown grown);
  }
  piece-goes-on stand.Ended shows grown is = absurd cc
  piece-goes-on (stand.Stopped fault) shows grown is = absurd cc

  -- only a front of them is
  pub piece-in-part : (at : Stand) → ShowsPiece fed piece text at new
      → AppendsFront printed now text → IsToldInPart (fed ++ piece) before now
  piece-in-part stand.Going shows grown = record {
    due = front_text (reading_of (fed ++ piece));
    is_due = inl refl;
    grown = subst (AppendsFront before now) shows.text_is
        (Appends-front before printed now (front_text (reading_of fed)) text from.grown grown);
  }
  piece-in-part stand.Ended shows grown = record {
    due = shown_text (reading_of (fed ++ piece));
    is_due = inr (shows.0, refl);
    grown = subst (AppendsFront before now) shows.1.text_is
        (Appends-front before printed now (front_text (reading_of fed)) text from.grown grown);
  }
  piece-in-part (stand.Stopped fault) shows grown = record {
    due = shown_text (reading_of (fed ++ piece));
    is_due = inr (shows.0, refl);
    grown = subst (AppendsFront before now) shows.1.text_is
        (Appends-front before printed now (front_text (reading_of fed)) text from.grown grown);
  }

module _
    (before printed now : Option (List ℕ)) (fed text : List ℕ) (showing : Showing)
    (from : ShowsFrom before fed showing printed) where
  -- the last line is printed
  pub end-shown : (fault : Option StreamFault) → Ends fed fed text fault
      → Appends printed now text → InputEnds before fed (last_status fault) now
  end-shown None ends grown = (
    ends.fault_is,
    subst (Appends before now) ends.text_is
        (Appends-trans before printed now (front_text (reading_of fed)) text from.grown grown),
  )
  end-shown (Some fault) ends grown = (
    subst IsSome (sym ends.fault_is) refl,
    subst (Appends before now) ends.text_is
        (Appends-trans before printed now (front_text (reading_of fed)) text from.grown grown),
  )

  pub end-in-part : (fault : Option StreamFault) → Ends fed fed text fault
      → AppendsFront printed now text → AppendsFront before now (shown_text (reading_of fed))
  end-in-part fault ends grown = subst (AppendsFront before now) ends.text_is
      (Appends-front before printed now (front_text (reading_of fed)) text from.grown grown)

-- ---- how the program ends

module _
    (left left' before now exported : Option (List ℕ)) (started : Option (List (List ℕ)))
    (fed : List ℕ) (is-open : IsOver fed → ⊥) where
  -- with a piece
  through : (piece : List ℕ) → Consumes left left' (fed ++ piece) → length piece ≤ 2 ^ 16
      → length (fed ++ piece) < 2 ^ 32 + 2 ^ 16 → IsOver (fed ++ piece)
      → IsReadThrough (fed ++ piece) (outside left before exported started)
      (outside left' now exported started)
  through piece read small short over = record {
    read = read;
    ended = inr over;
    soon = record { front = fed; last = piece; parts = refl; small = small; going = is-open };
    short = short;
  }

  due-by : (piece due : List ℕ) → Consumes left left' (fed ++ piece) → length piece ≤ 2 ^ 16
      → length (fed ++ piece) < 2 ^ 32 + 2 ^ 16
      → (due ≡ front_text (reading_of (fed ++ piece)))
      ⊎ (IsOver (fed ++ piece) × (due ≡ shown_text (reading_of (fed ++ piece))))
      → IsDue (fed ++ piece) (outside left before exported started)
      (outside left' now exported started) due
  due-by piece due read small short (inl is) = inl is
  due-by piece due read small short (inr (over, is)) = inr (through piece read small short over, is)

  pub ends-with-piece : (piece : List ℕ) (ended : Status) → Consumes left left' (fed ++ piece)
      → length piece ≤ 2 ^ 16 → length (fed ++ piece) < 2 ^ 32 + 2 ^ 16
      → PieceEnds before fed piece ended now
      → ShowEnds ended (outside left before exported started) (outside left' now exported started)
  ends-with-piece piece status.Done read small short ends = record {
    bytes = fed ++ piece;
    input = through piece read small short ends.1.over;
    judged = ends.0;
    printed = ends.1.grown;
    outlet = record { exported = refl; started = refl };
  }
  ends-with-piece piece status.NotAStream read small short ends = record {
    bytes = fed ++ piece;
    input = through piece read small short ends.1.over;
    judged = ends.0;
    printed = ends.1.grown;
    outlet = record { exported = refl; started = refl };
  }
  ends-with-piece piece status.OutFault read small short ends = record {
    bytes = fed ++ piece;
    read = read;
    soon = record { front = fed; last = piece; parts = refl; small = small; going = is-open };
    short = short;
    due = ends.due;
    is_due = due-by piece ends.due read small short ends.is_due;
    printed = ends.grown;
    outlet = record { exported = refl; started = refl };
  }
  ends-with-piece piece status.Memory read small short ends = (
    fed,
    piece,
    record {
      read = read;
      going = is-open;
      small = small;
      printed = ends;
      outlet = record { exported = refl; started = refl };
    },
  )
  ends-with-piece piece status.Usage read small short ends = absurd ends
  ends-with-piece piece status.Refused read small short ends = absurd ends
  ends-with-piece piece status.ReadFault read small short ends = absurd ends
  ends-with-piece piece status.ExportFault read small short ends = absurd ends
  ends-with-piece piece status.TooLong read small short ends = absurd ends
  ends-with-piece piece status.LogFault read small short ends = absurd ends
  ends-with-piece piece status.NotALog read small short ends = absurd ends
  ends-with-piece piece status.LogFull read small short ends = absurd ends
  ends-with-piece piece status.GroupTooLong read small short ends = absurd ends

  -- with the input
  at-end : Consumes left left' fed → IsAtEnd left' → length fed < 2 ^ 32 + 2 ^ 16
      → IsReadThrough fed (outside left before exported started)
      (outside left' now exported started)
  at-end read end short = record {
    read = read;
    ended = inl end;
    soon = record {
      front = fed;
      last = [];
      parts = sym (append-nil fed);
      small = omega arith;
      going = is-open;
    };
    short = short;
  }

  so-far : Consumes left left' fed → Appends before now (front_text (reading_of fed))
      → IsShownSoFar fed [] (outside left before exported started)
      (outside left' now exported started)
  so-far read grown = record {
    read = subst (Consumes left left') (sym (append-nil fed)) read;
    going = is-open;
    small = omega arith;
    printed = grown;
    outlet = record { exported = refl; started = refl };
  }

  pub ends-with-input : (ended : Status) → Consumes left left' fed → IsAtEnd left'
      → length fed < 2 ^ 32 + 2 ^ 16 → InputEnds before fed ended now
      → ShowEnds ended (outside left before exported started) (outside left' now exported started)
  ends-with-input status.Done read end short ends = record {
    bytes = fed;
    input = at-end read end short;
    judged = ends.0;
    printed = ends.1;
    outlet = record { exported = refl; started = refl };
  }
  ends-with-input status.NotAStream read end short ends = record {
    bytes = fed;
    input = at-end read end short;
    judged = ends.0;
    printed = ends.1;
    outlet = record { exported = refl; started = refl };
  }
  ends-with-input status.OutFault read end short ends = record {
    bytes = fed;
    read = read;
    soon = (at-end read end short).soon;
    short = short;
    due = shown_text (reading_of fed);
    is_due = inr (at-end read end short, refl);
    printed = ends;
    outlet = record { exported = refl; started = refl };
  }
  ends-with-input status.Memory read end short ends = (fed, [], so-far read ends)
  ends-with-input status.Usage read end short ends = absurd ends
  ends-with-input status.Refused read end short ends = absurd ends
  ends-with-input status.ReadFault read end short ends = absurd ends
  ends-with-input status.ExportFault read end short ends = absurd ends
  ends-with-input status.TooLong read end short ends = absurd ends
  ends-with-input status.LogFault read end short ends = absurd ends
  ends-with-input status.NotALog read end short ends = absurd ends
  ends-with-input status.LogFull read end short ends = absurd ends
  ends-with-input status.GroupTooLong read end short ends = absurd ends

  -- with a read that failed
  pub ends-with-fault : (then : Option (List ℕ)) → Consumes left then fed → Keeps then left'
      → Appends before now (front_text (reading_of fed))
      → ShowEnds status.ReadFault (outside left before exported started)
      (outside left' now exported started)
  ends-with-fault then read kept grown =
      (fed, so-far (Consumes-kept left then left' fed read kept) grown)

  -- with too many bytes
  pub ends-too-long : Consumes left left' fed → 2 ^ 32 ≤ length fed
      → Appends before now (front_text (reading_of fed))
      → ShowEnds status.TooLong (outside left before exported started)
      (outside left' now exported started)
  ends-too-long read long grown = (fed, long, so-far read grown)

-- without memory for a piece
pub ends-at-once : (left before exported : Option (List ℕ)) (started : Option (List (List ℕ)))
    → ShowEnds status.Memory (outside left before exported started)
    (outside left before exported started)
ends-at-once left before exported started = (
  [],
  [],
  record {
    read = Consumes-nil left;
    going = first-is-open;
    small = omega arith;
    printed = Appends-nil before;
    outlet = record { exported = refl; started = refl };
  },
)

-- ---- piece by piece

-- So many bytes were read, in pieces of at least one; their lines are printed, and more may come.
pub record ShownSoFar (left left' before printed : Option (List ℕ)) (showing : Showing) (total : ℕ)
    : Type 0 where
  pub fed : List ℕ
  pub from : ShowsFrom before fed showing printed
  pub read : Consumes left left' fed
  pub total_is : total ≡ length fed
  pub few : showing.rows ≤ total * 2 ^ 64

pub shown-first : (left before : Option (List ℕ)) (showing : Showing)
    → showing.reader ≡ opening → showing.rows ≡ 0 → ShownSoFar left left before before showing 0
shown-first left before showing reader rows = record {
  fed = [];
  from = shows-first before showing reader rows;
  read = Consumes-nil left;
  total_is = refl;
  few = omega arith;
}

pub shown-next : (left then left' before printed now : Option (List ℕ)) (old new : Showing)
    (total count : ℕ) (piece : List ℕ) (so : ShownSoFar left then before printed old total)
    → Consumes then left' piece → ShowsFrom before (so.fed ++ piece) new now
    → new.rows < old.rows + 2 ^ 64 → length piece ≡ count → 0 < count
    → ShownSoFar left left' before now new (total + count)
shown-next left then left' before printed now old new total count piece so read from few is some =
    record {
      fed = so.fed ++ piece;
      from = from;
      read = Consumes-trans left then left' so.fed piece so.read read;
      total_is = omega (arith, so.total_is, is, length-append so.fed piece);
      few = omega (arith, so.few, few, some);
    }

-- a read of nothing leaves what was read as it is
pub nothing-more : (left then left' : Option (List ℕ)) (fed buf : List ℕ) (count : ℕ) → count ≡ 0
    → Consumes left then fed → Consumes then left' (take count buf) → Consumes left left' fed
nothing-more left then left' fed buf count none read more =
    subst (Consumes left left') (append-nil fed)
    (subst (λ (n : ℕ). Consumes left left' (fed ++ take n buf)) none
    (Consumes-trans left then left' fed (take count buf) read more))
