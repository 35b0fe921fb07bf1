-- Texts of worked streams.
use Rattle.std.specs.Prelude.{◌≡◌, ℕ, List, [], ◌∷◌, ◌++◌, codes, map, take}
use Rattle.stream_spec.specs.Samples.{nine_stream, with_bytes}
use Rattle.stream_spec.specs.Streams.{reading_of}
use Rattle.stream_text.specs.Shown.{shown_text}
use Rattle.workload_spec.specs.Words.{lines_text}

-- the lines of the first eight rows, and of their schema
abbrev pub eight_lines : List (List ℕ)
eight_lines = codes "schema \"key\":i64 \"v\":utf8?" ∷ codes "| 1 \"x\"" ∷ codes "| 2 \"x\"" ∷ codes
    "| 3 \"x\"" ∷ codes "| 4 \"x\""
    ∷ codes "| 5 \"x\"" ∷ codes "| 6 \"x\"" ∷ codes "| 7 \"x\"" ∷ codes "| 8 \"x\"" ∷ []

abbrev pub NineRowsAreShown : Type 0
NineRowsAreShown = shown_text (reading_of nine_stream)
    ≡ lines_text (eight_lines ++ codes "| 9 \"x\"" ∷ codes "rows 9" ∷ [])

-- a stream that is cut shows the rows in front of the fault
abbrev pub EightRowsAreShown : Type 0
EightRowsAreShown = shown_text (reading_of (take 780 nine_stream))
    ≡ lines_text (eight_lines ++ codes "not a stream at 552 Short" ∷ [])

-- and one that does not begin as a stream shows the fault alone
abbrev pub FaultStandsAlone : Type 0
FaultStandsAlone = map (λ changes. shown_text (reading_of (with_bytes changes nine_stream)))
    (((0, 0x00) ∷ []) ∷ ((72, 0x01) ∷ []) ∷ [])
    ≡ codes "not a stream at 0 Marker\n" ∷ codes "not a stream at 0 Endian\n" ∷ []
