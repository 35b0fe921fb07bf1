-- What a stream in pieces shows.
use Rattle.std.proofs.Common.{◌≡◌, ℕ, ◌+◌, List, [], ◌∷◌, ◌++◌, length, map, refl}
use Rattle.std.proofs.Common.{sym, ap, ◌∙◌, arith, append_assoc, append-nil, length-append, Option}
use Rattle.std.proofs.Common.{None, Some, subst}
use Rattle.std.specs.Prelude.{is_some, if◌then◌else◌}
use Rattle.std.proofs.lemmas.List.{map-append}
use Rattle.cell_model.specs.declared.cell.Cell.{Cell}
use Rattle.cell_model.specs.declared.column.Column.{Column}
use Rattle.stream_spec.specs.Streams.{Known, Reading, columns_in, reading_of}
use Rattle.stream_spec.specs.declared.fault.StreamFault.{StreamFault}
use Rattle.stream_pieces.specs.declared.stand.Stand.{Stand}
use Rattle.stream_pieces.specs.declared.stand.Stand.TheVariants as stand
use Rattle.stream_pieces.specs.Pieces.{Feeds, FeedsTo, IsReadingOf, IsWaiting, ReadSoFar}
use Rattle.stream_pieces.specs.Pieces.{Standing, end_fault, no_more, rows_of, schema_of, still_read}
use Rattle.stream_pieces.proofs.Over.{done-is-over}
use Rattle.stream_pieces.proofs.Schemas.{no-rows-yet, schema-stays-known}
use Rattle.stream_pieces.proofs.SoFar.{a-piece-so-far, all-so-far, end-is-told}
use Rattle.stream_text.specs.Added.{AddsLines}
use Rattle.stream_text.specs.Shown.{all_rows, front_lines, front_text, last_line, schema_line}
use Rattle.stream_text.specs.Shown.{shown_text}
use Rattle.stream_text.specs.Showing.{Ends, ShowsPiece, ShowsSoFar, last_text}
use Rattle.stream_text.specs.declared.showing.Showing.{Showing}
use Rattle.stream_text.proofs.RowLemmas.{ended, lines-append}
use Rattle.workload_spec.specs.ReplyText.{row_line}
use Rattle.workload_spec.specs.Words.{lines_text}

-- ---- the text of what is read

module _
    (reading : Reading) (schema : Option (List Column)) (rows : List (List Cell))
    (fault : Option StreamFault) (is : IsReadingOf reading schema rows fault) where
  -- the lines in front of the last
  front-is : front_text reading ≡ lines_text (front_lines schema rows)
  front-is =
      ap (λ (s : Option (List Column)). lines_text (front_lines s (all_rows reading.batches)))
      (sym is.schema_is)
      ∙ ap (λ (r : List (List Cell)). lines_text (front_lines schema r)) (sym is.rows_are)

  -- and all
  shown-is : lines_text (front_lines schema rows) ++ ended (last_line (length rows) fault)
      ≡ shown_text reading
  shown-is =
      ap (λ (t : List ℕ). lines_text (front_lines schema rows) ++ t)
      (sym (append-nil (ended (last_line (length rows) fault))))
      ∙ sym (lines-append (front_lines schema rows) (last_line (length rows) fault ∷ []))
      ∙ ap (λ (f : Option StreamFault).
      lines_text (front_lines schema rows ++ last_line (length rows) f ∷ [])) is.fault_is
      ∙ ap (λ (r : List (List Cell)).
      lines_text (front_lines schema r ++ last_line (length r) reading.fault ∷ [])) is.rows_are
      ∙ ap (λ (s : Option (List Column)). lines_text (front_lines s (all_rows reading.batches)
      ++ last_line (length (all_rows reading.batches)) reading.fault ∷ [])) is.schema_is

-- what a reader's bytes read as
is-read : (fed : List ℕ) (reader : Standing) (rows : List (List Cell)) (at : Stand)
    → ReadSoFar fed reader rows → IsWaiting reader → reader.stand ≡ at
    → IsReadingOf (reading_of fed) (schema_of reader.known) rows
    (end_fault at reader.known reader.place reader.begun)
is-read fed reader rows at so waits is =
    all-so-far fed reader rows (end_fault at reader.known reader.place reader.begun) so
    (end-is-told reader waits
    ∙ ap (λ (s : Stand). no_more reader.known (end_fault s reader.known reader.place reader.begun))
    is)

-- ---- the lines of a piece

-- the columns, where they were not known before
abbrev pub due : Option (List Column) → Option (List Column) → Option (List Column)
due before after = if is_some before then None else after

-- Behind the lines so far come that of the columns, where it is due, and those of the rows.
grows : (before after : Option (List Column)) (rows more : List (List Cell))
    → ((columns : List Column) → before ≡ Some columns → after ≡ Some columns)
    → (before ≡ None → rows ≡ []) → (after ≡ None → rows ++ more ≡ [])
    → lines_text (front_lines before rows)
    ++ (lines_text (front_lines (due before after) []) ++ lines_text (map row_line more))
    ≡ lines_text (front_lines after (rows ++ more))
grows (Some columns) after rows more kept first none =
    sym (lines-append (schema_line columns ∷ map row_line rows) (map row_line more))
    ∙ ap (λ (l : List (List ℕ)). lines_text (schema_line columns ∷ l))
    (sym (map-append row_line rows more))
    ∙ ap (λ (s : Option (List Column)). lines_text (front_lines s (rows ++ more)))
    (sym (kept columns refl))
grows None (Some columns) rows more kept first none =
    sym (lines-append (schema_line columns ∷ []) (map row_line more))
    ∙ ap (λ (r : List (List Cell)). lines_text (schema_line columns ∷ map row_line (r ++ more)))
    (sym (first refl))
grows None None rows more kept first none =
    ap (λ (r : List (List Cell)). lines_text (map row_line r))
    (ap (λ (r : List (List Cell)). r ++ more) (sym (first refl)) ∙ none refl)

kept-by : (known : Option Known) (after : Option (List Column))
    → ((k : Known) → known ≡ Some k → after ≡ Some (columns_in k))
    → (columns : List Column) → schema_of known ≡ Some columns → after ≡ Some columns
kept-by None after stays columns is = absurd cc
kept-by (Some known) after stays columns is = stays known refl ∙ is

none-by : (known : Option Known) → schema_of known ≡ None → known ≡ None
none-by None is = refl
none-by (Some known) is = absurd cc

module _
    (fed piece : List ℕ) (old : Showing) (reader : Standing) (fault : Option StreamFault)
    (grown : List ℕ) (counted : ℕ) (so : ShowsSoFar fed old)
    (feeds : FeedsTo (λ rows. AddsLines [] 0 rows grown counted) old.reader reader piece fault)
    (waits : IsWaiting reader) where
  abbrev more : List (List Cell)
  more = rows_of feeds.batches

  abbrev text : List ℕ
  text = lines_text (front_lines (due (schema_of old.reader.known) (schema_of reader.known)) [])
      ++ grown

  plain : Feeds old.reader reader piece more fault
  plain = record {
    batches = feeds.batches;
    taken = refl;
    goes_on = feeds.goes_on;
    told = feeds.told;
    counted = feeds.counted;
  }

  all : ReadSoFar (fed ++ piece) reader (so.rows ++ more)
  all = a-piece-so-far fed piece old.reader reader so.rows more fault so.read plain

  lines : front_text (reading_of fed) ++ text
      ≡ lines_text (front_lines (schema_of reader.known) (so.rows ++ more))
  lines =
      ap (λ (t : List ℕ). t ++ text)
      (front-is (reading_of fed) (schema_of old.reader.known) so.rows _
      (is-read fed old.reader so.rows old.reader.stand so.read so.waits refl))
      ∙ ap (λ (t : List ℕ). lines_text (front_lines (schema_of old.reader.known) so.rows)
      ++ (lines_text (front_lines (due (schema_of old.reader.known) (schema_of reader.known)) [])
      ++ t)) feeds.taken.text_is
      ∙ grows (schema_of old.reader.known) (schema_of reader.known) so.rows more
      (kept-by old.reader.known (schema_of reader.known)
      (λ known is. schema-stays-known _ old.reader reader piece fault known feeds waits is))
      (λ is. no-rows-yet fed old.reader so.rows so.read so.waits (none-by old.reader.known is))
      (λ is. no-rows-yet (fed ++ piece) reader (so.rows ++ more) all waits
      (none-by reader.known is))

  rows-are : old.rows + counted ≡ length (so.rows ++ more)
  rows-are = omega (arith, so.counted, feeds.taken.count_is, length-append so.rows more)

  whole : (at : Stand) → reader.stand ≡ at → (last : Option StreamFault)
      → end_fault at reader.known reader.place reader.begun ≡ last
      → Ends fed (fed ++ piece) (text ++ ended (last_line (old.rows + counted) last)) last
  whole at is last last-is =
      let read = is-read (fed ++ piece) reader (so.rows ++ more) at all waits is in
      let front : List ℕ = lines_text (front_lines (schema_of reader.known) (so.rows ++ more)) in
      record {
        fault_is = sym read.fault_is ∙ last-is;
        text_is =
            sym (append_assoc (front_text (reading_of fed)) text
            (ended (last_line (old.rows + counted) last)))
            ∙ ap (λ (t : List ℕ). t ++ ended (last_line (old.rows + counted) last)) lines
            ∙ ap (λ (n : ℕ). front ++ ended (last_line n last)) rows-are
            ∙ ap (λ (f : Option StreamFault).
            front ++ ended (last_line (length (so.rows ++ more)) f)) (sym last-is)
            ∙ shown-is (reading_of (fed ++ piece)) (schema_of reader.known) (so.rows ++ more) _
            read;
      }

  -- What a piece shows, by how far the stream has come.
  pub piece-shows : (at : Stand) → reader.stand ≡ at
      → ShowsPiece fed piece (text ++ last_text at (old.rows + counted)) at
      (record { reader = reader; rows = old.rows + counted })
  piece-shows stand.Going is = record {
    so = record {
      rows = so.rows ++ more;
      read = all;
      counted = rows-are;
      waits = waits;
      going = is;
    };
    text_is =
        ap (λ (t : List ℕ). front_text (reading_of fed) ++ t) (append-nil text)
        ∙ lines
        ∙ sym (front-is (reading_of (fed ++ piece)) (schema_of reader.known) (so.rows ++ more) _
        (is-read (fed ++ piece) reader (so.rows ++ more) stand.Going all waits is));
  }
  piece-shows stand.Ended is = (
    done-is-over (fed ++ piece) reader (so.rows ++ more) all (λ going. absurd (cc (going, is))),
    whole stand.Ended is None refl,
  )
  piece-shows (stand.Stopped fault) is = (
    done-is-over (fed ++ piece) reader (so.rows ++ more) all (λ going. absurd (cc (going, is))),
    whole (stand.Stopped fault) is (Some fault) refl,
  )

-- What a piece shows, in the words of the code: the lines of its rows stand behind that of the columns,
-- where it is due, and then comes the last, where it is decided.
pub next-shows : (fed piece : List ℕ) (old : Showing) (reader : Standing)
    (fault : Option StreamFault) (first grown : List ℕ) (none counted rows : ℕ)
    (columns : Option (List Column)) (put text : List ℕ) (at : Stand)
    → ShowsSoFar fed old
    → FeedsTo (λ taken. AddsLines first none taken grown counted) old.reader reader piece fault
    → IsWaiting reader → at ≡ reader.stand → first ≡ [] → none ≡ 0 → rows ≡ old.rows + counted
    → columns ≡ due (schema_of old.reader.known) (schema_of reader.known)
    → put ≡ lines_text (front_lines columns []) ++ grown → text ≡ put ++ last_text at rows
    → ShowsPiece fed piece text at (record { reader = reader; rows = rows })
next-shows fed piece old reader fault first grown none counted rows columns put text at so feeds waits
    at-is first-is none-is rows-is columns-is put-is text-is =
    let OfFirst : List ℕ → Type 0 =
    λ f. FeedsTo (λ taken. AddsLines f none taken grown counted) old.reader reader piece fault in
    let OfNone : ℕ → Type 0 =
    λ n. FeedsTo (λ taken. AddsLines [] n taken grown counted) old.reader reader piece fault in
    let plain = subst OfNone none-is (subst OfFirst first-is feeds) in
    let front : List ℕ = lines_text (front_lines (due (schema_of old.reader.known)
    (schema_of reader.known)) []) ++ grown in
    let whole : text ≡ front ++ last_text at (old.rows + counted) =
    text-is ∙ ap (λ (n : ℕ). put ++ last_text at n) rows-is
    ∙ ap (λ (p : List ℕ). p ++ last_text at (old.rows + counted))
    (put-is
    ∙ ap (λ (c : Option (List Column)). lines_text (front_lines c []) ++ grown) columns-is) in
    subst (λ (n : ℕ). ShowsPiece fed piece text at (record { reader = reader; rows = n }))
    (sym rows-is)
    (subst (λ (t : List ℕ).
    ShowsPiece fed piece t at (record { reader = reader; rows = old.rows + counted })) (sym whole)
    (piece-shows fed piece old reader fault grown counted so plain waits at (sym at-is)))

-- Where the input ends, the last line is that of the fault, or of the count.
pub end-shows : (fed : List ℕ) (showing : Showing) (fault : Option StreamFault)
    → ShowsSoFar fed showing
    → still_read showing.reader [] ≡ no_more showing.reader.known fault
    → Ends fed fed (ended (last_line showing.rows fault)) fault
end-shows fed showing fault so told =
    let read = all-so-far fed showing.reader so.rows fault so.read told in
    let schema : Option (List Column) = schema_of showing.reader.known in
    record {
      fault_is = sym read.fault_is;
      text_is =
          ap (λ (t : List ℕ). t ++ ended (last_line showing.rows fault))
          (front-is (reading_of fed) schema so.rows fault read)
          ∙ ap (λ (n : ℕ). lines_text (front_lines schema so.rows) ++ ended (last_line n fault))
          so.counted
          ∙ shown-is (reading_of fed) schema so.rows fault read;
    }
