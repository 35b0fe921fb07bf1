-- Pieces one after another.
use Rattle.std.proofs.Common.{◌≡◌, ℕ, List, [], ◌∷◌, ◌++◌, refl, sym, ap, ◌∙◌}
use Rattle.std.proofs.Common.{arith, append_assoc, append-nil, length-append, Option, None, Some}
use Rattle.std.proofs.Common.{inl, inr}
use Rattle.std.proofs.Common.{◌⊎◌, Err}
use Rattle.std.proofs.lemmas.Grind.{flat_map-append}
use Rattle.cell_model.specs.declared.cell.Cell.{Cell}
use Rattle.stream_spec.specs.Streams.{Known, Reading, behind, fault_at, first_schema}
use Rattle.stream_spec.specs.Streams.{next_message, reading_of}
use Rattle.stream_spec.specs.declared.fault.Cause.TheVariants as cause
use Rattle.stream_spec.specs.declared.fault.StreamFault.{StreamFault}
use Rattle.stream_pieces.specs.declared.stand.Stand.{Stand}
use Rattle.stream_pieces.specs.declared.stand.Stand.TheVariants as stand
use Rattle.stream_pieces.specs.Pieces.{Feeds, IsReadingOf, IsWaiting, ReadSoFar, Standing}
use Rattle.stream_pieces.specs.Pieces.{opening, read_from, rows_of, schema_of}
use Rattle.stream_pieces.specs.Pieces.{still_read, Waits, WaitsFor, end_fault, no_more}
use Rattle.stream_pieces.proofs.GoesOn.{by, by-next}

pub nothing-so-far : ReadSoFar [] opening []
nothing-so-far = record {
  batches = [];
  rows_are = refl;
  goes_on = λ more. refl;
  counted = omega arith;
}

pub a-piece-so-far : (fed piece : List ℕ) (old new : Standing) (rows more_rows : List (List Cell))
    (fault : Option StreamFault)
    → ReadSoFar fed old rows → Feeds old new piece more_rows fault
    → ReadSoFar (fed ++ piece) new (rows ++ more_rows)
a-piece-so-far fed piece old new rows more_rows fault so feeds = record {
  batches = so.batches ++ feeds.batches;
  rows_are = ap (λ (r : List (List Cell)). r ++ more_rows) so.rows_are
      ∙ ap (λ (r : List (List Cell)). rows_of so.batches ++ r) feeds.taken
      ∙ sym (flat_map-append (λ (rows : List (List Cell)). rows) so.batches feeds.batches);
  goes_on = λ more.
      let rest : Reading = still_read new more in
      ap reading_of (append_assoc fed piece more) ∙ so.goes_on (piece ++ more)
      ∙ ap (behind so.batches) (feeds.goes_on more)
      ∙ ap (λ (all : List (List (List Cell))). record rest { batches = all })
      (sym (append_assoc so.batches feeds.batches rest.batches));
  counted = omega (arith, so.counted, feeds.counted, length-append fed piece);
}

-- ---- the end of the input

end-behind : (known : Known) (place : ℕ) (begun : List ℕ)
    → (begun ≡ []) ⊎ (next_message known begun ≡ Err cause.Short)
    → read_from (Some known) place (begun ++ [])
    ≡ no_more (Some known) (end_fault stand.Going (Some known) place begun)
end-behind known place [] waits = refl
end-behind known place (byte ∷ bytes) (inl none) = absurd cc
end-behind known place (byte ∷ bytes) (inr short) =
    let is : next_message known ((byte ∷ bytes) ++ []) ≡ Err cause.Short =
    ap (next_message known) (append-nil (byte ∷ bytes)) ∙ short in
    by-next known place ((byte ∷ bytes) ++ []) (Err cause.Short) is

end-from : (known : Option Known) (place : ℕ) (begun : List ℕ) → WaitsFor known place begun
    → read_from known place (begun ++ []) ≡ no_more known (end_fault stand.Going known place begun)
end-from None place begun waits =
    let is : first_schema (begun ++ []) ≡ Err cause.Short =
    ap first_schema (append-nil begun) ∙ waits.short in
    ap (by (begun ++ [])) is
    ∙ ap (λ (p : ℕ). no_more None (Some (fault_at p cause.Short))) (sym waits.first)
end-from (Some known) place begun waits = end-behind known place begun waits

end-by : (known : Option Known) (place : ℕ) (begun : List ℕ) (s : Stand) → Waits s known place begun
    → still_read (record { known = known; place = place; begun = begun; stand = s }) []
    ≡ no_more known (end_fault s known place begun)
end-by known place begun stand.Going waits = end-from known place begun waits
end-by known place begun stand.Ended waits = refl
end-by known place begun (stand.Stopped fault) waits = refl

pub end-is-told : (reader : Standing) → IsWaiting reader
    → still_read reader []
    ≡ no_more reader.known (end_fault reader.stand reader.known reader.place reader.begun)
end-is-told reader waits = end-by reader.known reader.place reader.begun reader.stand waits

pub all-so-far : (fed : List ℕ) (reader : Standing) (rows : List (List Cell))
    (fault : Option StreamFault)
    → ReadSoFar fed reader rows → still_read reader [] ≡ no_more reader.known fault
    → IsReadingOf (reading_of fed) (schema_of reader.known) rows fault
all-so-far fed reader rows fault so told =
    let all : reading_of fed ≡ behind so.batches (still_read reader []) =
    ap reading_of (sym (append-nil fed)) ∙ so.goes_on [] in
    record {
      schema_is = sym (ap (λ (r : Reading). r.schema) told)
          ∙ ap (λ (r : Reading). r.schema) (sym all);
      rows_are = so.rows_are ∙ ap rows_of (sym (append-nil so.batches))
          ∙ ap (λ (more : List (List (List Cell))). rows_of (so.batches ++ more))
          (sym (ap (λ (r : Reading). r.batches) told))
          ∙ ap (λ (r : Reading). rows_of r.batches) (sym all);
      fault_is = sym (ap (λ (r : Reading). r.fault) told) ∙ ap (λ (r : Reading). r.fault) (sym all);
    }
