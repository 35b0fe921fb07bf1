-- The first bytes of a stream.
use Rattle.std.proofs.Common.{◌≡◌, ◌≤◌, ℕ, ◌+◌, true, false, List, [], ◌∷◌, ◌++◌, length, drop}
use Rattle.std.proofs.Common.{refl, sym, ap, subst, ◌∙◌, arith, length-drop, Option, Some, None, Ok}
use Rattle.std.proofs.Common.{Err}
use Rattle.std.proofs.lemmas.List.{drop-drop, drop_all}
use Rattle.std.proofs.lemmas.Bool.{true≢false}
use Rattle.cell_model.specs.declared.cell.Cell.{Cell}
use Rattle.stream_spec.specs.Streams.{Known, SchemaRead, behind, fault_at, first_schema, known_by}
use Rattle.stream_spec.specs.Streams.{reading_of}
use Rattle.stream_spec.specs.declared.fault.Cause.{Cause}
use Rattle.stream_spec.specs.declared.fault.Cause.TheVariants as cause
use Rattle.stream_pieces.specs.declared.stand.Stand.{Stand}
use Rattle.stream_pieces.specs.declared.stand.Stand.TheVariants as stand
use Rattle.stream_pieces.specs.Pieces.{IsWaiting, is_waiting, still_read}
use Rattle.stream_pieces.specs.Pieces.{tells_end}
use Rattle.stream_pieces.proofs.GoesOn.{early-end-goes-on, no-schema-goes-on, schema-goes-on}
use Rattle.ipc_read.specs.Looks.{Looks, NoRows, TakesWhole, newest_of, stands}

-- the schema, and then the messages behind it
look-known : (bytes : List ℕ) (schema : SchemaRead) → first_schema bytes ≡ Ok schema
    → schema.size ≤ length bytes
    → (Took : List (List Cell) → Type 0) (now : Known) (count : ℕ) (stand : Stand)
    → Looks Took (Some (known_by schema)) schema.size (drop schema.size bytes) (Some now) count stand
    → Looks Took None 0 bytes (Some now) (schema.size + count) stand
look-known bytes schema is inside Took now count stand takes =
    let from_0 : schema.size + count ≡ 0 + (schema.size + count) = omega arith in
    let at : drop count (drop schema.size bytes)
    ≡ drop (schema.size + count) bytes = drop-drop count schema.size bytes in
    record {
      batches = takes.batches;
      taken = takes.taken;
      within = omega (arith, inside, takes.within, length-drop schema.size bytes);
      goes_on = λ more. schema-goes-on bytes more schema is ∙ takes.goes_on more
          ∙ ap (λ (b : List ℕ). behind takes.batches
          (still_read (stands (Some now) (schema.size + count) b stand) more)) at
          ∙ ap (λ (p : ℕ). behind takes.batches
          (still_read (stands (Some now) p (drop (schema.size + count) bytes) stand)
          more)) from_0;
      waits = subst
          (λ (p : ℕ). IsWaiting
          (stands (Some now) p (drop (schema.size + count) bytes) stand)) from_0
          (subst
          (λ (b : List ℕ). IsWaiting
          (stands (Some now) (schema.size + count) b stand)) at takes.waits);
    }

pub look-schema : (bytes : List ℕ) (schema : SchemaRead) → first_schema bytes ≡ Ok schema
    → schema.size ≤ length bytes
    → (Took : List (List Cell) → Type 0) (newer : Option Known) (count : ℕ) (stand : Stand)
    → TakesWhole Took (known_by schema) schema.size (drop schema.size bytes) newer count stand
    → Looks Took None 0 bytes (Some (newest_of (known_by schema) newer)) (schema.size + count) stand
look-schema bytes schema is inside Took None count stand takes =
    look-known bytes schema is inside Took (known_by schema) count stand (record {
      batches = takes.batches;
      taken = takes.taken;
      within = takes.within;
      goes_on = takes.goes_on;
      waits = takes.waits;
    })
look-schema bytes schema is inside Took (Some now) count stand takes =
    look-known bytes schema is inside Took now count stand takes

-- nothing was taken
pub with-none : (Took : List (List Cell) → Type 0) → Took [] → (bytes : List ℕ)
    (found : Option Known) (count : ℕ) (stand : Stand)
    → Looks NoRows None 0 bytes found count stand → Looks Took None 0 bytes found count stand
with-none Took none bytes found count stand looks = record {
  batches = looks.batches;
  taken = subst Took (sym looks.taken) none;
  within = looks.within;
  goes_on = looks.goes_on;
  waits = looks.waits;
}

-- the schema's message is not whole
pub look-waits : (bytes : List ℕ) → first_schema bytes ≡ Err cause.Short → tells_end bytes ≡ false
    → Looks NoRows None 0 bytes None 0 stand.Going
look-waits bytes is going = record {
  batches = [];
  taken = refl;
  within = omega arith;
  goes_on = λ more. refl;
  waits = record { first = refl; short = is; going = going };
}

-- no bytes wait
short-waits : (c : Cause) → first_schema [] ≡ Err c → true ≡ is_waiting {A = List ℕ} (Err c)
short-waits cause.Short is = refl
short-waits cause.Marker is = ap is_waiting is
short-waits cause.Flat is = ap is_waiting is
short-waits cause.Version is = ap is_waiting is
short-waits cause.Dictionary is = ap is_waiting is
short-waits cause.Kind is = ap is_waiting is
short-waits cause.Shape is = ap is_waiting is
short-waits cause.Endian is = ap is_waiting is
short-waits cause.Utf8 is = ap is_waiting is
short-waits cause.Compressed is = ap is_waiting is
short-waits cause.Buffer is = ap is_waiting is
short-waits cause.NullCount is = ap is_waiting is
short-waits cause.Offsets is = ap is_waiting is

first-some : (bytes : List ℕ) (cause : Cause) → first_schema bytes ≡ Err cause
    → (is_waiting {A = List ℕ} (Err cause) ≡ false) → (byte : ℕ) × (rest : List ℕ)
    × (bytes ≡ byte ∷ rest)
first-some [] cause is done = absurd (true≢false (short-waits cause is ∙ done))
first-some (byte ∷ rest) cause is done = (byte, rest, refl)

-- the bytes are no stream, and that is decided
pub look-fails : (bytes : List ℕ) (cause : Cause) → first_schema bytes ≡ Err cause
    → (is_waiting {A = List ℕ} (Err cause) ≡ false)
    → Looks NoRows None 0 bytes None (length bytes) (stand.Stopped (fault_at 0 cause))
look-fails bytes cause is done =
    let s = first-some bytes cause is done in
    record {
      batches = [];
      taken = refl;
      within = omega arith;
      goes_on = λ more. ap (λ (b : List ℕ). reading_of (b ++ more)) s.2
          ∙ no-schema-goes-on s.0 s.1 more cause (ap first_schema (sym s.2) ∙ is) done;
      waits = drop_all (length bytes) bytes (omega arith);
    }

early-some : (bytes : List ℕ) → tells_end bytes ≡ true → (byte : ℕ) × (rest : List ℕ)
    × (bytes ≡ byte ∷ rest)
early-some [] end = absurd (true≢false (sym end))
early-some (byte ∷ rest) end = (byte, rest, refl)

pub look-ends : (bytes : List ℕ) → first_schema bytes ≡ Err cause.Short → tells_end bytes ≡ true
    → Looks NoRows None 0 bytes None (length bytes) (stand.Stopped (fault_at 0 cause.Short))
look-ends bytes is end =
    let s = early-some bytes end in
    record {
      batches = [];
      taken = refl;
      within = omega arith;
      goes_on = λ more. ap (λ (b : List ℕ). reading_of (b ++ more)) s.2
          ∙ early-end-goes-on s.0 s.1 more (ap first_schema (sym s.2) ∙ is) (ap tells_end (sym s.2)
          ∙ end);
      waits = drop_all (length bytes) bytes (omega arith);
    }

-- which cause waits
pub is-short : (c : Cause) → is_waiting {A = List ℕ} (Err c) ≡ true → c ≡ cause.Short
is-short cause.Short is = refl
is-short cause.Marker is = absurd (true≢false (sym is))
is-short cause.Flat is = absurd (true≢false (sym is))
is-short cause.Version is = absurd (true≢false (sym is))
is-short cause.Dictionary is = absurd (true≢false (sym is))
is-short cause.Kind is = absurd (true≢false (sym is))
is-short cause.Shape is = absurd (true≢false (sym is))
is-short cause.Endian is = absurd (true≢false (sym is))
is-short cause.Utf8 is = absurd (true≢false (sym is))
is-short cause.Compressed is = absurd (true≢false (sym is))
is-short cause.Buffer is = absurd (true≢false (sym is))
is-short cause.NullCount is = absurd (true≢false (sym is))
is-short cause.Offsets is = absurd (true≢false (sym is))

-- the same in other words
pub found-by : (Took : List (List Cell) → Type 0) (bytes : List ℕ) (found found' : Option Known)
    (count count' : ℕ) (stand stand' : Stand)
    → found' ≡ found → count' ≡ count → stand' ≡ stand
    → Looks Took None 0 bytes found count stand → Looks Took None 0 bytes found' count' stand'
found-by Took bytes found found' count count' stand stand' found-is count-is stand-is looks =
    subst (λ (f : Option Known). Looks Took None 0 bytes f count' stand') (sym found-is)
    (subst (λ (n : ℕ). Looks Took None 0 bytes found n stand') (sym count-is)
    (subst (λ (s : Stand). Looks Took None 0 bytes found count s) (sym stand-is) looks))
