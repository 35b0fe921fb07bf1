-- Where a reading is over, and where it is not.
use Rattle.std.proofs.Common.{subst, ◌≡◌, ℕ, zero, suc, ◌+◌, ◌^◌, ◌<◌, ◌≤◌, Bool, true, false, List}
use Rattle.std.proofs.Common.{[]}
use Rattle.std.proofs.Common.{◌∷◌, ◌++◌, length, drop, refl, sym, ap, ◌∙◌, arith}
use Rattle.std.proofs.Common.{append-nil, length-append, Option, Some, None, Result, Ok, Err}
use Rattle.std.proofs.Common.{inl, inr}
use Rattle.std.specs.Prelude.{nat_le, ◌==◌, ◌&&◌, slice_index}
use Rattle.std.proofs.lemmas.Bool.{leb-true, leb-false, true≢false, eq-eqb}
use Rattle.std.proofs.lemmas.List.{append_cancel_left}
use Rattle.cell_model.specs.declared.cell.Cell.{Cell}
use Rattle.cell_model.specs.declared.column.Column.{Column}
use Rattle.flat_read.specs.Reading.{number_from}
use Rattle.stream_spec.specs.Streams.{Known, MessageRead, Reading, SchemaRead, behind, fault_at}
use Rattle.stream_spec.specs.Streams.{first_schema, known_by, messages_from, next_message}
use Rattle.stream_spec.specs.Streams.{reading_of}
use Rattle.stream_spec.specs.declared.fault.Cause.{Cause}
use Rattle.stream_spec.specs.declared.fault.Cause.TheVariants as cause
use Rattle.stream_spec.specs.declared.fault.StreamFault.{StreamFault}
use Rattle.stream_pieces.specs.declared.stand.Stand.{Stand}
use Rattle.stream_pieces.specs.declared.stand.Stand.TheVariants as stand
use Rattle.stream_pieces.specs.Pieces.{IsOver, IsWaiting, ReadSoFar, Standing, Waits}
use Rattle.stream_pieces.specs.Pieces.{WaitsFor}
use Rattle.stream_pieces.specs.Pieces.{end_fault, is_waiting, no_more}
use Rattle.stream_pieces.specs.Pieces.{read_from}
use Rattle.stream_pieces.specs.Pieces.{still_read, tells_end}
use Rattle.stream_pieces.proofs.Stays.{Inside, message-inside, number-stays}
use Rattle.stream_pieces.proofs.GoesOn.{after, by, by-next, other-type}
use Rattle.stream_pieces.proofs.Long.{length-zeros, schema-decided, short-is-open, zeros}
use Rattle.stream_pieces.proofs.Schemas.{schema-kept}
use Rattle.stream_pieces.proofs.SoFar.{end-is-told}

-- ---- what is over

-- what a reader that is done still reads is the same whatever comes
done-by : (known : Option Known) (place : ℕ) (begun : List ℕ) (s : Stand) (more : List ℕ)
    → (s ≡ stand.Going → ⊥)
    → still_read (record { known = known; place = place; begun = begun; stand = s }) more
    ≡ still_read (record { known = known; place = place; begun = begun; stand = s }) []
done-by known place begun stand.Going more done = absurd (done refl)
done-by known place begun stand.Ended more done = refl
done-by known place begun (stand.Stopped fault) more done = refl

-- Behind the end word, and behind a fault that is decided, the reading is over.
pub done-is-over : (fed : List ℕ) (reader : Standing) (rows : List (List Cell))
    → ReadSoFar fed reader rows → (reader.stand ≡ stand.Going → ⊥) → IsOver fed
done-is-over fed reader rows so done more =
    so.goes_on more
    ∙ ap (behind so.batches)
    (done-by reader.known reader.place reader.begun reader.stand more done)
    ∙ sym (so.goes_on []) ∙ ap reading_of (append-nil fed)

-- ---- what is not

-- eight bytes that are not 0, and enough others to decide any message
abbrev enough : List ℕ
enough = 255 ∷ 255 ∷ 255 ∷ 255 ∷ 255 ∷ 255 ∷ 255 ∷ 255 ∷ zeros

long-enough : (begun : List ℕ) → 2 ^ 64 ≤ length (begun ++ enough)
long-enough begun = omega (arith, length-append begun enough, length-zeros)

-- the eighth byte behind fewer than eight
eighth : (begun : List ℕ) → length begun < 8 → slice_index (drop 4 (begun ++ enough)) 3 ≡ 255
eighth [] few = refl
eighth (a ∷ []) few = refl
eighth (a ∷ b ∷ []) few = refl
eighth (a ∷ b ∷ c ∷ []) few = refl
eighth (a ∷ b ∷ c ∷ d ∷ []) few = refl
eighth (a ∷ b ∷ c ∷ d ∷ e ∷ []) few = refl
eighth (a ∷ b ∷ c ∷ d ∷ e ∷ f ∷ []) few = refl
eighth (a ∷ b ∷ c ∷ d ∷ e ∷ f ∷ g ∷ []) few = refl
eighth (a ∷ b ∷ c ∷ d ∷ e ∷ f ∷ g ∷ h ∷ rest) few = absurd (omega (arith, few))

-- a size word whose last byte is not 0
last-byte : (bytes : List ℕ) → number_from bytes 4 4 ≡ 0 → slice_index (drop 4 bytes) 3 ≡ 0
last-byte bytes is = omega (arith, is)

by-length : (begun : List ℕ) (long : Bool) → nat_le 8 (length begun) ≡ long
    → tells_end begun ≡ false → number_from (begun ++ enough) 4 4 ≡ 0 → ⊥
by-length begun true long going zero_size =
    let fits : 8 ≤ length begun = leb-true 8 (length begun) long in
    let same : number_from begun 4 4 ≡ 0 =
    sym (number-stays begun enough 4 4 (omega (arith, fits))) ∙ zero_size in
    true≢false (sym (ap (λ (l : Bool). l && (number_from begun 4 4 == 0)) long
    ∙ eq-eqb (number_from begun 4 4) 0 same) ∙ going)
by-length begun false short going zero_size =
    let few : length begun < 8 = leb-false 8 (length begun) short in
    let byte = eighth begun few in
    let last = last-byte (begun ++ enough) zero_size in
    omega (arith, byte, last)

size-some : (begun : List ℕ) → tells_end begun ≡ false
    → number_from (begun ++ enough) 4 4 ≡ 0 → ⊥
size-some begun going = by-length begun (nat_le 8 (length begun)) refl going

decided : (begun : List ℕ) → tells_end begun ≡ false
    → is_waiting (first_schema (begun ++ enough)) ≡ false
decided [] going = schema-decided 255 (drop 1 enough) (long-enough []) (size-some [] going)
decided (byte ∷ bytes) going =
    schema-decided byte (bytes
    ++ enough) (long-enough (byte ∷ bytes)) (size-some (byte ∷ bytes) going)

-- the fault is that of bytes that end too early
abbrev is_early : Option StreamFault → Bool
is_early None = false
is_early (Some fault) = is_waiting {A = List ℕ} (Err fault.cause)

schema-apart : (bytes : List ℕ) (place : ℕ) (read : Result SchemaRead Cause)
    → is_waiting read ≡ false → by bytes read ≡ no_more None (Some (fault_at place cause.Short)) → ⊥
schema-apart bytes place (Err cause) settled is =
    true≢false (sym (ap (λ (r : Reading). is_early r.fault) is)
    ∙ other-type SchemaRead (List ℕ) cause settled)
schema-apart bytes place (Ok schema) settled is =
    let kept = schema-kept (length bytes + 1) (known_by schema) schema.size (drop schema.size bytes) in
    absurd (cc (kept, ap (λ (r : Reading). r.schema) is))

-- a fault, if there is one, is at this place or behind it
abbrev IsBehind : ℕ → Option StreamFault → Type 0
IsBehind place None = Unit {0}
IsBehind place (Some fault) = place ≤ fault.place

further : (place more : ℕ) (fault : Option StreamFault) → IsBehind (place + more) fault
    → IsBehind place fault
further place more None is = tt
further place more (Some fault) is = omega (arith, is)

after-behind : (more : ℕ) (known : Known) (place : ℕ) (bytes : List ℕ)
    (read : Result (Option MessageRead) Cause)
    → ((k : Known) (place : ℕ) (rest : List ℕ)
    → IsBehind place (messages_from more k place rest).fault)
    → IsBehind place (after more known place bytes read).fault
after-behind more known place bytes (Err cause) each = omega arith
after-behind more known place bytes (Ok None) each = tt
after-behind more known place bytes (Ok (Some message)) each =
    further place message.size
    (messages_from more message.known (place + message.size) (drop message.size bytes)).fault
    (each message.known (place + message.size) (drop message.size bytes))

-- the fault of the messages from a place on is there or behind it
faults-behind : (more : ℕ) (known : Known) (place : ℕ) (bytes : List ℕ)
    → IsBehind place (messages_from more known place bytes).fault
faults-behind zero known place bytes = tt
faults-behind (suc more) known place bytes =
    after-behind more known place bytes (next_message known bytes)
    (λ k p rest. faults-behind more k p rest)

message-apart : (more : ℕ) (known : Known) (place : ℕ) (bytes : List ℕ)
    (read : Result (Option MessageRead) Cause) (before : Option Known) → is_waiting read ≡ false
    → Inside (length bytes) read
    → after more known place bytes read ≡ no_more before (Some (fault_at place cause.Short)) → ⊥
message-apart more known place bytes (Err cause) before settled inside is =
    true≢false (sym (ap (λ (r : Reading). is_early r.fault) is)
    ∙ other-type (Option MessageRead) (List ℕ) cause settled)
message-apart more known place bytes (Ok None) before settled inside is =
    absurd (cc (ap (λ (r : Reading). r.fault) is))
message-apart more known place bytes (Ok (Some message)) before settled inside is =
    let later : IsBehind (place + message.size) (Some (fault_at place cause.Short)) =
    subst (IsBehind (place + message.size)) (ap (λ (r : Reading). r.fault) is)
    (faults-behind more message.known (place + message.size) (drop message.size bytes)) in
    absurd (omega (arith, later, inside.0))

-- what may come so that something else is read than where the input ends here
abbrev Opens : Option Known → ℕ → List ℕ → Type 0
Opens known place begun = (more : List ℕ)
    × (read_from known place (begun ++ more)
    ≡ no_more known (end_fault stand.Going known place begun) → ⊥)

first-opens : (place : ℕ) (begun : List ℕ) → WaitsFor None place begun → Opens None place begun
first-opens place begun waits = (
  enough,
  λ is. schema-apart (begun ++ enough) place (first_schema (begun ++ enough))
      (decided begun waits.going) is,
)

later-opens : (known : Known) (place : ℕ) (begun : List ℕ) → WaitsFor (Some known) place begun
    → Opens (Some known) place begun
later-opens known place [] waits = (
  0 ∷ 0 ∷ 0 ∷ 0 ∷ [],
  λ is. absurd (cc (ap (λ (r : Reading). r.fault) is)),
)
later-opens known place (byte ∷ bytes) (inl none) = absurd cc
later-opens known place (byte ∷ bytes) (inr short) =
    let more = short-is-open known byte bytes in
    let all : List ℕ = (byte ∷ bytes) ++ more.0 in (
      more.0,
      λ is. message-apart (length all + 1) known place all (next_message known all)
          (Some known) more.1 (message-inside known all)
          (sym (by-next known place all (next_message known all) refl) ∙ is),
    )

opens : (known : Option Known) (place : ℕ) (begun : List ℕ) → WaitsFor known place begun
    → Opens known place begun
opens None place begun waits = first-opens place begun waits
opens (Some known) place begun waits = later-opens known place begun waits

going-opens : (known : Option Known) (place : ℕ) (begun : List ℕ) (s : Stand)
    → s ≡ stand.Going → Waits s known place begun
    → (more : List ℕ)
    × (still_read (record { known = known; place = place; begun = begun; stand = s }) more
    ≡ still_read (record { known = known; place = place; begun = begun; stand = s }) [] → ⊥)
going-opens known place begun stand.Going going waits =
    let o = opens known place begun waits in
    let reader : Standing =
    record { known = known; place = place; begun = begun; stand = stand.Going } in
    (o.0, λ same. o.1 (same ∙ end-is-told reader waits))
going-opens known place begun stand.Ended going waits = absurd cc
going-opens known place begun (stand.Stopped fault) going waits = absurd cc

same-reading : (a b : Reading) → a.schema ≡ b.schema → a.batches ≡ b.batches → a.fault ≡ b.fault
    → a ≡ b
same-reading a b schema batches fault =
    ap (λ (x : Option (List Column)). record a { schema = x }) schema
    ∙ ap (λ (x : List (List (List Cell))).
    record { schema = b.schema; batches = x; fault = a.fault }) batches
    ∙ ap (λ (x : Option StreamFault).
    record { schema = b.schema; batches = b.batches; fault = x }) fault

-- what stands behind the same batches
behind-same : (batches : List (List (List Cell))) (a b : Reading)
    → behind batches a ≡ behind batches b → a ≡ b
behind-same batches a b is =
    same-reading a b (ap (λ (r : Reading). r.schema) is)
    (append_cancel_left batches a.batches b.batches (ap (λ (r : Reading). r.batches) is))
    (ap (λ (r : Reading). r.fault) is)

-- While more may come, the reading is not over.
pub going-is-open : (fed : List ℕ) (reader : Standing) (rows : List (List Cell))
    → ReadSoFar fed reader rows → IsWaiting reader → reader.stand ≡ stand.Going → IsOver fed → ⊥
going-is-open fed reader rows so waits going over =
    let o = going-opens reader.known reader.place reader.begun reader.stand going waits in
    o.1 (behind-same so.batches (still_read reader o.0) (still_read reader [])
    (sym (so.goes_on o.0) ∙ over o.0 ∙ ap reading_of (sym (append-nil fed)) ∙ so.goes_on []))
