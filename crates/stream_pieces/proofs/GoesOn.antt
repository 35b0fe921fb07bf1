-- What is still read, message by message.
use Rattle.std.proofs.Common.{◌≡◌, ℕ, zero, suc, ◌+◌, ◌<◌, ◌≤◌, true, false, List, [], ◌∷◌, ◌++◌}
use Rattle.std.proofs.Common.{length, drop, refl, sym, ap, subst, ◌∙◌, arith, length-append}
use Rattle.std.proofs.Common.{length-drop, Option, Some, None, Result, Ok, Err}
use Rattle.std.proofs.lemmas.List.{drop-append-le}
use Rattle.std.proofs.lemmas.Bool.{true≢false}
use Rattle.stream_spec.specs.Streams.{Known, MessageRead, Reading, SchemaRead, behind, ends_with}
use Rattle.stream_spec.specs.Streams.{fault_at, first_schema, known_by, messages_from, next_message}
use Rattle.stream_spec.specs.declared.fault.Cause.{Cause}
use Rattle.stream_spec.specs.declared.fault.Cause.TheVariants as cause
use Rattle.stream_pieces.specs.Pieces.{is_waiting, no_more, read_from, tells_end}
use Rattle.stream_pieces.proofs.Stays.{message-stays, message-inside, inside-at, schema-stays}
use Rattle.stream_pieces.proofs.Stays.{schema-inside, Inside, end-stays}

-- what the next message makes of what is left
abbrev pub after : ℕ → Known → ℕ → List ℕ → Result (Option MessageRead) Cause → Reading
after more known place bytes read = elim read [
  | Err cause ↦ ends_with known (Some (fault_at place cause))
  | Ok None ↦ ends_with known None
  | Ok (Some message) ↦ behind message.batches
      (messages_from more message.known (place + message.size) (drop message.size bytes))
]

-- the same bytes with other fuel, as the next message says
same-after : (f g : ℕ) (known : Known) (place : ℕ) (bytes : List ℕ)
    (read : Result (Option MessageRead) Cause) → Inside (length bytes) read
    → length bytes < suc f → length bytes < suc g
    → ((known : Known) (place : ℕ) (rest : List ℕ) → length rest < f → length rest < g
    → messages_from f known place rest ≡ messages_from g known place rest)
    → after f known place bytes read ≡ after g known place bytes read
same-after f g known place bytes (Err cause) inside one two same = refl
same-after f g known place bytes (Ok None) inside one two same = refl
same-after f g known place bytes (Ok (Some message)) inside one two same =
    let shorter : length (drop message.size bytes) + message.size
    ≡ length bytes = omega (arith, length-drop message.size bytes, inside.1) in
    ap (behind message.batches)
    (same message.known (place + message.size) (drop message.size bytes) (omega (arith, shorter, inside.0, one))
    (omega (arith, shorter, inside.0, two)))

-- Any fuel that is more than the bytes gives the same.
pub any-fuel : (f g : ℕ) (known : Known) (place : ℕ) (bytes : List ℕ) → length bytes < f
    → length bytes < g → messages_from f known place bytes ≡ messages_from g known place bytes
any-fuel zero g known place bytes one two = absurd (omega (arith, one))
any-fuel (suc f) zero known place bytes one two = absurd (omega (arith, two))
any-fuel (suc f) (suc g) known place bytes one two =
    same-after f g known place bytes (next_message known bytes) (message-inside known bytes) one
    two
    (λ k p rest a b. any-fuel f g k p rest a b)

-- what is read from a place on is what the next message makes of it
pub by-next : (known : Known) (place : ℕ) (bytes : List ℕ)
    (read : Result (Option MessageRead) Cause) → next_message known bytes ≡ read
    → read_from (Some known) place bytes
    ≡ after (length bytes + 1) known place bytes read
by-next known place bytes read is =
    any-fuel (length bytes + 1) (suc (length bytes + 1)) known place bytes (omega arith)
    (omega arith)
    ∙ ap (after (length bytes + 1) known place bytes) is

some-bytes : (bytes : List ℕ) (known : Known) (message : MessageRead)
    → next_message known bytes ≡ Ok (Some message)
    → (byte : ℕ) × (rest : List ℕ) × (bytes ≡ byte ∷ rest)
some-bytes [] known message is = absurd
    (omega (
      arith,
      (inside-at 0 (next_message known []) message is (message-inside known [])).0,
      (inside-at 0 (next_message known []) message is (message-inside known [])).1,
    ))
some-bytes (byte ∷ rest) known message is = (byte, rest, refl)

settled : (read : Result (Option MessageRead) Cause) (message : Option MessageRead)
    → read ≡ Ok message → is_waiting read ≡ false
settled read message is = ap is_waiting is

-- a message stays
pub message-there : (known : Known) (bytes more : List ℕ) (message : MessageRead)
    → next_message known bytes ≡ Ok (Some message)
    → next_message known (bytes ++ more) ≡ Ok (Some message)
message-there known bytes more message is =
    let b = some-bytes bytes known message is in
    subst (λ (all : List ℕ). next_message known all ≡ Ok (Some message)
    → next_message known (all ++ more) ≡ Ok (Some message)) (sym b.2)
    (λ there. message-stays known b.0 b.1 more
    (settled (next_message known (b.0 ∷ b.1)) (Some message) there) ∙ there) is

-- A message that is whole is the first of what is still read.
pub message-goes-on : (known : Known) (place : ℕ) (bytes more : List ℕ) (message : MessageRead)
    → next_message known bytes ≡ Ok (Some message)
    → read_from (Some known) place (bytes ++ more)
    ≡ behind message.batches
    (read_from (Some message.known) (place + message.size) (drop message.size bytes ++ more))
message-goes-on known place bytes more message is =
    let inside = inside-at (length bytes) (next_message known bytes) message is
    (message-inside known bytes) in
    let rest : drop message.size (bytes ++ more) ≡ drop message.size bytes ++ more =
    drop-append-le message.size bytes more inside.1 in
    let short : length (drop message.size (bytes ++ more)) + message.size ≡ length (bytes ++ more) =
    omega (
      arith,
      length-drop message.size (bytes ++ more),
      length-append bytes more,
      inside.1,
    ) in
    by-next known place (bytes ++ more) (Ok (Some message))
    (message-there known bytes more message is)
    ∙ ap (behind message.batches)
    (any-fuel (length (bytes ++ more) + 1) (length (drop message.size (bytes ++ more)) + 1)
    message.known (place + message.size) (drop message.size (bytes ++ more))
    (omega (arith, short)) (omega arith)
    ∙ ap (λ (b : List ℕ). read_from (Some message.known) (place + message.size) b) rest)

-- The end word ends what is still read.
pub message-ends : (known : Known) (place byte : ℕ) (bytes more : List ℕ)
    → next_message known (byte ∷ bytes) ≡ Ok None
    → read_from (Some known) place ((byte ∷ bytes) ++ more) ≡ no_more (Some known) None
message-ends known place byte bytes more is =
    by-next known place ((byte ∷ bytes) ++ more) (Ok None)
    (message-stays known byte bytes more (settled (next_message known (byte ∷ bytes)) None is)
    ∙ is)

-- waiting goes by the cause alone
pub other-type : (A B : Type 0) (cause : Cause) → is_waiting {A = A} (Err cause) ≡ false
    → is_waiting {A = B} (Err cause) ≡ false
other-type A B cause.Short is = is
other-type A B cause.Marker is = refl
other-type A B cause.Flat is = refl
other-type A B cause.Version is = refl
other-type A B cause.Dictionary is = refl
other-type A B cause.Kind is = refl
other-type A B cause.Shape is = refl
other-type A B cause.Endian is = refl
other-type A B cause.Utf8 is = refl
other-type A B cause.Compressed is = refl
other-type A B cause.Buffer is = refl
other-type A B cause.NullCount is = refl
other-type A B cause.Offsets is = refl

-- So does a fault.
pub message-fails : (known : Known) (place byte : ℕ) (bytes more : List ℕ) (cause : Cause)
    → next_message known (byte ∷ bytes) ≡ Err cause
    → is_waiting {A = List ℕ} (Err cause) ≡ false
    → read_from (Some known) place ((byte ∷ bytes) ++ more)
    ≡ no_more (Some known) (Some (fault_at place cause))
message-fails known place byte bytes more cause is done =
    by-next known place ((byte ∷ bytes) ++ more) (Err cause)
    (message-stays known byte bytes more (ap is_waiting is
    ∙ other-type (List ℕ) (Option MessageRead) cause done) ∙ is)

-- ---- the schema

abbrev pub by : List ℕ → Result SchemaRead Cause → Reading
by bytes read = elim read [
  | Err cause ↦ record { schema = None; batches = []; fault = Some (fault_at 0 cause) }
  | Ok schema ↦ messages_from (length bytes + 1) (known_by schema) schema.size
      (drop schema.size bytes)
]

schema-some : (bytes : List ℕ) (schema : SchemaRead) → first_schema bytes ≡ Ok schema → (byte : ℕ)
    × (rest : List ℕ) × (bytes ≡ byte ∷ rest)
schema-some [] schema is = absurd (true≢false (ap is_waiting is))
schema-some (byte ∷ rest) schema is = (byte, rest, refl)

schema-there : (bytes more : List ℕ) (schema : SchemaRead) → first_schema bytes ≡ Ok schema
    → first_schema (bytes ++ more) ≡ Ok schema
schema-there bytes more schema is =
    let b = schema-some bytes schema is in
    subst (λ (all : List ℕ). first_schema all ≡ Ok schema → first_schema (all ++ more)
    ≡ Ok schema) (sym b.2)
    (λ there. schema-stays b.0 b.1 more (ap is_waiting there) ∙ there) is

pub schema-goes-on : (bytes more : List ℕ) (schema : SchemaRead) → first_schema bytes ≡ Ok schema
    → read_from None 0 (bytes ++ more)
    ≡ read_from (Some (known_by schema)) schema.size (drop schema.size bytes ++ more)
schema-goes-on bytes more schema is =
    let inside : schema.size ≤ length bytes = schema-inside bytes schema is in
    let short : length (drop schema.size (bytes ++ more)) + schema.size
    ≡ length (bytes
    ++ more) = omega (
      arith,
      length-drop schema.size (bytes
          ++ more),
      length-append bytes more,
      inside,
    ) in
    ap (by (bytes ++ more)) (schema-there bytes more schema is)
    ∙ any-fuel (length (bytes
    ++ more) + 1) (length (drop schema.size (bytes
    ++ more)) + 1) (known_by schema) schema.size (drop schema.size (bytes
    ++ more)) (omega (arith, short)) (omega arith)
    ∙ ap (λ (b : List ℕ). read_from (Some (known_by schema)) schema.size b)
    (drop-append-le schema.size bytes more inside)

pub no-schema-goes-on : (byte : ℕ) (bytes more : List ℕ) (cause : Cause)
    → first_schema (byte ∷ bytes) ≡ Err cause → is_waiting {A = List ℕ} (Err cause) ≡ false
    → read_from None 0 ((byte ∷ bytes) ++ more) ≡ no_more None (Some (fault_at 0 cause))
no-schema-goes-on byte bytes more cause is done =
    ap (by ((byte ∷ bytes) ++ more)) (schema-stays byte bytes more (ap is_waiting is
    ∙ other-type (List ℕ) (Option MessageRead) cause done) ∙ is)

pub early-end-goes-on : (byte : ℕ) (bytes more : List ℕ) → first_schema (byte ∷ bytes)
    ≡ Err cause.Short → tells_end (byte ∷ bytes) ≡ true
    → read_from None 0 ((byte ∷ bytes) ++ more) ≡ no_more None (Some (fault_at 0 cause.Short))
early-end-goes-on byte bytes more is end = ap (by ((byte ∷ bytes)
    ++ more)) (end-stays byte bytes more is end)
