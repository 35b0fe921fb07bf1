-- Pieces that are written in turn.
use Rattle.std.proofs.Common.{◌≡◌, ℕ, ◌+◌, ◌<◌, ◌≤◌, Bool, true, false, List, [], ◌++◌, length, take, drop, take-append-drop, get_or, replicate, sym, ap, ◌∙◌, subst, arith, Option, Result, Ok, Err, length-append, append-nil}
use Rattle.std.specs.Prelude.{flat_map}
use Rattle.std.proofs.lemmas.List.{take-append-le, take-replicate, take_all}
use Rattle.std.proofs.lemmas.Grind.{flat_map-append}
use Rattle.std.proofs.Math.Seq.{take-append-add}
use Rattle.std.specs.Io.KnownBytes.{Appends}
use Rattle.std.proofs.KnownBytes.{Appends-nil, Appends-trans}
use Rattle.byte_ports.specs.Calls.{Rose, AppendsFront}
use Rattle.arrow_spec.specs.Batches.{Array}
use Rattle.arrow_spec.specs.Bytes.{padded}
use Rattle.arrow_spec.specs.Streams.{continuation, message}
use Rattle.std.specs.Int.{w32, to_le_bytes}
use Rattle.ipc_write.specs.Calls.{MakesPiece, WriterView, WritesRun, WroteAll, SinkFailed, WritesPiece}
use Rattle.ipc_write.specs.declared.faults.PieceFault.{PieceFault}
use Rattle.ipc_write.specs.declared.faults.PieceFault.TheVariants.{Sink, Memory}
use Rattle.ipc_write.specs.declared.faults.SinkFault.{SinkFault}
use Rattle.arrow_array.proofs.Splits.{split-at}

-- a front of a piece is one of a longer piece
front-of-longer : (before now : Option (List ℕ)) (piece more : List ℕ) → AppendsFront before now piece → AppendsFront before now (piece ++ more)
front-of-longer before now piece more (count, within, grown) =
    let length_is : length (piece ++ more) ≡ length piece + length more = length-append piece more in
    (count, omega arith, subst (λ (bytes : List ℕ). Appends before now bytes) (sym (take-append-le count piece more (omega arith))) grown)

-- all of a piece and a front of another
front-behind : (before middle now : Option (List ℕ)) (piece more : List ℕ)
    → Appends before middle piece → AppendsFront middle now more → AppendsFront before now (piece ++ more)
front-behind before middle now piece more first (count, within, grown) =
    let length_is : length (piece ++ more) ≡ length piece + length more = length-append piece more in (
      length piece + count,
      omega arith,
      subst (λ (bytes : List ℕ). Appends before now bytes) (sym (take-append-add piece more count)) (Appends-trans before middle now piece (take count more) first grown),
    )

-- the sink failed within the first piece
pub failed-before : {W : Type 0} (written : W → Option (List ℕ)) (faults : W → ℕ) (old new : WriterView W) (piece more : List ℕ) (earlier : Bool)
    → SinkFailed written faults old new piece earlier → SinkFailed written faults old new (piece ++ more) earlier
failed-before written faults old new piece more true failed = failed
failed-before written faults old new piece more false (before, after, front, rose) =
    (before, after, front-of-longer (written old.sink) (written new.sink) piece more front, rose)

-- the first piece was written, and the sink failed within the second
pub failed-behind : {W : Type 0} (written : W → Option (List ℕ)) (faults : W → ℕ) (old middle new : WriterView W) (piece more : List ℕ) (earlier : Bool)
    → WroteAll written faults old middle piece → faults old.sink ≤ faults middle.sink
    → SinkFailed written faults middle new more earlier → SinkFailed written faults old new (piece ++ more) earlier
failed-behind written faults old middle new piece more true wrote counted (before, same) =
    let not : true ≡ false = sym before ∙ wrote.after in
    absurd (cc)
failed-behind written faults old middle new piece more false wrote counted (before, after, front, rose) =
    let risen : Rose (faults old.sink) (faults new.sink) = λ below. let more_now = rose below in omega arith in
    (wrote.before, after, front-behind (written old.sink) (written middle.sink) (written new.sink) piece more wrote.bytes front, risen)

-- both pieces were written
pub wrote-both : {W : Type 0} (written : W → Option (List ℕ)) (faults : W → ℕ) (old middle new : WriterView W) (piece more : List ℕ)
    → WroteAll written faults old middle piece → WroteAll written faults middle new more → WroteAll written faults old new (piece ++ more)
wrote-both written faults old middle new piece more first second = record {
  before = first.before;
  after = second.after;
  bytes = Appends-trans (written old.sink) (written middle.sink) (written new.sink) piece more first.bytes second.bytes;
  kept = second.kept ∙ first.kept;
}

-- the first piece was written, and then the answer is that for the second
pub wrote-then : {W T : Type 0} (written : W → Option (List ℕ)) (faults : W → ℕ) (old middle new : WriterView W) (piece more : List ℕ)
    (result : Result T SinkFault)
    → WroteAll written faults old middle piece → faults old.sink ≤ faults middle.sink
    → WritesPiece written faults middle new more result → WritesPiece written faults old new (piece ++ more) result
wrote-then written faults old middle new piece more (Ok done) wrote counted answer = wrote-both written faults old middle new piece more wrote answer
wrote-then written faults old middle new piece more (Err fault) wrote counted answer =
    failed-behind written faults old middle new piece more fault.earlier wrote counted answer

-- The pieces of a list that stand before an element, its own, and those behind it.
pub pieces-around : {X : Type 0} (f : X → List ℕ) (xs : List X) (item : X) (i : ℕ) → i < length xs → item ≡ get_or xs i item
    → flat_map f xs ≡ flat_map f (take i xs) ++ (f item ++ flat_map f (drop (i + 1) xs))
pieces-around {X = X} f xs item i inside is =
    ap (flat_map f) (sym (take-append-drop i xs))
    ∙ flat_map-append f (take i xs) (drop i xs)
    ∙ ap (λ (rest : List X). flat_map f (take i xs) ++ flat_map f rest) (split-at xs item i inside is)

-- the same of the buffers of columns
pub buffers-around : (arrays : List Array) (item : Array) (i : ℕ) → i < length arrays → item ≡ get_or arrays i item
    → flat_map padded (flat_map (λ array. array.buffers) arrays)
    ≡ flat_map padded (flat_map (λ array. array.buffers) (take i arrays))
    ++ (flat_map padded item.buffers ++ flat_map padded (flat_map (λ array. array.buffers) (drop (i + 1) arrays)))
buffers-around arrays item i inside is =
    let before : List (List ℕ) = flat_map (λ array. array.buffers) (take i arrays) in
    let behind : List (List ℕ) = flat_map (λ array. array.buffers) (drop (i + 1) arrays) in
    ap (λ (all : List Array). flat_map padded (flat_map (λ array. array.buffers) all)) (sym (take-append-drop i arrays))
    ∙ ap (flat_map padded) (flat_map-append (λ (array : Array). array.buffers) (take i arrays) (drop i arrays))
    ∙ ap (λ (all : List Array). flat_map padded (before ++ flat_map (λ array. array.buffers) all)) (split-at arrays item i inside is)
    ∙ flat_map-append padded before (item.buffers ++ behind)
    ∙ ap (λ (bytes : List ℕ). flat_map padded before ++ bytes) (flat_map-append padded item.buffers behind)

-- of eight zeros
pub zeros-taken : (count : ℕ) → count < 8 → take {A = ℕ} count (replicate 8 0) ≡ replicate count 0
zeros-taken count few = take-replicate count 8 0 (omega arith)

-- the sink failed within a piece that stands between others, of which those before it were written
pub failed-within : {W : Type 0} (written : W → Option (List ℕ)) (faults : W → ℕ) (old middle new : WriterView W)
    (first piece rest whole : List ℕ) (earlier : Bool)
    → WroteAll written faults old middle first → faults old.sink ≤ faults middle.sink → SinkFailed written faults middle new piece earlier
    → whole ≡ first ++ (piece ++ rest) → SinkFailed written faults old new whole earlier
failed-within written faults old middle new first piece rest whole earlier wrote counted failed is =
    subst
    (λ (bytes : List ℕ). SinkFailed written faults old new bytes earlier)
    (sym is)
    (failed-behind written faults old middle new first (piece ++ rest) earlier wrote counted
    (failed-before written faults middle new piece rest earlier failed))

-- metadata with its frame are the message without a body
pub framed-is : (given metadata : List ℕ) → given ≡ metadata
    → continuation ++ to_le_bytes w32 (length (padded given)) ++ padded given ≡ message metadata []
framed-is given metadata is =
    ap (λ (m : List ℕ). continuation ++ to_le_bytes w32 (length (padded m)) ++ padded m) is
    ∙ sym (append-nil (continuation ++ to_le_bytes w32 (length (padded metadata)) ++ padded metadata))

-- ---- pieces that are made one after another

-- all of the first pieces are a front of longer ones
front-whole : (before now : Option (List ℕ)) (first rest : List ℕ) → 0 < length rest → Appends before now first
    → AppendsFront before now (first ++ rest)
front-whole before now first rest some grown =
    let length_is : length (first ++ rest) ≡ length first + length rest = length-append first rest in
    let is : take (length first) (first ++ rest) ≡ first =
    take-append-le (length first) first rest (omega arith) ∙ take_all (length first) first (omega arith) in
    (length first, omega arith, subst (λ (bytes : List ℕ). Appends before now bytes) (sym is) grown)

-- a piece that stands between others was not written whole, of which those before it were
pub run-broken : {W : Type 0} (written : W → Option (List ℕ)) (faults : W → ℕ) (old middle new : WriterView W)
    (first piece rest whole : List ℕ) (fault : PieceFault)
    → WroteAll written faults old middle first → faults old.sink ≤ faults middle.sink
    → MakesPiece {T = Unit {0}} written faults middle new piece (Err fault)
    → 0 < length rest → whole ≡ first ++ (piece ++ rest)
    → WritesRun {T = Unit {0}} written faults old new whole (Err fault)
run-broken written faults old middle new first piece rest whole (Sink fault) wrote counted failed some is =
    failed-within written faults old middle new first piece rest whole fault.earlier wrote counted failed is
run-broken {W = W} written faults old middle new first piece rest whole (Memory refused) wrote counted (before, same) some is =
    let length_is : length (piece ++ rest) ≡ length piece + length rest = length-append piece rest in
    let grown : Appends (written old.sink) (written new.sink) first =
    subst (λ (w : WriterView W). Appends (written old.sink) (written w.sink) first) (sym same) wrote.bytes in
    record {
      before = wrote.before;
      after = ap (λ (w : WriterView W). w.failed) same ∙ wrote.after;
      bytes =
          subst (λ (bytes : List ℕ). (AppendsFront (written old.sink) (written new.sink) bytes)) (sym is)
          (front-whole (written old.sink) (written new.sink) first (piece ++ rest) (omega arith) grown);
      kept = ap (λ (w : WriterView W). faults w.sink) same ∙ wrote.kept;
    }

-- the first piece was not written whole
pub run-not-begun : {W : Type 0} (written : W → Option (List ℕ)) (faults : W → ℕ) (old new : WriterView W)
    (piece rest : List ℕ) (fault : PieceFault)
    → MakesPiece {T = Unit {0}} written faults old new piece (Err fault) → 0 < length rest
    → WritesRun {T = Unit {0}} written faults old new (piece ++ rest) (Err fault)
run-not-begun written faults old new piece rest (Sink fault) failed some =
    failed-before written faults old new piece rest fault.earlier failed
run-not-begun {W = W} written faults old new piece rest (Memory refused) (before, same) some =
    let length_is : length (piece ++ rest) ≡ length piece + length rest = length-append piece rest in
    let grown : Appends (written old.sink) (written new.sink) [] =
    subst (λ (w : WriterView W). Appends (written old.sink) (written w.sink) []) (sym same) (Appends-nil (written old.sink)) in
    record {
      before = before;
      after = ap (λ (w : WriterView W). w.failed) same ∙ before;
      bytes = (0, omega arith, grown);
      kept = ap (λ (w : WriterView W). faults w.sink) same;
    }

-- the first piece was written, and then the answer is that for the others
pub run-then : {W T : Type 0} (written : W → Option (List ℕ)) (faults : W → ℕ) (old middle new : WriterView W)
    (piece more : List ℕ) (result : Result T PieceFault)
    → WroteAll written faults old middle piece → faults old.sink ≤ faults middle.sink
    → WritesRun written faults middle new more result → WritesRun written faults old new (piece ++ more) result
run-then written faults old middle new piece more (Ok done) wrote counted answer = wrote-both written faults old middle new piece more wrote answer
run-then written faults old middle new piece more (Err (Sink fault)) wrote counted answer =
    failed-behind written faults old middle new piece more fault.earlier wrote counted answer
run-then written faults old middle new piece more (Err (Memory refused)) wrote counted answer = record {
  before = wrote.before;
  after = answer.after;
  bytes = front-behind (written old.sink) (written middle.sink) (written new.sink) piece more wrote.bytes answer.bytes;
  kept = answer.kept ∙ wrote.kept;
}
