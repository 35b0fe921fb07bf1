use Rattle.std.proofs.Common.{◌≡◌, ◌+◌, ◌∙◌, ◌++◌, ◌∷◌, [], ap, sym, subst, length, take, List, ℕ}
use Rattle.std.proofs.Common.{arith, append-nil, Vec, Global}
use Rattle.std.specs.Prelude.{flat_map, slice_index_or}
use Rattle.std.proofs.lemmas.List.{take_all, take_more}
use Rattle.std.proofs.lemmas.List.Folds.{length-flat_map-take}
use Rattle.std.proofs.lemmas.Grind.{flat_map-append}
use Rattle.cell_model.specs.declared.cell.Cell.{Cell}
use Rattle.stream_pieces.specs.Pieces.{ReadSoFar, rows_of, schema_of}
use Rattle.stream_pieces.proofs.SoFar.{a-piece-so-far, all-so-far}
use Rattle.stream_spec.specs.Streams.{reading_of}
use Rattle.ipc_read.proofs.pieces.read_pieces.Goals as goal

abbrev bytes_of : Vec ℕ Global → List ℕ
bytes_of piece = piece.items

pub feed-requires : goal.feed-requires
feed-requires c =
    let pieces = c.args.pieces.now in
    let i = c.loop-piece.piece-index in
    let item = c.piece-item.result in
    let long : length c.as_slice.result.now ≡ length item.items =
    ap length c.as_slice.ensures.value in
    let here : length item.items ≡ length (slice_index_or pieces i item).items =
    ap (λ (p : Vec ℕ Global). length p.items) c.piece-item.is in
    omega (
      arith,
      c.loop-piece.invariant.counted,
      c.requires,
      long,
      here,
      length-flat_map-take bytes_of pieces i item c.loop-piece-test.true,
    )

pub loop-piece-preserved : goal.loop-piece-preserved
loop-piece-preserved c =
    let pieces = c.args.pieces.now in
    let i = c.loop-piece.piece-index in
    let item = c.piece-item.result in
    let front : List ℕ = flat_map bytes_of (take i pieces) in
    let next : front ++ c.as_slice.result.now ≡ flat_map bytes_of (take (i + 1) pieces) =
    ap (λ (b : List ℕ). front ++ b) (c.as_slice.ensures.value ∙ sym (append-nil item.items))
    ∙ sym (flat_map-append bytes_of (take i pieces) (item ∷ []))
    ∙ ap (λ (p : Vec ℕ Global). flat_map bytes_of (take i pieces ++ p ∷ [])) c.piece-item.is
    ∙ ap (flat_map bytes_of) (sym (take_more pieces i item c.loop-piece-test.true)) in
    let OfBytes : List ℕ → Type 0 =
    λ bytes. ReadSoFar bytes c.feed.new.self c.add.new.rows.items in
    let OfRows : List (List Cell) → Type 0 =
    λ rows. ReadSoFar (front ++ c.as_slice.result.now) c.feed.new.self rows in
    subst OfBytes next
    (subst OfRows (sym c.in_ok-add.ensures)
    (a-piece-so-far front c.as_slice.result.now c.loop-piece.reader c.feed.new.self
    c.loop-piece.rows.items c.in_ok-fed.fed.rows c.in_ok-fed.fed.fault c.loop-piece.invariant
    c.in_ok-fed.ensures.ok))

pub returns : goal.returns
returns c =
    let pieces = c.args.pieces.now in
    let i = c.loop-piece.piece-index in
    let whole : flat_map bytes_of (take i pieces) ≡ flat_map bytes_of pieces =
    ap (flat_map bytes_of) (take_all i pieces c.loop-piece-test.false) in
    let last = c.last_fault-fault in
    let reader = c.loop-piece.reader in
    let read = all-so-far (flat_map bytes_of (take i pieces)) reader c.loop-piece.rows.items
    last.result c.loop-piece.invariant last.ensures.told in
    record {
      schema_is = ap (λ standing. schema_of standing.known) last.ensures.same ∙ read.schema_is
          ∙ ap (λ (bytes : List ℕ). (reading_of bytes).schema) whole;
      rows_are = c.from.ensures ∙ read.rows_are
          ∙ ap (λ (bytes : List ℕ). rows_of (reading_of bytes).batches) whole;
      fault_is = read.fault_is ∙ ap (λ (bytes : List ℕ). (reading_of bytes).fault) whole;
    }
