use Rattle.std.proofs.Common.{◌≡◌, ◌∙◌, ◌++◌, Vec, Global, ℕ, ℤ, pos, List, length, map, ap, arith}
use Rattle.std.specs.Prelude.{flat_map}
use Rattle.std.proofs.lemmas.List.{length-map}
use Rattle.arrow_spec.specs.Batches.{Array, batch_of_arrays, buffer_places}
use Rattle.arrow_spec.specs.Streams.{continuation, message_of}
use Rattle.std.specs.Int.{w32, to_le_bytes}
use Rattle.std.proofs.lemmas.Result.{IfOk-weaker}
use Rattle.arrow_spec.specs.Bytes.{padded}
use Rattle.ipc_message.proofs.BodyLemmas.{length-places, message-is}
use Rattle.ipc_message.proofs.head.batch_head.Goals as goal

pub metadata-requires-clause-few : goal.metadata-requires-clause-few
metadata-requires-clause-few c =
    let arrays : List Array = c.args.arrays.now in
    let nodes : length c.as_slice.result.now ≡ length arrays =
    ap length (c.as_slice.ensures.value ∙ c.in_ok-nodes.ensures) ∙ length-map arrays (λ (array : Array). (pos c.args.rows, pos array.nulls)) in
    let places : length c.args.body.now.places.items ≡ length (flat_map (λ array. array.buffers) arrays) =
    ap length c.requires.places ∙ length-places 0 (flat_map (λ array. array.buffers) arrays) in
    omega (arith, nodes, places, c.requires.few)

pub returns : goal.returns
returns c =
    let arrays : List Array = c.args.arrays.now in
    let buffers : List (List ℕ) = flat_map (λ array. array.buffers) arrays in
    let nodes : List (ℤ × ℤ) = map (λ (array : Array). (pos c.args.rows, pos array.nulls)) arrays in
    IfOk-weaker c.framed.result
    (λ (head : Vec ℕ Global). head.items ≡ continuation ++ to_le_bytes w32 (length (padded c.as_slice-2.result.now)) ++ padded c.as_slice-2.result.now)
    (λ (head : Vec ℕ Global). head.items ++ flat_map padded buffers ≡ message_of c.args.id (batch_of_arrays c.args.rows arrays))
    (λ head is.
    message-is c.args.id c.args.rows c.args.body.now.size nodes c.as_slice.result.now (buffer_places 0 buffers) c.args.body.now.places.items
    (flat_map padded buffers) c.in_ok-metadata.metadata c.as_slice-2.result.now head.items
    (c.as_slice.ensures.value ∙ c.in_ok-nodes.ensures) c.requires.places c.requires.size
    c.in_ok-metadata.ensures.bytes c.as_slice-2.ensures is)
    c.framed.ensures
