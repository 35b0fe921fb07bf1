use Rattle.std.proofs.Common.{◌≡◌, ◌++◌, ◌∙◌, ◌+◌, ℕ, List, length, drop, sym, ap}
use Rattle.std.specs.Prelude.{flat_map}
use Rattle.arrow_spec.specs.Batches.{Array, buffer_places}
use Rattle.arrow_spec.specs.Bytes.{padded}
use Rattle.arrow_array.proofs.Splits.{split-at}
use Rattle.ipc_message.proofs.BodyLemmas.{places-added, size-added}
use Rattle.ipc_message.proofs.body.Body.of_arrays.Goals as goal

pub loop-array-preserved : goal.loop-array-preserved
loop-array-preserved c =
    let item : Array = c.array-item.result in
    let arrays : List Array = c.args.arrays.now in
    let rest : List (List ℕ) = flat_map (λ array. array.buffers) (drop (c.loop-array.array-index + 1) arrays) in
    let split = split-at arrays item c.loop-array.array-index c.loop-array-test.true c.array-item.is in
    let old = c.loop-array.body in
    let new = c.add_buffers.new.self in
    let lent = c.buffers.ensures in
    let placed : new.places.items ≡ old.places.items ++ buffer_places old.size item.buffers =
    c.in_ok-add_buffers.ensures.places
    ∙ ap (λ (buffers : List (List ℕ)). old.places.items ++ buffer_places old.size buffers) lent in
    let added : new.size ≡ old.size + length (flat_map padded item.buffers) =
    c.in_ok-add_buffers.ensures.size ∙ ap (λ (buffers : List (List ℕ)). old.size + length (flat_map padded buffers)) lent in
    record {
      places = places-added old.places.items new.places.items old.size new.size item.buffers rest placed added
          ∙ ap
          (λ (all : List Array). old.places.items ++ buffer_places old.size (flat_map (λ array. array.buffers) all))
          (sym split)
          ∙ c.loop-array.invariant.places;
      size = size-added old.size new.size item.buffers rest added
          ∙ ap (λ (all : List Array). old.size + length (flat_map padded (flat_map (λ array. array.buffers) all))) (sym split)
          ∙ c.loop-array.invariant.size;
      below = c.add_buffers.ensures.below;
    }
