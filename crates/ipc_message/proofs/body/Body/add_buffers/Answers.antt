use Rattle.std.proofs.Common.{◌≡◌, ◌++◌, ◌∷◌, [], ◌∙◌, ◌+◌, ℕ, pos, List, length, drop, sym, ap, append-nil}
use Rattle.std.specs.Prelude.{flat_map}
use Rattle.arrow_spec.specs.Batches.{buffer_places}
use Rattle.arrow_spec.specs.Bytes.{padded}
use Rattle.arrow_array.proofs.Splits.{split-at}
use Rattle.ipc_message.proofs.BodyLemmas.{places-added, size-added}
use Rattle.ipc_message.proofs.body.Body.add_buffers.Goals as goal

pub loop-buffer-preserved : goal.loop-buffer-preserved
loop-buffer-preserved c =
    let item : List ℕ = c.buffer-item.result in
    let rest : List (List ℕ) = drop (c.loop-buffer.buffer-index + 1) c.args.buffers.now in
    let split = split-at c.args.buffers.now item c.loop-buffer.buffer-index c.loop-buffer-test.true c.buffer-item.is in
    let old = c.loop-buffer.self in
    let new = c.add_buffer.new.self in
    let placed : new.places.items ≡ old.places.items ++ (pos old.size, pos (length item)) ∷ [] =
    c.in_ok-add_buffer.ensures.places
    ∙ ap (λ (buffer : List ℕ). old.places.items ++ (pos old.size, pos (length buffer)) ∷ []) c.as_slice.ensures in
    let added : new.size ≡ old.size + length (flat_map padded (item ∷ [])) =
    c.in_ok-add_buffer.ensures.size
    ∙ ap (λ (buffer : List ℕ). old.size + length (padded buffer)) c.as_slice.ensures
    ∙ ap (λ (bytes : List ℕ). old.size + length bytes) (sym (append-nil (padded item))) in
    record {
      places = places-added old.places.items new.places.items old.size new.size (item ∷ []) rest placed added
          ∙ ap (λ (all : List (List ℕ)). old.places.items ++ buffer_places old.size all) (sym split)
          ∙ c.loop-buffer.invariant.places;
      size = size-added old.size new.size (item ∷ []) rest added
          ∙ ap (λ (all : List (List ℕ)). old.size + length (flat_map padded all)) (sym split)
          ∙ c.loop-buffer.invariant.size;
      below = c.add_buffer.ensures.below;
    }
