use Rattle.std.proofs.Common.{◌+◌, ◌*◌, ◌++◌, ◌∷◌, [], ℕ, sym, ap, ◌∙◌}
use Rattle.stream_spec.specs.Metadata.{buffer_at}
use Rattle.arrow_meta.proofs.ReadLemmas.{map_next}
use Rattle.arrow_meta.proofs.batches.buffers_of.Goals as goal

pub loop-i-preserved : goal.loop-i-preserved
loop-i-preserved c =
    let bytes = c.args.bytes.now in
    let place : ℕ → ℕ = λ (j : ℕ). c.args.buffers.first + 16 * j in
    c.in_ok-push.ensures.items
    ∙ (ap (λ item. c.loop-i.list.items ++ item ∷ []) c.buffer_at.ensures
    ∙ (ap (λ l. l ++ buffer_at bytes (place c.loop-i.i) ∷ []) c.loop-i.invariant ∙ sym (map_next (buffer_at bytes) place c.loop-i.i)))
