use Rattle.std.proofs.Common.{◌≡◌, [], ◌∷◌, ap, sym, ◌∙◌}
use Rattle.core_parts.specs.Hands.{in_hand}
use Rattle.core_parts.specs.Least.{offered_all, offered_name}
use Rattle.core_parts.specs.Touched.{shards_in, touched_names}
use Rattle.core_parts.proofs.Numbered.{offered_twice}
use Rattle.event_spec.specs.Parts.{HeadOf, BodyOf}
use Rattle.core_parts.proofs.touching.offer_touched.Goals as goal

pub returns-in-Prune-clause-offered : goal.returns-in-Prune-clause-offered
returns-in-Prune-clause-offered c =
    let sh = c.args.shape.now in
    let t = c.in-Prune.table in
    let b = c.in-Prune.block in
    let two : c.offer_body.new.least ≡ offered_all sh (HeadOf t ∷ BodyOf t b ∷ []) c.args.least.now =
    c.offer_body.ensures ∙ ap (λ l. offered_name sh l (BodyOf t b)) c.offer_head-in-Prune.ensures in
    offered_twice sh (HeadOf t ∷ BodyOf t b ∷ []) (shards_in t) c.args.least.now c.offer_body.new.least c.offer_shards.new.least two c.offer_shards.ensures
    ∙ ap (λ e. offered_all sh (touched_names sh (in_hand sh c.args.held.now) e) c.args.least.now) (sym c.in-Prune.is ∙ c.event.ensures.event)
