use Rattle.std.proofs.Common.{ℤ, subst}
use Rattle.std.specs.Int.{w64}
use Rattle.std.proofs.lemmas.Int.{to_z-of_z}
use Rattle.core_parts.specs.Hands.{in_hand}
use Rattle.event_spec.specs.Touched.{held_places}
use Rattle.key_index.specs.Candidates.{IsInOrder}
use Rattle.shared_store.proofs.Marking.{order_marked}
use Rattle.shared_store.proofs.taking.mark_candidates.Goals as goal

pub returns : goal.returns
returns c =
    let sh = c.args.shape.now in
    let order = subst (λ (k : ℤ). IsInOrder (held_places sh (in_hand sh c.args.held.now) c.args.table k) c.candidates.result.now) (to_z-of_z w64 c.args.key c.ranges.key) c.candidates.ensures in
    order_marked sh c.args.table (held_places sh (in_hand sh c.args.held.now) c.args.table c.args.key) c.candidates.result.now c.args.marks.now c.mark_places.new.marks order c.mark_places.ensures
