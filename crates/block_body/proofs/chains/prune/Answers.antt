use Rattle.std.proofs.Common.{◌≡◌, ◌∙◌, ◌+◌, ◌≤◌, ◌<◌, not, List, arith, refl, sym, ap}
use Rattle.std.specs.Prelude.{filter, count_by, is_some}
use Rattle.undo_chain.specs.Entry.{is_stamped_by}
use Rattle.undo_chain.specs.declared.undo.Undo.{Undo}
use Rattle.block_spec.specs.declared.change.Before.{Before}
use Rattle.block_body.specs.Chains.{entries_at, entries_of, stamped_below}
use Rattle.block_body.proofs.Pruned.{stamped_skip, swept_more, swept_count}
use Rattle.block_body.proofs.chains.prune.Goals as goal

pub loop-slot-preserved : goal.loop-slot-preserved
loop-slot-preserved c =
    let S : List (Undo Before) → List (Undo Before) = filter (λ undo. not (is_stamped_by undo c.args.oldest)) in
    let up : c.loop-slot.from ≤ c.in-Some.slot = c.in-Some.ensures.above in
    let slot : c.in-Some.slot < c.args.slots =
    c.requires.within c.in-Some.slot (ap is_some (sym (c.loop-slot.invariant.above c.in-Some.slot c.in-Some.ensures.above)) ∙ c.in-Some.ensures.some) in
    let more : stamped_below (entries_at c.args.chains.now.entries) c.args.oldest (c.in-Some.slot + 1)
    ≡ stamped_below (entries_at c.args.chains.now.entries) c.args.oldest c.loop-slot.from
    + count_by (λ undo. is_stamped_by undo c.args.oldest) (entries_at c.loop-slot.chains.entries c.in-Some.slot) =
    swept_count S refl c.args.chains.now.entries c.loop-slot.chains.entries c.prune_slot-dropped.new.chains.entries c.loop-slot.from c.in-Some.slot
    c.loop-slot.invariant.below c.loop-slot.invariant.above c.in-Some.ensures.above c.in-Some.ensures.least
    c.prune_slot-dropped.ensures.here c.prune_slot-dropped.ensures.others c.args.oldest in
    record {
      chains = c.prune_slot-dropped.ensures.chains;
      below = swept_more S refl c.args.chains.now.entries c.loop-slot.chains.entries c.prune_slot-dropped.new.chains.entries c.loop-slot.from c.in-Some.slot
          c.loop-slot.invariant.below c.loop-slot.invariant.above c.in-Some.ensures.above c.in-Some.ensures.least
          c.prune_slot-dropped.ensures.here c.prune_slot-dropped.ensures.others;
      above = λ k le. c.prune_slot-dropped.ensures.others k (λ is. absurd (omega arith)) ∙ c.loop-slot.invariant.above k (omega arith);
      count = omega arith;
      few = omega arith;
      within = omega arith;
    }

pub returns-clause-count : goal.returns-clause-count
returns-clause-count c =
    c.loop-slot.invariant.count
    ∙ sym (stamped_skip (entries_at c.args.chains.now.entries) c.args.oldest c.loop-slot.from c.args.slots c.loop-slot.invariant.within
    (λ k a b. ap entries_of (sym (c.loop-slot.invariant.above k a) ∙ c.in_default.ensures.none k a)))
