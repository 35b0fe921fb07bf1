use Rattle.std.proofs.Common.{map, refl, arith}
use Rattle.undo_chain.specs.Stamped.{stamped}
use Rattle.block_body.specs.Chains.{entries_at}
use Rattle.block_body.proofs.Listed.{listed_more}
use Rattle.block_body.proofs.Stamps.{stamped_twice, none_above-either}
use Rattle.block_body.proofs.chains.stamp.Goals as goal

pub stamp_slot-requires-clause-newest : goal.stamp_slot-requires-clause-newest
stamp_slot-requires-clause-newest c =
    none_above-either c.args.session c.args.stamp c.args.number _ _ _ (c.requires.newest _) (c.loop-slot.invariant.entries _)

pub loop-slot-preserved : goal.loop-slot-preserved
loop-slot-preserved c = record {
  chains = c.stamp_slot.ensures.chains;
  entries = listed_more
      (map (stamped c.args.session c.args.stamp c.args.number))
      (stamped_twice c.args.session c.args.stamp c.args.number)
      (entries_at c.args.chains.now.entries)
      (entries_at c.loop-slot.chains.entries)
      (entries_at c.stamp_slot.new.chains.entries)
      c.args.slots.now
      c.loop-slot.slot-index
      _
      (omega arith)
      refl
      c.loop-slot.invariant.entries
      c.stamp_slot.ensures.here
      c.stamp_slot.ensures.others;
}
