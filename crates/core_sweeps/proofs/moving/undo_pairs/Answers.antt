use Rattle.std.proofs.Common.{rules}
use Rattle.core_sweeps.proofs.Whole.{undo_all, undo_apart, undo_in, undo_less, undo_out, undo_room, undo_shard, undo_source, undo_target}
use Rattle.core_sweeps.proofs.moving.undo_pairs.Goals as goal

pub undo_pair-requires-clause-source : goal.undo_pair-requires-clause-source
undo_pair-requires-clause-source c = undo_source c.args.shape.now c.args.table c.args.held.now c.loop-left.held c.args.pairs.now c.args.done c.loop-left.left c.requires.moved c.loop-left.invariant c.loop-left-test.true c.requires.done c.index-pairs-left.result c.index-pairs-left.is

pub undo_pair-requires-clause-target : goal.undo_pair-requires-clause-target
undo_pair-requires-clause-target c = undo_target c.args.shape.now c.args.table c.args.held.now c.loop-left.held c.args.pairs.now c.args.done c.loop-left.left c.requires.moved c.loop-left.invariant c.loop-left-test.true c.requires.done c.index-pairs-left.result c.index-pairs-left.is

pub undo_pair-requires-clause-shard : goal.undo_pair-requires-clause-shard
undo_pair-requires-clause-shard c = undo_shard c.args.shape.now c.args.table c.args.held.now c.loop-left.held c.args.pairs.now c.args.done c.loop-left.left c.requires.moved c.loop-left.invariant c.loop-left-test.true c.requires.done c.index-pairs-left.result c.index-pairs-left.is

pub undo_pair-requires-clause-room : goal.undo_pair-requires-clause-room
undo_pair-requires-clause-room c = undo_room c.args.shape.now c.args.table c.args.held.now c.loop-left.held c.args.pairs.now c.args.done c.loop-left.left c.requires.moved c.loop-left.invariant c.loop-left-test.true c.requires.done c.index-pairs-left.result c.index-pairs-left.is

pub undo_pair-requires-clause-out : goal.undo_pair-requires-clause-out
undo_pair-requires-clause-out c = undo_out c.args.shape.now c.args.table c.args.held.now c.loop-left.held c.args.pairs.now c.args.done c.loop-left.left c.requires.moved c.loop-left.invariant c.loop-left-test.true c.requires.done c.index-pairs-left.result c.index-pairs-left.is

pub undo_pair-requires-clause-in_ : goal.undo_pair-requires-clause-in_
undo_pair-requires-clause-in_ c = undo_in c.args.shape.now c.args.table c.args.held.now c.loop-left.held c.args.pairs.now c.args.done c.loop-left.left c.requires.moved c.loop-left.invariant c.loop-left-test.true c.requires.done c.index-pairs-left.result c.index-pairs-left.is

pub undo_pair-requires-clause-apart : goal.undo_pair-requires-clause-apart
undo_pair-requires-clause-apart c = undo_apart c.args.shape.now c.args.table c.args.held.now c.loop-left.held c.args.pairs.now c.args.done c.loop-left.left c.requires.moved c.loop-left.invariant c.loop-left-test.true c.requires.done c.index-pairs-left.result c.index-pairs-left.is

pub loop-left-preserved : goal.loop-left-preserved
loop-left-preserved c = undo_less c.args.shape.now c.args.table c.args.held.now c.loop-left.held c.args.pairs.now c.args.done c.loop-left.left c.requires.moved c.loop-left.invariant c.loop-left-test.true c.requires.done c.index-pairs-left.result c.index-pairs-left.is c.undo_pair.new.held c.undo_pair.ensures

pub returns : goal.returns
returns c = undo_all c.args.shape.now c.args.table c.args.held.now c.loop-left.held c.args.pairs.now c.args.done c.loop-left.left c.loop-left.invariant (search rules)
