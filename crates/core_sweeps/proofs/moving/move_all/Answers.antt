use Rattle.std.proofs.Common.{rules}
use Rattle.core_sweeps.proofs.Moves.{has_the_desk}
use Rattle.core_sweeps.proofs.Whole.{all_there, pair_fails, pair_goes, pair_holds, pair_new, pair_ready, pair_shard}
use Rattle.core_sweeps.proofs.moving.move_all.Goals as goal

pub desk-requires : goal.desk-requires
desk-requires c = has_the_desk c.args.shape.now c.args.table c.requires.0 c.args.held.now c.requires.1.may

pub move_pair-requires-clause-ready : goal.move_pair-requires-clause-ready
move_pair-requires-clause-ready c = pair_ready c.args.shape.now c.args.table c.args.held.now c.loop-done.held c.args.pairs.now c.loop-done.done c.requires c.loop-done.invariant c.loop-done-test.true c.index-pairs-done.result c.index-pairs-done.is

pub move_pair-requires-clause-shard : goal.move_pair-requires-clause-shard
move_pair-requires-clause-shard c = pair_shard c.args.shape.now c.args.table c.args.held.now c.loop-done.held c.args.pairs.now c.loop-done.done c.requires c.loop-done.invariant c.loop-done-test.true c.index-pairs-done.result c.index-pairs-done.is

pub move_pair-requires-clause-holds : goal.move_pair-requires-clause-holds
move_pair-requires-clause-holds c = pair_holds c.args.shape.now c.args.table c.args.held.now c.loop-done.held c.args.pairs.now c.loop-done.done c.requires c.loop-done.invariant c.loop-done-test.true c.index-pairs-done.result c.index-pairs-done.is

pub move_pair-requires-clause-new : goal.move_pair-requires-clause-new
move_pair-requires-clause-new c = pair_new c.args.shape.now c.args.table c.args.held.now c.loop-done.held c.args.pairs.now c.loop-done.done c.requires c.loop-done.invariant c.loop-done-test.true c.index-pairs-done.result c.index-pairs-done.is

pub undo_pairs-requires-clause-moved : goal.undo_pairs-requires-clause-moved
undo_pairs-requires-clause-moved c = (c.requires.0, c.args.held.now, pair_fails c.args.shape.now c.args.table c.args.held.now c.loop-done.held c.args.pairs.now c.loop-done.done c.requires c.loop-done.invariant c.loop-done-test.true c.index-pairs-done.result c.index-pairs-done.is c.move_pair.new.held c.in-Err.ensures.err)

pub returns-in-Err-clause-err : goal.returns-in-Err-clause-err
returns-in-Err-clause-err c =
    c.undo_pairs.ensures c.requires.0 c.args.held.now (pair_fails c.args.shape.now c.args.table c.args.held.now c.loop-done.held c.args.pairs.now c.loop-done.done c.requires c.loop-done.invariant c.loop-done-test.true c.index-pairs-done.result c.index-pairs-done.is c.move_pair.new.held c.in-Err.ensures.err)

pub loop-done-preserved : goal.loop-done-preserved
loop-done-preserved c =
    pair_goes c.args.shape.now c.args.table c.args.held.now c.loop-done.held c.args.pairs.now c.loop-done.done c.requires c.loop-done.invariant c.loop-done-test.true c.index-pairs-done.result c.index-pairs-done.is c.move_pair.new.held c.desk.result.now c.next-stamp.result c.desk.ensures c.next-stamp.ensures c.in_default.ensures.ok

pub returns-clause-ok : goal.returns-clause-ok
returns-clause-ok c = all_there c.args.shape.now c.args.table c.args.held.now c.loop-done.held c.args.pairs.now c.loop-done.done c.loop-done.invariant (search rules)
