use Rattle.std.proofs.Common.{Some, None, ap, ◌∙◌, sym}
use Rattle.core_parts.proofs.Placing.{found_there, laid_is, lies, named_once, two_same}
use Rattle.core_parts.proofs.Telling.{a_shard, shard_there}
use Rattle.event_spec.specs.declared.part.Part.TheVariants as part
use Rattle.event_spec.specs.Parts.{ShardOf, names}
use Rattle.core_parts.proofs.access.take_shard.Goals as goal

pub shard-requires-clause-table : goal.shard-requires-clause-table
shard-requires-clause-table c = let sh = c.args.shape.now in let hand = c.args.held.now in (shard_there sh hand c.args.table c.args.shard c.requires).0

pub shard-requires-clause-shard : goal.shard-requires-clause-shard
shard-requires-clause-shard c = let sh = c.args.shape.now in let hand = c.args.held.now in (shard_there sh hand c.args.table c.args.shard c.requires).1

pub take-requires : goal.take-requires
take-requires c = let sh = c.args.shape.now in let hand = c.args.held.now in let x = a_shard sh hand c.args.table c.args.shard c.requires in (part.Shard x.0, lies sh hand (ShardOf c.args.table c.args.shard) c.shard.result (part.Shard x.0) c.shard.ensures x.1)

pub unreachable-requires : goal.unreachable-requires
unreachable-requires c = let sh = c.args.shape.now in let hand = c.args.held.now in let x = a_shard sh hand c.args.table c.args.shard c.requires in c.in_default.not-Shard x.0 (two_same _ c.take.result (part.Shard x.0) c.take.ensures.part (lies sh hand (ShardOf c.args.table c.args.shard) c.shard.result (part.Shard x.0) c.shard.ensures x.1))

pub returns-clause-part : goal.returns-clause-part
returns-clause-part c = let sh = c.args.shape.now in let hand = c.args.held.now in found_there sh hand (ShardOf c.args.table c.args.shard) c.shard.result c.take.result c.shard.ensures c.take.ensures.part ∙ ap Some (c.in-Shard.is ∙ ap part.Shard (sym c.into_box.ensures))

pub returns-clause-taken : goal.returns-clause-taken
returns-clause-taken c = let sh = c.args.shape.now in let hand = c.args.held.now in c.take.ensures.taken ∙ laid_is (names sh) hand (ShardOf c.args.table c.args.shard) c.shard.result None (named_once sh) c.shard.ensures
