use Rattle.std.proofs.Common.{Some, ap, ◌∙◌, arith}
use Rattle.core_parts.proofs.Placing.{laid_is, named_once, number_less}
use Rattle.core_parts.specs.Hands.{laid_at}
use Rattle.event_spec.specs.declared.part.Part.TheVariants as part
use Rattle.event_spec.specs.Parts.{ShardOf, names}
use Rattle.core_parts.proofs.access.lay_shard.Goals as goal

pub replace-requires : goal.replace-requires
replace-requires c = let less = number_less c.args.shape.now (ShardOf c.args.table c.args.shard) c.shard.result c.shard.ensures in let room = c.requires.room in omega (arith, less, room)

pub returns : goal.returns
returns c = c.replace.ensures.others ∙ laid_is (names c.args.shape.now) c.args.held.now (ShardOf c.args.table c.args.shard) c.shard.result (Some (part.Shard c.of.result)) (named_once c.args.shape.now) c.shard.ensures ∙ ap (λ x. laid_at (names c.args.shape.now) (ShardOf c.args.table c.args.shard) (Some (part.Shard x)) c.args.held.now) c.of.ensures
