use Rattle.std.proofs.Common.{◌≡◌, rules, sym, ap, ◌∙◌, subst, to_z, of_z, w64}
use Rattle.std.proofs.Math.Facts.{to_z-of_z}
use Rattle.core_parts.specs.Hands.{Has, in_hand}
use Rattle.event_spec.specs.Parts.{ShardOf, shard_from, shard_of}
use Rattle.core_events.specs.Candidates.{candidates_in}
use Rattle.key_index.specs.Candidates.{candidates_of}
use Rattle.core_events.proofs.keyed.candidates.Goals as goal

pub shard-requires : goal.shard-requires
shard-requires c =
    let key : to_z w64 (of_z w64 c.args.key) ≡ c.args.key = to_z-of_z {w = w64} (search rules) in
    subst (λ n. Has c.args.shape.now c.args.held.now (ShardOf c.args.table n)) (ap shard_of (sym key) ∙ sym c.shard_of.ensures) c.requires

pub returns : goal.returns
returns c =
    let key : to_z w64 (of_z w64 c.args.key) ≡ c.args.key = to_z-of_z {w = w64} (search rules) in
    c.candidates.ensures
    ∙ ap (λ o. candidates_of (shard_from o) (to_z w64 (of_z w64 c.args.key))) (sym c.shard.ensures ∙ ap (λ n. in_hand c.args.shape.now c.args.held.now (ShardOf c.args.table n)) c.shard_of.ensures)
    ∙ ap (candidates_in c.args.shape.now c.args.held.now c.args.table) key
