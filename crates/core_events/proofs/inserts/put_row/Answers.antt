use Rattle.std.proofs.Common.{◌≡◌, ◌==◌, ℤ, rules, to_z, of_z, w64, length, sym, ap, ◌∙◌, subst}
use Rattle.std.proofs.Math.Facts.{to_z-of_z}
use Rattle.std.specs.List.{list_any}
use Rattle.block_spec.specs.declared.change.Change.TheVariants as change
use Rattle.core_parts.specs.Hands.{Has, after, in_hand}
use Rattle.event_spec.specs.Effects.{with_place}
use Rattle.event_spec.specs.Parts.{ShardOf, shard_from, shard_of}
use Rattle.core_laws.specs.Frames.Shards.{ShardHolds}
use Rattle.core_events.proofs.Puts.{not_false, not_true, row_put, still_room, still_shard, still_takes, taken_back, was_there}
use Rattle.core_events.specs.Puts.{row_changes}
use Rattle.key_index.specs.Candidates.{candidates_of}
use Rattle.core_parts.proofs.Shards.{added_is_dropped}
use Rattle.core_events.specs.Writes.{of_shard}
use Rattle.core_events.proofs.inserts.put_row.Goals as goal

pub install-requires-clause-room : goal.install-requires-clause-room
install-requires-clause-room c = let key : to_z w64 (of_z w64 c.args.key) ≡ c.args.key = to_z-of_z {w = w64} (search rules) in let k = to_z w64 (of_z w64 c.args.key) in
    still_room c.args.shape.now (of_shard c.args.table (shard_of k) (with_place k c.args.place)) c.args.held.now c.add_candidate.new.held c.requires.room c.in_ok-added.ensures.ok

pub install-requires-clause-takes : goal.install-requires-clause-takes
install-requires-clause-takes c = let key : to_z w64 (of_z w64 c.args.key) ≡ c.args.key = to_z-of_z {w = w64} (search rules) in let k = to_z w64 (of_z w64 c.args.key) in
    still_takes c.args.shape.now c.args.held.now c.add_candidate.new.held c.args.table (shard_of k) c.args.place c.args.session (with_place k c.args.place) (change.Put c.args.row) c.in_ok-added.ensures.ok c.requires.takes

pub drop_candidate-requires-clause-room : goal.drop_candidate-requires-clause-room
drop_candidate-requires-clause-room c = let key : to_z w64 (of_z w64 c.args.key) ≡ c.args.key = to_z-of_z {w = w64} (search rules) in let k = to_z w64 (of_z w64 c.args.key) in
    ap length c.in-Err.ensures.err ∙ still_room c.args.shape.now (of_shard c.args.table (shard_of k) (with_place k c.args.place)) c.args.held.now c.add_candidate.new.held c.requires.room c.in_ok-added.ensures.ok

pub drop_candidate-requires-clause-shard : goal.drop_candidate-requires-clause-shard
drop_candidate-requires-clause-shard c = let key : to_z w64 (of_z w64 c.args.key) ≡ c.args.key = to_z-of_z {w = w64} (search rules) in let k = to_z w64 (of_z w64 c.args.key) in
    still_shard c.args.shape.now c.args.held.now c.install.new.held c.args.table (shard_of k) (with_place k c.args.place) (c.in-Err.ensures.err ∙ c.in_ok-added.ensures.ok)
    (subst (λ (k : ℤ). Has c.args.shape.now c.args.held.now (ShardOf c.args.table (shard_of k))) (sym key) c.requires.shard)

pub returns-in-Ok-clause-ok : goal.returns-in-Ok-clause-ok
returns-in-Ok-clause-ok c = let key : to_z w64 (of_z w64 c.args.key) ≡ c.args.key = to_z-of_z {w = w64} (search rules) in let k = to_z w64 (of_z w64 c.args.key) in
    row_put c.args.shape.now c.args.held.now c.add_candidate.new.held c.install.new.held c.args.session c.args.table k c.args.place c.args.row c.in_ok-added.ensures.ok c.in-Ok.ensures.ok
    ∙ ap (λ (k : ℤ). after c.args.shape.now (row_changes c.args.session c.args.table k c.args.place c.args.row) c.args.held.now) key

pub returns-then-added-clause-err : goal.returns-then-added-clause-err
returns-then-added-clause-err c = let key : to_z w64 (of_z w64 c.args.key) ≡ c.args.key = to_z-of_z {w = w64} (search rules) in let k = to_z w64 (of_z w64 c.args.key) in
    taken_back c.args.shape.now c.args.held.now c.install.new.held c.drop_candidate.new.held c.args.table k c.args.place added_is_dropped
    (subst (λ (k : ℤ). Has c.args.shape.now c.args.held.now (ShardOf c.args.table (shard_of k))) (sym key) c.requires.shard)
    (subst (λ (k : ℤ). ShardHolds (shard_of k) (shard_from (in_hand c.args.shape.now c.args.held.now (ShardOf c.args.table (shard_of k))))) (sym key) c.requires.order)
    (not_true (list_any (λ other. other == c.args.place) (candidates_of (shard_from (in_hand c.args.shape.now c.args.held.now (ShardOf c.args.table (shard_of k)))) k)) (sym c.if-added.true ∙ c.in_ok-added.ensures.added))
    (c.in-Err.ensures.err ∙ c.in_ok-added.ensures.ok) c.drop_candidate.ensures

pub returns-else-added-clause-err : goal.returns-else-added-clause-err
returns-else-added-clause-err c = let key : to_z w64 (of_z w64 c.args.key) ≡ c.args.key = to_z-of_z {w = w64} (search rules) in let k = to_z w64 (of_z w64 c.args.key) in
    c.in-Err.ensures.err ∙ was_there c.args.shape.now c.args.held.now c.add_candidate.new.held c.args.table k c.args.place
    (subst (λ (k : ℤ). Has c.args.shape.now c.args.held.now (ShardOf c.args.table (shard_of k))) (sym key) c.requires.shard)
    (not_false (list_any (λ other. other == c.args.place) (candidates_of (shard_from (in_hand c.args.shape.now c.args.held.now (ShardOf c.args.table (shard_of k)))) k)) (sym c.if-added.false ∙ c.in_ok-added.ensures.added))
    c.in_ok-added.ensures.ok
