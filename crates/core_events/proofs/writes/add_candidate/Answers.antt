use Rattle.std.proofs.Common.{◌≡◌, ◌==◌, ℕ, ℤ, not, rules, ap, ◌∙◌, sym, subst, to_z, of_z, w64}
use Rattle.std.proofs.Math.Facts.{to_z-of_z}
use Rattle.std.specs.List.{list_any}
use Rattle.std.specs.Prelude.{OnOk, IfOk}
use Rattle.core_parts.proofs.Telling.{shard_there}
use Rattle.core_parts.specs.Hands.{after, in_hand}
use Rattle.event_spec.specs.Effects.{with_place}
use Rattle.event_spec.specs.Parts.{ShardOf, shard_from, shard_of}
use Rattle.key_index.specs.Candidates.{Places, candidates_of}
use Rattle.core_events.specs.Writes.{of_shard}
use Rattle.core_events.proofs.Taking.{shard_done, shard_kept, still_room}
use Rattle.core_events.proofs.writes.add_candidate.Goals as goal

pub lay_shard-requires-clause-table : goal.lay_shard-requires-clause-table
lay_shard-requires-clause-table c = (shard_there c.args.shape.now c.args.held.now c.args.table (shard_of c.args.key) c.requires.shard).0

pub lay_shard-requires-clause-room : goal.lay_shard-requires-clause-room
lay_shard-requires-clause-room c = still_room c.args.shape.now c.args.held.now c.take_shard-index.new.held (ShardOf c.args.table c.shard_of-number.result) c.requires.room c.take_shard-index.ensures.taken

pub returns-clause-ok : goal.returns-clause-ok
returns-clause-ok c =
    let key : to_z w64 (of_z w64 c.args.key) ≡ c.args.key = to_z-of_z {w = w64} (search rules) in
    let k = to_z w64 (of_z w64 c.args.key) in
    let sh = c.args.shape.now in let hand = c.args.held.now in let new = c.lay_shard.new.held in let r = c.add_place-added.result in
    subst (λ (k : ℤ). OnOk r (new ≡ after sh (of_shard c.args.table (shard_of k) (with_place k c.args.place)) hand)) key
    (subst (λ (n : ℕ). OnOk r (new ≡ after sh (of_shard c.args.table n (with_place k c.args.place)) hand)) c.shard_of-number.ensures
    (shard_done sh hand c.take_shard-index.new.held new r c.args.table c.shard_of-number.result c.take_shard-index.result.value c.add_place-added.new.index c.deref_mut.result.now
    (with_place k c.args.place) c.take_shard-index.ensures.part c.take_shard-index.ensures.taken c.lay_shard.ensures c.deref_mut.ensures.value c.add_place-added.ensures.ok))

pub returns-clause-err : goal.returns-clause-err
returns-clause-err c = shard_kept c.args.shape.now c.args.held.now c.take_shard-index.new.held c.lay_shard.new.held c.add_place-added.result c.args.table c.shard_of-number.result c.take_shard-index.result.value c.add_place-added.new.index c.deref_mut.result.now
    c.take_shard-index.ensures.part c.take_shard-index.ensures.taken c.lay_shard.ensures c.deref_mut.ensures.value c.add_place-added.ensures.err

pub returns-clause-added : goal.returns-clause-added
returns-clause-added c =
    let key : to_z w64 (of_z w64 c.args.key) ≡ c.args.key = to_z-of_z {w = w64} (search rules) in
    let k = to_z w64 (of_z w64 c.args.key) in
    let sh = c.args.shape.now in let hand = c.args.held.now in let r = c.add_place-added.result in
    subst (λ (k : ℤ). IfOk r (λ added. added ≡ not (list_any (λ other. other == c.args.place) (candidates_of (shard_from (in_hand sh hand (ShardOf c.args.table (shard_of k)))) k)))) key
    (subst (λ (n : ℕ). IfOk r (λ added. added ≡ not (list_any (λ other. other == c.args.place) (candidates_of (shard_from (in_hand sh hand (ShardOf c.args.table n))) k)))) c.shard_of-number.ensures
    (subst (λ (ix : Places). IfOk r (λ added. added ≡ not (list_any (λ other. other == c.args.place) (candidates_of ix k)))) (c.deref_mut.ensures.value ∙ ap shard_from (sym c.take_shard-index.ensures.part)) c.add_place-added.ensures.added))
