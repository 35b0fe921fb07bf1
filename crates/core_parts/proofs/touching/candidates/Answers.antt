use Rattle.std.proofs.Common.{rules, ◌≡◌, ◌∙◌, ℕ, ℤ, List, [], ap, sym}
use Rattle.core_parts.proofs.Held.{no_places}
use Rattle.core_parts.specs.Hands.{in_hand}
use Rattle.std.specs.Int.{w64}
use Rattle.std.proofs.lemmas.Int.{to_z-of_z}
use Rattle.event_spec.specs.Parts.{ShardOf, shard_from, shard_of}
use Rattle.event_spec.specs.Touched.{held_places}
use Rattle.key_index.proofs.Ordered.{none_in_order}
use Rattle.key_index.specs.Candidates.{IsInOrder, Places, candidates_of}
use Rattle.core_parts.proofs.touching.candidates.Goals as goal

-- no candidates, in order
empty : (places : List ℕ) → [] ≡ places → IsInOrder places []
empty places none = rw (← none) none_in_order

pub returns-in-Some : goal.returns-in-Some
returns-in-Some c =
    let same : held_places c.args.shape.now (in_hand c.args.shape.now c.args.held.now) c.args.table c.args.key ≡ candidates_of c.in-Some.index.now c.args.key =
    ap (λ (k : ℤ). candidates_of (shard_from (in_hand c.args.shape.now c.args.held.now (ShardOf c.args.table (shard_of k)))) c.args.key) (sym (to_z-of_z w64 c.args.key c.ranges.key))
    ∙ ap (λ i. candidates_of (shard_from (in_hand c.args.shape.now c.args.held.now (ShardOf c.args.table i))) c.args.key) (sym c.shard_of.ensures)
    ∙ ap (λ (x : Places). candidates_of x c.args.key) c.in-Some.ensures in
    let is : IsInOrder (candidates_of c.in-Some.index.now c.args.key) c.ascending.result.now = search rules in
    rw same is

pub returns-in-None : goal.returns-in-None
returns-in-None c = empty _ (sym (ap (λ (k : ℤ). candidates_of (shard_from (in_hand c.args.shape.now c.args.held.now (ShardOf c.args.table (shard_of k)))) c.args.key) (sym (to_z-of_z w64 c.args.key c.ranges.key))
    ∙ ap (λ i. candidates_of (shard_from (in_hand c.args.shape.now c.args.held.now (ShardOf c.args.table i))) c.args.key) (sym c.shard_of.ensures)
    ∙ ap (λ (x : Places). candidates_of x c.args.key) c.in-None.ensures ∙ no_places c.args.key))
