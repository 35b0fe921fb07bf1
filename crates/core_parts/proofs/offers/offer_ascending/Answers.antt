use Rattle.std.proofs.Common.{◌≡◌, ◌∙◌, ap, arith, get_or, nat_lt, rules, sym}
use Rattle.std.proofs.lemmas.Grind.{common_steps}
use Rattle.std.proofs.lemmas.List.Sorted.{IsPartitionedBy-ltb, IsPartitionPoint-from_clause}
use Rattle.block_layout.specs.Place.{block_of}
use Rattle.core_parts.proofs.Ascending.{above, below, blocks_rise, first_offered, none_offered}
use Rattle.core_parts.specs.Least.{offered_name}
use Rattle.event_spec.specs.Parts.{BodyOf}
use Rattle.core_parts.proofs.offers.offer_ascending.Goals as goal

pub returns-then-start-places : goal.returns-then-start-places
returns-then-start-places c =
    let sh = c.args.shape.now in
    let places = c.args.places.now in
    let least = c.args.least.now in
    let first = c.first_block-first.result in
    let start = c.partition_point-start.result in
    let point = IsPartitionPoint-from_clause (λ p. nat_lt (block_of p) first) places start c.partition_point-start.ensures.partitioned
    (IsPartitionedBy-ltb block_of places first (blocks_rise places c.requires)) (λ a r f' t. search rules) in
    let block : c.block.result ≡ block_of (get_or places start 0) = grind (arith, common_steps) in
    c.offer_body.ensures
    ∙ ap (λ b. offered_name sh least (BodyOf c.args.table b)) block
    ∙ sym (first_offered sh c.args.table places least first start c.first_block-first.ensures c.requires (let l = c.if-start-places.true in omega (arith, l))
    (λ k less there. below (block_of (get_or places k 0)) first (point.0 k 0 (omega arith) less))
    (λ k behind there. above (block_of (get_or places k 0)) first (point.1 k 0 behind there)))

pub returns-else-start-places : goal.returns-else-start-places
returns-else-start-places c =
    let sh = c.args.shape.now in
    let places = c.args.places.now in
    let least = c.args.least.now in
    let first = c.first_block-first.result in
    let start = c.partition_point-start.result in
    let point = IsPartitionPoint-from_clause (λ p. nat_lt (block_of p) first) places start c.partition_point-start.ensures.partitioned
    (IsPartitionedBy-ltb block_of places first (blocks_rise places c.requires)) (λ a r f' t. search rules) in
    sym (none_offered sh c.args.table places least first start c.first_block-first.ensures (let l = c.if-start-places.false in omega (arith, l))
    (λ k less there. below (block_of (get_or places k 0)) first (point.0 k 0 (omega arith) less)))
