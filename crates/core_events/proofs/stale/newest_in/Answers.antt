use Rattle.std.proofs.Common.{◌≡◌, ◌∙◌, ℕ, ℤ, List, ap, arith, option_to_list, sym}
use Rattle.std.specs.List.{flat_map}
use Rattle.std.proofs.lemmas.Grind.{flat_map-append}
use Rattle.core_events.proofs.Judging.{largest_two}
use Rattle.core_events.proofs.Ranging.{in_range, range_told, shards_next}
use Rattle.core_events.specs.Ranges.{keys_in}
use Rattle.core_events.specs.Stale.{larger, newest_at}
use Rattle.event_spec.specs.Parts.{below}
use Rattle.isolation_spec.specs.declared.read.Read.TheVariants as read
use Rattle.undo_chain.specs.Conflict.{largest}
use Rattle.core_events.proofs.stale.newest_in.Goals as goal

pub newest_in_shard-requires-clause-keys : goal.newest_in_shard-requires-clause-keys
newest_in_shard-requires-clause-keys c = λ key a. c.requires.got key (in_range c.args.shape.now c.args.held.now c.args.range.now c.loop-number.number key c.loop-number-test.true a)

pub loop-number-preserved : goal.loop-number-preserved
loop-number-preserved c = λ s agrees.
    let f : ℤ → List ℕ = λ key. option_to_list (newest_at c.args.shape.now s c.args.snapshot (read.Key c.args.range.now.table key)) in
    let g : ℕ → List ℤ = keys_in c.args.shape.now c.args.held.now c.args.range.now in
    let n = c.loop-number.number in
    let before = flat_map f (flat_map g (below n)) in
    c.larger-newest.ensures ∙ ap (λ o. larger o c.newest_in_shard.result) (c.loop-number.invariant s agrees)
    ∙ ap (larger (largest before)) (c.newest_in_shard.ensures s agrees)
    ∙ sym (largest_two before (flat_map f (g n)))
    ∙ ap largest (sym (ap (flat_map f) (shards_next g n) ∙ flat_map-append f (flat_map g (below n)) (g n)))

pub returns : goal.returns
returns c = λ s agrees.
    let f : ℤ → List ℕ = λ key. option_to_list (newest_at c.args.shape.now s c.args.snapshot (read.Key c.args.range.now.table key)) in
    let end : c.loop-number.number ≡ 8 = omega arith in
    c.loop-number.invariant s agrees
    ∙ ap (λ n. largest (flat_map f (flat_map (keys_in c.args.shape.now c.args.held.now c.args.range.now) (below n)))) end
    ∙ sym (range_told c.args.shape.now c.args.held.now s c.args.snapshot c.args.range.now c.requires agrees)
