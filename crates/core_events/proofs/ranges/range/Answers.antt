use Rattle.std.proofs.Common.{◌≡◌, ◌∙◌, ◌++◌, ◌+◌, ◌-◌, ℤ, List, Option, ℕ, ap, arith, length, refl, sum_by, sym}
use Rattle.std.specs.List.{filter_map, flat_map}
use Rattle.std.proofs.lemmas.List.Sums.{sum_by-append}
use Rattle.block_spec.specs.Slots.{Row}
use Rattle.core_events.proofs.Ranging.{has_range, has_row, in_range, keys_told, shard_rows, shards_next, shards_sum, sum_told}
use Rattle.core_events.specs.Candidates.{candidates_in}
use Rattle.core_events.specs.Ranges.{keys_in}
use Rattle.core_parts.proofs.Telling.{only_told}
use Rattle.event_spec.specs.declared.event.Event.TheVariants as event
use Rattle.event_spec.specs.declared.reply.Reply.TheVariants as reply
use Rattle.event_spec.specs.Effects.{found}
use Rattle.event_spec.specs.Judged.{own_key}
use Rattle.event_spec.specs.Parts.{below}
use Rattle.core_events.proofs.ranges.range.Goals as goal

pub add_rows-requires-clause-shard : goal.add_rows-requires-clause-shard
add_rows-requires-clause-shard g c = (has_range c.args.shape.now c.args.held.now c.args.own.now c.args.range.now c.requires).shards c.loop-number.number c.loop-number-test.true

pub add_rows-requires-clause-keys : goal.add_rows-requires-clause-keys
add_rows-requires-clause-keys g c = λ key a. has_row c.args.shape.now c.args.held.now c.args.own.now c.args.range.now c.requires key
    (in_range c.args.shape.now c.args.held.now c.args.range.now c.loop-number.number key c.loop-number-test.true a)

pub returns-in_err-add_rows-clause-steps : goal.returns-in_err-add_rows-clause-steps
returns-in_err-add_rows-clause-steps g c = λ s agrees.
    let sh = c.args.shape.now in
    let range = c.args.range.now in
    let h : ℤ → ℕ = λ key. length (candidates_in sh c.args.held.now range.table key) in
    let keys : ℕ → List ℤ = keys_in sh c.args.held.now range in
    let n = c.loop-number.number in
    let less = c.loop-number-test.true in
    let before = c.loop-number.invariant.1 in
    let one = c.add_rows.ensures.steps in
    let next = ap (sum_by h) (shards_next keys n) ∙ sum_by-append h (flat_map keys (below n)) (keys n) in
    let most = shards_sum h keys (n + 1) (8 - (n + 1)) in
    let end = ap (λ m. sum_by h (flat_map keys (below m))) (let e : n + 1 + (8 - (n + 1)) ≡ 8 = omega (arith, less) in e) in
    let told = sum_told sh c.args.held.now range (has_range sh c.args.held.now c.args.own.now range c.requires) s agrees in
    omega (arith, before, one, next, most, end, told)

pub loop-number-preserved : goal.loop-number-preserved
loop-number-preserved g c =
    let sh = c.args.shape.now in
    let range = c.args.range.now in
    let h : ℤ → ℕ = λ key. length (candidates_in sh c.args.held.now range.table key) in
    let keys : ℕ → List ℤ = keys_in sh c.args.held.now range in
    let n = c.loop-number.number in
    let before = c.loop-number.invariant.1 in
    let one = c.add_rows.ensures.steps in
    let next = ap (sum_by h) (shards_next keys n) ∙ sum_by-append h (flat_map keys (below n)) (keys n) in (
      λ s sound agrees.
          let f : ℤ → Option Row = λ key. found sh s (own_key range.table key c.args.own.now) range.table key in
          (c.in_ok-add_rows.ensures {u = tt}).rows s sound agrees ∙ ap (λ rows. rows ++ filter_map f (keys n)) (c.loop-number.invariant.0 s sound agrees) ∙ sym (shard_rows f keys n),
      omega (arith, before, one, next),
    )

pub returns-clause-reply : goal.returns-clause-reply
returns-clause-reply g c =
    let sh = c.args.shape.now in
    let range = c.args.range.now in
    let m = c.requires in
    let f : ℤ → Option Row = λ key. found sh m.parts (own_key range.table key c.args.own.now) range.table key in
    let keys : ℕ → List ℤ = keys_in sh c.args.held.now range in
    let end : c.loop-number.number ≡ 8 = omega arith in
    only_told sh (event.Range c.args.own.now range.table range.low range.high) c.args.held.now (reply.Rows c.listed.result) m refl
    (ap reply.Rows (c.listed.ensures ∙ c.from.ensures ∙ c.loop-number.invariant.0 m.parts m.holds.sound m.agrees
    ∙ ap (λ n. filter_map f (flat_map keys (below n))) end
    ∙ ap (filter_map f) (sym (keys_told sh c.args.held.now range (has_range sh c.args.held.now c.args.own.now range m) m.parts m.agrees))))

pub returns-clause-steps : goal.returns-clause-steps
returns-clause-steps g c = λ s agrees.
    let sh = c.args.shape.now in
    let range = c.args.range.now in
    let h : ℤ → ℕ = λ key. length (candidates_in sh c.args.held.now range.table key) in
    let keys : ℕ → List ℤ = keys_in sh c.args.held.now range in
    let before = c.loop-number.invariant.1 in
    let end : c.loop-number.number ≡ 8 = omega arith in
    let whole = ap (λ m. sum_by h (flat_map keys (below m))) end in
    let told = sum_told sh c.args.held.now range (has_range sh c.args.held.now c.args.own.now range c.requires) s agrees in
    omega (arith, before, whole, told)
