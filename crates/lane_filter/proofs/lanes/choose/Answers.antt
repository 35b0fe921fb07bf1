use Rattle.std.proofs.Common.{◌≡◌, ◌<◌, ◌+◌, ◌^◌, ℕ, ap, ◌∙◌, arith}
use Rattle.lane_filter.specs.Lanes.{LanesValue, steps_of, with_steps}
use Rattle.lane_filter.proofs.Steps.{end_few, end_small, next, room, whole}
use Rattle.lane_filter.proofs.lanes.choose.Given.{Over}
use Rattle.lane_filter.proofs.lanes.choose.Goals as goal

pub loop-bytes-init : goal.loop-bytes-init
loop-bytes-init g c = λ i.
    let l = g.L.Lanes.taken c.args.lanes in
    record {
      from = l.from;
      span = l.span;
      count = plus l.count i;
      offsets = plus l.offsets i;
    }
  where
    plus : (n : ℕ) → n ≡ n + 0
    plus n = omega arith

pub with-lanes-requires : goal.with-lanes-requires
with-lanes-requires g c =
    room g.L.Lanes.width c.args.values.now c.as_chunks.result.0.now c.loop-bytes.bytes-index (g.L.Lanes.taken c.args.lanes)
    (g.L.Lanes.taken c.loop-bytes.lanes) c.loop-bytes.invariant c.requires.fresh (omega arith) c.as_chunks.ensures.front_len c.requires.few

pub loop-bytes-preserved : goal.loop-bytes-preserved
loop-bytes-preserved g c =
    next g.L.Lanes.width c.as_chunks.result.0.now c.loop-bytes.bytes-index (g.L.Lanes.taken c.args.lanes)
    (g.L.Lanes.taken c.loop-bytes.lanes) (g.L.Lanes.taken c.with-lanes.result) c.loop-bytes-test.true c.loop-bytes.invariant
    c.with-lanes.ensures

pub with-requires : goal.with-requires
with-requires g c =
    room g.L.Lanes.width c.args.values.now c.as_chunks.result.0.now c.loop-bytes.bytes-index (g.L.Lanes.taken c.args.lanes)
    (g.L.Lanes.taken c.loop-bytes.lanes) c.loop-bytes.invariant c.requires.fresh c.loop-bytes.auto.bytes-index-end
    c.as_chunks.ensures.front_len c.requires.few

pub chosen-requires : goal.chosen-requires
chosen-requires g c =
    end_few g.L.Lanes.width c.args.values.now c.as_chunks.result.0.now c.loop-bytes.bytes-index c.padded.result
    (g.L.Lanes.taken c.args.lanes) (g.L.Lanes.taken c.loop-bytes.lanes) (g.L.Lanes.taken c.with.result) c.loop-bytes.invariant
    c.requires.fresh c.loop-bytes.auto.bytes-index-end c.as_chunks.ensures.front_len c.requires.few c.with.ensures

all_taken : (g : Over) (c : goal.After-drop-with g)
    → g.L.Lanes.taken c.with.result ≡ with_steps g.L.Lanes.width (steps_of c.args.values.now) (g.L.Lanes.taken c.args.lanes)
all_taken g c =
    whole g.L.Lanes.width c.args.values.now c.as_chunks.result.0.now c.loop-bytes.bytes-index c.as_chunks.result.1.now c.padded.result
    (g.L.Lanes.taken c.args.lanes) (g.L.Lanes.taken c.loop-bytes.lanes) (g.L.Lanes.taken c.with.result) c.loop-bytes.invariant
    c.loop-bytes-test.false c.as_chunks.ensures.front c.as_chunks.ensures.back c.padded.ensures c.with.ensures

few_taken : (g : Over) (c : goal.After-drop-with g) → (g.L.Lanes.taken c.with.result).count < 2 ^ 16
few_taken g c =
    end_few g.L.Lanes.width c.args.values.now c.as_chunks.result.0.now c.loop-bytes.bytes-index c.padded.result
    (g.L.Lanes.taken c.args.lanes) (g.L.Lanes.taken c.loop-bytes.lanes) (g.L.Lanes.taken c.with.result) c.loop-bytes.invariant
    c.requires.fresh c.loop-bytes.auto.bytes-index-end c.as_chunks.ensures.front_len c.requires.few c.with.ensures

pub returns-clause-count : goal.returns-clause-count
returns-clause-count g c = c.chosen.ensures.count ∙ ap (λ (v : LanesValue). v.count) (all_taken g c)

pub returns-clause-offsets : goal.returns-clause-offsets
returns-clause-offsets g c = c.chosen.ensures.offsets ∙ ap (λ (v : LanesValue). v.offsets) (all_taken g c)

pub returns-clause-few : goal.returns-clause-few
returns-clause-few g c = omega (arith, c.chosen.ensures.count, few_taken g c)

pub returns-clause-small : goal.returns-clause-small
returns-clause-small g c =
    omega (
      arith,
      c.chosen.ensures.offsets,
      end_small g.L.Lanes.width (steps_of c.args.values.now) (g.L.Lanes.taken c.args.lanes) (g.L.Lanes.taken c.with.result) (all_taken g c)
          c.requires.fresh c.requires.small (few_taken g c),
    )
