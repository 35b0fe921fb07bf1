use Rattle.std.proofs.Common.{◌≡◌, ℕ, List, ◌+◌, ◌*◌, ◌/◌, ◌%◌, ◌^◌, sym, ap, ◌∙◌, arith, w64}
use Rattle.std.specs.List.{count_by, sum_by}
use lib.Lanes.{sum_l}
use Rattle.lane_filter.specs.Lanes.{is_within, kept_within, one_within}
use Rattle.lane_filter.proofs.Choosing.{added, halves, highs_at_most, lows_at_most, offsets_below, ones_fit, same_length, stays_few, sums_fit}
use Rattle.lane_filter.proofs.bits64.Lanes64Lanes.with.Goals as goal

pub overflow_add-result : goal.overflow_add-result
overflow_add-result c =
    let os = c.offsets_of-offsets in
    ones_fit w64 c.args.self.span c.args.self.counts os.result c.ones_within.result (omega (arith, os.ensures.lanes))
    c.ones_within.ensures c.requires (omega arith)

pub overflow_add-result-2 : goal.overflow_add-result-2
overflow_add-result-2 c =
    let self = c.args.self in
    let os = c.offsets_of-offsets in
    sums_fit w64 (2 ^ 32) self.span (λ x. kept_within self.span x % 2 ^ 32) self.lows self.counts os.result c.lows_within.result
    (omega (arith, os.ensures.lanes)) c.lows_within.ensures (lows_at_most (2 ^ 32) self.span os.result (omega arith)) self.lows_few
    c.requires (omega arith) (omega arith)

pub overflow_add-result-3 : goal.overflow_add-result-3
overflow_add-result-3 c =
    let self = c.args.self in
    let os = c.offsets_of-offsets in
    let below = offsets_below w64 self.from c.args.bytes.now os.result (omega arith) os.ensures.value in
    sums_fit w64 (2 ^ 32) self.span (λ x. kept_within self.span x / 2 ^ 32) self.highs self.counts os.result c.highs_within.result
    (omega (arith, os.ensures.lanes)) c.highs_within.ensures (highs_at_most self.span os.result below) self.highs_few c.requires
    (omega arith) (omega arith)

pub invariant_of-result : goal.invariant_of-result
invariant_of-result c =
    let self = c.args.self in
    let os = c.offsets_of-offsets in
    let low : ℕ → ℕ = λ x. kept_within self.span x % 2 ^ 32 in
    let high : ℕ → ℕ = λ x. kept_within self.span x / 2 ^ 32 in
    let below = offsets_below w64 self.from c.args.bytes.now os.result (omega arith) os.ensures.value in
    record {
      counted = same_length (one_within self.span) 4 self.counts os.result c.ones_within.result self.counted os.ensures.lanes
          c.ones_within.ensures;
      lows_added = same_length low 4 self.lows os.result c.lows_within.result self.lows_added os.ensures.lanes c.lows_within.ensures;
      highs_added = same_length high 4 self.highs os.result c.highs_within.result self.highs_added os.ensures.lanes
          c.highs_within.ensures;
      lows_few = stays_few (2 ^ 32) self.span low self.lows self.counts os.result c.ones_within.result c.lows_within.result
          (self.lows_added ∙ sym os.ensures.lanes) (self.counted ∙ sym os.ensures.lanes) c.ones_within.ensures c.lows_within.ensures
          (lows_at_most (2 ^ 32) self.span os.result (omega arith)) self.lows_few;
      highs_few = stays_few (2 ^ 32) self.span high self.highs self.counts os.result c.ones_within.result c.highs_within.result
          (self.highs_added ∙ sym os.ensures.lanes) (self.counted ∙ sym os.ensures.lanes) c.ones_within.ensures
          c.highs_within.ensures (highs_at_most self.span os.result below) self.highs_few;
    }

pub returns : goal.returns
returns c =
    let self = c.args.self in
    let os = c.offsets_of-offsets in
    let low : ℕ → ℕ = λ x. kept_within self.span x % 2 ^ 32 in
    let high : ℕ → ℕ = λ x. kept_within self.span x / 2 ^ 32 in
    let count =
    added (one_within self.span) self.counts os.result c.ones_within.result (self.counted ∙ sym os.ensures.lanes) c.ones_within.ensures
    ∙ ap (λ xs. sum_l self.counts + count_by (is_within self.span) xs) os.ensures.value in
    let lows = added low self.lows os.result c.lows_within.result (self.lows_added ∙ sym os.ensures.lanes) c.lows_within.ensures in
    let highs = added high self.highs os.result c.highs_within.result (self.highs_added ∙ sym os.ensures.lanes) c.highs_within.ensures in
    let offsets =
    sums self.lows self.highs os.result self.span _ _ lows highs
    ∙ ap (λ xs. sum_l self.lows + 2 ^ 32 * sum_l self.highs + sum_by (kept_within self.span) xs) os.ensures.value in
    λ i. record { from = self.from; span = self.span; count = count i; offsets = offsets i }
  where
    sums : (lows highs xs : List ℕ) (span low high : ℕ) → low ≡ sum_l lows + sum_by (λ x. kept_within span x % 2 ^ 32) xs
        → high ≡ sum_l highs + sum_by (λ x. kept_within span x / 2 ^ 32) xs
        → low + 2 ^ 32 * high ≡ sum_l lows + 2 ^ 32 * sum_l highs + sum_by (kept_within span) xs
    sums lows highs xs span low high e f = omega (arith, e, f, halves (kept_within span) xs)
