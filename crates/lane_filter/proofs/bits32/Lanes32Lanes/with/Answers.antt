use Rattle.std.proofs.Common.{◌+◌, ◌^◌, sym, ap, ◌∙◌, arith, w32, w64}
use Rattle.std.specs.List.{count_by, sum_by}
use lib.Lanes.{sum_l}
use Rattle.lane_filter.specs.Lanes.{is_within, kept_within, one_within}
use Rattle.lane_filter.proofs.Choosing.{added, kept_at_most, offsets_below, ones_fit, same_length, stays_few, sums_fit}
use Rattle.lane_filter.proofs.bits32.Lanes32Lanes.with.Goals as goal

pub overflow_add-result : goal.overflow_add-result
overflow_add-result c =
    let os = c.offsets_of-offsets in
    ones_fit w32 c.args.self.span c.args.self.counts os.result c.ones_within.result (omega (arith, os.ensures.lanes))
    c.ones_within.ensures c.requires (omega arith)

pub overflow_add-result-2 : goal.overflow_add-result-2
overflow_add-result-2 c =
    let self = c.args.self in
    let os = c.offsets_of-offsets in
    let below = offsets_below w32 self.from c.args.bytes.now os.result (omega arith) os.ensures.value in
    sums_fit w64 (2 ^ 32) self.span (kept_within self.span) self.offsets self.counts os.result c.kept_within.result
    (omega (arith, os.ensures.lanes)) c.kept_within.ensures (kept_at_most (2 ^ 32) self.span os.result below) self.few c.requires
    (omega arith) (omega arith)

pub invariant_of-result : goal.invariant_of-result
invariant_of-result c =
    let self = c.args.self in
    let os = c.offsets_of-offsets in
    let below = offsets_below w32 self.from c.args.bytes.now os.result (omega arith) os.ensures.value in
    record {
      counted = same_length (one_within self.span) 8 self.counts os.result c.ones_within.result self.counted os.ensures.lanes
          c.ones_within.ensures;
      added = same_length (kept_within self.span) 8 self.offsets os.result c.kept_within.result self.added os.ensures.lanes
          c.kept_within.ensures;
      few = stays_few (2 ^ 32) self.span (kept_within self.span) self.offsets self.counts os.result c.ones_within.result
          c.kept_within.result (self.added ∙ sym os.ensures.lanes) (self.counted ∙ sym os.ensures.lanes) c.ones_within.ensures
          c.kept_within.ensures (kept_at_most (2 ^ 32) self.span os.result below) self.few;
    }

pub returns : goal.returns
returns c =
    let self = c.args.self in
    let os = c.offsets_of-offsets in
    let count =
    added (one_within self.span) self.counts os.result c.ones_within.result (self.counted ∙ sym os.ensures.lanes) c.ones_within.ensures
    ∙ ap (λ xs. sum_l self.counts + count_by (is_within self.span) xs) os.ensures.value in
    let offsets =
    added (kept_within self.span) self.offsets os.result c.kept_within.result (self.added ∙ sym os.ensures.lanes) c.kept_within.ensures
    ∙ ap (λ xs. sum_l self.offsets + sum_by (kept_within self.span) xs) os.ensures.value in
    λ i. record { from = self.from; span = self.span; count = count i; offsets = offsets i }
