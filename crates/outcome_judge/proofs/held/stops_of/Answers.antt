use Rattle.std.proofs.Common.{◌≡◌, ◌∙◌, ◌+◌, ◌-◌, ap, ℕ, drop, reverse, arith}
use Rattle.std.proofs.lemmas.List.{reverse-reverse}
use Rattle.workload_spec.specs.declared.reply.Who.{Who}
use Rattle.output_read.specs.Kept.{entries_of, entry_of}
use Rattle.outcome_counts.proofs.Starts.{kept-at}
use Rattle.outcome_judge.specs.Held.{never, stop_of, stops_of}
use Rattle.outcome_judge.specs.Ranks.{kept_for}
use Rattle.outcome_judge.proofs.Splits.{next-back, stops-back}
use Rattle.outcome_judge.proofs.held.stops_of.Goals as goal

pub loop-at-preserved : goal.loop-at-preserved
loop-at-preserved c =
    let replies = c.args.replies.now in
    let place : ℕ = c.loop-at.at - 1 in
    let reply = c.index-replies-at.result in
    let low = c.loop-at-test.true in
    let high = c.loop-at.auto.at in
    let up : place + 1 ≡ c.loop-at.at = omega (arith, low) in
    let at = kept-at replies place reply (omega (arith, low, high)) c.index-replies-at.is in
    let next : (who : Who) → kept_for c.pass_end.new.next who never ≡ stop_of who (drop place (entries_of replies)) =
    next-back (entries_of replies) at.front (entry_of reply) at.rest place c.loop-at.at up at.whole at.far (λ who. kept_for c.loop-at.next who never) (λ who. kept_for c.pass_end.new.next who never)
    c.loop-at.invariant.next c.in_ok-pass_end.ensures in
    record {
      next = next;
      stops = stops-back (entries_of replies) at.front (entry_of reply) at.rest place c.loop-at.at up at.whole at.far c.loop-at.stops.items c.push.new.self.items c.get.result
          c.loop-at.invariant.stops c.in_ok-push.ensures.items (c.get.ensures ∙ next reply.who);
    }

pub returns : goal.returns
returns c =
    let end = c.loop-at-test.false in
    let zero : c.loop-at.at ≡ 0 = omega (arith, end) in
    c.reverse.ensures.items ∙ ap reverse c.loop-at.invariant.stops ∙ reverse-reverse (stops_of (drop c.loop-at.at (entries_of c.args.replies.now)))
    ∙ ap (λ (n : ℕ). stops_of (drop n (entries_of c.args.replies.now))) zero
