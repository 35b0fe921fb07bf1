use Rattle.std.proofs.Common.{◌≡◌, ◌∙◌, ap, ℕ, List, false, map, length, get_or, arith}
use Rattle.std.proofs.lemmas.List.{length-map, take_all}
use Rattle.output_read.specs.Kept.{entries_of, entry_of}
use Rattle.outcome_counts.proofs.Starts.{kept-at}
use Rattle.outcome_judge.specs.Held.{Held, held_in}
use Rattle.outcome_judge.specs.Ranks.{kept_for}
use Rattle.outcome_judge.proofs.Splits.{within-on, untils-on, until-is, stops-long, held-long}
use Rattle.outcome_judge.proofs.held.held_until.Goals as goal

pub index-requires : goal.index-requires
index-requires c =
    let long : length c.in_ok-stops.stops.items ≡ length c.args.replies.now = ap length c.in_ok-stops.ensures ∙ stops-long (entries_of c.args.replies.now) ∙ length-map c.args.replies.now entry_of in
    let inside = c.loop-at-test.true in
    omega (arith, long, inside)

pub loop-at-preserved : goal.loop-at-preserved
loop-at-preserved c =
    let replies = c.args.replies.now in
    let place : ℕ = c.loop-at.at in
    let reply = c.index-replies-at.result in
    let at = kept-at replies place reply c.loop-at-test.true c.index-replies-at.is in
    record {
      within = within-on (entries_of replies) at.front (entry_of reply) at.rest place at.whole at.far (λ who. kept_for c.loop-at.within who false) (λ who. kept_for c.pass_bound.new.within who false)
          c.loop-at.invariant.within c.in_ok-pass_bound.ensures;
      untils = untils-on (entries_of replies) at.front (entry_of reply) at.rest place at.whole at.far c.loop-at.untils.items c.push.new.self.items c.held_to.result
          c.loop-at.invariant.untils c.in_ok-push.ensures.items
          (c.held_to.ensures ∙ until-is (entries_of replies) at.front (entry_of reply) at.rest place at.whole at.far c.get-is_within.result c.index.result.now c.index.result.now (c.get-is_within.ensures ∙ c.loop-at.invariant.within reply.who) (c.index.ensures ∙ ap (λ (xs : List ℕ). get_or xs place c.index.result.now) c.in_ok-stops.ensures));
    }

pub returns : goal.returns
returns c =
    let replies = c.args.replies.now in
    let long : length (held_in (entries_of replies)) ≡ length replies = held-long _ (entries_of replies) ∙ length-map replies entry_of in
    let end = c.loop-at-test.false in
    c.loop-at.invariant.untils ∙ ap (map (λ (h : Held). h.until)) (take_all c.loop-at.at (held_in (entries_of replies)) (omega (arith, long, end)))
