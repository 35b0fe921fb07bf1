use Rattle.std.proofs.Common.{◌∙◌, ◌+◌, ◌<◌, ◌^◌, ℕ, List, ap, sym, subst, nat_le}
use Rattle.std.specs.List.Sorted.{IsNonDecreasingBy}
use Rattle.outcome_judge.specs.Leads.{but_of, lead_below}
use Rattle.outcome_judge.specs.declared.leads.Lead.{Lead}
use Rattle.outcome_judge.proofs.ConflictsJudged.{passes-judged}
use Rattle.outcome_judge.proofs.rivals.Rivals.passes_no_session.Goals as goal

pub most_but-until-requires : goal.most_but-until-requires
most_but-until-requires c = subst (λ (leads : List Lead). IsNonDecreasingBy (λ lead. lead.place) leads) (sym c.at.ensures) (c.requires.held.leads c.args.of).rise

pub returns : goal.returns
returns c = λ none tables t who.
    let replies = c.args.replies.now in
    let reply = c.index-replies-at.result in
    let small : reply.round < 2 ^ 32 = subst (λ (n : ℕ). n < 2 ^ 32) c.round_of.ensures.round c.round_of.ensures.small in
    ap (λ (n : ℕ). nat_le c.most_but-until.result (n + 1)) c.round_of.ensures.round
    ∙ ap (λ (n : ℕ). nat_le n (reply.round + 1)) (c.most_but-until.ensures ∙ ap (λ (leads : List Lead). but_of reply.who (lead_below c.args.stretch.now.round_start leads)) c.at.ensures)
    ∙ passes-judged replies c.args.at c.args.stretch.now c.requires.asked c.args.self.now c.requires.held reply c.index-replies-at.is small c.args.of none tables t who
