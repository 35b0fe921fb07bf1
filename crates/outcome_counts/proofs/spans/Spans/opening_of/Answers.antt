use Rattle.std.proofs.Common.{◌≡◌, ◌∙◌, ◌<◌, sym, subst, ℕ}
use Rattle.std.proofs.lemmas.List.{length-map}
use Rattle.output_read.specs.Kept.{entries_of, entry_of}
use Rattle.outcome_counts.specs.Openings.{opening_of}
use Rattle.outcome_counts.proofs.Written.{opened-inside, got-opening}
use Rattle.outcome_counts.proofs.spans.Spans.opening_of.Goals as goal

pub returns-in-Some-clause-inside : goal.returns-in-Some-clause-inside
returns-in-Some-clause-inside c =
    let replies = c.args.replies.now in
    let opened = c.requires.spans.openings in
    let long = length-map replies entry_of in
    let opening : ℕ = c.in-Some.opening in
    let here : opening_of c.args.self.now.openings.items c.args.at ≡ c.index.result.now =
    got-opening c.args.self.now.openings.items c.args.at c.index.result.now (subst (λ (n : ℕ). c.args.at < n) (sym (opened.long ∙ long)) c.requires.inside) c.index.ensures in
    subst (λ (n : ℕ). opening < n) long (opened-inside (entries_of replies) opening (opened.there c.args.at opening (here ∙ c.in-Some.is)))
