use Rattle.std.proofs.Common.{◌∙◌, ap, ℕ, Option}
use Rattle.std.specs.Prelude.{unwrap_or}
use Rattle.output_read.specs.Kept.{entries_of, entry_of}
use Rattle.outcome_counts.proofs.Starts.{kept-at}
use Rattle.outcome_counts.specs.Openings.{opened_at}
use Rattle.outcome_counts.proofs.Written.{snapshot-is}
use Rattle.outcome_counts.proofs.spans.Spans.snapshot_of.Goals as goal

pub returns : goal.returns
returns c = λ t opened.
    let replies = c.args.replies.now in
    let es = entries_of replies in
    let reply = c.index-replies-opening.result in
    let at = kept-at replies c.args.opening reply c.requires.inside c.index-replies-opening.is in
    c.unwrap_or.ensures ∙ ap (λ (o : Option ℕ). unwrap_or o 0) c.snapshot_told.ensures
    ∙ snapshot-is es at.front (entry_of reply) at.rest at.whole c.requires.outside t (ap (λ (n : ℕ). opened_at n es) at.far ∙ opened)
