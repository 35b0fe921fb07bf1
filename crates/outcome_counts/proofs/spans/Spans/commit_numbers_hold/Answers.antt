use Rattle.std.proofs.Common.{◌∙◌, ap, sym, true}
use Rattle.std.specs.Option.{option_map_or}
use Rattle.outcome_spec.specs.Entries.{Entry}
use Rattle.outcome_spec.specs.Runs.{run_of}
use Rattle.output_read.specs.Kept.{entries_of}
use Rattle.outcome_counts.specs.Asked.{asked_at}
use Rattle.outcome_counts.proofs.Asked.{asked-is}
use Rattle.outcome_counts.specs.Commits.{committed, may_show}
use Rattle.outcome_counts.proofs.Committed.{commit-by}
use Rattle.outcome_counts.proofs.spans.Spans.commit_numbers_hold.Goals as goal

pub returns-in-Some : goal.returns-in-Some
returns-in-Some c = λ tables none.
    let replies = c.args.replies.now in
    let run = run_of tables (entries_of replies) in
    let entry = asked_at replies c.args.at none in
    let is = asked-is replies c.args.at c.index-replies-at.result none c.requires.asked.inside c.index-replies-at.is in
    let told = ap (λ (e : Entry). committed e.reply.said) (sym is) ∙ sym c.in-Some.ensures in
    c.may_show.ensures tables none ∙ sym (commit-by run entry entry.reply.said ∙ ap (λ o. option_map_or (may_show run entry) o true) told)
