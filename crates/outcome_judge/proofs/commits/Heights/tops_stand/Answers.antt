use Rattle.std.proofs.Common.{◌≡◌, ◌∙◌, ap, sym, true, refl, ℕ, None, Some}
use Rattle.std.specs.Prelude.{option_and_then}
use Rattle.output_read.specs.Kept.{entries_of, entry_of}
use Rattle.outcome_counts.specs.Asked.{asked_at}
use Rattle.outcome_counts.specs.Openings.{opened_at, opening_of}
use Rattle.outcome_counts.proofs.Asked.{asked-is}
use Rattle.outcome_counts.proofs.Written.{transaction-asked}
use Rattle.outcome_spec.specs.Runs.{Span, run_of, transaction_of}
use Rattle.outcome_judge.specs.Stale.{top_rule, commit_shown}
use Rattle.outcome_judge.specs.declared.stale.Commit.{Commit}
use Rattle.outcome_judge.specs.declared.stale.Commit.TheVariants as commit
use Rattle.outcome_judge.proofs.Threads.{commit-by, no-span, told-span}
use Rattle.outcome_judge.proofs.commits.Heights.tops_stand.Goals as goal

pub returns-in_default : goal.returns-in_default
returns-in_default c = λ tables none.
    let replies = c.args.replies.now in
    let run = run_of tables (entries_of replies) in
    let entry = asked_at replies c.args.at none in
    let opening : opening_of c.args.spans.now.openings.items c.args.at ≡ None = sym c.opening_of.ensures.opening ∙ c.in_default.is in
    no-span (λ (t : Span). top_rule (entries_of replies) entry (commit_shown entry.reply.said)) (transaction_of run entry)
    (transaction-asked replies c.args.spans.now.openings.items c.requires.spans.openings c.args.at c.requires.asked.inside none ∙ ap (option_and_then (λ place. opened_at place (entries_of replies))) opening)

pub returns-in-None : goal.returns-in-None
returns-in-None c = λ tables none.
    let replies = c.args.replies.now in
    let es = entries_of replies in
    let run = run_of tables es in
    let entry = asked_at replies c.args.at none in
    let s : ℕ = c.in-Some.opening in
    let opening : opening_of c.args.spans.now.openings.items c.args.at ≡ Some s = sym c.opening_of.ensures.opening ∙ c.in-Some.is in
    let shows = commit-by entry (entry_of c.index-replies-at.result) c.commit_shown.result commit.None (asked-is replies c.args.at c.index-replies-at.result none c.requires.asked.inside c.index-replies-at.is) c.commit_shown.ensures c.in-None.is in
    told-span (λ (t : Span) (its : Commit). top_rule (entries_of replies) entry its) (transaction_of run entry) (opened_at s es) commit.None (commit_shown entry.reply.said) true
    (transaction-asked replies c.args.spans.now.openings.items c.requires.spans.openings c.args.at c.requires.asked.inside none ∙ ap (option_and_then (λ place. opened_at place es)) opening)
    (c.requires.spans.openings.there c.args.at s opening) shows
    (λ t opened. refl)

pub returns-in-As : goal.returns-in-As
returns-in-As c = λ tables none.
    let replies = c.args.replies.now in
    let es = entries_of replies in
    let run = run_of tables es in
    let entry = asked_at replies c.args.at none in
    let s : ℕ = c.in-Some.opening in
    let opening : opening_of c.args.spans.now.openings.items c.args.at ≡ Some s = sym c.opening_of.ensures.opening ∙ c.in-Some.is in
    let shows = commit-by entry (entry_of c.index-replies-at.result) c.commit_shown.result (commit.As c.in-As.field-0) (asked-is replies c.args.at c.index-replies-at.result none c.requires.asked.inside c.index-replies-at.is) c.commit_shown.ensures c.in-As.is in
    told-span (λ (t : Span) (its : Commit). top_rule (entries_of replies) entry its) (transaction_of run entry) (opened_at s es) (commit.As c.in-As.field-0) (commit_shown entry.reply.said) true
    (transaction-asked replies c.args.spans.now.openings.items c.requires.spans.openings c.args.at c.requires.asked.inside none ∙ ap (option_and_then (λ place. opened_at place es)) opening)
    (c.requires.spans.openings.there c.args.at s opening) shows
    (λ t opened. refl)

pub returns-in-Stale : goal.returns-in-Stale
returns-in-Stale c = λ tables none.
    let replies = c.args.replies.now in
    let es = entries_of replies in
    let run = run_of tables es in
    let entry = asked_at replies c.args.at none in
    let s : ℕ = c.in-Some.opening in
    let opening : opening_of c.args.spans.now.openings.items c.args.at ≡ Some s = sym c.opening_of.ensures.opening ∙ c.in-Some.is in
    let shows = commit-by entry (entry_of c.index-replies-at.result) c.commit_shown.result (commit.Stale c.in-Stale.what c.in-Stale.number) (asked-is replies c.args.at c.index-replies-at.result none c.requires.asked.inside c.index-replies-at.is) c.commit_shown.ensures c.in-Stale.is in
    told-span (λ (t : Span) (its : Commit). top_rule (entries_of replies) entry its) (transaction_of run entry) (opened_at s es) (commit.Stale c.in-Stale.what c.in-Stale.number) (commit_shown entry.reply.said) c.is_highest_read.result
    (transaction-asked replies c.args.spans.now.openings.items c.requires.spans.openings c.args.at c.requires.asked.inside none ∙ ap (option_and_then (λ place. opened_at place es)) opening)
    (c.requires.spans.openings.there c.args.at s opening) shows
    (λ t opened. c.is_highest_read.ensures none)
