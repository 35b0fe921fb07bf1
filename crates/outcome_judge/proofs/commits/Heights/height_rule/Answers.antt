use Rattle.std.proofs.Common.{◌∙◌, ℕ, List, ap}
use Rattle.output_read.specs.Kept.{entries_of, entry_of}
use Rattle.outcome_counts.specs.Asked.{asked_at}
use Rattle.outcome_counts.proofs.Asked.{asked-is}
use Rattle.outcome_spec.specs.Runs.{run_of}
use Rattle.outcome_judge.specs.HistoryKept.{place_in}
use Rattle.outcome_judge.specs.Conflicts.{height_rule, is_highest}
use Rattle.outcome_judge.specs.Writers.{numbers_at}
use Rattle.outcome_judge.specs.declared.keys.Target.{Target}
use Rattle.outcome_judge.proofs.Targets.{row-numbers}
use Rattle.outcome_judge.specs.declared.commits.Transaction.{Transaction}
use Rattle.outcome_judge.specs.declared.conflicts.Shown.TheVariants as shown
use Rattle.outcome_judge.proofs.Whole.{shown-by}
use Rattle.outcome_judge.proofs.commits.Heights.height_rule.Goals as goal

pub returns-in-Refused : goal.returns-in-Refused
returns-in-Refused c = λ none tables span own.
    let replies = c.args.replies.now in
    let entry = asked_at replies c.args.at none in
    let shows = shown-by entry (entry_of c.index-replies-at.result) c.shown_in.result shown.Refused (asked-is replies c.args.at c.index-replies-at.result none c.requires.asked.inside c.index-replies-at.is) c.shown_in.ensures c.in-Refused.is in
    ap (height_rule (run_of tables (entries_of replies)) span (place_in c.args.of) entry) shows

pub returns-in-Session : goal.returns-in-Session
returns-in-Session c = λ none tables span own.
    let replies = c.args.replies.now in
    let entry = asked_at replies c.args.at none in
    let shows = shown-by entry (entry_of c.index-replies-at.result) c.shown_in.result (shown.Session _) (asked-is replies c.args.at c.index-replies-at.result none c.requires.asked.inside c.index-replies-at.is) c.shown_in.ensures c.in-Session.is in
    ap (height_rule (run_of tables (entries_of replies)) span (place_in c.args.of) entry) shows

pub returns-in-Commit : goal.returns-in-Commit
returns-in-Commit c = λ none tables span own.
    let replies = c.args.replies.now in
    let entry = asked_at replies c.args.at none in
    let shows = shown-by entry (entry_of c.index-replies-at.result) c.shown_in.result (shown.Commit c.in-Commit.number) (asked-is replies c.args.at c.index-replies-at.result none c.requires.asked.inside c.index-replies-at.is) c.shown_in.ensures c.in-Commit.is in
    c.is_highest.ensures none
    ∙ ap (λ (of : Target). is_highest (entries_of replies) (numbers_at (entries_of replies) of) entry c.in-Commit.number) c.row_target.ensures
    ∙ ap (λ (ns : List ℕ). is_highest (entries_of replies) ns entry c.in-Commit.number) (row-numbers (entries_of replies) (place_in c.args.of))
    ∙ ap (height_rule (run_of tables (entries_of replies)) span (place_in c.args.of) entry) shows

pub returns-in-Accepted : goal.returns-in-Accepted
returns-in-Accepted c = λ none tables span own.
    let replies = c.args.replies.now in
    let entry = asked_at replies c.args.at none in
    let shows = shown-by entry (entry_of c.index-replies-at.result) c.shown_in.result shown.Accepted (asked-is replies c.args.at c.index-replies-at.result none c.requires.asked.inside c.index-replies-at.is) c.shown_in.ensures c.in-Accepted.is in
    c.passes_no_commit.ensures none tables span (ap (λ (t : Transaction). t.snapshot) own) ∙ ap (height_rule (run_of tables (entries_of replies)) span (place_in c.args.of) entry) shows

pub returns-in-Other : goal.returns-in-Other
returns-in-Other c = λ none tables span own.
    let replies = c.args.replies.now in
    let entry = asked_at replies c.args.at none in
    let shows = shown-by entry (entry_of c.index-replies-at.result) c.shown_in.result shown.Other (asked-is replies c.args.at c.index-replies-at.result none c.requires.asked.inside c.index-replies-at.is) c.shown_in.ensures c.in-Other.is in
    c.passes_no_commit-in-Other.ensures none tables span (ap (λ (t : Transaction). t.snapshot) own) ∙ ap (height_rule (run_of tables (entries_of replies)) span (place_in c.args.of) entry) shows
