use Rattle.std.proofs.Common.{◌∙◌, ap}
use Rattle.output_read.specs.Kept.{entries_of, entry_of}
use Rattle.outcome_counts.specs.Asked.{asked_at}
use Rattle.outcome_counts.proofs.Asked.{asked-is}
use Rattle.outcome_spec.specs.Runs.{run_of}
use Rattle.outcome_judge.specs.HistoryKept.{place_in}
use Rattle.outcome_judge.specs.Conflicts.{session_rule}
use Rattle.outcome_judge.specs.declared.conflicts.Shown.TheVariants as shown
use Rattle.outcome_judge.proofs.Whole.{shown-by}
use Rattle.outcome_judge.proofs.rivals.Rivals.session_rule.Goals as goal

pub returns-in-Refused : goal.returns-in-Refused
returns-in-Refused c = λ none tables span who.
    let replies = c.args.replies.now in
    let entry = asked_at replies c.args.at none in
    let shows = shown-by entry (entry_of c.index-replies-at.result) c.shown_in.result shown.Refused (asked-is replies c.args.at c.index-replies-at.result none c.requires.asked.inside c.index-replies-at.is) c.shown_in.ensures c.in-Refused.is in
    ap (session_rule (run_of tables (entries_of replies)) span (place_in c.args.of) entry) shows

pub returns-in-Session : goal.returns-in-Session
returns-in-Session c = λ none tables span who.
    let replies = c.args.replies.now in
    let entry = asked_at replies c.args.at none in
    let shows = shown-by entry (entry_of c.index-replies-at.result) c.shown_in.result (shown.Session c.in-Session.session) (asked-is replies c.args.at c.index-replies-at.result none c.requires.asked.inside c.index-replies-at.is) c.shown_in.ensures c.in-Session.is in
    c.names_session.ensures none tables span who ∙ ap (session_rule (run_of tables (entries_of replies)) span (place_in c.args.of) entry) shows

pub returns-in-Commit : goal.returns-in-Commit
returns-in-Commit c = λ none tables span who.
    let replies = c.args.replies.now in
    let entry = asked_at replies c.args.at none in
    let shows = shown-by entry (entry_of c.index-replies-at.result) c.shown_in.result (shown.Commit _) (asked-is replies c.args.at c.index-replies-at.result none c.requires.asked.inside c.index-replies-at.is) c.shown_in.ensures c.in-Commit.is in
    c.passes_no_session.ensures none tables span who ∙ ap (session_rule (run_of tables (entries_of replies)) span (place_in c.args.of) entry) shows

pub returns-in-Accepted : goal.returns-in-Accepted
returns-in-Accepted c = λ none tables span who.
    let replies = c.args.replies.now in
    let entry = asked_at replies c.args.at none in
    let shows = shown-by entry (entry_of c.index-replies-at.result) c.shown_in.result shown.Accepted (asked-is replies c.args.at c.index-replies-at.result none c.requires.asked.inside c.index-replies-at.is) c.shown_in.ensures c.in-Accepted.is in
    c.passes_no_session-in-Accepted.ensures none tables span who ∙ ap (session_rule (run_of tables (entries_of replies)) span (place_in c.args.of) entry) shows

pub returns-in-Other : goal.returns-in-Other
returns-in-Other c = λ none tables span who.
    let replies = c.args.replies.now in
    let entry = asked_at replies c.args.at none in
    let shows = shown-by entry (entry_of c.index-replies-at.result) c.shown_in.result shown.Other (asked-is replies c.args.at c.index-replies-at.result none c.requires.asked.inside c.index-replies-at.is) c.shown_in.ensures c.in-Other.is in
    c.passes_no_session-in-Other.ensures none tables span who ∙ ap (session_rule (run_of tables (entries_of replies)) span (place_in c.args.of) entry) shows
