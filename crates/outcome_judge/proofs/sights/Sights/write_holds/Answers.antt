use Rattle.std.proofs.Common.{◌∙◌, ap, sym, not, Bool}
use Rattle.outcome_spec.specs.Answers.{is_acceptable, write_holds}
use Rattle.outcome_spec.specs.Entries.{Entry}
use Rattle.output_read.specs.Kept.{entries_of}
use Rattle.outcome_counts.specs.Asked.{asked_at}
use Rattle.outcome_counts.proofs.Asked.{asked-is}
use Rattle.outcome_judge.specs.ReadsJudged.{as_wanted}
use Rattle.outcome_judge.specs.Seen.{seen_up_to}
use Rattle.std.specs.Prelude.{length}
use Rattle.outcome_judge.proofs.sights.Sights.write_holds.Goals as goal

pub returns-in-None : goal.returns-in-None
returns-in-None c = λ none.
    let replies = c.args.replies.now in
    let entry = asked_at replies c.args.at none in
    let is = asked-is replies c.args.at c.index-replies-at.result none c.requires.inside c.index-replies-at.is in
    let acceptable = is_acceptable (seen_up_to c.args.openings.now (entries_of replies) (length replies) c.args.opening c.args.at) entry.command in
    sym (ap (λ (e : Entry). write_holds acceptable e.reply.said) (sym is) ∙ c.in-None.ensures acceptable)

pub returns-then-wanted : goal.returns-then-wanted
returns-then-wanted c = λ none.
    let replies = c.args.replies.now in
    let entry = asked_at replies c.args.at none in
    let is = asked-is replies c.args.at c.index-replies-at.result none c.requires.inside c.index-replies-at.is in
    let acceptable = is_acceptable (seen_up_to c.args.openings.now (entries_of replies) (length replies) c.args.opening c.args.at) entry.command in
    c.is_acceptable-acceptable.ensures none
    ∙ sym (ap (λ (e : Entry). write_holds acceptable e.reply.said) (sym is) ∙ c.in-Some.ensures acceptable ∙ ap (λ (w : Bool). as_wanted w acceptable) c.if-wanted.true)

pub returns-else-wanted : goal.returns-else-wanted
returns-else-wanted c = λ none.
    let replies = c.args.replies.now in
    let entry = asked_at replies c.args.at none in
    let is = asked-is replies c.args.at c.index-replies-at.result none c.requires.inside c.index-replies-at.is in
    let acceptable = is_acceptable (seen_up_to c.args.openings.now (entries_of replies) (length replies) c.args.opening c.args.at) entry.command in
    ap not (c.is_acceptable-acceptable.ensures none)
    ∙ sym (ap (λ (e : Entry). write_holds acceptable e.reply.said) (sym is) ∙ c.in-Some.ensures acceptable ∙ ap (λ (w : Bool). as_wanted w acceptable) c.if-wanted.false)
