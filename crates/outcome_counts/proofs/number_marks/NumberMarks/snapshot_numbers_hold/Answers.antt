use Rattle.std.proofs.Common.{◌∙◌, ap, sym, true}
use Rattle.std.specs.Option.{option_map_or}
use Rattle.outcome_spec.specs.Entries.{Entry, snapshot_in}
use Rattle.output_read.specs.Kept.{entries_of}
use Rattle.outcome_counts.specs.Asked.{asked_at}
use Rattle.outcome_counts.specs.Numbers.{is_snapshot}
use Rattle.outcome_counts.proofs.Asked.{asked-is}
use Rattle.outcome_counts.proofs.Shown.{snapshot-by}
use Rattle.outcome_counts.proofs.number_marks.NumberMarks.snapshot_numbers_hold.Goals as goal

pub returns-in-Some : goal.returns-in-Some
returns-in-Some c = λ tables none.
    let replies = c.args.replies.now in
    let entry = asked_at replies c.args.at none in
    let is = asked-is replies c.args.at c.index-replies-at.result none c.requires.asked.inside c.index-replies-at.is in
    let told = ap (λ (e : Entry). snapshot_in e.reply.said) (sym is) ∙ sym c.in-Some.ensures in
    c.is_snapshot.ensures none
    ∙ sym (snapshot-by tables (entries_of replies) entry entry.reply.said
    ∙ ap (λ o. option_map_or (λ number. is_snapshot (entries_of replies) number entry) o true) told)
