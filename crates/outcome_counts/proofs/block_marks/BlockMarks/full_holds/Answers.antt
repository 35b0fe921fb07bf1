use Rattle.std.proofs.Common.{◌∙◌, ap, sym, true}
use Rattle.std.specs.Option.{option_map_or}
use Rattle.outcome_spec.specs.Entries.{Entry}
use Rattle.output_read.specs.Kept.{entries_of}
use Rattle.outcome_counts.specs.Asked.{asked_at}
use Rattle.outcome_counts.specs.Blocks.{is_full}
use Rattle.outcome_counts.specs.Keys.{full_told}
use Rattle.outcome_counts.proofs.Asked.{asked-is, full-by}
use Rattle.outcome_counts.proofs.block_marks.BlockMarks.full_holds.Goals as goal

pub returns-in-Some : goal.returns-in-Some
returns-in-Some c = λ none.
    let replies = c.args.replies.now in
    let entry = asked_at replies c.args.at none in
    let is = asked-is replies c.args.at c.index-replies-at.result none c.requires.asked.inside c.index-replies-at.is in
    let told = ap (λ (e : Entry). full_told e.command e.reply.said) (sym is) ∙ sym c.in-Some.ensures in
    c.is_full.ensures none
    ∙ sym (full-by c.args.tables.now (entries_of replies) entry entry.reply.said
    ∙ ap (λ o. option_map_or (λ table. is_full c.args.tables.now (entries_of replies) table entry) o true) told)
