use Rattle.std.proofs.Common.{◌∙◌, ap, sym}
use Rattle.std.specs.Option.{option_map_or}
use Rattle.outcome_spec.specs.Entries.{Entry}
use Rattle.outcome_spec.specs.Runs.{run_of}
use Rattle.outcome_spec.specs.Upkeep.{prune_holds, pruned_in}
use Rattle.output_read.specs.Kept.{entries_of}
use Rattle.outcome_counts.specs.Asked.{asked_at}
use Rattle.outcome_counts.proofs.Asked.{asked-is}
use Rattle.outcome_counts.proofs.Upkeep.{upkeep-told, block_by}
use Rattle.outcome_counts.proofs.prunes.Prunes.upkeep_holds.Goals as goal

pub returns-in-Some : goal.returns-in-Some
returns-in-Some c = λ none.
    let replies = c.args.replies.now in
    let run = run_of c.args.tables.now (entries_of replies) in
    let entry = asked_at replies c.args.at none in
    let is = asked-is replies c.args.at c.index-replies-at.result none c.requires.asked.inside c.index-replies-at.is in
    let told = ap (λ (e : Entry). pruned_in e.reply.said) (sym is) ∙ sym c.in-Some.ensures in
    c.may_prune.ensures c.args.tables.now none
    ∙ sym (upkeep-told run entry entry.reply.said ∙ ap (λ o. option_map_or (prune_holds run entry) o (block_by run.tables run.entries entry entry.reply.said)) told)

pub returns-in-None : goal.returns-in-None
returns-in-None c = λ none.
    let replies = c.args.replies.now in
    let run = run_of c.args.tables.now (entries_of replies) in
    let entry = asked_at replies c.args.at none in
    let is = asked-is replies c.args.at c.index-replies-at.result none c.requires.asked.inside c.index-replies-at.is in
    let told = ap (λ (e : Entry). pruned_in e.reply.said) (sym is) ∙ sym c.in-None.ensures in
    c.block_upkeep_holds.ensures none
    ∙ sym (upkeep-told run entry entry.reply.said ∙ ap (λ o. option_map_or (prune_holds run entry) o (block_by run.tables run.entries entry entry.reply.said)) told)
