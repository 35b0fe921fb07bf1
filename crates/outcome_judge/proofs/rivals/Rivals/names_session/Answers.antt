use Rattle.std.proofs.Common.{◌∙◌, ◌<◌, ◌^◌, ℕ, List, ap, sym, subst, nat_lt}
use Rattle.std.specs.List.Sorted.{IsNonDecreasingBy}
use Rattle.workload_spec.specs.declared.reply.Who.TheVariants.{Session}
use Rattle.outcome_spec.specs.Entries.{Entry, is_same}
use Rattle.mark_index.specs.Lists.{marks_at}
use Rattle.mark_index.specs.Marks.{most_below}
use Rattle.mark_index.specs.declared.marks.Peak.{Peak}
use Rattle.output_read.specs.Kept.{entries_of}
use Rattle.outcome_counts.specs.Asked.{asked_at}
use Rattle.outcome_counts.proofs.Asked.{asked-is}
use Rattle.outcome_judge.specs.Rivals.{writer_cmp}
use Rattle.outcome_judge.specs.HistoryKept.{place_in}
use Rattle.outcome_judge.proofs.ConflictsJudged.{names-judged}
use Rattle.outcome_judge.proofs.Tops.{names-own}
use Rattle.outcome_judge.proofs.rivals.Rivals.names_session.Goals as goal

pub returns-then-is_one : goal.returns-then-is_one
returns-then-is_one c = λ none tables t who.
    let replies = c.args.replies.now in
    let reply = c.index-replies-at.result in
    let own = sym c.is_one.ensures ∙ c.if-is_one.true in
    let same = asked-is replies c.args.at reply none c.requires.asked.inside c.index-replies-at.is in
    names-own tables (entries_of replies) t (place_in c.args.of) (asked_at replies c.args.at none) c.args.session who
    (ap (λ (x : Entry). is_same x.reply.who (Session c.args.session)) (sym same) ∙ own)

pub most_below-until-requires : goal.most_below-until-requires
most_below-until-requires c = subst (λ (peaks : List Peak). IsNonDecreasingBy (λ peak. peak.place) peaks) (sym c.at.ensures) (c.requires.held.writers c.writer_at-writer.result).rise

pub returns : goal.returns
returns c = λ none tables t who.
    let replies = c.args.replies.now in
    let reply = c.index-replies-at.result in
    let apart = sym c.is_one.ensures ∙ c.if-is_one.false in
    let small : reply.round < 2 ^ 32 = subst (λ (n : ℕ). n < 2 ^ 32) c.round_of.ensures.round c.round_of.ensures.small in
    ap (λ (n : ℕ). nat_lt n c.most_below-until.result) (c.from.ensures ∙ c.round_of.ensures.round)
    ∙ ap (nat_lt reply.round) (c.most_below-until.ensures ∙ ap (most_below c.args.stretch.now.round_end) (c.at.ensures ∙ ap (marks_at writer_cmp c.args.self.now.writers) c.writer_at-writer.ensures))
    ∙ names-judged replies c.args.at c.args.stretch.now c.requires.asked c.args.self.now c.requires.held reply c.index-replies-at.is small c.args.of c.args.session apart none tables t who
