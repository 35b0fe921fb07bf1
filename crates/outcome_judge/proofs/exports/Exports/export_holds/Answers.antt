use Rattle.std.proofs.Common.{◌≡◌, ◌∙◌, ◌&&◌, ap, sym, ℤ, Bool, Option, None, Some, true, false, not, refl}
use Rattle.std.specs.Option.{option_map_or}
use Rattle.std.specs.Ordering.{int_eq}
use Rattle.std.specs.Prelude.{is_none, is_some}
use Rattle.outcome_spec.specs.Entries.{Entry, before}
use Rattle.outcome_spec.specs.Runs.{Run, Span, run_of, writes_in}
use Rattle.outcome_spec.specs.Upkeep.{export_reply_holds, exported_table, summary_holds}
use Rattle.isolation_spec.specs.Contents.{least_key}
use Rattle.output_read.specs.Kept.{entries_of}
use Rattle.outcome_counts.specs.Asked.{asked_at}
use Rattle.outcome_counts.proofs.Asked.{asked-is}
use Rattle.outcome_judge.specs.Exports.{export_by}
use Rattle.outcome_judge.specs.declared.exports.Export.TheVariants as export
use Rattle.outcome_judge.proofs.exports.Exports.export_holds.Goals as goal

abbrev judged : Run → Span → Entry → Bool
judged run t entry = option_map_or (λ table. export_reply_holds run t entry table entry.reply.said) (exported_table entry.command) true

none-from : (o : Option ℤ) (b : Bool) → is_some o ≡ not b → is_none o ≡ b
none-from None true h = refl
none-from None false h = absurd (let never : ⊥ = cc in never)
none-from (Some key) true h = absurd (let never : ⊥ = cc in never)
none-from (Some key) false h = refl

pub returns-in-Nothing : goal.returns-in-Nothing
returns-in-Nothing c = λ none t known.
    let replies = c.args.replies.now in
    let run = run_of c.args.self.now.tables.now (entries_of replies) in
    let is = asked-is replies c.args.at c.index-replies-at.result none c.requires.asked.inside c.index-replies-at.is in
    sym (ap (judged run t) (sym is) ∙ c.in-Nothing.ensures run t)

pub returns-then-clean : goal.returns-then-clean
returns-then-clean c = λ none t known.
    let replies = c.args.replies.now in
    let run = run_of c.args.self.now.tables.now (entries_of replies) in
    let entry = asked_at replies c.args.at none in
    let summary = c.in-Done.summary in
    let is = asked-is replies c.args.at c.index-replies-at.result none c.requires.asked.inside c.index-replies-at.is in
    let clean : is_none (least_key c.in-Done.table (writes_in (before t.replies entry))) ≡ true =
    sym (ap (λ (o : Option ℤ). is_none o) (c.least_key.ensures ∙ known.least c.in-Done.table)) ∙ none-from c.least_key.result c.is_none-clean.result c.is_none-clean.ensures ∙ c.if-clean.true in
    c.is_summary-told.ensures none t known.snapshot
    ∙ ap (λ (b : Bool). b && summary_holds run t entry c.in-Done.table summary.number summary.rows summary.batches summary.frozen) (sym clean)
    ∙ ap (λ (e : Entry). export_by run t e (export.Done c.in-Done.table summary)) (sym is)
    ∙ sym (ap (judged run t) (sym is) ∙ c.in-Done.ensures run t)

pub returns-else-clean : goal.returns-else-clean
returns-else-clean c = λ none t known.
    let replies = c.args.replies.now in
    let run = run_of c.args.self.now.tables.now (entries_of replies) in
    let entry = asked_at replies c.args.at none in
    let summary = c.in-Done.summary in
    let is = asked-is replies c.args.at c.index-replies-at.result none c.requires.asked.inside c.index-replies-at.is in
    let clean : is_none (least_key c.in-Done.table (writes_in (before t.replies entry))) ≡ false =
    sym (ap (λ (o : Option ℤ). is_none o) (c.least_key.ensures ∙ known.least c.in-Done.table)) ∙ none-from c.least_key.result c.is_none-clean.result c.is_none-clean.ensures ∙ c.if-clean.false in
    c.if-clean.false
    ∙ ap (λ (b : Bool). b && summary_holds run t entry c.in-Done.table summary.number summary.rows summary.batches summary.frozen) (sym clean)
    ∙ ap (λ (e : Entry). export_by run t e (export.Done c.in-Done.table summary)) (sym is)
    ∙ sym (ap (judged run t) (sym is) ∙ c.in-Done.ensures run t)

pub returns-in-Dirty : goal.returns-in-Dirty
returns-in-Dirty c = λ none t known.
    let replies = c.args.replies.now in
    let run = run_of c.args.self.now.tables.now (entries_of replies) in
    let is = asked-is replies c.args.at c.index-replies-at.result none c.requires.asked.inside c.index-replies-at.is in
    c.is_least.ensures
    ∙ ap (λ (o : Option ℤ). option_map_or (int_eq c.in-Dirty.of.key) o false) (c.least_key-in-Dirty.ensures ∙ known.least c.in-Dirty.of.table)
    ∙ ap (λ (e : Entry). export_by run t e (export.Dirty c.in-Dirty.of)) (sym is)
    ∙ sym (ap (judged run t) (sym is) ∙ c.in-Dirty.ensures run t)
