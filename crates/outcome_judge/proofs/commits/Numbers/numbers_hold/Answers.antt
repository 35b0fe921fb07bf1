use Rattle.std.proofs.Common.{◌∙◌, ap, sym, true, Option}
use Rattle.std.specs.Option.{option_map_or}
use Rattle.std.specs.Prelude.{option_map}
use Rattle.isolation_spec.specs.declared.place.Place.{Place}
use Rattle.output_read.specs.Kept.{entries_of}
use Rattle.outcome_counts.specs.Asked.{asked_at}
use Rattle.outcome_counts.proofs.Asked.{asked-is}
use Rattle.outcome_spec.specs.Entries.{Entry}
use Rattle.outcome_spec.specs.Runs.{Span, run_of, transaction_of, write_of}
use Rattle.outcome_judge.specs.Conflicts.{number_rule, shown_in}
use Rattle.outcome_judge.specs.Written.{place_written}
use Rattle.outcome_judge.specs.HistoryKept.{place_in}
use Rattle.outcome_judge.specs.declared.keys.RowKey.{RowKey}
use Rattle.outcome_judge.proofs.Whole.{both-there, no-transaction}
use Rattle.outcome_judge.proofs.commits.Numbers.numbers_hold.Goals as goal

pub returns-in_default : goal.returns-in_default
returns-in_default c = λ tables none.
    let run = run_of tables (entries_of c.args.replies.now) in
    let entry = asked_at c.args.replies.now c.args.at none in
    no-transaction (λ s. option_map_or (λ write. number_rule run s write.0 entry (shown_in entry.reply.said)) (write_of entry.command) true) (transaction_of run entry) (c.requires.own none tables ∙ c.in_default.is)

pub returns : goal.returns
returns c = λ tables none.
    let replies = c.args.replies.now in
    let entries = entries_of replies in
    let run = run_of tables entries in
    let reply = c.index-replies-at.result in
    let entry = asked_at replies c.args.at none in
    let same = asked-is replies c.args.at reply none c.requires.inside c.index-replies-at.is in
    both-there (λ (s : Span) (place : Place). number_rule run s place entry (shown_in entry.reply.said)) (transaction_of run entry) c.in-Some.t (write_of entry.command) c.in-Some-place_asked.of c.number_rule.result
    (c.requires.own none tables ∙ c.in-Some.is)
    (ap (λ (o : Option RowKey). option_map place_in o) (sym c.in-Some-place_asked.is) ∙ c.place_asked.ensures ∙ ap (λ (e : Entry). place_written e.command) same)
    (λ span is told. c.number_rule.ensures none tables span told)
