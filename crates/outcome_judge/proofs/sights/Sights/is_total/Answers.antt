use Rattle.std.proofs.Common.{◌≡◌, ◌∙◌, ap, List, length, take_all, arith}
use Rattle.std.proofs.lemmas.List.{length-map}
use Rattle.cell_model.specs.declared.cell.Cell.{Cell}
use Rattle.isolation_spec.specs.Contents.{State, numbers_between}
use Rattle.outcome_spec.specs.Answers.{is_total_of}
use Rattle.output_read.specs.Kept.{entries_of, entry_of}
use Rattle.outcome_judge.specs.KeyLists.{rows_at}
use Rattle.outcome_judge.specs.Seen.{seen_up_to}
use Rattle.outcome_judge.specs.declared.keys.RowKey.{RowKey}
use Rattle.outcome_judge.proofs.Accepted.{seen-written}
use Rattle.outcome_judge.proofs.KeyLists.{rows-of-table}
use Rattle.outcome_judge.proofs.Seen.{seen-rises}
use Rattle.outcome_judge.proofs.sights.Sights.is_total.Goals as goal

pub returns : goal.returns
returns c =
    let entries = entries_of c.args.replies.now in
    let taken = length c.args.replies.now in
    let seen : State = seen_up_to c.args.openings.now entries taken c.args.opening c.args.at in
    let long : length entries ≡ taken = length-map c.args.replies.now entry_of in
    c.is_total_at.ensures
    ∙ ap (λ (keys : List RowKey). is_total_of c.args.told.count c.args.told.sum (numbers_between c.args.asked.column c.args.asked.low c.args.asked.high (rows_at seen keys))) c.of_table-of_table.ensures
    ∙ ap (λ (rows : List (List Cell)). is_total_of c.args.told.count c.args.told.sum (numbers_between c.args.asked.column c.args.asked.low c.args.asked.high rows))
    (rows-of-table seen c.args.keys.now.keys.items (seen-rises c.args.openings.now entries taken c.args.opening c.args.at) c.requires.keys.rise
    (λ place some. c.requires.keys.all place (seen-written place c.args.openings.now entries c.requires.output taken c.args.opening c.args.at (take_all taken entries (omega (arith, long))) some))
    c.args.asked.table)
