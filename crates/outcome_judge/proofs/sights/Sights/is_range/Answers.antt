use mir.Syntax.{w64}
use mir.Val.{of_z, to_z}
use Rattle.std.proofs.Common.{◌≡◌, ◌∙◌, ap, List, ℤ, length, take_all, arith, rules}
use Rattle.std.specs.Cmp.Lexicographic.{pointwise}
use Rattle.std.proofs.lemmas.Int.{to_z-of_z}
use Rattle.std.proofs.lemmas.List.{length-map}
use Rattle.isolation_spec.specs.Contents.{State}
use Rattle.outcome_spec.specs.Answers.{is_row}
use Rattle.output_read.specs.Kept.{entries_of, entry_of}
use Rattle.outcome_judge.specs.KeyLists.{keys_between, rows_at}
use Rattle.outcome_judge.specs.Seen.{seen_up_to}
use Rattle.outcome_judge.specs.declared.keys.RowKey.{RowKey}
use Rattle.outcome_judge.proofs.Accepted.{seen-written}
use Rattle.outcome_judge.proofs.KeyLists.{rows-between}
use Rattle.outcome_judge.proofs.Seen.{seen-rises}
use Rattle.outcome_judge.proofs.sights.Sights.is_range.Goals as goal

pub returns : goal.returns
returns c =
    let entries = entries_of c.args.replies.now in
    let taken = length c.args.replies.now in
    let seen : State = seen_up_to c.args.openings.now entries taken c.args.opening c.args.at in
    let long : length entries ≡ taken = length-map c.args.replies.now entry_of in
    let table = c.args.range.table in
    let keys : List RowKey = c.args.keys.now.keys.items in
    c.are_rows_at.ensures
    ∙ ap (λ (ks : List RowKey). pointwise is_row c.args.rows.now (rows_at seen ks))
    (c.between-between.ensures
    ∙ ap (λ (k : ℤ). keys_between table k (to_z w64 (of_z w64 c.args.range.high)) keys) (to_z-of_z w64 c.args.range.low (search rules))
    ∙ ap (λ (k : ℤ). keys_between table c.args.range.low k keys) (to_z-of_z w64 c.args.range.high (search rules)))
    ∙ ap (pointwise is_row c.args.rows.now)
    (rows-between seen keys (seen-rises c.args.openings.now entries taken c.args.opening c.args.at) c.requires.keys.rise
    (λ place some. c.requires.keys.all place (seen-written place c.args.openings.now entries c.requires.output taken c.args.opening c.args.at (take_all taken entries (omega (arith, long))) some))
    table c.args.range.low c.args.range.high)
