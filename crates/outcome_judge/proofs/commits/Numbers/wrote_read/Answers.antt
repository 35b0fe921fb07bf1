use mir.Syntax.{w64}
use mir.Val.{of_z, to_z}
use Rattle.std.proofs.Common.{◌∙◌, ap, sym, refl, List, ℕ, ℤ, rules}
use Rattle.std.proofs.lemmas.Int.{to_z-of_z}
use Rattle.std.specs.List.{list_any}
use Rattle.isolation_spec.specs.Contents.{place_at}
use Rattle.isolation_spec.specs.declared.read.Read.{Read}
use Rattle.isolation_spec.specs.declared.read.Read.TheVariants as read
use Rattle.output_read.specs.Kept.{entries_of}
use Rattle.outcome_judge.specs.HistoryKept.{place_in}
use Rattle.outcome_judge.specs.KeyLists.{keys_between}
use Rattle.outcome_judge.specs.Stale.{numbers_meeting}
use Rattle.outcome_judge.specs.Targets.{row_target, table_target}
use Rattle.outcome_judge.specs.Writers.{is_number_in, numbers_at, numbers_of}
use Rattle.outcome_judge.specs.declared.keys.RowKey.{RowKey}
use Rattle.outcome_judge.specs.declared.keys.Target.{Target}
use Rattle.outcome_judge.proofs.Meetings.{range-number}
use Rattle.outcome_judge.proofs.Targets.{read-numbers}
use Rattle.outcome_judge.proofs.commits.Numbers.wrote_read.Goals as goal

pub returns-in-Key : goal.returns-in-Key
returns-in-Key c =
    let entries = entries_of c.args.replies.now in
    c.wrote.ensures
    ∙ ap (λ (of : Target). is_number_in (numbers_at entries of) c.args.number) (c.key_target.ensures ∙ ap (λ (k : ℤ). row_target (place_at c.in-Key.table k)) (to_z-of_z w64 c.in-Key.key (search rules)))
    ∙ ap (λ (ns : List ℕ). is_number_in ns c.args.number) (read-numbers entries (read.Key c.in-Key.table c.in-Key.key) (row_target (place_at c.in-Key.table c.in-Key.key)) refl)
    ∙ ap (λ (what : Read). is_number_in (numbers_meeting entries what) c.args.number) (sym c.in-Key.is)

pub returns-in-Table : goal.returns-in-Table
returns-in-Table c =
    let entries = entries_of c.args.replies.now in
    c.wrote-in-Table.ensures
    ∙ ap (λ (of : Target). is_number_in (numbers_at entries of) c.args.number) c.table_target.ensures
    ∙ ap (λ (ns : List ℕ). is_number_in ns c.args.number) (read-numbers entries (read.Table c.in-Table.table) (table_target c.in-Table.table) refl)
    ∙ ap (λ (what : Read). is_number_in (numbers_meeting entries what) c.args.number) (sym c.in-Table.is)

pub returns-in-Range : goal.returns-in-Range
returns-in-Range c =
    let entries = entries_of c.args.replies.now in
    c.wrote_one.ensures
    ∙ ap (λ (keys : List RowKey). list_any (λ of. is_number_in (numbers_of entries (place_in of)) c.args.number) keys)
    (c.between.ensures
    ∙ ap (λ (k : ℤ). keys_between c.in-Range.table k (to_z w64 (of_z w64 c.in-Range.high)) c.args.keys.now.keys.items) (to_z-of_z w64 c.in-Range.low (search rules))
    ∙ ap (λ (k : ℤ). keys_between c.in-Range.table c.in-Range.low k c.args.keys.now.keys.items) (to_z-of_z w64 c.in-Range.high (search rules)))
    ∙ sym (range-number c.in-Range.table c.in-Range.low c.in-Range.high c.args.keys.now.keys.items entries c.requires.keys.all c.args.number)
    ∙ ap (λ (what : Read). is_number_in (numbers_meeting entries what) c.args.number) (sym c.in-Range.is)
