use mir.Syntax.{w64}
use mir.Val.{of_z, to_z}
use Rattle.std.proofs.Common.{◌∙◌, ap, sym, refl, List, ℕ, ℤ, rules}
use Rattle.std.proofs.lemmas.Int.{to_z-of_z}
use Rattle.std.specs.List.{list_all}
use Rattle.isolation_spec.specs.Contents.{place_at}
use Rattle.isolation_spec.specs.declared.read.Read.{Read}
use Rattle.isolation_spec.specs.declared.read.Read.TheVariants as read
use Rattle.output_read.specs.Kept.{entries_of}
use Rattle.outcome_counts.specs.Asked.{asked_at}
use Rattle.outcome_judge.specs.Conflicts.{is_highest}
use Rattle.outcome_judge.specs.HistoryKept.{place_in}
use Rattle.outcome_judge.specs.KeyLists.{keys_between}
use Rattle.outcome_judge.specs.Stale.{numbers_meeting}
use Rattle.outcome_judge.specs.Targets.{row_target, table_target}
use Rattle.outcome_judge.specs.Writers.{numbers_at, numbers_of}
use Rattle.outcome_judge.specs.declared.keys.RowKey.{RowKey}
use Rattle.outcome_judge.specs.declared.keys.Target.{Target}
use Rattle.outcome_judge.proofs.Meetings.{range-highest}
use Rattle.outcome_judge.proofs.Targets.{read-numbers}
use Rattle.outcome_judge.proofs.commits.Heights.is_highest_read.Goals as goal

pub returns-in-Key : goal.returns-in-Key
returns-in-Key c = λ none.
    let entries = entries_of c.args.replies.now in
    let entry = asked_at c.args.replies.now c.args.at none in
    (c.is_highest.ensures none)
    ∙ ap (λ (of : Target). is_highest entries (numbers_at entries of) entry c.args.number) (c.key_target.ensures ∙ ap (λ (k : ℤ). row_target (place_at c.in-Key.table k)) (to_z-of_z w64 c.in-Key.key (search rules)))
    ∙ ap (λ (ns : List ℕ). is_highest entries ns entry c.args.number) (read-numbers entries (read.Key c.in-Key.table c.in-Key.key) (row_target (place_at c.in-Key.table c.in-Key.key)) refl)
    ∙ ap (λ (what : Read). is_highest entries (numbers_meeting entries what) entry c.args.number) (sym c.in-Key.is)

pub returns-in-Table : goal.returns-in-Table
returns-in-Table c = λ none.
    let entries = entries_of c.args.replies.now in
    let entry = asked_at c.args.replies.now c.args.at none in
    (c.is_highest-in-Table.ensures none)
    ∙ ap (λ (of : Target). is_highest entries (numbers_at entries of) entry c.args.number) c.table_target.ensures
    ∙ ap (λ (ns : List ℕ). is_highest entries ns entry c.args.number) (read-numbers entries (read.Table c.in-Table.table) (table_target c.in-Table.table) refl)
    ∙ ap (λ (what : Read). is_highest entries (numbers_meeting entries what) entry c.args.number) (sym c.in-Table.is)

pub returns-in-Range : goal.returns-in-Range
returns-in-Range c = λ none.
    let entries = entries_of c.args.replies.now in
    let entry = asked_at c.args.replies.now c.args.at none in
    (c.are_highest.ensures none)
    ∙ ap (λ (keys : List RowKey). list_all (λ of. is_highest entries (numbers_of entries (place_in of)) entry c.args.number) keys)
    (c.between-keys.ensures
    ∙ ap (λ (k : ℤ). keys_between c.in-Range.table k (to_z w64 (of_z w64 c.in-Range.high)) c.args.keys.now.keys.items) (to_z-of_z w64 c.in-Range.low (search rules))
    ∙ ap (λ (k : ℤ). keys_between c.in-Range.table c.in-Range.low k c.args.keys.now.keys.items) (to_z-of_z w64 c.in-Range.high (search rules)))
    ∙ sym (range-highest c.in-Range.table c.in-Range.low c.in-Range.high c.args.keys.now.keys.items entries c.requires.keys.all entry c.args.number)
    ∙ ap (λ (what : Read). is_highest entries (numbers_meeting entries what) entry c.args.number) (sym c.in-Range.is)
