use Rattle.std.proofs.Common.{◌<◌, List, None, Option, get_or, sym, subst}
use Rattle.std.specs.Prelude.{IsSome}
use Rattle.block_columns.specs.Images.{FormValue, IsFormOf}
use Rattle.block_spec.specs.Bodies.{rows_of}
use Rattle.block_spec.specs.Slots.{Row}
use Rattle.cell_model.specs.declared.column.Column.{Column}
use Rattle.core_events.proofs.Frozen.{whole_same}
use Rattle.core_parts.proofs.Front.{form_whole, front_held}
use Rattle.core_events.proofs.freezing.freeze.Goals as goal
use Rattle.core_events.proofs.freezing.freeze.Goals.{in-Some, in-None+in_ok-form-in-None}

pub gather_in_turn-requires-clause-held : goal.gather_in_turn-requires-clause-held
gather_in_turn-requires-clause-held c = λ slot less.
    subst (λ (l : List (Option Row)). IsSome (get_or l slot None)) (sym c.columns-in-None.ensures.rows)
    (front_held c.args.body.now.slots c.requires.front slot (subst (λ n. slot < n) c.rows.ensures less))

pub freeze-requires-clause-whole : goal.freeze-requires-clause-whole
freeze-requires-clause-whole c = elim c.match-into_form_of.branch [
  | in-Some w ↦
      let x = c.args.body.now in
      let told : IsFormOf x.columns (rows_of x) w.in-Some.form =
      subst (λ (columns : List Column). IsFormOf columns (rows_of x) w.in-Some.form) c.columns.ensures.columns
      (subst (λ (rows : List Row). IsFormOf c.columns.result.now.columns rows w.in-Some.form) c.requires.rows w.in-Some.ensures) in
      form_whole x.columns x.slots c.requires.front c.match-into_form_of.form
      (subst (λ (f : FormValue). IsFormOf x.columns (rows_of x) f) (sym w.form-is) told)
  | in-None+in_ok-form-in-None w ↦
      whole_same _ _ _ _ _ _ _ _ w.columns-in-None.ensures.columns w.columns-in-None.ensures.rows w.rows.ensures
      (sym w.form-is) w.in_ok-form-in-None.ensures.whole
]
