use Rattle.std.proofs.Common.{◌||◌, ◌==◌, ◌∷◌, ℕ, [], map, sym, ap, ◌∙◌}
use Rattle.std.proofs.lemmas.List.{map-append}
use Rattle.std.specs.Map.Iter.{deref_pair}
use Rattle.core_parts.proofs.Marks.{has, marks_more, told}
use Rattle.core_sweeps.proofs.Rolling.{any_more}
use Rattle.event_spec.specs.Effects.{writes_table}
use Rattle.isolation_spec.specs.Contents.{PlaceMap}
use Rattle.isolation_spec.specs.declared.place.Place.{Place}
use Rattle.core_sweeps.proofs.committing.tables_written.Goals as goal

pub loop-row-init : goal.loop-row-init
loop-row-init c = λ table few. told c.none-tables.result table few ∙ ap (has table) c.none-tables.ensures

pub loop-row-preserved : goal.loop-row-preserved
loop-row-preserved c = λ table few.
    marks_more c.loop-row.tables c.mark.new.self c.in-Some.row.now.table table few c.mark.ensures
    ∙ ap (λ b. b || c.in-Some.row.now.table == table) (c.loop-row.invariant table few)
    ∙ sym (any_more (λ (write : Place × ℕ). write.0.table == table) (map deref_pair c.loop-row.yielded) (deref_pair (c.in-Some.row, c.in-Some.field-0-1)))
    ∙ sym (ap (λ (ws : PlaceMap ℕ). writes_table ws table) (map-append deref_pair c.loop-row.yielded ((c.in-Some.row, c.in-Some.field-0-1) ∷ [])))
