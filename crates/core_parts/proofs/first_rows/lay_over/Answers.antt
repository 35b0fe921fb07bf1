use Rattle.std.proofs.Common.{◌≡◌, ◌+◌, ◌∷◌, ◌++◌, [], Option, take, ap, sym, ◌∙◌, arith}
use Rattle.std.specs.Borrow.{Bor}
use Rattle.std.specs.BTreeMap.{BTreeMap, insert_entry}
use Rattle.std.specs.Map.{remove_entry}
use Rattle.std.proofs.lemmas.List.{take_more}
use Rattle.block_spec.specs.Slots.{Row}
use Rattle.core_parts.specs.FirstRows.{rows_at}
use Rattle.core_parts.proofs.FirstLent.{laid_more, lent_insert, lent_remove}
use Rattle.isolation_spec.specs.Contents.{State, is_place, laid_over, place_cmp, with_write}
use Rattle.isolation_spec.specs.declared.place.Place.{Place}
use Rattle.core_parts.proofs.first_rows.lay_over.Goals as goal
use Rattle.core_parts.proofs.first_rows.lay_over.Goals.{in-Some+in_ok-insert-in-Some, in-None}

pub loop-place-preserved : goal.loop-place-preserved
loop-place-preserved c =
    let items = c.as_slice-place-items.result.now in
    let item = c.loop-place-item.result in
    let before = laid_over (rows_at c.args.last.now.entries) (take c.loop-place.place-index items) in
    let took : take (c.loop-place.place-index + 1) items ≡ take c.loop-place.place-index items ++ item ∷ [] =
    take_more items c.loop-place.place-index item (omega arith) ∙ ap (λ x. take c.loop-place.place-index items ++ x ∷ []) (sym c.loop-place-item.is) in
    let next : with_write before item.0 item.1 ≡ laid_over (rows_at c.args.last.now.entries) (take (c.loop-place.place-index + 1) items) =
    sym (laid_more (rows_at c.args.last.now.entries) (take c.loop-place.place-index items) item) ∙ ap (laid_over (rows_at c.args.last.now.entries)) (sym took) in
    elim c.match-left.branch [
      | in-Some+in_ok-insert-in-Some w ↦
          ap (λ (m : BTreeMap Place (Bor Row)). rows_at m.entries) w.last-is
          ∙ ap rows_at w.in_ok-insert-in-Some.ensures.entries
          ∙ lent_insert c.loop-place.last.entries item.0 _
          ∙ ap (λ (rows : State). insert_entry place_cmp rows item.0 w.in-Some.row) c.loop-place.invariant
          ∙ ap (λ (left : Option Row). with_write before item.0 left) (sym w.in-Some.is)
          ∙ next
      | in-None w ↦
          ap (λ (m : BTreeMap Place (Bor Row)). rows_at m.entries) w.last-is
          ∙ ap rows_at w.remove.ensures.entries
          ∙ lent_remove (is_place item.0) c.loop-place.last.entries
          ∙ ap (remove_entry (is_place item.0)) c.loop-place.invariant
          ∙ ap (λ (left : Option Row). with_write before item.0 left) (sym w.in-None.is)
          ∙ next
    ]
