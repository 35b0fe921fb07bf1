use Rattle.std.proofs.Common.{◌≡◌, ◌∷◌, ◌++◌, [], List, ℤ, map, to_z, of_z, w64, rules, ap, sym, ◌∙◌}
use Rattle.std.proofs.lemmas.List.{map-append}
use Rattle.block_spec.specs.Slots.{Row}
use Rattle.core_parts.specs.declared.first_rows.FirstRow.{FirstRow}
use Rattle.core_parts.specs.FirstRows.{keys_in, rows_at, rows_lent}
use Rattle.std.proofs.Math.Facts.{to_z-of_z}
use Rattle.std.specs.Map.Iter.{deref_pair}
use Rattle.core_parts.proofs.FirstLent.{keys_other, keys_own, rows_other, rows_own}
use Rattle.core_parts.proofs.first_rows.rows_of.Goals as goal

pub loop-place-preserved-in-Continue-1 : goal.loop-place-preserved-in-Continue-1
loop-place-preserved-in-Continue-1 c =
    let k : to_z w64 (of_z w64 c.in-Some.place.now.key) ≡ c.in-Some.place.now.key = to_z-of_z {w = w64} (search rules) in (
      ap rows_lent c.in_ok-push.ensures.items
          ∙ map-append (λ (row : FirstRow). row.row.now) c.loop-place.rows.items _
          ∙ ap (λ (rows : List Row). rows ++ c.in-Some.row.now.now ∷ []) c.loop-place.invariant.0
          ∙ sym (rows_own c.args.table c.loop-place.yielded c.in-Some.place c.in-Some.row c.if-place-table.true),
      ap (map (λ (row : FirstRow). row.key)) c.in_ok-push.ensures.items
          ∙ map-append (λ (row : FirstRow). row.key) c.loop-place.rows.items _
          ∙ ap (λ (keys : List ℤ). keys ++ to_z w64 (of_z w64 c.in-Some.place.now.key) ∷ []) c.loop-place.invariant.1
          ∙ ap (λ (key : ℤ). keys_in c.args.table (rows_at (map deref_pair c.loop-place.yielded)) ++ key ∷ []) k
          ∙ sym (keys_own c.args.table c.loop-place.yielded c.in-Some.place c.in-Some.row c.if-place-table.true),
    )

pub loop-place-preserved : goal.loop-place-preserved
loop-place-preserved c = (
  c.loop-place.invariant.0 ∙ sym (rows_other c.args.table c.loop-place.yielded c.in-Some.place c.in-Some.row c.if-place-table.false),
  c.loop-place.invariant.1 ∙ sym (keys_other c.args.table c.loop-place.yielded c.in-Some.place c.in-Some.row c.if-place-table.false),
)
