use Rattle.std.proofs.Common.{◌≡◌, ℤ, rules, not, to_z, of_z, w64, ap, ◌∙◌}
use Rattle.std.proofs.Math.Facts.{to_z-of_z}
use Rattle.core_parts.specs.Hands.{after}
use Rattle.core_events.proofs.Puts.{none_by, on_ok, slot_kept}
use Rattle.core_events.specs.Puts.{put_changes}
use Rattle.core_events.proofs.inserts.put.Goals as goal

pub put_next-requires-clause-fresh : goal.put_next-requires-clause-fresh
put_next-requires-clause-fresh c = none_by c.args.own.now.written (c.is_none.ensures ∙ ap not c.if-is_none.true)

pub returns-clause-ok : goal.returns-clause-ok
returns-clause-ok c = let key : to_z w64 (of_z w64 c.args.key) ≡ c.args.key = to_z-of_z {w = w64} (search rules) in let k = to_z w64 (of_z w64 c.args.key) in
    on_ok c.put_row.result _ _ c.put_row.ensures.ok (λ is.
    slot_kept c.args.shape.now c.args.held.now c.put_row.new.held c.args.own.now c.args.table k c.args.place c.args.row (c.is_none.ensures ∙ ap not c.if-is_none.false) is
    ∙ ap (λ (k : ℤ). after c.args.shape.now (put_changes c.args.shape.now c.args.own.now c.args.table k c.args.place c.args.row) c.args.held.now) key)

pub returns-then-is_none-clause-ok : goal.returns-then-is_none-clause-ok
returns-then-is_none-clause-ok c =
    let key : to_z w64 (of_z w64 c.args.key) ≡ c.args.key = to_z-of_z {w = w64} (search rules) in
    on_ok c.put_next.result _ _ c.put_next.ensures.ok (λ is.
    is ∙ ap (λ (k : ℤ). after c.args.shape.now (put_changes c.args.shape.now c.args.own.now c.args.table k c.args.place c.args.row) c.args.held.now) key)
