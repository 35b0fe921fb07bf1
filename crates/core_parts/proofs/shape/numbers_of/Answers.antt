use Rattle.std.proofs.Common.{◌+◌, ◌*◌, length, arith, refl, ◌++◌, ap, drop, ◌∙◌}
use Rattle.core_parts.proofs.Numbering.{counted, counted_all, counted_below, from_below, read_there}
use Rattle.core_parts.specs.Numbers.{first_bodies, after_bodies}
use Rattle.core_parts.proofs.shape.numbers_of.Goals as goal

pub overflow_cast-next : goal.overflow_cast-next
overflow_cast-next c = let r = from_below (9 * length c.args.tables.now) c.args.tables.now in let q = c.requires in omega (arith, r, q)

pub overflow_mul-next : goal.overflow_mul-next
overflow_mul-next c = let r = from_below (9 * length c.args.tables.now) c.args.tables.now in let q = c.requires in omega (arith, r, q)

pub loop-table-init : goal.loop-table-init
loop-table-init c = (ap (λ xs. xs ++ first_bodies (9 * length c.args.tables.now) c.args.tables.now) c.in_ok-bodies.ensures.items, refl)

pub overflow_add-next : goal.overflow_add-next
overflow_add-next c = let r = counted_below c.args.tables.now c.loop-table.next (after_bodies (9 * length c.args.tables.now) c.args.tables.now) c.loop-table.table-index c.table-item.result (read_there c.args.tables.now c.loop-table.table-index c.table-item.result (omega arith) c.table-item.is) c.loop-table.invariant.1 in let q = c.requires in omega (arith, r, q)

pub loop-table-preserved : goal.loop-table-preserved
loop-table-preserved c =
    let r = counted c.args.tables.now c.loop-table.bodies.items (first_bodies (9 * length c.args.tables.now) c.args.tables.now) c.loop-table.next (after_bodies (9 * length c.args.tables.now) c.args.tables.now) c.loop-table.table-index c.table-item.result
    (read_there c.args.tables.now c.loop-table.table-index c.table-item.result (omega arith) c.table-item.is) c.loop-table.invariant in
    (ap (λ xs. xs ++ first_bodies (c.loop-table.next + c.table-item.result.blocks) (drop (c.loop-table.table-index + 1) c.args.tables.now)) c.in_ok-push.ensures.items ∙ r.0, r.1)

pub returns : goal.returns
returns c = let r = counted_all c.args.tables.now c.loop-table.bodies.items (first_bodies (9 * length c.args.tables.now) c.args.tables.now) c.loop-table.next (after_bodies (9 * length c.args.tables.now) c.args.tables.now) c.loop-table.table-index (omega arith) c.loop-table.invariant in record { bodies_are = r.0; desk_is = r.1; few = omega arith }
