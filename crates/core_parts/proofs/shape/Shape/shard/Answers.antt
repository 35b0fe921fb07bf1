use Rattle.std.proofs.Common.{◌+◌, ◌*◌, ◌<◌, length, ap, ◌∙◌, sym, arith, subst}
use Rattle.std.specs.Prelude.{slice_get}
use Rattle.core_parts.proofs.Numbering.{heads_low, shard_at_number}
use Rattle.event_spec.specs.Parts.{Shape, names}
use Rattle.core_parts.proofs.shape.Shape.shard.Goals as goal

pub overflow_cast-result : goal.overflow_cast-result
overflow_cast-result c = let low = heads_low (record { tables = c.self.inside.tables.items; passes = c.self.inside.passes; first = c.self.inside.first.value }) c.self.inside.bodies.items c.self.inside.desk c.self.invariant.0 in let same = ap length c.as_slice.ensures.value in let few = c.self.invariant.0.few in omega (arith, low, same, few)

pub overflow_mul-result : goal.overflow_mul-result
overflow_mul-result c =
    let low = heads_low (record { tables = c.self.inside.tables.items; passes = c.self.inside.passes; first = c.self.inside.first.value }) c.self.inside.bodies.items c.self.inside.desk c.self.invariant.0 in
    let less = subst (λ (sh : Shape). c.args.table < length sh.tables) (sym c.self.view_is) c.requires.table in let same = ap length c.as_slice.ensures.value in let few = c.self.invariant.0.few in omega (arith, low, less, same, few)

pub overflow_add-result : goal.overflow_add-result
overflow_add-result c =
    let low = heads_low (record { tables = c.self.inside.tables.items; passes = c.self.inside.passes; first = c.self.inside.first.value }) c.self.inside.bodies.items c.self.inside.desk c.self.invariant.0 in
    let small = c.requires.shard in
    let less = subst (λ (sh : Shape). c.args.table < length sh.tables) (sym c.self.view_is) c.requires.table in let same = ap length c.as_slice.ensures.value in let few = c.self.invariant.0.few in omega (arith, low, less, small, same, few)

pub overflow_add-result-2 : goal.overflow_add-result-2
overflow_add-result-2 c =
    let low = heads_low (record { tables = c.self.inside.tables.items; passes = c.self.inside.passes; first = c.self.inside.first.value }) c.self.inside.bodies.items c.self.inside.desk c.self.invariant.0 in
    let small = c.requires.shard in
    let less = subst (λ (sh : Shape). c.args.table < length sh.tables) (sym c.self.view_is) c.requires.table in let same = ap length c.as_slice.ensures.value in let few = c.self.invariant.0.few in omega (arith, low, less, small, same, few)

pub returns : goal.returns
returns c = ap (λ n. slice_get (names c.args.self.now) (n + (8 * c.args.table + c.args.shard))) (ap length c.as_slice.ensures.value ∙ ap (λ (sh : Shape). length sh.tables) c.self.view_is)
    ∙ (shard_at_number c.args.self.now c.args.table c.args.shard c.requires.table c.requires.shard)
