use Rattle.std.proofs.Common.{arith, refl}
use Rattle.event_spec.specs.Parts.{TheDesk}
use Rattle.shared_store.proofs.Marking.{one_marked}
use Rattle.shared_store.proofs.taking.mark_desk.Goals as goal

pub returns : goal.returns
returns c = one_marked c.args.shape.now TheDesk c.desk-number.result c.args.marks.now _ c.desk-number.ensures.number
    (let l = c.desk-number.ensures.last in let r = c.requires in omega (arith, l, r)) refl
