use Rattle.std.proofs.Common.{arith}
use Rattle.core_parts.proofs.Nexts.{found, high, none}
use Rattle.core_parts.proofs.touching.next_touched.Goals as goal

pub returns-in-Some : goal.returns-in-Some
returns-in-Some c =
    found c.args.shape.now c.args.held.now c.args.event.now c.offer_touched.ensures.keyed c.args.from c.offer_touched.new.least c.offer_touched.ensures.offered c.in-Some.part c.in-Some.is
    (let l = c.len.ensures in let f = c.if-part-len.true in omega (arith, l, f))

pub returns-in_default : goal.returns-in_default
returns-in_default c =
    high c.args.shape.now c.args.held.now c.args.event.now c.offer_touched.ensures.keyed c.args.from c.offer_touched.new.least c.offer_touched.ensures.offered c.in-Some.part c.in-Some.is
    (let l = c.len.ensures in let f = c.if-part-len.false in omega (arith, l, f))

pub returns-in_default-2 : goal.returns-in_default-2
returns-in_default-2 c =
    none c.args.shape.now c.args.held.now c.args.event.now c.offer_touched.ensures.keyed c.args.from c.offer_touched.new.least c.offer_touched.ensures.offered c.in_default.is
