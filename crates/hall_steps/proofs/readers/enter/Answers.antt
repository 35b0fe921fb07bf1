use Rattle.hall_rule.specs.Meaning.{meaning}
use Rattle.hall_rule.proofs.OfParts.{laws_of}
use Rattle.hall_rule.proofs.Turning.{enters}
use Rattle.hall_steps.proofs.readers.enter.Goals as goal

pub add_as-requires-clause-keeps : goal.add_as-requires-clause-keeps
add_as-requires-clause-keeps g c κs within =
    let m = g.met.C.Parts in
    let key = c.args.board.now.key in
    let laws = laws_of g.C.Parts m.keeps m.frame m.room m.local m.depends m.leaves m.outlives m.small m.turns m.still key.core.value key.passes in
    let M = meaning g.C.Parts key.core.value key.passes in
    let v = c.args.seat.now.me.0 in
    let r = c.requires in
    rw r.none_out (enters M laws c.args.board.now.table_id.slots c.args.seat.now.id v c.args.part r.at.live r.at.below r.free.0 r.free.1 r.hand)

pub returns-clause-entered : goal.returns-clause-entered
returns-clause-entered g c = let t = c.add_as.ensures.told in λ i. (t.view i, t.none_out i)

pub returns-clause-worn : goal.returns-clause-worn
returns-clause-worn g c = c.add_as.ensures.told.worn
