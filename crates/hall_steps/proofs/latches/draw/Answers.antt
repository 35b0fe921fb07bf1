use Rattle.hall_rule.specs.Meaning.{meaning}
use Rattle.hall_rule.proofs.Latches.{draws}
use Rattle.hall_rule.proofs.OfParts.{laws_of}
use Rattle.hall_steps.proofs.latches.draw.Goals as goal

pub load_as-requires-clause-keeps : goal.load_as-requires-clause-keeps
load_as-requires-clause-keeps g c κs within =
    let m = g.met.C.Parts in
    let key = c.args.board.now.key in
    let laws = laws_of g.C.Parts m.keeps m.frame m.room m.local m.depends m.leaves m.outlives m.small m.turns m.still key.core.value key.passes in
    let M = meaning g.C.Parts key.core.value key.passes in
    let v = c.args.seat.now.me.0 in
    let r = c.requires in
    rw (r.none_out, c.latch_word.ensures) (draws M laws c.args.board.now.table_id.slots c.args.seat.now.id v c.args.part r.at.live r.at.below r.at.room r.held.0 r.held.1)

pub returns-clause-out : goal.returns-clause-out
returns-clause-out g c = let t = c.load_as.ensures.told.1 in λ i. (t.0 i, t.1 i)
