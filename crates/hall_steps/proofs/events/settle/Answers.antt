use Rattle.std.proofs.Common.{refl}
use Rattle.hall_rule.specs.Meaning.{meaning}
use Rattle.hall_rule.proofs.OfParts.{laws_of}
use Rattle.hall_steps.proofs.Knowing.{settled_pass}
use Rattle.hall_steps.proofs.events.settle.Goals as goal

pub returns-else-turns-clause-pass : goal.returns-else-turns-clause-pass
returns-else-turns-clause-pass g c =
    let m = g.met.C.Parts in
    let key = c.args.board.now.key in
    let M = meaning g.C.Parts key.core.value key.passes in
    let laws = laws_of g.C.Parts m.keeps m.frame m.room m.local m.depends m.leaves m.outlives m.small m.turns m.still key.core.value key.passes in
    let r = c.requires in
    let seat = c.args.seat.now in
    settled_pass M laws c.args.board.now.table_id seat seat c.args.hand.now r.table r.knows refl refl r.knows.none_out refl refl r.drained (r.still c.if-turns.false)
