use Rattle.hall_rule.specs.Meaning.{meaning}
use Rattle.hall_rule.proofs.OfParts.{laws_of}
use Rattle.hall_rule.proofs.Turning.{leaves}
use Rattle.std.proofs.Common.{◌∙◌, add-one}
use Rattle.hall_steps.proofs.readers.leave_claim.Goals as goal

pub sub_as-requires-clause-keeps : goal.sub_as-requires-clause-keeps
sub_as-requires-clause-keeps g c κs within =
    let m = g.met.C.Parts in
    let key = c.args.board.now.key in
    let laws = laws_of g.C.Parts m.keeps m.frame m.room m.local m.depends m.leaves m.outlives m.small m.turns m.still key.core.value key.passes in
    let M = meaning g.C.Parts key.core.value key.passes in
    let v = c.args.seat.now.me.0 in
    let r = c.requires in
    rw r.none_out (leaves M laws c.args.board.now.table_id.slots c.args.seat.now.id v c.args.part r.at.live r.at.below (r.claim.0 ∙ add-one c.args.part) r.claim.1)

pub returns-clause-left : goal.returns-clause-left
returns-clause-left g c = let t = c.sub_as.ensures.told in λ i. (t.0 i, t.1 i)

pub returns-clause-found : goal.returns-clause-found
returns-clause-found g c = c.sub_as.ensures.told.2
