use Rattle.std.proofs.Common.{sym, ◌∙◌}
use Rattle.hall_rule.specs.Meaning.{meaning}
use Rattle.hall_rule.proofs.OfParts.{laws_of}
use Rattle.hall_rule.proofs.Turning.{reads}
use Rattle.hall_steps.proofs.words.see_head.Goals as goal

pub look_as-requires-clause-keeps : goal.look_as-requires-clause-keeps
look_as-requires-clause-keeps g c κs within =
    let m = g.met.C.Parts in
    let key = c.args.board.now.key in
    let laws = laws_of g.C.Parts m.keeps m.frame m.room m.local m.depends m.leaves m.outlives m.small m.turns m.still key.core.value key.passes in
    let M = meaning g.C.Parts key.core.value key.passes in
    let v = c.args.seat.now.me.0 in
    let r = c.requires in
    rw r.none_out (reads M laws c.args.board.now.table_id.slots c.args.seat.now.id v c.args.part r.at.live r.held)

pub returns-clause-same : goal.returns-clause-same
returns-clause-same g c = let t = c.look_as.ensures.told in let e = t.1 ∙ sym c.requires.none_out in λ i. (t.0 i, e i)

pub returns-clause-head : goal.returns-clause-head
returns-clause-head g c = c.look_as.ensures.told.2
