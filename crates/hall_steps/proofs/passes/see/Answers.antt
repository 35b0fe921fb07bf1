use Rattle.hall_rule.specs.Meaning.{meaning}
use Rattle.hall_rule.proofs.Events.{sees}
use Rattle.hall_rule.proofs.OfParts.{laws_of}
use Rattle.hall_steps.proofs.passes.see.Goals as goal

pub load_as-requires-clause-keeps : goal.load_as-requires-clause-keeps
load_as-requires-clause-keeps g c κs within =
    let m = g.met.C.Parts in
    let key = c.args.board.now.key in
    let laws = laws_of g.C.Parts m.keeps m.frame m.room m.local m.depends m.leaves m.outlives m.small m.turns m.still key.core.value key.passes in
    rw c.requires.none_out (sees (meaning g.C.Parts key.core.value key.passes) laws c.args.board.now.table_id.slots c.args.seat.now.id c.args.seat.now.me.0 c.requires.live)

pub returns-clause-seen : goal.returns-clause-seen
returns-clause-seen g c = c.load_as.ensures.told
