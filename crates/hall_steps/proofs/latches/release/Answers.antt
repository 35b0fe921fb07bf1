use Rattle.std.proofs.Common.{◌∙◌, ap, add-one}
use Rattle.hall_rule.specs.EventLog.{replay}
use Rattle.hall_rule.proofs.LatchWords.{one_part}
use Rattle.hall_rule.specs.Meaning.{meaning}
use Rattle.hall_rule.proofs.Latches.{gives_back}
use Rattle.hall_rule.proofs.OfParts.{laws_of}
use Rattle.hall_steps.proofs.latches.release.Goals as goal

pub free_as-requires-clause-keeps : goal.free_as-requires-clause-keeps
free_as-requires-clause-keeps g c κs within =
    let m = g.met.C.Parts in
    let key = c.args.board.now.key in
    let laws = laws_of g.C.Parts m.keeps m.frame m.room m.local m.depends m.leaves m.outlives m.small m.turns m.still key.core.value key.passes in
    let M = meaning g.C.Parts key.core.value key.passes in
    let v = c.args.seat.now.me.0 in
    let r = c.requires in
    rw (r.value.1) (gives_back M laws c.args.board.now.table_id.slots c.args.seat.now.id v c.args.part r.at.live r.at.below r.at.room r.value.0 r.held.0 (r.held.1 ∙ add-one c.args.part) r.value.2 r.drained (r.follows.2 ∙ ap M.head (one_part (replay M v.log) c.args.part r.follows.0 r.value.0 r.follows.1 r.value.2)))

pub returns-clause-given : goal.returns-clause-given
returns-clause-given g c = let t = c.free_as.ensures.told in λ i. (t.0 i, t.1 i)
