use Rattle.hall_rule.specs.Meaning.{meaning}
use Rattle.hall_rule.proofs.OfParts.{laws_of}
use Rattle.hall_rule.specs.Views.{entry_of}
use Rattle.hall_steps.proofs.Knowing.{extends_on}
use Rattle.hall_steps.proofs.events.make.Goals as goal

pub returns-clause-log : goal.returns-clause-log
returns-clause-log g c =
    let t = g.C.Parts in
    let key = c.args.board.now.key in
    let m = g.met.C.Parts in
    let M = meaning t key.core.value key.passes in
    let laws = laws_of t m.keeps m.frame m.room m.local m.depends m.leaves m.outlives m.small m.turns m.still key.core.value key.passes in
    let l = c.count-reply.ensures in
    let s = c.args.seat.now in
    let e = entry_of s.id s.me.0 (t.refused c.count-reply.result) c.args.event in
    (l.before, extends_on M laws s c.count-reply.new.seat c.settle.new.seat l.before e l.extends c.settle.ensures.seat c.settle.ensures.same, l.answers, l.costs)
