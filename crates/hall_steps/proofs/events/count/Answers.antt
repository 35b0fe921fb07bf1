use Rattle.std.proofs.Common.{refl, subst, arith}
use Rattle.hall_rule.specs.Meaning.{meaning}
use Rattle.hall_rule.specs.Views.{Adds, entry_of}
use Rattle.hall_rule.proofs.Events.{adds}
use Rattle.hall_rule.proofs.Named.{least_there}
use Rattle.hall_rule.proofs.OfParts.{laws_of}
use Rattle.hall_steps.proofs.Counting.{asked, counted}
use Rattle.hall_steps.proofs.events.count.Goals as goal

pub count_as-requires-clause-keeps : goal.count_as-requires-clause-keeps
count_as-requires-clause-keeps g c κs within =
    let t = g.C.Parts in
    let m = g.met.C.Parts in
    let key = c.args.board.now.key in
    let M = meaning t key.core.value key.passes in
    let laws = laws_of t m.keeps m.frame m.room m.local m.depends m.leaves m.outlives m.small m.turns m.still key.core.value key.passes in
    let r = c.requires in
    let s = c.args.seat.now in
    let knows = r.pass.1 in
    let hand = c.args.hand.now in
    let event = c.args.event in
    let asks = asked t key.core.value key.passes laws c.args.board.now.table_id s hand event c.args.shape.now r.shape r.pass r.room r.covered r.stands r.fits r.named in
    let e = entry_of s.id s.me.0 (t.refused c.run-reply.result) event in
    rw (c.of-told.ensures, knows.none_out) (adds M laws c.args.board.now.table_id.slots s.id s.me.0 knows.live hand e refl (least_there s.me.0.sessions (let f = r.few in omega (arith, f))) asks c.run-reply.ensures.refuses knows.held knows.home r.few knows.sound knows.room)

pub returns : goal.returns
returns g c =
    let t = g.C.Parts in
    let m = g.met.C.Parts in
    let key = c.args.board.now.key in
    let M = meaning t key.core.value key.passes in
    let laws = laws_of t m.keeps m.frame m.room m.local m.depends m.leaves m.outlives m.small m.turns m.still key.core.value key.passes in
    let r = c.requires in
    let z = c.args.board.now.table_id in
    let s = c.args.seat.now in
    let hand = c.args.hand.now in
    let event = c.args.event in
    let ran = c.run-reply in
    let asks = asked t key.core.value key.passes laws z s hand event c.args.shape.now r.shape r.pass r.room r.covered r.stands r.fits r.named in
    let told = c.count_as.ensures.told in
    let added = subst (λ (x : g.row.C-Event.Denot). Adds M s.id s.me.0 (entry_of s.id s.me.0 (t.refused ran.result) x) told.0 c.count_as.new.seat.me) c.of-told.ensures told.1 in
    counted t key.core.value key.passes laws z s c.count_as.new.seat hand ran.new.held event ran.result c.args.steps.now ran.new.steps c.args.shape.now r.shape r.pass asks ran.ensures.refuses r.few ran.ensures.room ran.ensures.meets ran.ensures.steps told.0 added
    (c.count_as.ensures.table, c.count_as.ensures.id)
