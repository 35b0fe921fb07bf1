use Rattle.hall_steps.specs.Hall.{HallView}
use Rattle.std.proofs.Common.{sym, subst}
use Rattle.hall_rule.specs.Meaning.{meaning}
use Rattle.hall_rule.proofs.OfParts.{laws_of}
use Rattle.hall_rule.specs.Hands.{Holds}
use Rattle.hall_steps.specs.Hall.{IsPass, Joined, first_of}
use Rattle.hall_rule.proofs.Joined.{joins}
use Rattle.hall_steps.proofs.Dividing.{held_before, joined_pass, none_read}
use Rattle.hall_steps.proofs.hall.Hall.join.Goals as goal

pub join_as-requires-clause-keeps : goal.join_as-requires-clause-keeps
join_as-requires-clause-keeps g c κs within =
    let t = g.C.Parts in
    let key = c.self.inside.table.shared.key in
    let M = meaning t key.core.value key.passes in
    let m = g.met.C.Parts in
    let laws = laws_of t m.keeps m.frame m.room m.local m.depends m.leaves m.outlives m.small m.turns m.still key.core.value key.passes in
    let s = c.args.pass.now.seat in
    let e = c.args.ended.seat in
    joins M laws s.id s.me.0 e.id e.me.0 c.requires.pass.of.1.live c.requires.ended.of.1.live (λ k. c.requires.ended.of.1.away k (c.requires.empty k)) (none_read e.me.0.claim e.me.0.bump c.requires.free c.requires.ended.of.1.no_bump)

pub returns-clause-pass : goal.returns-clause-pass
returns-clause-pass g c =
    let t = g.C.Parts in
    let shared = c.self.inside.table.shared in
    let key = shared.key in
    let M = meaning t key.core.value key.passes in
    let In : HallView g.row.C.Denot g.row.C-Shape.Denot → Type 0 = λ w. IsPass (meaning t w.core w.passes) w.id c.args.pass.now.seat c.args.pass.now.hands in
    let pass : IsPass M shared.table_id c.args.pass.now.seat c.args.pass.now.hands = subst In (sym c.self.view_is) c.requires.pass in
    let Ended : HallView g.row.C.Denot g.row.C-Shape.Denot → Type 0 = λ w. IsPass (meaning t w.core w.passes) w.id c.args.ended.seat c.args.ended.hands in
    let ended : IsPass M shared.table_id c.args.ended.seat c.args.ended.hands = subst Ended (sym c.self.view_is) c.requires.ended in
    let m = g.met.C.Parts in
    let laws = laws_of t m.keeps m.frame m.room m.local m.depends m.leaves m.outlives m.small m.turns m.still key.core.value key.passes in
    let r = joined_pass M laws shared.table_id c.args.pass.now.seat c.args.ended.seat c.join_as.new.seat c.see.new.seat c.args.pass.now.hands c.args.ended.hands c.append.new.self c.see.ensures.seen.0 pass ended c.requires.empty
    (c.join_as.ensures.table, c.join_as.ensures.id) c.join_as.ensures.me c.see.ensures.seat c.see.ensures.seen.1 c.append.ensures in
    let Out : HallView g.row.C.Denot g.row.C-Shape.Denot → Type 0 = λ w. IsPass (meaning t w.core w.passes) w.id c.see.new.seat c.append.new.self in
    subst Out c.self.view_is r.0

pub returns-clause-joined : goal.returns-clause-joined
returns-clause-joined g c =
    let t = g.C.Parts in
    let shared = c.self.inside.table.shared in
    let key = shared.key in
    let M = meaning t key.core.value key.passes in
    let In : HallView g.row.C.Denot g.row.C-Shape.Denot → Type 0 = λ w. IsPass (meaning t w.core w.passes) w.id c.args.pass.now.seat c.args.pass.now.hands in
    let pass : IsPass M shared.table_id c.args.pass.now.seat c.args.pass.now.hands = subst In (sym c.self.view_is) c.requires.pass in
    let Ended : HallView g.row.C.Denot g.row.C-Shape.Denot → Type 0 = λ w. IsPass (meaning t w.core w.passes) w.id c.args.ended.seat c.args.ended.hands in
    let ended : IsPass M shared.table_id c.args.ended.seat c.args.ended.hands = subst Ended (sym c.self.view_is) c.requires.ended in
    let m = g.met.C.Parts in
    let laws = laws_of t m.keeps m.frame m.room m.local m.depends m.leaves m.outlives m.small m.turns m.still key.core.value key.passes in
    let r = joined_pass M laws shared.table_id c.args.pass.now.seat c.args.ended.seat c.join_as.new.seat c.see.new.seat c.args.pass.now.hands c.args.ended.hands c.append.new.self c.see.ensures.seen.0 pass ended c.requires.empty
    (c.join_as.ensures.table, c.join_as.ensures.id) c.join_as.ensures.me c.see.ensures.seat c.see.ensures.seen.1 c.append.ensures in
    let Out : HallView g.row.C.Denot g.row.C-Shape.Denot → Type 0 = λ w. Joined (meaning t w.core w.passes) c.args.pass.now.seat.id c.args.ended.seat.id c.args.pass.now.seat.me.0 c.args.ended.seat.me.0 c.see.new.seat.me.0 in
    subst Out c.self.view_is r.1

pub returns-clause-holds : goal.returns-clause-holds
returns-clause-holds g c =
    let t = g.C.Parts in
    let shared = c.self.inside.table.shared in
    let key = shared.key in
    let M = meaning t key.core.value key.passes in
    let In : HallView g.row.C.Denot g.row.C-Shape.Denot → Type 0 = λ w. IsPass (meaning t w.core w.passes) w.id c.args.pass.now.seat c.args.pass.now.hands in
    let pass : IsPass M shared.table_id c.args.pass.now.seat c.args.pass.now.hands = subst In (sym c.self.view_is) c.requires.pass in
    let Ended : HallView g.row.C.Denot g.row.C-Shape.Denot → Type 0 = λ w. IsPass (meaning t w.core w.passes) w.id c.args.ended.seat c.args.ended.hands in
    let ended : IsPass M shared.table_id c.args.ended.seat c.args.ended.hands = subst Ended (sym c.self.view_is) c.requires.ended in
    let m = g.met.C.Parts in
    let laws = laws_of t m.keeps m.frame m.room m.local m.depends m.leaves m.outlives m.small m.turns m.still key.core.value key.passes in
    let r = joined_pass M laws shared.table_id c.args.pass.now.seat c.args.ended.seat c.join_as.new.seat c.see.new.seat c.args.pass.now.hands c.args.ended.hands c.append.new.self c.see.ensures.seen.0 pass ended c.requires.empty
    (c.join_as.ensures.table, c.join_as.ensures.id) c.join_as.ensures.me c.see.ensures.seat c.see.ensures.seen.1 c.append.ensures in
    r.2

pub returns-clause-only : goal.returns-clause-only
returns-clause-only g c = λ k h. held_before c.args.pass.now.hands c.args.ended.hands c.requires.empty k (subst (λ y. Holds (first_of y) k) c.append.ensures h)
