use Rattle.std.proofs.Common.{ap, ◌∙◌, arith}
use Rattle.std.specs.Prelude.{vec_len}
use Rattle.hall_rule.specs.declared.view.View.{View}
use Rattle.hall_cells.specs.Marks.{meaning_of, open_of}
use Rattle.hall_cells.specs.declared.deed.Deed.{Deed}
use Rattle.hall_rule.specs.EventLog.{replay}
use Rattle.hall_steps.specs.Hall.{first_of}
use Rattle.hall_cells.proofs.Making.{ended_none, took_zero}
use Rattle.hall_cells.proofs.calls.end.Goals as goal

pub returns-clause-closed : goal.returns-clause-closed
returns-clause-closed g c =
    let hall = c.args.hall.now in
    let M = meaning_of (vec_len hall.core.marks) hall.core.marks.items hall.passes in
    let seat = c.take_all.new.pass.seat in
    let log = c.event.ensures.log in
    let n = c.requires.shape.0 in
    let b = c.requires.shape.1 in
    ap (λ (v : View Deed). open_of hall.shape (replay M v.log) c.args.session) c.give_all.ensures.view
    ∙ ended_none (vec_len hall.core.marks) hall.core.marks.items hall.passes hall.shape seat.id seat.me.0 c.event.new.pass.seat.me.0 log.0 c.args.session log.1.1 (omega (arith, n, b))

pub returns-clause-taken : goal.returns-clause-taken
returns-clause-taken g c =
    took_zero (first_of c.take_all.new.pass.hands) c.args.hall.now.shape c.args.session c.args.pass.now.seat.me.0 c.take_all.new.pass.seat.me.0 c.give_all.new.pass.seat.me.0 c.take_all.ensures.only c.take_all.ensures.taken
    (ap (λ (v : View Deed). v.taken) c.give_all.ensures.view ∙ c.event.ensures.log.1.1.taken)
