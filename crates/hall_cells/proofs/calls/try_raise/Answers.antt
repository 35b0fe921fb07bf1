use Rattle.std.specs.Prelude.{vec_len}
use Rattle.hall_cells.proofs.Making.{raised_open}
use Rattle.hall_cells.proofs.calls.try_raise.Goals as goal

pub returns-clause-opened : goal.returns-clause-opened
returns-clause-opened g c =
    let hall = c.args.hall.now in
    let seat = c.args.pass.now.seat in
    let log = c.event.ensures.log in
    raised_open (vec_len hall.core.marks) hall.core.marks.items hall.passes hall.shape seat.id seat.me.0 c.event.new.pass.seat.me.0 log.0 c.args.session c.args.part c.args.by log.1.1 c.requires.part.0
