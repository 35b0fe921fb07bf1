use Rattle.std.proofs.Common.{arith}
use Rattle.std.specs.Prelude.{vec_len}
use Rattle.hall_cells.proofs.Making.{begun_open}
use Rattle.hall_cells.proofs.calls.try_begin.Goals as goal

pub returns-clause-opens : goal.returns-clause-opens
returns-clause-opens g c = λ _.
    let hall = c.args.hall.now in
    let seat = c.args.pass.now.seat in
    let log = c.event.ensures.log in
    begun_open (vec_len hall.core.marks) hall.core.marks.items hall.passes hall.shape seat.id seat.me.0 c.event.new.pass.seat.me.0 log.0 c.args.session log.1.1 c.requires.session.0 (let a = c.requires.shape.0 in let b = c.requires.shape.1 in omega (arith, a, b))
