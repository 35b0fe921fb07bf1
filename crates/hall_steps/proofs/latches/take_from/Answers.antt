use Rattle.std.proofs.Common.{None, arith}
use Rattle.std.proofs.lemmas.Option.{slice_get_within}
use Rattle.hall_rule.specs.Meaning.{meaning}
use Rattle.hall_steps.proofs.Knowing.{taken_at, took_at}
use Rattle.hall_steps.proofs.latches.take_from.Goals as goal

pub returns-clause-pass : goal.returns-clause-pass
returns-clause-pass g c =
    let t = c.carry_out-held.ensures.learned in
    let lt = slice_get_within c.args.hand.now c.args.part None c.requires.away in
    let r = c.requires.room in
    (took_at (meaning g.C.Parts c.args.board.now.key.core.value c.args.board.now.key.passes) c.args.board.now.table_id c.args.seat.now c.latch.new.seat c.carry_out-held.new.seat c.args.hand.now c.replace.new.self c.args.part
    c.carry_out-held.result t.0 c.requires.pass (omega (arith, lt, r)) c.requires.away c.latch.ensures.seat c.carry_out-held.ensures.seat c.latch.ensures.taken t.1 t.2 t.3 c.replace.ensures.others).0

pub returns-clause-seen : goal.returns-clause-seen
returns-clause-seen g c =
    let t = c.carry_out-held.ensures.learned in
    let lt = slice_get_within c.args.hand.now c.args.part None c.requires.away in
    let r = c.requires.room in
    (took_at (meaning g.C.Parts c.args.board.now.key.core.value c.args.board.now.key.passes) c.args.board.now.table_id c.args.seat.now c.latch.new.seat c.carry_out-held.new.seat c.args.hand.now c.replace.new.self c.args.part
    c.carry_out-held.result t.0 c.requires.pass (omega (arith, lt, r)) c.requires.away c.latch.ensures.seat c.carry_out-held.ensures.seat c.latch.ensures.taken t.1 t.2 t.3 c.replace.ensures.others).1

pub returns-clause-taken : goal.returns-clause-taken
returns-clause-taken g c =
    let t = c.carry_out-held.ensures.learned in
    let M = meaning g.C.Parts c.args.board.now.key.core.value c.args.board.now.key.passes in
    taken_at M c.args.seat.now c.latch.new.seat c.carry_out-held.new.seat c.args.part (M.head c.carry_out-held.result) t.0 c.latch.ensures.taken t.3
