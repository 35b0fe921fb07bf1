use Rattle.std.proofs.Common.{subst, arith}
use Rattle.store_rounds.specs.Row.{AreSessions}
use Rattle.store_rounds.proofs.Rows.{neighbours_met}
use Rattle.store_rounds.proofs.row.meet_neighbours.Goals as goal

pub returns : goal.returns
returns c =
    let cut = c.split_at_mut-front.ensures in
    let met = c.meet.ensures in
    neighbours_met c.split_at_mut-front.result.0.now c.split_at_mut-front.result.1.now c.args.second c.meet.new.a c.meet.new.b _ _
    cut.front_len c.requires.low (omega (arith, cut.back_len, c.requires.high)) c.args.store.now
    (subst (AreSessions c.args.store.now) cut.value c.requires.sessions)
    met.a met.b met.shows_a met.shows_b c.args.row.now cut.value
