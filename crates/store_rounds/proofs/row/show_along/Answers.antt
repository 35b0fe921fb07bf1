use Rattle.std.proofs.Common.{◌≡◌, ◌+◌, ◌-◌, arith, refl, subst}
use Rattle.store_rounds.proofs.Rows.{Along, along_begins, along_ends, along_goes_on, still_sessions}
use Rattle.store_rounds.proofs.row.show_along.Goals as goal

pub loop-second-init : goal.loop-second-init
loop-second-init c = record {
  along = along_begins c.args.store.now c.args.row.now c.requires.sessions;
  low = omega arith;
  high = c.requires.some;
  end = refl;
}

pub meet_neighbours-requires-clause-sessions : goal.meet_neighbours-requires-clause-sessions
meet_neighbours-requires-clause-sessions c =
    still_sessions c.args.store.now c.args.row.now c.loop-second.row c.loop-second.invariant.along.look_on

pub loop-second-preserved : goal.loop-second-preserved
loop-second-preserved c =
    let inv = c.loop-second.invariant in
    record {
      along = subst (Along c.args.store.now c.args.row.now c.meet_neighbours.new.row)
          (let e : c.loop-second.second ≡ c.loop-second.second + 1 - 1 = omega arith in e)
          (along_goes_on c.args.store.now c.args.row.now c.loop-second.row c.meet_neighbours.new.row c.loop-second.second
          inv.low (omega arith) inv.along c.meet_neighbours.ensures);
      low = omega arith;
      high = omega arith;
      end = inv.end;
    }

pub returns : goal.returns
returns c =
    along_ends c.args.store.now c.args.row.now c.loop-second.row (c.loop-second.second - 1) (omega arith) c.loop-second.invariant.along
