use Rattle.std.proofs.Common.{◌≡◌, ℕ, ◌+◌, ◌-◌, arith, length, refl, subst}
use Rattle.store_rounds.proofs.Rows.{Back, back_begins, back_ends, back_goes_on, still_sessions}
use Rattle.store_rounds.specs.Row.{Meet}
use Rattle.store_rounds.proofs.row.see_back.Goals as goal

pub loop-from_end-init : goal.loop-from_end-init
loop-from_end-init c = record {
  back = back_begins c.args.store.now c.args.row.now c.requires.sessions;
  low = omega arith;
  high = c.requires.some;
  end = refl;
}

pub meet_neighbours-requires-clause-sessions : goal.meet_neighbours-requires-clause-sessions
meet_neighbours-requires-clause-sessions c =
    still_sessions c.args.store.now c.args.row.now c.loop-from_end.row c.loop-from_end.invariant.back.look_on

pub loop-from_end-preserved : goal.loop-from_end-preserved
loop-from_end-preserved c =
    let inv = c.loop-from_end.invariant in
    let second : ℕ = length c.args.row.now - c.loop-from_end.from_end in
    let met : Meet c.args.store.now second c.loop-from_end.row c.meet_neighbours.new.row =
    subst (λ (n : ℕ). Meet c.args.store.now (n - c.loop-from_end.from_end) c.loop-from_end.row c.meet_neighbours.new.row) inv.back.look_on.size c.meet_neighbours.ensures in
    record {
      back = subst (Back c.args.store.now c.args.row.now c.meet_neighbours.new.row)
          (let e : second - 1 ≡ length c.args.row.now - (c.loop-from_end.from_end + 1) = omega arith in e)
          (back_goes_on c.args.store.now c.args.row.now c.loop-from_end.row c.meet_neighbours.new.row second
          (omega arith) (omega arith) inv.back met);
      low = omega arith;
      high = omega arith;
      end = refl;
    }

pub returns : goal.returns
returns c =
    back_ends c.args.store.now c.args.row.now c.loop-from_end.row
    (subst (Back c.args.store.now c.args.row.now c.loop-from_end.row) (let e : length c.args.row.now - c.loop-from_end.from_end ≡ 0 = omega arith in e)
    c.loop-from_end.invariant.back)
