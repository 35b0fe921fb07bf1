use Rattle.std.proofs.Common.{◌∙◌, ◌<◌, ℕ, true, cond, length, get_or, refl, sym, ap, arith}
use Rattle.block_spec.specs.Slots.{rolled_back}
use Rattle.block_body.specs.Chains.{slot_at}
use Rattle.block_body.proofs.Listed.{listed_more}
use Rattle.block_body.proofs.Popped.{rolled_back-twice}
use Rattle.block_body.proofs.RolledBack.{slot_here, slot_other, slots_long, slots_kept, any_more}
use Rattle.block_body.proofs.chains.roll_back.Goals as goal
use Rattle.block_body.proofs.chains.roll_back.Goals.{then-roll_back_slot, else-roll_back_slot}

pub loop-slot-preserved : goal.loop-slot-preserved
loop-slot-preserved c =
    let rows = c.loop-slot.rows in
    let new = c.roll_back_slot.new.rows in
    let chains = c.loop-slot.chains.entries in
    let after = c.roll_back_slot.new.chains.entries in
    let x : ℕ = get_or c.args.slots.now c.loop-slot.slot-index 0 in
    let e = c.roll_back_slot.ensures in
    let lt : c.loop-slot.slot-index < length c.args.slots.now = omega arith in
    record {
      chains = e.chains;
      own = e.own;
      slots = listed_more
          (rolled_back c.args.session)
          (rolled_back-twice c.args.session)
          (slot_at c.args.rows.now.rows c.args.chains.now.entries)
          (slot_at c.loop-slot.rows.rows c.loop-slot.chains.entries)
          (slot_at c.roll_back_slot.new.rows.rows c.roll_back_slot.new.chains.entries)
          c.args.slots.now
          c.loop-slot.slot-index
          x
          lt
          refl
          c.loop-slot.invariant.slots
          (slot_here c.args.session rows new chains after x c.loop-slot.invariant.kept e.here e.others e.rows e.columns e.room e.kept)
          (slot_other c.args.session rows new chains after x c.loop-slot.invariant.kept e.here e.others e.rows e.columns e.room e.kept);
      kept = slots_kept c.args.session rows new chains after x c.loop-slot.invariant.kept e.here e.others e.rows e.columns e.room e.kept;
      long = slots_long c.args.session rows new chains after x c.loop-slot.invariant.kept e.here e.others e.rows e.columns e.room e.kept ∙ c.loop-slot.invariant.long;
      columns = e.columns ∙ c.loop-slot.invariant.columns;
      any = elim c.if-roll_back_slot.branch [
        | then-roll_back_slot w ↦ w.any-is
            ∙ sym (ap (λ b. cond b true c.loop-slot.any) w.if-roll_back_slot.true)
            ∙ any_more c.args.session c.args.rows.now.rows c.loop-slot.rows.rows c.args.chains.now.entries c.loop-slot.chains.entries c.args.slots.now c.loop-slot.slot-index x lt refl
            (c.loop-slot.invariant.slots x) c.loop-slot.any c.roll_back_slot.result c.loop-slot.invariant.any e.any
        | else-roll_back_slot w ↦ w.any-is
            ∙ sym (ap (λ b. cond b true c.loop-slot.any) w.if-roll_back_slot.false)
            ∙ any_more c.args.session c.args.rows.now.rows c.loop-slot.rows.rows c.args.chains.now.entries c.loop-slot.chains.entries c.args.slots.now c.loop-slot.slot-index x lt refl
            (c.loop-slot.invariant.slots x) c.loop-slot.any c.roll_back_slot.result c.loop-slot.invariant.any e.any
      ];
    }
