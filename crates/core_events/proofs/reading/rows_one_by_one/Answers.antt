use Rattle.std.proofs.Common.{◌∙◌, List, [], ◌∷◌, ◌++◌, ap, sym, arith}
use Rattle.block_body.proofs.Looks.{filter_map_more, filter_map_skip}
use Rattle.block_layout.specs.Place.{place_of}
use Rattle.block_spec.specs.Bodies.{slot_in}
use Rattle.block_spec.specs.Slots.{Row}
use Rattle.core_events.proofs.Rows.{row_at}
use Rattle.core_events.specs.Reads.{row_in}
use Rattle.core_events.proofs.reading.rows_one_by_one.Goals as goal
use Rattle.core_events.proofs.reading.rows_one_by_one.Goals.{in-Some+in_ok-push, in_default}

pub loop-slot-preserved : goal.loop-slot-preserved
loop-slot-preserved g c =
    let here = sym (row_at c.args.own.now c.args.table c.args.block c.args.body.now c.join.result c.loop-slot.slot c.join.ensures.place c.join.ensures.slot) ∙ sym c.in_ok-row.ensures.row in
    elim c.match-branch-2.branch [
      | in-Some+in_ok-push w ↦ (
        rw (w.rows-is, w.in_ok-push.ensures.items)
            (ap (λ (l : List Row). l ++ w.in-Some.row ∷ []) c.loop-slot.invariant.0
            ∙ sym (filter_map_more (λ j. row_in c.args.own.now c.args.table (place_of c.args.block j) (slot_in c.args.body.now j)) c.loop-slot.slot w.in-Some.row (here ∙ w.in-Some.is))),
        omega (arith, c.row_in.ensures.steps, c.loop-slot.invariant.1),
      )
      | in_default w ↦ (
        rw w.rows-is
            (c.loop-slot.invariant.0
            ∙ sym (filter_map_skip (λ j. row_in c.args.own.now c.args.table (place_of c.args.block j) (slot_in c.args.body.now j)) c.loop-slot.slot (here ∙ w.in_default.is))),
        omega (arith, c.row_in.ensures.steps, c.loop-slot.invariant.1),
      )
    ]
