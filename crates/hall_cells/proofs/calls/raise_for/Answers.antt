use Rattle.std.proofs.Common.{◌≡◌, ℕ, ◌+◌, ◌^◌, ◌<◌, ◌≤◌, true, List, Option, Some, length, length-set, sym, ap, subst, ◌∙◌, arith}
use Rattle.std.specs.Prelude.{slice_index, vec_len}
use Rattle.atomic_table.specs.Table.{Me}
use Rattle.hall_rule.specs.EventLog.{has, replay}
use Rattle.hall_rule.specs.HallInvariant.{hands_of}
use Rattle.hall_rule.specs.declared.view.View.{View}
use Rattle.hall_steps.specs.Hall.{first_of}
use Rattle.hall_steps.proofs.Knowing.{same_holds}
use Rattle.hall_cells.specs.Laws.{opened_stands}
use Rattle.hall_cells.specs.Marks.{meaning_of, open_of}
use Rattle.hall_cells.specs.declared.deed.Deed.{Deed}
use Rattle.hall_cells.specs.declared.deed.Deed.TheVariants.{Raise}
use Rattle.hall_cells.proofs.Making.{looked_open, raise_between}
use Rattle.hall_cells.proofs.Taking.{first_room, gave_left, took_holds, took_left}
use Rattle.hall_cells.proofs.calls.raise_for.Goals as goal

pub take-requires-clause-above : goal.take-requires-clause-above
take-requires-clause-above g c κs within = λ k h. absurd (c.requires.empty.none k h)

pub try_raise-raised-requires-clause-held : goal.try_raise-raised-requires-clause-held
try_raise-raised-requires-clause-held g c =
    let few = c.requires.few in
    let some' : 0 < hands_of c.args.pass.now.seat.me.0 = omega (arith, few) in
    let n = first_room _ _ _ _ c.requires.pass some' in
    let a = c.requires.shape in
    let b = c.requires.part.1 in
    let e = c.take.ensures.hand in
    took_holds (first_of c.args.pass.now.hands) (first_of c.take.new.pass.hands) c.args.part e.0 (omega (arith, n, a, b)) e.1

pub give-requires-clause-held : goal.give-requires-clause-held
give-requires-clause-held g c κs =
    let few = c.requires.few in
    let some' : 0 < hands_of c.args.pass.now.seat.me.0 = omega (arith, few) in
    let n = first_room _ _ _ _ c.requires.pass some' in
    let a = c.requires.shape in
    let b = c.requires.part.1 in
    let e = c.take.ensures.hand in
    c.try_raise-raised.ensures.room.held c.args.part (took_holds (first_of c.args.pass.now.hands) (first_of c.take.new.pass.hands) c.args.part e.0 (omega (arith, n, a, b)) e.1)

pub returns-clause-empty : goal.returns-clause-empty
returns-clause-empty g c = record {
  none = λ k h.
      let few = c.requires.few in
      let some' : 0 < hands_of c.args.pass.now.seat.me.0 = omega (arith, few) in
      let n = first_room _ _ _ _ c.requires.pass some' in
      let a = c.requires.shape in
      let b = c.requires.part.1 in
      let e = c.take.ensures.hand in
      let room = c.try_raise-raised.ensures.room in
      let l1 : length (first_of c.take.new.pass.hands) ≡ length (first_of c.args.pass.now.hands) = ap length e.1 ∙ length-set (first_of c.args.pass.now.hands) c.args.part (Some e.0) in
      let l2 = room.places in
      let left = gave_left (first_of c.try_raise-raised.new.pass.hands) (first_of c.give.new.pass.hands) c.args.part k (omega (arith, n, a, b, l1, l2)) c.give.ensures.hand h in
      c.requires.empty.none k (took_left (first_of c.args.pass.now.hands) (first_of c.take.new.pass.hands) c.args.part k e.0 e.1 left.0 (same_holds (first_of c.take.new.pass.hands) (first_of c.try_raise-raised.new.pass.hands) room k left.1));
}

pub try_raise-raised-requires-clause-stands : goal.try_raise-raised-requires-clause-stands
try_raise-raised-requires-clause-stands g c =
    let hall = c.args.hall.now in
    let marks = hall.core.marks in
    let before = c.args.pass.now.seat in
    let taken = c.take.new.pass.seat in
    opened_stands hall.shape (replay (meaning_of (vec_len marks) marks.items hall.passes) taken.me.0.log) c.args.session c.args.part c.args.by
    (λ r is.
    let s = c.requires.session r is in
    looked_open (vec_len marks) marks.items hall.passes hall.shape before.id before.me.0 taken.me.0 c.take.ensures.seen.1 r s.0 ∙ s.1)

pub try_raise-raised-requires-clause-named : goal.try_raise-raised-requires-clause-named
try_raise-raised-requires-clause-named g c = λ r is.
    subst (λ (sessions : List ℕ). has r sessions ≡ true) (sym c.take.ensures.seen.1.sessions) (c.requires.session r is).0

pub returns-clause-raised : goal.returns-clause-raised
returns-clause-raised g c =
    let hall = c.args.hall.now in
    let marks = hall.core.marks in
    let part = c.args.part in
    let by = c.args.by in
    raise_between (vec_len marks) marks.items hall.passes c.try_raise-raised.result (Raise c.args.session part by) (λ s. 2 ^ 64 ≤ slice_index s part + by) (λ was s. was ≡ slice_index s part) c.args.pass.now.seat.me.0
    c.take.new.pass.seat.me.0 c.try_raise-raised.new.pass.seat.me.0 c.give.new.pass.seat.me.0 part c.take.ensures.seen.1.mine (ap (λ (me : Me (Option ℕ) (View Deed)). me.0) c.give.ensures.view) c.try_raise-raised.ensures.raised

pub returns-clause-opened : goal.returns-clause-opened
returns-clause-opened g c = λ r mine.
    let hall = c.args.hall.now in
    let marks = hall.core.marks in
    let M = meaning_of (vec_len marks) marks.items hall.passes in
    let before = c.args.pass.now.seat in
    let taken = c.take.new.pass.seat in
    let given = ap (λ (me : Me (Option ℕ) (View Deed)). open_of hall.shape (replay M me.0.log) r) c.give.ensures.view in
    let raised = c.try_raise-raised.ensures.opened r (subst (λ (sessions : List ℕ). has r sessions ≡ true) (sym c.take.ensures.seen.1.sessions) mine) in
    let looked : open_of hall.shape (replay M taken.me.0.log) r ≡ open_of hall.shape (replay M before.me.0.log) r = looked_open (vec_len marks) marks.items hall.passes hall.shape before.id before.me.0 taken.me.0 c.take.ensures.seen.1 r mine in
    given ∙ (raised ∙ looked)
