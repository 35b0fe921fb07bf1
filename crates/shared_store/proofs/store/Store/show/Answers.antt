use Rattle.hall_steps.specs.Hall.{IsNew, IsPass, Joined}
use Rattle.std.proofs.Common.{[]}
use Rattle.shared_store.proofs.Shown.{by_hall, by_laws, note_is_empty, noted_stays, saw, shown}
use Rattle.shared_store.proofs.store.Store.show.Goals as goal

pub note-note-requires-clause-pass : goal.note-note-requires-clause-pass
note-note-requires-clause-pass c κs =
    by_hall (λ M w. IsPass M w.id c.args.from.now.seat c.args.from.now.hands) c.self.inside.hall c.args.self.now c.self.invariant c.self.view_is
    c.requires.from.2.within.pass

pub join-requires-clause-pass : goal.join-requires-clause-pass
join-requires-clause-pass c κs =
    by_hall (λ M w. IsPass M w.id c.args.to.now.seat c.args.to.now.hands) c.self.inside.hall c.args.self.now c.self.invariant c.self.view_is
    c.requires.to.2.within.pass

pub join-requires-clause-empty : goal.join-requires-clause-empty
join-requires-clause-empty c κs =
    let note = c.note-note in
    let store = c.self.inside.hall in
    let now = c.args.self.now in
    note_is_empty now c.args.from.now.seat.me.0 note.result.seat note.result.hands
    (by_laws (λ M w. IsPass M w.id note.result.seat note.result.hands) store now c.self.invariant c.self.view_is note.ensures.given)
    (by_laws (λ M w. IsNew M c.args.from.now.seat.me.0 note.result.seat.me.0 []) store now c.self.invariant c.self.view_is note.ensures.new)

pub returns-clause-from : goal.returns-clause-from
returns-clause-from c =
    let note = c.note-note in
    noted_stays c.args.self.now c.args.from.now.seat note.new.pass.seat c.args.from.now.hands note.new.pass.hands
    (by_laws (λ M w. IsPass M w.id note.new.pass.seat note.new.pass.hands) c.self.inside.hall c.args.self.now c.self.invariant c.self.view_is note.ensures.pass)
    note.ensures.seat.1 note.ensures.hand

pub returns-clause-to : goal.returns-clause-to
returns-clause-to c =
    let note = c.note-note in
    let join = c.join in
    let store = c.self.inside.hall in
    let now = c.args.self.now in
    saw now c.args.from.now.seat.me.0 note.result.seat note.result.hands
    (by_laws (λ M w. IsPass M w.id note.result.seat note.result.hands) store now c.self.invariant c.self.view_is note.ensures.given)
    (by_laws (λ M w. IsNew M c.args.from.now.seat.me.0 note.result.seat.me.0 []) store now c.self.invariant c.self.view_is note.ensures.new)
    c.args.to.now.seat join.new.pass.seat c.args.to.now.hands join.new.pass.hands join.ensures.seat
    (by_laws (λ M w. IsPass M w.id join.new.pass.seat join.new.pass.hands) store now c.self.invariant c.self.view_is join.ensures.pass)
    (by_laws (λ M w. Joined M c.args.to.now.seat.id note.result.seat.id c.args.to.now.seat.me.0 note.result.seat.me.0 join.new.pass.seat.me.0) store now c.self.invariant c.self.view_is join.ensures.joined)
    join.ensures.only

pub returns-clause-shows : goal.returns-clause-shows
returns-clause-shows c =
    let note = c.note-note in
    let join = c.join in
    let store = c.self.inside.hall in
    let now = c.args.self.now in
    shown now c.args.from.now.seat.me.0 note.result.seat note.result.hands
    (by_laws (λ M w. IsPass M w.id note.result.seat note.result.hands) store now c.self.invariant c.self.view_is note.ensures.given)
    (by_laws (λ M w. IsNew M c.args.from.now.seat.me.0 note.result.seat.me.0 []) store now c.self.invariant c.self.view_is note.ensures.new)
    c.args.to.now.seat join.new.pass.seat c.args.to.now.hands join.new.pass.hands join.ensures.seat
    (by_laws (λ M w. IsPass M w.id join.new.pass.seat join.new.pass.hands) store now c.self.invariant c.self.view_is join.ensures.pass)
    (by_laws (λ M w. Joined M c.args.to.now.seat.id note.result.seat.id c.args.to.now.seat.me.0 note.result.seat.me.0 join.new.pass.seat.me.0) store now c.self.invariant c.self.view_is join.ensures.joined)
