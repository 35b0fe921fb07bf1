use Rattle.std.proofs.Common.{◌≡◌, sym, subst}
use Rattle.hall_cells.specs.Marks.{after_deed, reply_of}
use Rattle.hall_cells.specs.declared.deed.Deed.{Deed}
use Rattle.hall_rule.specs.Hands.{Agrees}
use Rattle.hall_cells.proofs.Raising.{raise_meets, raise_room}
use Rattle.hall_cells.proofs.marks.MarksParts.run.Goals as goal

pub returns-in-Raise-clause-room : goal.returns-in-Raise-clause-room
returns-in-Raise-clause-room g c = raise_room c.args.held.now c.replace-in-Raise.new.self c.in-Raise.part _ c.part-was.result.now c.part-was.ensures c.replace-in-Raise.ensures.others

pub returns-in-Raise-clause-meets : goal.returns-in-Raise-clause-meets
returns-in-Raise-clause-meets g c = λ s ok agrees stands fits.
    let new = c.replace-in-Raise.new.self in
    let sh = c.args._shape.now in
    let Q : Deed → Type 0 = λ e. Agrees new (after_deed sh e s) × (c.part-was.result.now ≡ reply_of sh e s) in
    subst Q (sym c.in-Raise.is) (raise_meets c.args.held.now new s c.in-Raise.part c.part-was.result.now c.in-Raise.by agrees c.part-was.ensures c.replace-in-Raise.ensures.others)
