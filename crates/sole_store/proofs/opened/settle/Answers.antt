use Rattle.std.proofs.Common.{ℕ, sym, ap, ◌∙◌}
use Rattle.std.specs.BTreeMap.{insert_entry}
use Rattle.isolation_spec.specs.Contents.{PlaceMap, at_place, place_cmp}
use Rattle.sole_store.specs.Writing.{settled}
use Rattle.sole_store.proofs.Maps.{filled, has_room, settles_else, taken_back}
use Rattle.sole_store.proofs.opened.settle.Goals as goal

pub lay_over-requires : goal.lay_over-requires
lay_over-requires c none' =
    let room = c.requires in
    has_room room.before c.args.place c.args.had room.entry (ap (λ (m : PlaceMap ℕ). at_place m c.args.place) (sym room.room) ∙ none')

pub returns-in-Written : goal.returns-in-Written
returns-in-Written c before entry room =
    c.lay_over.ensures
    ∙ ap (λ (m : PlaceMap ℕ). insert_entry place_cmp m c.args.place c.in-Written.slot) room
    ∙ filled before c.args.place c.args.had c.in-Written.slot
    ∙ ap (settled before c.args.place) (sym c.in-Written.is)

pub returns-in_default : goal.returns-in_default
returns-in_default c before entry room =
    taken_back c.args.by_row.now.entries before c.take_back.new.by_row.entries c.args.place c.args.had entry room c.take_back.ensures.some c.take_back.ensures.none
    ∙ sym (settles_else before c.args.place c.args.told.now c.in_default.not-Written)
