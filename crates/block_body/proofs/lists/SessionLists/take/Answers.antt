use Rattle.std.proofs.Common.{◌≡◌, ◌∙◌, [], Some, position, get_or, ap, sym, subst}
use Rattle.std.specs.Prelude.{remove, IfNone}
use Rattle.block_body.specs.Bodies.{SessionSlots, SlotLists, is_of, slots_of}
use Rattle.block_body.proofs.SessionLists.{no_slots, slots_there, others_stay}
use Rattle.block_body.proofs.lists.SessionLists.take.Goals as goal

pub returns-in_err-place-clause-none : goal.returns-in_err-place-clause-none
returns-in_err-place-clause-none c =
    subst (λ o. IfNone o (slots_of c.args.self.now c.args.session ≡ [])) (sym c.from_residual.ensures)
    (no_slots c.args.session c.args.self.now (sym c.in_err-place.ensures.place))

pub returns-clause-some : goal.returns-clause-some
returns-clause-some c =
    let stands : position (is_of c.args.session) c.args.self.now ≡ Some c.in_ok-place.place = sym c.in_ok-place.ensures.place in
    let there : c.remove.result ≡ get_or c.args.self.now c.in_ok-place.place c.remove.result =
    c.remove.ensures.value ∙ ap (λ (l : SlotLists). get_or l c.in_ok-place.place c.remove.result) c.self.view_is in
    ap (λ (l : SessionSlots). l.slots) (c.slots.view_is ∙ there) ∙ sym (slots_there c.args.session c.args.self.now c.in_ok-place.place stands c.remove.result)

pub returns-clause-others : goal.returns-clause-others
returns-clause-others c = λ other apart.
    let stands : position (is_of c.args.session) c.args.self.now ≡ Some c.in_ok-place.place = sym c.in_ok-place.ensures.place in
    let is : c.remove.new.self.items ≡ remove c.args.self.now c.in_ok-place.place = c.remove.ensures.items ∙ ap (λ (l : SlotLists). remove l c.in_ok-place.place) c.self.view_is in
    ap (λ (l : SlotLists). slots_of l other) is ∙ others_stay c.args.session c.args.self.now c.in_ok-place.place stands other apart
