use Rattle.std.proofs.Common.{◌<◌, length, ap, sym, ◌∙◌, subst}
use Rattle.block_spec.specs.Bodies.{Body as BodyValue, slot_in}
use Rattle.block_body.proofs.Bodies.{body_slot}
use Rattle.block_body.proofs.Nexts.{next_told}
use Rattle.block_body.proofs.Slots.{slots-length}
use Rattle.block_body.specs.Chains.{entries_at}
use Rattle.block_body.proofs.body.Body.next_versioned.Goals as goal

pub returns : goal.returns
returns c =
    let i = c.self.inside in
    next_told c.args.self.now i.rows.rows i.chains.entries c.self.invariant.each
    (λ slot. ap (λ (b : BodyValue). slot_in b slot) (sym c.self.view_is) ∙ body_slot i.rows i.chains.entries i.written i.phase i.cooling i.rounds i.last c.self.invariant slot)
    (λ slot some. subst (λ (b : BodyValue). slot < length b.slots) c.self.view_is
    (subst (λ n. slot < n) (sym (slots-length (entries_at i.chains.entries) 0 i.rows.rows)) ((c.self.invariant.kept slot).within some)))
    c.args.from c.next_slot.result c.next_slot.ensures.some c.next_slot.ensures.above c.next_slot.ensures.least c.next_slot.ensures.none
