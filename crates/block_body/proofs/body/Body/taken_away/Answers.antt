use Rattle.std.proofs.Common.{◌≡◌, ◌∙◌, None, ap, sym, ⊎_elim}
use Rattle.std.specs.Prelude.{option_copied}
use Rattle.undo_chain.proofs.Ends.{last_first}
use Rattle.block_spec.specs.Slots.{Slot, laid_back}
use Rattle.block_spec.specs.Bodies.{Body as BodyValue, slot_in}
use Rattle.block_body.specs.Chains.{slot_at}
use Rattle.block_body.proofs.Bodies.{body_slot}
use Rattle.block_body.proofs.Moved.{taken_none, taken_top}
use Rattle.block_body.proofs.body.Body.taken_away.Goals as goal

pub returns-in_err-chain : goal.returns-in_err-chain
returns-in_err-chain c =
    let i = c.self.inside in
    let at : slot_in c.args.self.now c.args.slot ≡ slot_at i.rows.rows i.chains.entries c.args.slot =
    ap (λ (b : BodyValue). slot_in b c.args.slot) (sym c.self.view_is) ∙ body_slot i.rows i.chains.entries i.written i.phase i.cooling i.rounds i.last c.self.invariant c.args.slot in
    ap option_copied c.from_residual.ensures
    ∙ taken_none (slot_in c.args.self.now c.args.slot) c.requires (ap (λ (s : Slot). s.entries) at ∙ c.in_err-chain.ensures.none)

pub returns-in-Whole : goal.returns-in-Whole
returns-in-Whole c =
    let i = c.self.inside in
    let at : slot_in c.args.self.now c.args.slot ≡ slot_at i.rows.rows i.chains.entries c.args.slot =
    ap (λ (b : BodyValue). slot_in b c.args.slot) (sym c.self.view_is) ∙ body_slot i.rows i.chains.entries i.written i.phase i.cooling i.rounds i.last c.self.invariant c.args.slot in
    let found = last_first c.entries.result.now c.in_ok-row.field-0.now c.in_ok-row.ensures.value in
    sym (taken_top (slot_in c.args.self.now c.args.slot) c.in_ok-row.field-0.now found.0 c.requires
    (ap (λ (s : Slot). s.entries) at ∙ sym c.in_ok-chain.ensures.entries ∙ sym c.entries.ensures ∙ found.1)
    ∙ ap (laid_back None) c.in-Whole.is)

pub returns-in-Empty : goal.returns-in-Empty
returns-in-Empty c =
    let i = c.self.inside in
    let at : slot_in c.args.self.now c.args.slot ≡ slot_at i.rows.rows i.chains.entries c.args.slot =
    ap (λ (b : BodyValue). slot_in b c.args.slot) (sym c.self.view_is) ∙ body_slot i.rows i.chains.entries i.written i.phase i.cooling i.rounds i.last c.self.invariant c.args.slot in
    let found = last_first c.entries.result.now c.in_ok-row.field-0.now c.in_ok-row.ensures.value in
    sym (taken_top (slot_in c.args.self.now c.args.slot) c.in_ok-row.field-0.now found.0 c.requires
    (ap (λ (s : Slot). s.entries) at ∙ sym c.in_ok-chain.ensures.entries ∙ sym c.entries.ensures ∙ found.1)
    ∙ ⊎_elim (λ is. ap (laid_back None) is) (λ found. ap (laid_back None) found.1) c.in-Empty.is)
