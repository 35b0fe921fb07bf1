use Rattle.std.proofs.Common.{◌≡◌, ◌∙◌, ℕ, true, false, List, [], map, ap, sym, refl, subst}
use Rattle.std.specs.List.{list_any}
use Rattle.undo_chain.specs.declared.undo.Undo.{Undo}
use Rattle.undo_chain.specs.Entry.{is_own}
use Rattle.undo_chain.specs.Lawful.{NoneStampedAbove}
use Rattle.undo_chain.specs.Stamped.{stamped}
use Rattle.block_spec.specs.declared.change.Before.{Before}
use Rattle.block_spec.specs.Slots.{Slot}
use Rattle.block_spec.specs.Bodies.{Body as BodyValue, slot_in}
use Rattle.block_body.specs.Chains.{entries_at, is_listed}
use Rattle.block_body.specs.Bodies.{SlotLists, body_value, slots_of}
use Rattle.block_body.proofs.After.{body_without, stamped_each, stamped_fewer, stamped_none_left, kept_stamped, committed_slots}
use Rattle.block_body.proofs.Bodies.{body_slot}
use Rattle.block_body.proofs.Written.{unlisted}
use Rattle.block_body.proofs.body.Body.stamp.Goals as goal

pub returns-in_default : goal.returns-in_default
returns-in_default c =
    let i = c.self.inside in
    let none = unlisted c.args.session i.rows i.chains.entries i.written i.phase i.last c.self.invariant c.in_default.ensures.none in
    rw (← c.self.view_is)
    (ap (λ (slots : List Slot). record (body_value i.rows i.chains.entries i.phase i.cooling i.rounds i.last) { slots = slots })
    (committed_slots c.args.session c.args.stamp c.args.number i.chains.entries i.chains.entries i.rows.rows
    (stamped_each c.args.session c.args.stamp c.args.number i.chains.entries i.chains.entries []
    (λ k own. let never : true ≡ false = sym own ∙ none k in cc)
    (λ k. refl))))

pub stamp-requires-clause-newest : goal.stamp-requires-clause-newest
stamp-requires-clause-newest c = λ k.
    let i = c.self.inside in
    subst (λ (es : List (Undo Before)). NoneStampedAbove es c.args.stamp)
    (ap (λ (b : BodyValue). (slot_in b k).entries) (sym c.self.view_is) ∙ ap (λ (s : Slot). s.entries) (body_slot i.rows i.chains.entries i.written i.phase i.cooling i.rounds i.last c.self.invariant k))
    (c.requires k)

pub invariant_of-self-2 : goal.invariant_of-self-2
invariant_of-self-2 c =
    let i = c.self.inside in
    let new = c.stamp.new.chains.entries in
    let listed : c.as_slice.result.now ≡ slots_of i.written c.args.session = c.as_slice.ensures.value ∙ c.in-Some.ensures.some in
    let each : (k : ℕ) → entries_at new k ≡ map (stamped c.args.session c.args.stamp c.args.number) (entries_at i.chains.entries k) =
    stamped_each c.args.session c.args.stamp c.args.number i.chains.entries new c.as_slice.result.now
    (λ k own. ap (λ (l : List ℕ). is_listed l k) listed ∙ c.self.invariant.listed c.args.session k own)
    c.stamp.ensures.entries in
    body_without i.rows i.rows i.chains.entries new i.written c.keep.new.self i.phase i.last c.self.invariant
    c.stamp.ensures.chains
    (λ k. kept_stamped i.rows k _ c.args.session c.args.stamp c.args.number (entries_at i.chains.entries k) (entries_at new k) (each k) (c.self.invariant.kept k))
    (λ k none. each k ∙ ap (map (stamped c.args.session c.args.stamp c.args.number)) none)
    refl
    c.self.invariant.frozen
    (λ q k own. stamped_fewer c.args.session c.args.stamp c.args.number q (entries_at i.chains.entries k) (sym (ap (list_any (λ (undo : Undo Before). is_own undo q)) (each k)) ∙ own))
    c.args.session
    (λ k. ap (list_any (λ (undo : Undo Before). is_own undo c.args.session)) (each k) ∙ stamped_none_left c.args.session c.args.stamp c.args.number (entries_at i.chains.entries k))
    (λ q apart. ap (λ (l : SlotLists). slots_of l q) c.keep.ensures ∙ c.take.ensures.others q apart)

pub returns : goal.returns
returns c =
    let i = c.self.inside in
    let new = c.stamp.new.chains.entries in
    let listed : c.as_slice.result.now ≡ slots_of i.written c.args.session = c.as_slice.ensures.value ∙ c.in-Some.ensures.some in
    rw (← c.self.view_is)
    (ap (λ (slots : List Slot). record (body_value i.rows i.chains.entries i.phase i.cooling i.rounds i.last) { slots = slots })
    (committed_slots c.args.session c.args.stamp c.args.number i.chains.entries new i.rows.rows
    (stamped_each c.args.session c.args.stamp c.args.number i.chains.entries new c.as_slice.result.now
    (λ k own. ap (λ (l : List ℕ). is_listed l k) listed ∙ c.self.invariant.listed c.args.session k own)
    c.stamp.ensures.entries)))
