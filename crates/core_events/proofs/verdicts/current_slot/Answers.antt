use Rattle.std.proofs.Common.{◌≡◌, Some, Err, ap, ◌∙◌, sym, subst}
use Rattle.block_layout.specs.Place.{block_of}
use Rattle.block_spec.specs.declared.phase.Phase.TheVariants.{Loose, Sealed, Imaged}
use Rattle.core_parts.specs.Hands.{Has}
use Rattle.event_spec.specs.declared.reply.WriteFault.TheVariants.{Freezing, Missing}
use Rattle.block_spec.specs.declared.phase.Phase.{Phase}
use Rattle.event_spec.specs.Judged.{current_place, freezing_of, judged}
use Rattle.event_spec.specs.Parts.{body_at, slot_at}
use Rattle.std.specs.Prelude.{option_and_then}
use mathlib.Core.Logic.{inl, inr}
use Rattle.event_spec.specs.Parts.{BodyOf}
use Rattle.core_events.proofs.Places.{change_told}
use Rattle.core_events.proofs.verdicts.current_slot.Goals as goal

pub body-requires : goal.body-requires
body-requires c = subst (λ b. Has c.args.shape.now c.args.held.now (BodyOf c.args.table b)) (sym c.block.ensures.block) (c.in-Some.ensures.there).body

pub returns-in-Sealed : goal.returns-in-Sealed
returns-in-Sealed c = λ s agrees.
    ap (λ b. Err (Freezing b c.in-Sealed.stamp)) c.block-in-Sealed.ensures.block
    ∙ change_told c.args.shape.now c.args.held.now s c.args.table c.block.result c.in-Some.place c.args.places.now c.body.result.now (Sealed c.in-Sealed.stamp) agrees (c.in-Some.ensures.place s agrees)
    c.block.ensures.block c.body.ensures (sym c.phase.ensures ∙ c.in-Sealed.is)

pub returns-in-Loose : goal.returns-in-Loose
returns-in-Loose c = λ s agrees.
    let told : (phase : Phase) → c.phase.result ≡ phase → judged (freezing_of (block_of c.in-Some.place) phase) (Some c.in-Some.place) Missing
    ≡ judged (option_and_then (λ place. freezing_of (block_of place) (body_at c.args.shape.now s c.args.table (block_of place)).phase) (current_place (slot_at c.args.shape.now s c.args.table) c.args.places.now)) (current_place (slot_at c.args.shape.now s c.args.table) c.args.places.now) Missing =
    λ phase is. change_told c.args.shape.now c.args.held.now s c.args.table c.block.result c.in-Some.place c.args.places.now c.body.result.now phase agrees (c.in-Some.ensures.place s agrees)
    c.block.ensures.block c.body.ensures (sym c.phase.ensures ∙ is) in
    elim c.in-Loose.is [ inl e ↦ told Loose e | inr x ↦ told (Imaged x.0) x.1 ]
