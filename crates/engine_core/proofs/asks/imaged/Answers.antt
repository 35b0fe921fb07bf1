use Rattle.std.proofs.Common.{◌≡◌, ◌∙◌, None, Some, rules, to_z, of_z, w64, true, false, sym, ap, subst}
use Rattle.std.proofs.Math.Facts.{to_z-of_z}
use mathlib.Core.Logic.{inl, inr}
use Rattle.block_spec.specs.Bodies.{is_imaged}
use Rattle.engine_core.proofs.Asked.{imaged_by, imaged_newest, newest_there, thawed_where}
use Rattle.engine_core.specs.Asks.{imaged_block, newest_of}
use Rattle.event_spec.specs.Parts.{Parts}
use Rattle.hall_rule.specs.Hands.{Agrees}
use Rattle.core_events.specs.Candidates.{candidates_in}
use Rattle.core_events.specs.Slots.{HasSlots}
use Rattle.engine_core.proofs.asks.imaged.Goals as goal

pub current-requires : goal.current-requires
current-requires c =
    let key : to_z w64 (of_z w64 c.args.key) ≡ c.args.key = to_z-of_z {w = w64} (search rules) in
    subst (HasSlots c.args.shape.now c.args.held.now c.args.table) (sym (c.newest-places.ensures ∙ ap newest_of (c.candidates.ensures ∙ ap (candidates_in c.args.shape.now c.args.held.now c.args.table) key)))
    (newest_there c.args.shape.now c.args.held.now c.args.table c.args.key c.requires.parts c.requires.core)

pub returns-in_err-place-clause-block : goal.returns-in_err-place-clause-block
returns-in_err-place-clause-block c = λ s agrees.
    let key : to_z w64 (of_z w64 c.args.key) ≡ c.args.key = to_z-of_z {w = w64} (search rules) in
    c.from_residual.ensures
    ∙ imaged_newest c.args.shape.now c.args.held.now c.args.table c.args.key c.requires.parts c.requires.core s agrees c.newest-places.result.now None
    (c.newest-places.ensures ∙ ap newest_of (c.candidates.ensures ∙ ap (candidates_in c.args.shape.now c.args.held.now c.args.table) key))
    (c.in_err-place.ensures.place s agrees)

pub returns-in_err-place-clause-thawed : goal.returns-in_err-place-clause-thawed
returns-in_err-place-clause-thawed c = λ none s agrees.
    thawed_where c.args.shape.now s c.args.table c.args.key (sym (returns-in_err-place-clause-block c s agrees) ∙ none)

pub returns-in-Imaged-clause-block : goal.returns-in-Imaged-clause-block
returns-in-Imaged-clause-block c = λ s agrees.
    let key : to_z w64 (of_z w64 c.args.key) ≡ c.args.key = to_z-of_z {w = w64} (search rules) in
    imaged_by c.args.shape.now c.args.held.now s c.args.table c.args.key c.block-block.result c.in_ok-place.place c.body.result.now c.block-block.ensures.block c.body.ensures agrees true
    (ap is_imaged (sym c.phase.ensures ∙ c.in-Imaged.is))
    ∙ imaged_newest c.args.shape.now c.args.held.now c.args.table c.args.key c.requires.parts c.requires.core s agrees c.newest-places.result.now (Some c.in_ok-place.place)
    (c.newest-places.ensures ∙ ap newest_of (c.candidates.ensures ∙ ap (candidates_in c.args.shape.now c.args.held.now c.args.table) key))
    (c.in_ok-place.ensures.place s agrees)

pub returns-in-Loose : goal.returns-in-Loose
returns-in-Loose c =
    let key : to_z w64 (of_z w64 c.args.key) ≡ c.args.key = to_z-of_z {w = w64} (search rules) in
    let loose : is_imaged c.body.result.now.phase ≡ false = elim c.in-Loose.is [ inl e ↦ ap is_imaged (sym c.phase.ensures ∙ e) | inr x ↦ ap is_imaged (sym c.phase.ensures ∙ x.1) ] in
    let none : (s : Parts) → Agrees c.args.held.now s → None ≡ imaged_block c.args.shape.now s c.args.table c.args.key =
    λ s agrees.
    imaged_by c.args.shape.now c.args.held.now s c.args.table c.args.key c.block-block.result c.in_ok-place.place c.body.result.now c.block-block.ensures.block c.body.ensures agrees false loose
    ∙ imaged_newest c.args.shape.now c.args.held.now c.args.table c.args.key c.requires.parts c.requires.core s agrees c.newest-places.result.now (Some c.in_ok-place.place)
    (c.newest-places.ensures ∙ ap newest_of (c.candidates.ensures ∙ ap (candidates_in c.args.shape.now c.args.held.now c.args.table) key))
    (c.in_ok-place.ensures.place s agrees) in
    record { block = none; thawed = λ told s agrees. thawed_where c.args.shape.now s c.args.table c.args.key (sym (none s agrees)) }
