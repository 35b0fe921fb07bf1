use Rattle.std.proofs.Common.{◌∙◌, List, Option, None, Some, take, get_or, ◌<◌, sym, ap, subst}
use Rattle.std.specs.Prelude.{IsSome, flat_map, option_to_list}
use mathlib.Core.Logic.{inl, inr}
use Rattle.block_spec.specs.Slots.{Row}
use Rattle.core_parts.proofs.Front.{front_held}
use Rattle.engine_core.proofs.Asked.{few_slots, front_is, image_imaged, image_loose, image_sealed, image_there, rows_few, sealed_front}
use Rattle.sole_store.proofs.freezing.image_in.Goals as goal

pub gather_in_turn-requires-clause-held : goal.gather_in_turn-requires-clause-held
gather_in_turn-requires-clause-held c = λ slot less.
    let x = c.body-sealed.result.now in
    let front = sealed_front c.args.shape.now c.args.hand.now c.args.table c.args.block x c.body-sealed.ensures c.requires.core c.requires.body c.in-Sealed.field-0 (sym c.phase.ensures ∙ c.in-Sealed.is) in
    subst (λ (l : List (Option Row)). IsSome (get_or l slot None)) (sym c.columns-columns.ensures.rows)
    (front_held x.slots front slot (subst (λ n. slot < n) c.rows-rows.ensures less))

pub gather_in_turn-requires-clause-few : goal.gather_in_turn-requires-clause-few
gather_in_turn-requires-clause-few c =
    let x = c.body-sealed.result.now in
    rows_few x c.rows-rows.result c.rows-rows.ensures (few_slots c.args.shape.now c.args.hand.now c.args.table c.args.block x c.body-sealed.ensures c.requires.core c.requires.body)

pub returns-in_ok-new-in-Sealed : goal.returns-in_ok-new-in-Sealed
returns-in_ok-new-in-Sealed c = λ s holds agrees.
    let x = c.body-sealed.result.now in
    let sealed = sym c.phase.ensures ∙ c.in-Sealed.is in
    let front = sealed_front c.args.shape.now c.args.hand.now c.args.table c.args.block x c.body-sealed.ensures c.requires.core c.requires.body c.in-Sealed.field-0 sealed in
    image_there c.args.shape.now c.args.hand.now c.args.table c.args.block x c.body-sealed.ensures (Some c.in_ok-new-in-Sealed.field-0)
    (image_sealed x c.in_ok-new-in-Sealed.field-0 c.in-Sealed.field-0 sealed (
    c.in_ok-new-in-Sealed.ensures
    ∙ ap (λ (l : List (Option Row)). flat_map (λ slot. option_to_list slot) (take c.rows-rows.result l)) c.columns-columns.ensures.rows
    ∙ front_is x c.rows-rows.result front c.rows-rows.ensures
    )) s agrees

pub returns-in-Loose : goal.returns-in-Loose
returns-in-Loose c = λ s holds agrees.
    let x = c.body-sealed.result.now in
    image_there c.args.shape.now c.args.hand.now c.args.table c.args.block x c.body-sealed.ensures None
    (elim c.in-Loose.is [ inl e ↦ image_loose x (sym c.phase.ensures ∙ e) | inr y ↦ image_imaged x y.0 (sym c.phase.ensures ∙ y.1) ]) s agrees
