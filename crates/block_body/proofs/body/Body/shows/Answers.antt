use Rattle.std.proofs.Common.{◌≡◌, ◌∙◌, List, Option, None, is_some, get_or, ap, sym, subst}
use Rattle.std.specs.Prelude.{◌↔◌, IsTrue, IsSome, fold}
use Rattle.undo_chain.specs.Visible.{images_laid_back}
use Rattle.undo_chain.specs.declared.undo.Undo.{Undo}
use Rattle.block_spec.specs.declared.change.Before.{Before}
use Rattle.block_spec.specs.Slots.{Row, Slot, seen}
use Rattle.block_spec.specs.Bodies.{Body as BodyValue, slot_in}
use Rattle.block_body.specs.Chains.{slot_at}
use Rattle.block_body.specs.Presence.{had_row}
use Rattle.block_body.proofs.Bodies.{body_slot}
use Rattle.block_body.proofs.Presence.{slot_shows, told_there}
use Rattle.block_body.proofs.body.Body.shows.Goals as goal

pub returns-in-Some : goal.returns-in-Some
returns-in-Some c =
    let i = c.self.inside in
    let at : slot_in c.args.self.now c.args.slot ≡ slot_at i.rows.rows i.chains.entries c.args.slot =
    ap (λ (b : BodyValue). slot_in b c.args.slot) (sym c.self.view_is) ∙ body_slot i.rows i.chains.entries i.written i.phase i.cooling i.rounds i.last c.self.invariant c.args.slot in
    let has : c.has_row-has_row.result ≡ is_some (get_or i.rows.rows c.args.slot None) =
    told_there c.has_row-has_row.result (get_or i.rows.rows c.args.slot None)
    (subst (λ (l : List (Option Row)). IsTrue c.has_row-has_row.result ↔ IsSome (get_or l c.args.slot None)) c.columns.ensures.rows c.has_row-has_row.ensures) in
    c.is_row_visible.ensures
    ∙ ap (λ (es : List (Undo Before)). fold had_row c.has_row-has_row.result (images_laid_back es c.args.stamp c.args.session)) (c.entries.ensures ∙ c.in-Some.ensures.entries)
    ∙ slot_shows (slot_at i.rows.rows i.chains.entries c.args.slot) c.args.stamp c.args.session c.has_row-has_row.result has
    ∙ ap (λ (s : Slot). is_some (seen s c.args.stamp c.args.session)) (sym at)

pub returns-in-None : goal.returns-in-None
returns-in-None c =
    let i = c.self.inside in
    let at : slot_in c.args.self.now c.args.slot ≡ slot_at i.rows.rows i.chains.entries c.args.slot =
    ap (λ (b : BodyValue). slot_in b c.args.slot) (sym c.self.view_is) ∙ body_slot i.rows i.chains.entries i.written i.phase i.cooling i.rounds i.last c.self.invariant c.args.slot in
    let has : c.has_row-has_row.result ≡ is_some (get_or i.rows.rows c.args.slot None) =
    told_there c.has_row-has_row.result (get_or i.rows.rows c.args.slot None)
    (subst (λ (l : List (Option Row)). IsTrue c.has_row-has_row.result ↔ IsSome (get_or l c.args.slot None)) c.columns.ensures.rows c.has_row-has_row.ensures) in
    ap (λ (es : List (Undo Before)). fold had_row c.has_row-has_row.result (images_laid_back es c.args.stamp c.args.session)) (sym c.in-None.ensures.none)
    ∙ slot_shows (slot_at i.rows.rows i.chains.entries c.args.slot) c.args.stamp c.args.session c.has_row-has_row.result has
    ∙ ap (λ (s : Slot). is_some (seen s c.args.stamp c.args.session)) (sym at)
