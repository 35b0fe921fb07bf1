use Rattle.std.proofs.Common.{◌≡◌, ◌∙◌, ◌+◌, ◌<◌, cond, List, Option, None, length, reverse, get_or, ap, sym, subst}
use Rattle.std.specs.Prelude.{is_some, IfOk}
use Rattle.undo_chain.specs.Visible.{visible_row}
use Rattle.undo_chain.specs.declared.undo.Undo.{Undo}
use Rattle.block_spec.specs.declared.change.Before.{Before}
use Rattle.block_spec.specs.Slots.{Row, Slot, laid_back, seen}
use Rattle.block_spec.specs.Bodies.{Body as BodyValue, slot_in}
use Rattle.block_body.specs.Chains.{slot_at, entries_at}
use Rattle.block_body.proofs.Bodies.{body_slot}
use Rattle.block_body.proofs.Slots.{slots-length}
use Rattle.block_body.proofs.body.Body.read.Goals as goal

pub row-requires : goal.row-requires
row-requires g c =
    let i = c.self.inside in
    subst (λ n. c.args.slot < n)
    (ap (λ (b : BodyValue). length b.slots) (sym c.self.view_is) ∙ slots-length (entries_at i.chains.entries) 0 i.rows.rows ∙ sym (ap length c.columns.ensures.rows))
    c.requires

pub returns-in_err-row-clause-steps : goal.returns-in_err-row-clause-steps
returns-in_err-row-clause-steps g c =
    let i = c.self.inside in
    let at : slot_in c.args.self.now c.args.slot ≡ slot_at i.rows.rows i.chains.entries c.args.slot =
    ap (λ (b : BodyValue). slot_in b c.args.slot) (sym c.self.view_is) ∙ body_slot i.rows i.chains.entries i.written i.phase i.cooling i.rounds i.last c.self.invariant c.args.slot in
    c.row.ensures.steps
    ∙ ap (λ (l : List (Option Row)). c.args.steps.now + cond (is_some (get_or l c.args.slot None)) 1 0) c.columns.ensures.rows
    ∙ ap (λ (s : Slot). c.args.steps.now + cond (is_some s.row) 1 0) (sym at)

pub returns-in-Some-clause-row : goal.returns-in-Some-clause-row
returns-in-Some-clause-row g c =
    let i = c.self.inside in
    let at : slot_in c.args.self.now c.args.slot ≡ slot_at i.rows.rows i.chains.entries c.args.slot =
    ap (λ (b : BodyValue). slot_in b c.args.slot) (sym c.self.view_is) ∙ body_slot i.rows i.chains.entries i.written i.phase i.cooling i.rounds i.last c.self.invariant c.args.slot in
    subst (λ (r : Option Row). IfOk c.visible_row.result (λ row. row ≡ r))
    (ap (λ (r : Option Row). visible_row laid_back r (reverse c.entries.result.now) c.args.stamp c.args.session) (c.in_ok-row.ensures.row ∙ ap (λ (l : List (Option Row)). get_or l c.args.slot None) c.columns.ensures.rows)
    ∙ ap (λ (es : List (Undo Before)). visible_row laid_back (get_or i.rows.rows c.args.slot None) es c.args.stamp c.args.session) (c.entries.ensures ∙ c.in-Some.ensures.entries)
    ∙ ap (λ (s : Slot). seen s c.args.stamp c.args.session) (sym at))
    c.visible_row.ensures

pub returns-in-Some-clause-steps : goal.returns-in-Some-clause-steps
returns-in-Some-clause-steps g c =
    let i = c.self.inside in
    let at : slot_in c.args.self.now c.args.slot ≡ slot_at i.rows.rows i.chains.entries c.args.slot =
    ap (λ (b : BodyValue). slot_in b c.args.slot) (sym c.self.view_is) ∙ body_slot i.rows i.chains.entries i.written i.phase i.cooling i.rounds i.last c.self.invariant c.args.slot in
    c.row.ensures.steps
    ∙ ap (λ (l : List (Option Row)). c.args.steps.now + cond (is_some (get_or l c.args.slot None)) 1 0) c.columns.ensures.rows
    ∙ ap (λ (s : Slot). c.args.steps.now + cond (is_some s.row) 1 0) (sym at)

pub returns-in-None-clause-row : goal.returns-in-None-clause-row
returns-in-None-clause-row g c =
    let i = c.self.inside in
    let at : slot_in c.args.self.now c.args.slot ≡ slot_at i.rows.rows i.chains.entries c.args.slot =
    ap (λ (b : BodyValue). slot_in b c.args.slot) (sym c.self.view_is) ∙ body_slot i.rows i.chains.entries i.written i.phase i.cooling i.rounds i.last c.self.invariant c.args.slot in
    c.in_ok-row.ensures.row
    ∙ ap (λ (l : List (Option Row)). get_or l c.args.slot None) c.columns.ensures.rows
    ∙ ap (λ (es : List (Undo Before)). visible_row laid_back (get_or i.rows.rows c.args.slot None) es c.args.stamp c.args.session) (sym c.in-None.ensures.none)
    ∙ ap (λ (s : Slot). seen s c.args.stamp c.args.session) (sym at)

pub returns-in-None-clause-steps : goal.returns-in-None-clause-steps
returns-in-None-clause-steps g c =
    let i = c.self.inside in
    let at : slot_in c.args.self.now c.args.slot ≡ slot_at i.rows.rows i.chains.entries c.args.slot =
    ap (λ (b : BodyValue). slot_in b c.args.slot) (sym c.self.view_is) ∙ body_slot i.rows i.chains.entries i.written i.phase i.cooling i.rounds i.last c.self.invariant c.args.slot in
    c.row.ensures.steps
    ∙ ap (λ (l : List (Option Row)). c.args.steps.now + cond (is_some (get_or l c.args.slot None)) 1 0) c.columns.ensures.rows
    ∙ ap (λ (s : Slot). c.args.steps.now + cond (is_some s.row) 1 0) (sym at)
