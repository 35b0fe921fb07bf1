use mir.Val.{of_z, to_z}
use Rattle.std.proofs.Common.{◌≡◌, ◌∙◌, ℤ, w64, List, Option, None, Some, option_map, get_or, ap, sym, subst, rules}
use Rattle.std.specs.Prelude.{◌↔◌, IsTrue, IsSome, is_some}
use Rattle.std.proofs.lemmas.Int.{to_z-of_z}
use Rattle.isolation_spec.specs.Contents.{key_of}
use Rattle.undo_chain.specs.Lawful.{IsLawful}
use Rattle.undo_chain.proofs.Ends.{last_first}
use Rattle.block_spec.specs.Slots.{Row, Slot}
use Rattle.block_spec.specs.Bodies.{Body as BodyValue, slot_in}
use Rattle.block_body.specs.Chains.{slot_at}
use Rattle.block_body.proofs.After.{lawful_at}
use Rattle.block_body.proofs.Bodies.{body_slot}
use Rattle.block_body.proofs.Moved.{left_bare, left_key, left_newer, left_row, no_row_there}
use Rattle.block_body.proofs.body.Body.key_left.Goals as goal

pub returns-then-has_row : goal.returns-then-has_row
returns-then-has_row c =
    let i = c.self.inside in
    let at : slot_in c.args.self.now c.args.slot ≡ slot_at i.rows.rows i.chains.entries c.args.slot =
    ap (λ (b : BodyValue). slot_in b c.args.slot) (sym c.self.view_is) ∙ body_slot i.rows i.chains.entries i.written i.phase i.cooling i.rounds i.last c.self.invariant c.args.slot in
    left_row c.args.oldest (slot_in c.args.self.now c.args.slot)
    (ap (λ (s : Slot). is_some s.row) at
    ∙ (subst (λ (l : List (Option Row)). IsTrue c.has_row.result ↔ IsSome (get_or l c.args.slot None)) c.columns.ensures.rows c.has_row.ensures).0 c.if-has_row.true)

pub returns-in_err-chain : goal.returns-in_err-chain
returns-in_err-chain c =
    let i = c.self.inside in
    let at : slot_in c.args.self.now c.args.slot ≡ slot_at i.rows.rows i.chains.entries c.args.slot =
    ap (λ (b : BodyValue). slot_in b c.args.slot) (sym c.self.view_is) ∙ body_slot i.rows i.chains.entries i.written i.phase i.cooling i.rounds i.last c.self.invariant c.args.slot in
    let row : (slot_in c.args.self.now c.args.slot).row ≡ None =
    ap (λ (s : Slot). s.row) at ∙ no_row_there (get_or i.rows.rows c.args.slot None) c.has_row.result
    (subst (λ (l : List (Option Row)). IsTrue c.has_row.result ↔ IsSome (get_or l c.args.slot None)) c.columns.ensures.rows c.has_row.ensures) c.if-has_row.false in
    c.from_residual.ensures ∙ left_bare c.args.oldest (slot_in c.args.self.now c.args.slot) row (ap (λ (s : Slot). s.entries) at ∙ c.in_err-chain.ensures.none)

pub returns-then-not-is_stamped_by : goal.returns-then-not-is_stamped_by
returns-then-not-is_stamped_by c =
    let i = c.self.inside in
    let at : slot_in c.args.self.now c.args.slot ≡ slot_at i.rows.rows i.chains.entries c.args.slot =
    ap (λ (b : BodyValue). slot_in b c.args.slot) (sym c.self.view_is) ∙ body_slot i.rows i.chains.entries i.written i.phase i.cooling i.rounds i.last c.self.invariant c.args.slot in
    let row : (slot_in c.args.self.now c.args.slot).row ≡ None =
    ap (λ (s : Slot). s.row) at ∙ no_row_there (get_or i.rows.rows c.args.slot None) c.has_row.result
    (subst (λ (l : List (Option Row)). IsTrue c.has_row.result ↔ IsSome (get_or l c.args.slot None)) c.columns.ensures.rows c.has_row.ensures) c.if-has_row.false in
    let found = last_first c.entries.result.now c.in_ok-last.field-0.now c.in_ok-last.ensures.value in
    left_newer c.args.oldest (slot_in c.args.self.now c.args.slot) c.in_ok-last.field-0.now found.0 row
    (ap (λ (s : Slot). s.entries) at ∙ sym c.in_ok-chain.ensures.entries ∙ sym c.entries.ensures ∙ found.1)
    (sym c.is_stamped_by.ensures ∙ c.if-not-is_stamped_by.true)

pub taken_away-requires : goal.taken_away-requires
taken_away-requires c =
    let i = c.self.inside in
    let at : slot_in c.args.self.now c.args.slot ≡ slot_at i.rows.rows i.chains.entries c.args.slot =
    ap (λ (b : BodyValue). slot_in b c.args.slot) (sym c.self.view_is) ∙ body_slot i.rows i.chains.entries i.written i.phase i.cooling i.rounds i.last c.self.invariant c.args.slot in
    ap (λ (s : Slot). s.row) at ∙ no_row_there (get_or i.rows.rows c.args.slot None) c.has_row.result
    (subst (λ (l : List (Option Row)). IsTrue c.has_row.result ↔ IsSome (get_or l c.args.slot None)) c.columns.ensures.rows c.has_row.ensures) c.if-has_row.false

pub returns : goal.returns
returns c =
    let i = c.self.inside in
    let at : slot_in c.args.self.now c.args.slot ≡ slot_at i.rows.rows i.chains.entries c.args.slot =
    ap (λ (b : BodyValue). slot_in b c.args.slot) (sym c.self.view_is) ∙ body_slot i.rows i.chains.entries i.written i.phase i.cooling i.rounds i.last c.self.invariant c.args.slot in
    let row : (slot_in c.args.self.now c.args.slot).row ≡ None =
    ap (λ (s : Slot). s.row) at ∙ no_row_there (get_or i.rows.rows c.args.slot None) c.has_row.result
    (subst (λ (l : List (Option Row)). IsTrue c.has_row.result ↔ IsSome (get_or l c.args.slot None)) c.columns.ensures.rows c.has_row.ensures) c.if-has_row.false in
    let found = last_first c.entries.result.now c.in_ok-last.field-0.now c.in_ok-last.ensures.value in
    let key : to_z w64 (of_z w64 c.key_of.result) ≡ c.key_of.result = to_z-of_z w64 c.key_of.result (search rules) in
    ap (λ (k : ℤ). Some k) (key ∙ c.key_of.ensures)
    ∙ ap (λ (o : Option Row). option_map key_of o) c.in_ok-taken_away.ensures
    ∙ left_key c.args.oldest (slot_in c.args.self.now c.args.slot) c.in_ok-last.field-0.now found.0 row
    (ap (λ (s : Slot). s.entries) at ∙ sym c.in_ok-chain.ensures.entries ∙ sym c.entries.ensures ∙ found.1)
    (subst (λ (s : Slot). IsLawful s.entries) (sym at) (lawful_at i.chains.entries c.self.invariant.each c.args.slot))
    (sym c.is_stamped_by.ensures ∙ c.if-not-is_stamped_by.false)
