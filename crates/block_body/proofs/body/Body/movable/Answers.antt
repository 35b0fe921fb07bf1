use mir.Val.{of_z, to_z}
use Rattle.std.proofs.Common.{◌≡◌, ◌∙◌, w64, ℤ, List, Option, None, get_or, refl, ap, sym, subst, rules}
use Rattle.std.specs.Prelude.{◌↔◌, IsTrue, IsSome, IfSome}
use Rattle.std.proofs.lemmas.Int.{to_z-of_z}
use Rattle.block_spec.specs.Slots.{Row, Slot, has_none}
use Rattle.block_spec.specs.Looks.{movable_row}
use Rattle.block_spec.specs.Bodies.{Body as BodyValue, slot_in}
use Rattle.isolation_spec.specs.Contents.{key_of}
use Rattle.block_body.specs.Chains.{chain_at, slot_at}
use Rattle.block_body.specs.Keys.{HasKey}
use Rattle.block_body.proofs.Bodies.{body_slot}
use Rattle.block_body.proofs.Looks.{may_move, no_row, with_entry}
use Rattle.block_body.proofs.body.Body.movable.Goals as goal
use Rattle.block_body.proofs.body.Body.movable.Goals.{then-not-has_row-via-then-not-has_row, then-not-has_row-via-else-not-has_row+then-has_chain}

pub returns-then-not-has_row : goal.returns-then-not-has_row
returns-then-not-has_row c =
    let i = c.self.inside in
    let at : slot_in c.args.self.now c.args.slot ≡ slot_at i.rows.rows i.chains.entries c.args.slot =
    ap (λ (b : BodyValue). slot_in b c.args.slot) (sym c.self.view_is) ∙ body_slot i.rows i.chains.entries i.written i.phase i.cooling i.rounds i.last c.self.invariant c.args.slot in
    let row : Option Row = get_or i.rows.rows c.args.slot None in
    let tells = subst (λ (l : List (Option Row)). IsTrue c.has_row.result ↔ IsSome (get_or l c.args.slot None)) c.columns-columns.ensures.rows c.has_row.ensures in
    let back = ap (λ (s : Slot). movable_row c.args.slot s.row (has_none s.entries)) (sym at) in
    elim c.then-not-has_row.branch [
      | then-not-has_row-via-then-not-has_row w ↦
          no_row c.args.slot (get_or i.rows.rows c.args.slot None) (chain_at i.chains.entries c.args.slot) (c.self.invariant.each.each c.args.slot) c.has_row.result _ tells refl w.if-not-has_row.true ∙ back
      | then-not-has_row-via-else-not-has_row+then-has_chain w ↦
          with_entry c.args.slot (get_or i.rows.rows c.args.slot None) (chain_at i.chains.entries c.args.slot) (c.self.invariant.each.each c.args.slot) c.has_row.result w.has_chain.result tells w.has_chain.ensures w.if-has_chain.true ∙ back
    ]

pub key_at-key-requires-clause-key : goal.key_at-key-requires-clause-key
key_at-key-requires-clause-key c =
    let i = c.self.inside in
    let at : slot_in c.args.self.now c.args.slot ≡ slot_at i.rows.rows i.chains.entries c.args.slot =
    ap (λ (b : BodyValue). slot_in b c.args.slot) (sym c.self.view_is) ∙ body_slot i.rows i.chains.entries i.written i.phase i.cooling i.rounds i.last c.self.invariant c.args.slot in
    subst (λ (l : List (Option Row)). IfSome (get_or l c.args.slot None) HasKey) (sym c.columns-columns.ensures.rows) (subst (λ (s : Slot). IfSome s.row HasKey) at (c.requires.rows c.args.slot))

pub returns : goal.returns
returns c =
    let i = c.self.inside in
    let at : slot_in c.args.self.now c.args.slot ≡ slot_at i.rows.rows i.chains.entries c.args.slot =
    ap (λ (b : BodyValue). slot_in b c.args.slot) (sym c.self.view_is) ∙ body_slot i.rows i.chains.entries i.written i.phase i.cooling i.rounds i.last c.self.invariant c.args.slot in
    let rows = c.columns-columns.ensures.rows in
    let written : to_z w64 (of_z w64 c.key_at-key.result) ≡ c.key_at-key.result = to_z-of_z w64 c.key_at-key.result (search rules) in
    may_move c.args.slot (get_or i.rows.rows c.args.slot None) (chain_at i.chains.entries c.args.slot) (c.self.invariant.each.each c.args.slot) c.has_row.result c.has_chain.result
    (subst (λ (l : List (Option Row)). IsTrue c.has_row.result ↔ IsSome (get_or l c.args.slot None)) rows c.has_row.ensures) c.has_chain.ensures
    c.if-not-has_row.false c.if-has_chain.false (to_z w64 (of_z w64 c.key_at-key.result))
    (subst (λ (k : ℤ). IfSome (get_or i.rows.rows c.args.slot None) (λ row. k ≡ key_of row)) (sym written)
    (subst (λ (l : List (Option Row)). IfSome (get_or l c.args.slot None) (λ row. c.key_at-key.result ≡ key_of row)) rows c.key_at-key.ensures))
    ∙ ap (λ (s : Slot). movable_row c.args.slot s.row (has_none s.entries)) (sym at)
