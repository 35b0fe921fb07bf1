-- The next slot of a body with an entry, from the next with a chain.
use Rattle.std.proofs.Common.{◌≡◌, ◌∙◌, ℕ, ◌<◌, ◌≤◌, true, false, List, [], ◌∷◌, Option, None, Some, length, refl, sym, ap, subst, arith}
use Rattle.std.specs.Prelude.{IfNone, IfSome, IsSome}
use Rattle.block_spec.specs.declared.change.Before.{Before}
use Rattle.block_spec.specs.Bodies.{Body as BodyValue, slot_in}
use Rattle.block_spec.specs.Slots.{Row, Slot, has_none}
use Rattle.block_body.specs.Chains.{AreChains, Chains, chain_at, entries_at, entries_of, slot_at}
use Rattle.block_body.specs.Changes.{IsNextVersioned}
use Rattle.undo_chain.specs.declared.undo.Undo.{Undo}
use Rattle.undo_chain.specs.State.{ChainState}

-- Where entries are counted, there is not none of them.
some_entry : (es : List (Undo Before)) → 0 < length es → has_none es ≡ false
some_entry [] less = absurd (omega (arith, less))
some_entry (e ∷ es) less = refl

module _ (body : BodyValue) (rows : List (Option Row)) (chains : Chains) (each : AreChains chains)
    (at : (slot : ℕ) → slot_in body slot ≡ slot_at rows chains slot)
    (within : (slot : ℕ) → 0 < length (entries_at chains slot) → slot < length body.slots) where
  -- A slot without a chain has no entry.
  none_there : (slot : ℕ) → chain_at chains slot ≡ None → has_none (slot_in body slot).entries ≡ true
  none_there slot is = ap (λ (s : Slot). has_none s.entries) (at slot) ∙ ap (λ (o : Option (ChainState Before)). has_none (entries_of o)) is

  -- A slot with a chain has an entry.
  one_there : (slot : ℕ) → IsSome (chain_at chains slot) → 0 < length (entries_at chains slot)
  one_there slot some = go (chain_at chains slot) refl some
    where
      go : (o : Option (ChainState Before)) → chain_at chains slot ≡ o → IsSome o → 0 < length (entries_at chains slot)
      go None is x = cc
      go (Some chain) is x = subst (λ (o : Option (ChainState Before)). 0 < length (entries_of o)) (sym is) (each.each slot chain is).some

  -- The next slot with a chain is the next with an entry; where none has one, no slot has.
  pub next_told : (from : ℕ) (r : Option ℕ) → IfSome r (λ slot. IsSome (chain_at chains slot)) → IfSome r (λ slot. from ≤ slot)
      → IfSome r (λ slot. (other : ℕ) → from ≤ other → other < slot → chain_at chains other ≡ None) → IfNone r ((other : ℕ) → from ≤ other → chain_at chains other ≡ None)
      → IsNextVersioned body from r
  next_told from None some above least none = λ slot le. none_there slot (none slot le)
  next_told from (Some slot) some above least none =
      let there = one_there slot some in (
        above,
        within slot there,
        ap (λ (s : Slot). has_none s.entries) (at slot) ∙ some_entry (entries_at chains slot) there,
        λ other le less. none_there other (least other le less),
      )
