-- What the chains answer after one of them was changed.
use Rattle.std.proofs.Common.{◌≡◌, ◌≢◌, ◌∙◌, ◌<◌, ◌≤◌, ◌^◌, ℕ, Bool, true, false, List, [], ◌∷◌, length, Option, None, Some, refl, sym, ap, subst, arith, ⊎_elim}
use Rattle.std.specs.Ordering.{nat_cmp, is_eq}
use Rattle.std.specs.Cmp.{nat_cmp_is}
use Rattle.std.specs.FinMap.{nat_cmp-IsAntisymmetric}
use Rattle.std.specs.declared.cmp.Ordering.{Ordering}
use Rattle.std.specs.declared.cmp.Ordering.TheVariants.{Less, Equal, Greater}
use Rattle.std.specs.BTreeMap.{is_at}
use Rattle.std.proofs.lemmas.Bool.{cases_eq}
use Rattle.std.proofs.lemmas.Option.{same_Some}
use Rattle.block_spec.specs.declared.change.Before.{Before}
use Rattle.undo_chain.specs.State.{ChainState}
use Rattle.undo_chain.specs.declared.undo.Undo.{Undo}
use Rattle.undo_chain.specs.Lawful.{IsLawful}
use Rattle.block_body.specs.Chains.{Chains, AreChains, IsChain, chain_at}
use Rattle.block_body.specs.Tables.{kept, kept_for}

-- An ordering that is tested to be equal is equal.
Equal-from_is_eq : (r : Ordering) → is_eq r ≡ true → r ≡ Equal
Equal-from_is_eq Less tied = cc
Equal-from_is_eq Equal tied = refl
Equal-from_is_eq Greater tied = cc

-- A slot that is found at the place of another is that slot.
pub tied : (slot q : ℕ) → is_at (nat_cmp slot) q ≡ true → slot ≡ q
tied slot q is = nat_cmp-IsAntisymmetric slot q (Equal-from_is_eq (nat_cmp slot q) is)

-- Each slot is at its own place.
pub is_at-same : (slot : ℕ) → is_at (nat_cmp slot) slot ≡ true
is_at-same slot = ap is_eq (sym (nat_cmp_is slot slot Equal refl))

-- No slot is at the place of another.
pub is_at-other : (slot q : ℕ) → q ≢ slot → is_at (nat_cmp slot) q ≡ false
is_at-other slot q other = go (is_at (nat_cmp slot) q) refl
  where
    go : (b : Bool) → is_at (nat_cmp slot) q ≡ b → b ≡ false
    go true is = absurd (other (sym (tied slot q is)))
    go false is = refl

-- An option is not both nothing and something.
none_not : {X : Type 0} (a : Option X) (x : X) → a ≡ None → a ≡ Some x → ⊥
none_not a x none some = cc

-- the chains are lawful where one that is was put back
pub put_chains : (old new : Chains) (slot : ℕ) (chain : ChainState Before) → AreChains old → chain_at new slot ≡ kept chain → ((q : ℕ) → q ≢ slot → chain_at new q ≡ chain_at old q)
    → length chain.entries ≤ 2 ^ 31 → IsLawful chain.entries → AreChains new
put_chains old new slot chain are here others few lawful = record {
  each = λ q found at. ⊎_elim (λ same. go found chain.entries refl (sym here ∙ ap (chain_at new) (sym same) ∙ at)) (λ other. are.each q found (sym (others q other) ∙ at)) (cases_eq q slot);
}
  where
    go : (found : ChainState Before) (es : List (Undo Before)) → chain.entries ≡ es → kept_for es chain ≡ Some found → IsChain found
    go found [] is e = absurd (none_not None found refl e)
    go found (u ∷ es) is e =
        subst IsChain (same_Some chain found e) (record { some = subst (λ (l : List (Undo Before)). 0 < length l) (sym is) (omega arith); few = few; lawful = lawful })
