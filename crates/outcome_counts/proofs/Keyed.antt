-- Keys that compare as one are one, and what a stamp tells of a block.
use Rattle.std.proofs.Common.{◌≡◌, ℕ, ◌+◌, Bool, true, false, ◌&&◌, eqb, None, Some, refl, sym, ap, ◌∙◌, ◌⊎◌, inl, inr}
use Rattle.std.specs.Cmp.{nat_cmp_total, tied_itself}
use Rattle.std.specs.FinMap.{nat_cmp-IsAntisymmetric}
use Rattle.std.specs.Option.{option_map_or}
use Rattle.std.specs.Ordering.{nat_cmp, ordering_then, is_eq}
use Rattle.std.specs.Prelude.{is_some, if◌then◌else◌, ◌==◌}
use Rattle.std.specs.declared.cmp.Ordering.{Ordering}
use Rattle.std.specs.declared.cmp.Ordering.TheVariants.{Less, Equal, Greater}
use Rattle.std.proofs.lemmas.Bool.{eq-eqb, ne_eqb, cases_eq, false_from_ne_true}
use Rattle.workload_spec.specs.declared.reply.Said.{Said}
use Rattle.workload_spec.specs.declared.reply.Said.TheVariants as said
use Rattle.outcome_spec.specs.Upkeep.{stamp_in, rows_in}
use Rattle.outcome_counts.specs.Keys.{block_cmp, stamp_cmp, stamp_told, block_sealed, block_frozen, is_keyed, above_told}
use Rattle.outcome_counts.specs.declared.keys.Block.{Block}
use Rattle.outcome_counts.specs.declared.keys.Stamp.{Stamp}

-- numbers that compare as one are one
pub nat-one : (a b : ℕ) → is_eq (nat_cmp a b) ≡ true → a ≡ b
nat-one a b h = by (nat_cmp a b) refl h
  where
    by : (o : Ordering) → nat_cmp a b ≡ o → is_eq o ≡ true → a ≡ b
    by Less is k = absurd (let never : ⊥ = cc in never)
    by Equal is k = nat_cmp-IsAntisymmetric a b is
    by Greater is k = absurd (let never : ⊥ = cc in never)

-- ---- as tests of numbers

-- numbers compare as one exactly where they are equal
pub nat-same : (a b : ℕ) → is_eq (nat_cmp a b) ≡ eqb a b
nat-same a b = by (cases_eq a b)
  where
    by : (a ≡ b) ⊎ (a ≡ b → ⊥) → is_eq (nat_cmp a b) ≡ eqb a b
    by (inl e) = ap (λ (n : ℕ). is_eq (nat_cmp n b)) e ∙ ap is_eq (tied_itself nat_cmp_total b) ∙ sym (eq-eqb a b e)
    by (inr n) = false_from_ne_true (is_eq (nat_cmp a b)) (λ h. n (nat-one a b h)) ∙ sym (ne_eqb a b n)

-- two comparisons in turn are equal exactly where both are
pub then-same : (a b : Ordering) → is_eq (ordering_then a b) ≡ (is_eq a && is_eq b)
then-same Less b = refl
then-same Equal b = refl
then-same Greater b = refl

-- blocks compare as one exactly where table and number are equal
pub block-same : (a b : Block) → is_eq (block_cmp a b) ≡ (eqb a.table b.table && eqb a.block b.block)
block-same a b =
    then-same (nat_cmp a.table b.table) (nat_cmp a.block b.block)
    ∙ ap (λ (t : Bool). t && is_eq (nat_cmp a.block b.block)) (nat-same a.table b.table)
    ∙ ap (λ (t : Bool). eqb a.table b.table && t) (nat-same a.block b.block)

-- stamps compare as one exactly where their blocks and numbers are equal
pub stamp-same : (a b : Stamp) → is_eq (stamp_cmp a b) ≡ ((eqb a.of.table b.of.table && eqb a.of.block b.of.block) && eqb a.stamp b.stamp)
stamp-same a b =
    then-same (block_cmp a.of b.of) (nat_cmp a.stamp b.stamp)
    ∙ ap (λ (t : Bool). t && is_eq (nat_cmp a.stamp b.stamp)) (block-same a.of b.of)
    ∙ ap (λ (t : Bool). (eqb a.of.table b.of.table && eqb a.of.block b.of.block) && t) (nat-same a.stamp b.stamp)

-- ---- what the definitions ask of what is said

-- A number that is shown by a test is there exactly where the test is true.
some-if : (b : Bool) (n : ℕ) → is_some (if b then Some n else None) ≡ b
some-if true n = refl
some-if false n = refl

-- a reply shows a stamp of the block exactly where it seals it
pub seal-told : (block : Block) (told : Said) → is_some (stamp_in block.table block.block told) ≡ is_keyed block_cmp block (block_sealed told)
seal-told block (said.Sealed table of stamp) =
    some-if (eqb table block.table && eqb of block.block) stamp ∙ sym (block-same (record { table = table; block = of }) block)
seal-told block _ = refl

-- a reply shows rows of the block exactly where it says that it was frozen
pub freeze-told : (block : Block) (told : Said) → is_some (rows_in block.table block.block told) ≡ is_keyed block_cmp block (block_frozen told)
freeze-told block (said.Frozen table of rows) =
    some-if (eqb table block.table && eqb of block.block) rows ∙ sym (block-same (record { table = table; block = of }) block)
freeze-told block _ = refl

-- A number that is shown by a test is this stamp where the test is true and it is equal.
counted-if : (b : Bool) (n stamp : ℕ) → option_map_or (λ shown. shown == stamp) (if b then Some n else None) false ≡ (b && eqb n stamp)
counted-if true n stamp = refl
counted-if false n stamp = refl

-- a reply shows this stamp of its block exactly where it seals it under it
pub stamp-said : (stamp : Stamp) (told : Said) → option_map_or (λ shown. shown == stamp.stamp) (stamp_in stamp.of.table stamp.of.block told) false ≡ is_keyed stamp_cmp stamp (stamp_told told)
stamp-said stamp (said.Sealed table of shown) =
    counted-if (eqb table stamp.of.table && eqb of stamp.of.block) shown stamp.stamp
    ∙ sym (stamp-same (record { of = record { table = table; block = of }; stamp = shown }) stamp)
stamp-said stamp _ = refl

-- One more than a number that is shown by a test, or zero, is a choice by the test.
above-if : (b : Bool) (n : ℕ) → option_map_or (λ stamp. stamp + 1) (if b then Some n else None) 0 ≡ (if b then n + 1 else 0)
above-if true n = refl
above-if false n = refl

-- one more than the stamp that a reply shows of a block is what is kept for the highest
pub above-said : (block : Block) (told : Said) → option_map_or (λ stamp. stamp + 1) (stamp_in block.table block.block told) 0 ≡ above_told block (stamp_told told)
above-said block (said.Sealed table of shown) =
    above-if (eqb table block.table && eqb of block.block) shown
    ∙ ap (λ (b : Bool). if b then shown + 1 else 0) (sym (block-same (record { table = table; block = of }) block))
above-said block _ = refl
