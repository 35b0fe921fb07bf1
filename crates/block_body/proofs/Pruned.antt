-- The entries that a pruning leaves, slot after slot.
use Rattle.std.proofs.Common.{◌≡◌, ◌≢◌, ◌∙◌, ℕ, zero, suc, ◌+◌, ◌<◌, ◌≤◌, ◌^◌, eqb, reverse, Bool, false, List, [], None, length, sym, ap, arith, ⊎_elim}
use Rattle.std.specs.Prelude.{filter, count_by}
use Rattle.std.proofs.lemmas.Bool.{cases_eq, cases_lt, eqb-false}
use Rattle.std.proofs.lemmas.List.{length-reverse}
use Rattle.std.proofs.lemmas.List.Sums.{length-filter, count_by-le-length}
use Rattle.block_spec.specs.declared.change.Before.{Before}
use Rattle.undo_chain.specs.declared.undo.Undo.{Undo}
use Rattle.undo_chain.specs.Entry.{is_stamped_by}
use Rattle.block_body.specs.Chains.{Chains, chain_at, entries_at, entries_of, stamped_below}

-- what passes of a list is no longer than it
pub filter_within : {X : Type 0} (p : X → Bool) (xs : List X) → length (filter p xs) ≤ length xs
filter_within p xs = omega (arith, length-filter p xs, count_by-le-length p xs)

-- of a chain that is kept, entries are left, and no more than there were
pub above_zero : {X : Type 0} (xs ys : List X) → reverse xs ≡ ys → eqb (length xs) 0 ≡ false → 0 < length ys
above_zero xs ys is some =
    let long : length ys ≡ length xs = sym (ap length is) ∙ length-reverse xs in
    let no : length xs ≡ 0 → ⊥ = eqb-false (length xs) 0 some in
    omega arith

-- what passes of few entries is few
pub few_left : {X : Type 0} (p : X → Bool) (xs ys : List X) → length xs ≤ 2 ^ 31 → ys ≡ filter p xs → length ys ≤ 2 ^ 31
few_left p xs ys few is = let long : length ys ≡ length (filter p xs) = ap length is in omega (arith, filter_within p xs)

-- slots without an entry have none to count
pub stamped_skip : (entries : ℕ → List (Undo Before)) (oldest from to : ℕ) → from ≤ to →
    ((k : ℕ) → from ≤ k → k < to → entries k ≡ []) → stamped_below entries oldest to ≡ stamped_below entries oldest from
stamped_skip entries oldest from zero le none = let same : 0 ≡ from = omega arith in ap (stamped_below entries oldest) same
stamped_skip entries oldest from (suc to) le none =
    ⊎_elim (λ is. ap (stamped_below entries oldest) (sym is)) (λ other. less other (λ le. stamped_skip entries oldest from to le (λ k a b. none k a (omega arith)))) (cases_eq from (suc to))
  where
    less : from ≢ suc to → (from ≤ to → stamped_below entries oldest to ≡ stamped_below entries oldest from) →
        stamped_below entries oldest (suc to) ≡ stamped_below entries oldest from
    less other rest =
        let here : count_by (λ undo. is_stamped_by undo oldest) (entries to) ≡ 0 =
        ap (count_by (λ (undo : Undo Before). is_stamped_by undo oldest)) (none to (omega arith) (omega arith)) in
        let skip : stamped_below entries oldest to ≡ stamped_below entries oldest from = rest (omega arith) in
        omega arith

-- a sweep goes on to the next slot with a chain
module _ (S : List (Undo Before) → List (Undo Before)) (nil : S [] ≡ []) (init now new : Chains) (from slot : ℕ)
    (below : (k : ℕ) → k < from → entries_at now k ≡ S (entries_at init k))
    (above : (k : ℕ) → from ≤ k → chain_at now k ≡ chain_at init k)
    (up : from ≤ slot)
    (none : (k : ℕ) → from ≤ k → k < slot → chain_at now k ≡ None)
    (here : entries_at new slot ≡ S (entries_at now slot))
    (others : (k : ℕ) → k ≢ slot → chain_at new k ≡ chain_at now k) where
  -- the slots up to the next with a chain are swept, with it
  pub swept_more : (k : ℕ) → k < slot + 1 → entries_at new k ≡ S (entries_at init k)
  swept_more k lt = ⊎_elim same other (cases_eq k slot)
    where
      same : k ≡ slot → entries_at new k ≡ S (entries_at init k)
      same is =
          ap (entries_at new) is ∙ here ∙ ap (λ o. S (entries_of o)) (above slot up) ∙ ap (λ n. S (entries_at init n)) (sym is)

      other : k ≢ slot → entries_at new k ≡ S (entries_at init k)
      other apart = ap entries_of (others k apart) ∙ ⊎_elim (below k) past (cases_lt k from)
        where
          past : from ≤ k → entries_at now k ≡ S (entries_at init k)
          past le =
              let absent : chain_at now k ≡ None = none k le (omega arith) in
              ap entries_of absent ∙ sym nil ∙ ap (λ o. S (entries_of o)) (sym (sym (above k le) ∙ absent))

  -- the entries that were dropped are counted up to it
  pub swept_count : (oldest : ℕ) →
      stamped_below (entries_at init) oldest (slot + 1)
      ≡ stamped_below (entries_at init) oldest from + count_by (λ undo. is_stamped_by undo oldest) (entries_at now slot)
  swept_count oldest =
      let next : slot + 1 ≡ suc slot = omega arith in
      let skip : stamped_below (entries_at init) oldest slot ≡ stamped_below (entries_at init) oldest from =
      stamped_skip (entries_at init) oldest from slot up (λ k a b. ap entries_of (sym (above k a) ∙ none k a b)) in
      let same : count_by (λ undo. is_stamped_by undo oldest) (entries_at now slot) ≡ count_by (λ undo. is_stamped_by undo oldest) (entries_at init slot) =
      ap (λ o. count_by (λ (undo : Undo Before). is_stamped_by undo oldest) (entries_of o)) (above slot up) in
      let all : stamped_below (entries_at init) oldest (slot + 1) ≡ stamped_below (entries_at init) oldest slot + count_by (λ undo. is_stamped_by undo oldest) (entries_at init slot) =
      ap (stamped_below (entries_at init) oldest) next in
      omega arith
