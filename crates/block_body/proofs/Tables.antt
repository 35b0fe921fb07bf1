-- Where a table of chains finds what, and what a change of it leaves.
use Rattle.std.proofs.Common.{◌≡◌, ◌≢◌, ◌∙◌, ℕ, zero, suc, ◌+◌, ◌-◌, ◌*◌, ◌/◌, ◌<◌, ◌≤◌, ◌^◌, cond, not, nat_eq, List, [], ◌∷◌, ◌++◌, length, get_or, set, Option, None, Some, IsSome, is_some, refl, sym, ap, subst, arith, ⊎_elim, ne_eqb, length-set, get_or-set_same, get_or-set_other}
use Rattle.std.specs.Ordering.{nat_cmp}
use Rattle.std.specs.BTreeMap.{is_at}
use Rattle.std.proofs.lemmas.Bool.{cases_eq, cases_lt}
use Rattle.std.proofs.lemmas.List.{get_or_past, get_or_push, get_or_append_left, length_push}
use Rattle.block_spec.specs.declared.change.Before.{Before}
use Rattle.undo_chain.specs.State.{ChainState}
use Rattle.undo_chain.specs.declared.undo.Undo.{Undo}
use Rattle.block_body.specs.Chains.{chain_at}
use Rattle.block_body.specs.Tables.{IsTable, paired, kept, kept_for, mark, taken_from}
use Rattle.block_body.proofs.Lookups.{is_at-same, is_at-other}

-- what has a place is marked
mark-some : (n : ℕ) → n ≢ 0 → mark n ≡ 1
mark-some zero some = absurd (some refl)
mark-some (suc n) some = refl

-- a mark counts for one at most
mark-few : (n : ℕ) → mark n ≤ 1
mark-few zero = omega arith
mark-few (suc n) = omega arith

-- what is not marked has no place
mark-none : (n : ℕ) → mark n ≡ 0 → n ≡ 0
mark-none zero none = refl
mark-none (suc n) none = absurd (omega (arith, none))

-- no more are counted than there are
pub counted_few : (place : ℕ → ℕ) (from n : ℕ) → taken_from place from n ≤ n
counted_few place from zero = omega arith
counted_few place from (suc n) = omega (arith, counted_few place from n, mark-few (place (from + n)))

-- where the same slots have a place, the same number is counted
pub counted_same : (f g : ℕ → ℕ) (from n : ℕ) → ((k : ℕ) → from ≤ k → k < from + n → mark (g k) ≡ mark (f k)) → taken_from g from n ≡ taken_from f from n
counted_same f g from zero same = refl
counted_same f g from (suc n) same =
    let rest : taken_from g from n ≡ taken_from f from n = counted_same f g from n (λ k a b. same k a (omega (arith, b))) in
    let here : mark (g (from + n)) ≡ mark (f (from + n)) = same (from + n) (omega arith) (omega arith) in
    omega arith

-- one more slot with a place is counted
pub counted_more : (f g : ℕ → ℕ) (from n x : ℕ) → from ≤ x → x < from + n → f x ≡ 0 → g x ≢ 0 → ((k : ℕ) → k ≢ x → mark (g k) ≡ mark (f k)) → taken_from g from n ≡ taken_from f from n + 1
counted_more f g from zero x le lt none some others = absurd (omega (arith, le, lt))
counted_more f g from (suc n) x le lt none some others = ⊎_elim here (λ other. past other (counted_more f g from n x le (omega (arith, lt, other)) none some others)) (cases_eq x (from + n))
  where
    here : x ≡ from + n → taken_from g from (suc n) ≡ taken_from f from (suc n) + 1
    here is =
        let rest : taken_from g from n ≡ taken_from f from n = counted_same f g from n (λ k a b. others k (λ same. absurd (omega (arith, a, b, same, is)))) in
        let now : mark (g (from + n)) ≡ 1 = ap (λ k. mark (g k)) (sym is) ∙ mark-some (g x) some in
        let before : mark (f (from + n)) ≡ 0 = ap (λ k. mark (f k)) (sym is) ∙ ap mark none in
        omega arith

    past : x ≢ from + n → taken_from g from n ≡ taken_from f from n + 1 → taken_from g from (suc n) ≡ taken_from f from (suc n) + 1
    past other rest =
        let same : mark (g (from + n)) ≡ mark (f (from + n)) = others (from + n) (λ is. other (sym is)) in
        omega arith

-- where none is counted, no slot has a place
pub counted_none : (f : ℕ → ℕ) (from n : ℕ) → taken_from f from n ≡ 0 → (k : ℕ) → from ≤ k → k < from + n → f k ≡ 0
counted_none f from zero none k le lt = absurd (omega (arith, le, lt))
counted_none f from (suc n) none k le lt =
    let all : taken_from f from n + mark (f (from + n)) ≡ 0 = none in
    ⊎_elim (λ is. ap f is ∙ mark-none (f (from + n)) (omega arith)) (λ other. counted_none f from n (omega arith) k le (omega (arith, other, lt))) (cases_eq k (from + n))

-- where a slot has a place, one is counted
pub counted_some : (f : ℕ → ℕ) (from n k : ℕ) → from ≤ k → k < from + n → f k ≢ 0 → 1 ≤ taken_from f from n
counted_some f from n k le lt some =
    let no : taken_from f from n ≡ 0 → ⊥ = λ none. some (counted_none f from n none k le lt) in
    omega arith

-- the chain of the first place that has the slot is found
paired_at : (q : ℕ) (slots : List ℕ) (held : List (ChainState Before)) (d : ChainState Before) (i : ℕ) → i < length slots → length held ≡ length slots
    → get_or slots i 0 ≡ q → ((j : ℕ) → j < i → get_or slots j 0 ≢ q) → chain_at (paired slots held) q ≡ Some (get_or held i d)
paired_at q [] held d i lt long is before = absurd (omega (arith, lt))
paired_at q (s ∷ ss) [] d i lt long is before = absurd (omega (arith, long))
paired_at q (s ∷ ss) (c ∷ cs) d zero lt long is before = ap (λ b. cond b (Some c) (chain_at (paired ss cs) q)) (ap (is_at (nat_cmp q)) is ∙ is_at-same q)
paired_at q (s ∷ ss) (c ∷ cs) d (suc i) lt long is before =
    ap (λ b. cond b (Some c) (chain_at (paired ss cs) q)) (is_at-other q s (before 0 (omega arith)))
    ∙ paired_at q ss cs d i (omega (arith, lt)) (omega (arith, long)) is (λ j less. before (suc j) (omega (arith, less)))

-- no chain is found of a slot that no place has
paired_none : (q : ℕ) (slots : List ℕ) (held : List (ChainState Before)) → ((j : ℕ) → j < length slots → get_or slots j 0 ≢ q) → chain_at (paired slots held) q ≡ None
paired_none q [] held none = refl
paired_none q (s ∷ ss) [] none = refl
paired_none q (s ∷ ss) (c ∷ cs) none =
    ap (λ b. cond b (Some c) (chain_at (paired ss cs) q)) (is_at-other q s (none 0 (omega arith)))
    ∙ paired_none q ss cs (λ j less. none (suc j) (omega (arith, less)))

-- some chain, to read past the end
no_chain : ChainState Before
no_chain = record { entries = []; room = 0 }

-- what is some is not none
some_none : {X : Type 0} (o : Option X) → o ≡ None → IsSome o → ⊥
some_none None none some = cc
some_none (Some x) none some = cc

module _ (places used slots : List ℕ) (held : List (ChainState Before)) (t : IsTable places used slots (length held)) where
  -- a slot without a place has no chain
  pub at_none : (q : ℕ) → get_or places q 0 ≡ 0 → chain_at (paired slots held) q ≡ None
  at_none q none = paired_none q slots held (λ j lt is. let named : get_or places q 0 ≡ j + 1 = ap (λ s. get_or places s 0) (sym is) ∙ t.named j lt in absurd (omega arith))

  -- a slot with a place has the chain that stands there
  pub at_some : (q i : ℕ) (d : ChainState Before) → get_or places q 0 ≡ i + 1 → chain_at (paired slots held) q ≡ Some (get_or held i d)
  at_some q i d is =
      let within : i < length slots = t.within q i is in
      paired_at q slots held d i within t.long (t.placed q i is)
      (λ j lt same. let named : get_or places q 0 ≡ j + 1 = ap (λ s. get_or places s 0) (sym same) ∙ t.named j (omega arith) in absurd (omega arith))

  -- a slot's place tells whether it has a chain
  pub tells : (q p : ℕ) → p ≡ get_or places q 0 → not (nat_eq p 0) ≡ is_some (chain_at (paired slots held) q)
  tells q zero is = sym (ap is_some (at_none q (sym is)))
  tells q (suc i) is = ap not (ne_eqb (suc i) 0 (λ z. absurd (omega (arith, z)))) ∙ sym (ap is_some (at_some q i no_chain (sym is ∙ omega arith)))

  -- a slot with a chain has a place
  pub has_place : (q : ℕ) → IsSome (chain_at (paired slots held) q) → get_or places q 0 ≢ 0
  has_place q some none = some_none (chain_at (paired slots held) q) (at_none q none) some

  -- a slot without a chain has none
  pub no_place : (q : ℕ) → chain_at (paired slots held) q ≡ None → get_or places q 0 ≡ 0
  no_place q none = go (get_or places q 0) refl
    where
      go : (p : ℕ) → get_or places q 0 ≡ p → get_or places q 0 ≡ 0
      go zero is = is
      go (suc i) is = absurd (some_none (chain_at (paired slots held) q) none (ap is_some (at_some q i no_chain (is ∙ omega arith))))

  -- a slot with a place is among those of the list
  pub in_places : (q : ℕ) → get_or places q 0 ≢ 0 → q < length places
  in_places q some = ⊎_elim (λ lt. lt) (λ le. absurd (some (get_or_past places q 0 le))) (cases_lt q (length places))

  -- its group is counted
  pub in_used : (q : ℕ) → q < length places → q / 64 < length used
  in_used q lt = omega (arith, t.grouped, lt)

  -- no slot of a group that counts none has a chain
  pub group_none : (slot k : ℕ) → get_or used (slot / 64) 0 ≡ 0 → slot ≤ k → k < (slot / 64 + 1) * 64 → chain_at (paired slots held) k ≡ None
  group_none slot k none le lt =
      at_none k (counted_none (λ s. get_or places s 0) (slot / 64 * 64) 64 (sym (t.counted (slot / 64)) ∙ none) k (omega (arith, le)) (omega (arith, lt)))

  -- the counts fit
  pub used_few : (group : ℕ) → get_or used group 0 ≤ 64
  used_few group = let few : taken_from (λ s. get_or places s 0) (group * 64) 64 ≤ 64 = counted_few (λ s. get_or places s 0) (group * 64) 64 in
      let count : get_or used group 0 ≡ taken_from (λ s. get_or places s 0) (group * 64) 64 = t.counted group in omega arith

  -- the last slot of the list has a place
  pub last_lt : (last : ℕ) → 0 < length slots → last ≡ get_or slots (length slots - 1) 0 → get_or places last 0 ≡ length slots
  last_lt last some is = ap (λ k. get_or places k 0) is ∙ t.named (length slots - 1) (omega arith) ∙ (let back : (length slots - 1) + 1 ≡ length slots = omega arith in back)

  -- no slot past the end has a chain
  pub past_none : (k : ℕ) → length places ≤ k → chain_at (paired slots held) k ≡ None
  past_none k le = at_none k (get_or_past places k 0 le)

  module _ (slot p : ℕ) (is : p ≡ get_or places slot 0) (some : p ≢ 0) where
    -- the place as a number of those held
    placed_at : get_or places slot 0 ≡ (p - 1) + 1
    placed_at = sym is ∙ omega arith

    -- a slot's place is one of those held
    pub place_lt : p - 1 < length held
    place_lt = let within : p - 1 < length slots = t.within slot (p - 1) placed_at in let long : length held ≡ length slots = t.long in omega arith

    -- the chain that stands at a slot's place is the slot's
    pub place_has : (d : ChainState Before) → chain_at (paired slots held) slot ≡ Some (get_or held (p - 1) d)
    place_has d = at_some slot (p - 1) d placed_at

    -- with another slot's place, the chains differ
    other_place : (q i : ℕ) → q ≢ slot → get_or places q 0 ≡ i + 1 → i ≢ p - 1
    other_place q i other at same = other (sym (t.placed q i at) ∙ ap (λ k. get_or slots k 0) same ∙ t.placed slot (p - 1) placed_at)

    -- a slot with a place is one of those listed
    pub slot_lt : slot < length places
    slot_lt = in_places slot (λ zero. some (is ∙ zero))

    -- its group counts it
    pub used_some : 1 ≤ get_or used (slot / 64) 0
    used_some =
        let one : 1 ≤ taken_from (λ s. get_or places s 0) (slot / 64 * 64) 64 = counted_some (λ s. get_or places s 0) (slot / 64 * 64) 64 slot (omega arith) (omega arith) (λ zero. some (is ∙ zero)) in
        let count : get_or used (slot / 64) 0 ≡ taken_from (λ s. get_or places s 0) (slot / 64 * 64) 64 = t.counted (slot / 64) in
        omega arith

    -- it has a chain
    pub is_there : IsSome (chain_at (paired slots held) slot)
    is_there = ap is_some (place_has no_chain)

    module _ (c : ChainState Before) where
      -- with a chain put in a slot's place, the table is one
      pub set_table : IsTable places used slots (length (set held (p - 1) c))
      set_table = subst (IsTable places used slots) (sym (length-set held (p - 1) c)) t

-- a chain that is put in a slot's place is the slot's, and the others keep theirs
module _ (places used slots : List ℕ) (held : List (ChainState Before)) (t : IsTable places used slots (length held))
    (slot p : ℕ) (is : p ≡ get_or places slot 0) (some : p ≢ 0) (c : ChainState Before) where
  -- here the chain is found
  pub set_here : chain_at (paired slots (set held (p - 1) c)) slot ≡ Some c
  set_here =
      at_some places used slots (set held (p - 1) c) (set_table places used slots held t slot p is some c) slot (p - 1) c (placed_at places used slots held t slot p is some)
      ∙ ap (λ x. Some x) (get_or-set_same held (p - 1) c c (place_lt places used slots held t slot p is some))

  -- elsewhere what was there
  pub set_other : (q : ℕ) → q ≢ slot → chain_at (paired slots (set held (p - 1) c)) q ≡ chain_at (paired slots held) q
  set_other q other = go (get_or places q 0) refl
    where
      go : (n : ℕ) → get_or places q 0 ≡ n → chain_at (paired slots (set held (p - 1) c)) q ≡ chain_at (paired slots held) q
      go zero none =
          at_none places used slots (set held (p - 1) c) (set_table places used slots held t slot p is some c) q none
          ∙ sym (at_none places used slots held t q none)
      go (suc i) at =
          let there : get_or places q 0 ≡ i + 1 = at ∙ omega arith in
          at_some places used slots (set held (p - 1) c) (set_table places used slots held t slot p is some c) q i c there
          ∙ ap (λ x. Some x) (get_or-set_other held (p - 1) i c c (λ same. other_place places used slots held t slot p is some q i other there same))
          ∙ sym (at_some places used slots held t q i c there)

-- with more room, the table is one
pub grown : (places used slots more more_used : List ℕ) (n : ℕ) → IsTable places used slots n → length more ≤ 2 ^ 32 → length more ≤ 64 * length more_used
    → ((k : ℕ) → get_or more k 0 ≡ get_or places k 0) → ((k : ℕ) → get_or more_used k 0 ≡ get_or used k 0) → IsTable more more_used slots n
grown places used slots more more_used n t few grouped same same_used = record {
  few = few;
  grouped = grouped;
  long = t.long;
  named = λ i lt. same (get_or slots i 0) ∙ t.named i lt;
  within = λ slot i at. t.within slot i (sym (same slot) ∙ at);
  placed = λ slot i at. t.placed slot i (sym (same slot) ∙ at);
  counted = λ group. same_used group ∙ t.counted group
      ∙ sym (counted_same (λ slot. get_or places slot 0) (λ slot. get_or more slot 0) (group * 64) 64 (λ k a b. ap mark (same k)));
}

-- a number counted in a group once more, or once less
module _ (f g : ℕ → ℕ) (used : List ℕ) (x n : ℕ) (lt : x / 64 < length used) (counted : (group : ℕ) → get_or used group 0 ≡ taken_from f (group * 64) 64)
    (others : (k : ℕ) → k ≢ x → mark (g k) ≡ mark (f k)) where
  -- in the other groups the same number is counted
  elsewhere : (group : ℕ) → group ≢ x / 64 → get_or (set used (x / 64) n) group 0 ≡ taken_from g (group * 64) 64
  elsewhere group other =
      get_or-set_other used (x / 64) group n 0 other ∙ counted group
      ∙ sym (counted_same f g (group * 64) 64 (λ k a b. others k (λ is. absurd (other (omega (arith, a, b, is))))))

  -- in its own group one more
  pub one_more : n ≡ get_or used (x / 64) 0 + 1 → f x ≡ 0 → g x ≢ 0 → (group : ℕ) → get_or (set used (x / 64) n) group 0 ≡ taken_from g (group * 64) 64
  one_more is none some group = ⊎_elim here (elsewhere group) (cases_eq group (x / 64))
    where
      here : group ≡ x / 64 → get_or (set used (x / 64) n) group 0 ≡ taken_from g (group * 64) 64
      here at =
          let more : taken_from g (x / 64 * 64) 64 ≡ taken_from f (x / 64 * 64) 64 + 1 = counted_more f g (x / 64 * 64) 64 x (omega arith) (omega arith) none some others in
          let old : get_or used (x / 64) 0 ≡ taken_from f (x / 64 * 64) 64 = counted (x / 64) in
          ap (λ k. get_or (set used (x / 64) n) k 0) at ∙ get_or-set_same used (x / 64) n 0 lt
          ∙ (let now : n ≡ taken_from g (x / 64 * 64) 64 = omega arith in now)
          ∙ sym (ap (λ k. taken_from g (k * 64) 64) at)

  -- in its own group one less
  pub one_less : n ≡ get_or used (x / 64) 0 - 1 → f x ≢ 0 → g x ≡ 0 → (group : ℕ) → get_or (set used (x / 64) n) group 0 ≡ taken_from g (group * 64) 64
  one_less is some none group = ⊎_elim here (elsewhere group) (cases_eq group (x / 64))
    where
      here : group ≡ x / 64 → get_or (set used (x / 64) n) group 0 ≡ taken_from g (group * 64) 64
      here at =
          let more : taken_from f (x / 64 * 64) 64 ≡ taken_from g (x / 64 * 64) 64 + 1 = counted_more g f (x / 64 * 64) 64 x (omega arith) (omega arith) none some (λ k other. sym (others k other)) in
          let old : get_or used (x / 64) 0 ≡ taken_from f (x / 64 * 64) 64 = counted (x / 64) in
          ap (λ k. get_or (set used (x / 64) n) k 0) at ∙ get_or-set_same used (x / 64) n 0 lt
          ∙ (let now : n ≡ taken_from g (x / 64 * 64) 64 = omega arith in now)
          ∙ sym (ap (λ k. taken_from g (k * 64) 64) at)

-- a slot without a chain gets a place behind the others
module _ (places used slots : List ℕ) (held : List (ChainState Before)) (t : IsTable places used slots (length held)) (slot : ℕ) (lt : slot < length places) (none : get_or places slot 0 ≡ 0)
    (c : ChainState Before) (place count : ℕ) (is : place ≡ length slots + 1) (counts : count ≡ get_or used (slot / 64) 0 + 1) where
  -- the slot's place is the new one
  begun_here : get_or (set places slot place) slot 0 ≡ length slots + 1
  begun_here = get_or-set_same places slot place 0 lt ∙ is

  -- the others keep their places
  begun_other : (q : ℕ) → q ≢ slot → get_or (set places slot place) q 0 ≡ get_or places q 0
  begun_other q other = get_or-set_other places slot q place 0 other

  -- no place had the slot
  fresh : (i : ℕ) → i < length slots → get_or slots i 0 ≢ slot
  fresh i less same = let named : get_or places slot 0 ≡ i + 1 = ap (λ s. get_or places s 0) (sym same) ∙ t.named i less in absurd (omega arith)

  -- what a place says is among the slots, and has its own
  begun_place : (q i : ℕ) → get_or (set places slot place) q 0 ≡ i + 1 → (i < length slots + 1) × (get_or (slots ++ slot ∷ []) i 0 ≡ q)
  begun_place q i at = ⊎_elim here past (cases_eq q slot)
    where
      here : q ≡ slot → (i < length slots + 1) × (get_or (slots ++ slot ∷ []) i 0 ≡ q)
      here same =
          let now : get_or (set places slot place) q 0 ≡ length slots + 1 = ap (λ s. get_or (set places slot place) s 0) same ∙ begun_here in
          let last : length slots ≡ i = omega arith in
          (omega arith, get_or_push slots slot 0 i last ∙ sym same)

      past : q ≢ slot → (i < length slots + 1) × (get_or (slots ++ slot ∷ []) i 0 ≡ q)
      past other =
          let before : get_or places q 0 ≡ i + 1 = sym (begun_other q other) ∙ at in
          let within : i < length slots = t.within q i before in
          (omega arith, get_or_append_left slots (slot ∷ []) 0 i within ∙ t.placed q i before)

  -- each slot of the list is named by its place
  begun_named : (i : ℕ) → i < length (slots ++ slot ∷ []) → get_or (set places slot place) (get_or (slots ++ slot ∷ []) i 0) 0 ≡ i + 1
  begun_named i less = ⊎_elim past here (cases_lt i (length slots))
    where
      past : i < length slots → get_or (set places slot place) (get_or (slots ++ slot ∷ []) i 0) 0 ≡ i + 1
      past before =
          ap (λ s. get_or (set places slot place) s 0) (get_or_append_left slots (slot ∷ []) 0 i before)
          ∙ begun_other (get_or slots i 0) (fresh i before) ∙ t.named i before

      here : length slots ≤ i → get_or (set places slot place) (get_or (slots ++ slot ∷ []) i 0) 0 ≡ i + 1
      here le =
          let long : length (slots ++ slot ∷ []) ≡ length slots + 1 = length_push slots slot in
          let last : length slots ≡ i = omega arith in
          ap (λ s. get_or (set places slot place) s 0) (get_or_push slots slot 0 i last) ∙ begun_here ∙ ap (λ n. n + 1) last

  -- the table is one with it
  pub begun : IsTable (set places slot place) (set used (slot / 64) count) (slots ++ slot ∷ []) (length (held ++ c ∷ []))
  begun = record {
    few = subst (λ n. n ≤ 2 ^ 32) (sym (length-set places slot place)) t.few;
    grouped = let a : length (set places slot place) ≡ length places = length-set places slot place in
        let b : length (set used (slot / 64) count) ≡ length used = length-set used (slot / 64) count in let g : length places ≤ 64 * length used = t.grouped in omega arith;
    long = length_push held c ∙ ap (λ n. n + 1) t.long ∙ sym (length_push slots slot);
    named = begun_named;
    within = λ q i at. subst (λ n. i < n) (sym (length_push slots slot)) (begun_place q i at).0;
    placed = λ q i at. (begun_place q i at).1;
    counted = one_more (λ q. get_or places q 0) (λ q. get_or (set places slot place) q 0) used slot count (in_used places used slots held t slot lt) t.counted
        (λ k other. ap mark (begun_other k other)) counts none (λ no_place. absurd (omega (arith, begun_here, no_place)));
  }

  -- the slot has the chain then
  pub begun_at : chain_at (paired (slots ++ slot ∷ []) (held ++ c ∷ [])) slot ≡ Some c
  begun_at =
      at_some (set places slot place) (set used (slot / 64) count) (slots ++ slot ∷ []) (held ++ c ∷ []) begun slot (length slots) c begun_here
      ∙ ap (λ x. Some x) (get_or_push held c c (length slots) t.long)

  -- the others keep theirs
  pub begun_others : (q : ℕ) → q ≢ slot → chain_at (paired (slots ++ slot ∷ []) (held ++ c ∷ [])) q ≡ chain_at (paired slots held) q
  begun_others q other = go (get_or places q 0) refl
    where
      go : (n : ℕ) → get_or places q 0 ≡ n → chain_at (paired (slots ++ slot ∷ []) (held ++ c ∷ [])) q ≡ chain_at (paired slots held) q
      go zero at =
          at_none (set places slot place) (set used (slot / 64) count) (slots ++ slot ∷ []) (held ++ c ∷ []) begun q (begun_other q other ∙ at)
          ∙ sym (at_none places used slots held t q at)
      go (suc i) at =
          let there : get_or places q 0 ≡ i + 1 = at ∙ omega arith in
          let within : i < length slots = t.within q i there in
          let long : length held ≡ length slots = t.long in
          at_some (set places slot place) (set used (slot / 64) count) (slots ++ slot ∷ []) (held ++ c ∷ []) begun q i c (begun_other q other ∙ there)
          ∙ ap (λ x. Some x) (get_or_append_left held (c ∷ []) c i (omega arith))
          ∙ sym (at_some places used slots held t q i c there)

-- a chain with an entry is kept
pub kept_some : (c : ChainState Before) → 0 < length c.entries → kept c ≡ Some c
kept_some c some = go c.entries some
  where
    go : (es : List (Undo Before)) → 0 < length es → kept_for es c ≡ Some c
    go [] some = absurd (omega (arith, some))
    go (e ∷ es) some = refl

-- a slot's chain is taken off, and the last one gets its place
module _ (places used slots ss : List ℕ) (held hs : List (ChainState Before)) (t : IsTable places used slots (length held)) (slot p last count : ℕ)
    (is : p ≡ get_or places slot 0) (some : p ≢ 0) (last_is : last ≡ get_or slots (length slots - 1) 0) (counts : count ≡ get_or used (slot / 64) 0 - 1)
    (ss_long : length ss + 1 ≡ length slots) (hs_long : length hs + 1 ≡ length held)
    (ss_at : (d : ℕ) → (p - 1) + 1 < length slots → get_or ss (p - 1) d ≡ get_or slots (length slots - 1) d)
    (ss_other : (k d : ℕ) → k ≢ p - 1 → k + 1 < length slots → get_or ss k d ≡ get_or slots k d)
    (hs_at : (d : ChainState Before) → (p - 1) + 1 < length slots → get_or hs (p - 1) d ≡ get_or held (length slots - 1) d)
    (hs_other : (k : ℕ) (d : ChainState Before) → k ≢ p - 1 → k + 1 < length slots → get_or hs k d ≡ get_or held k d) where
  -- the places after it
  abbrev left : List ℕ
  left = set (set places last p) slot 0

  -- the slot's place
  own : get_or places slot 0 ≡ (p - 1) + 1
  own = sym is ∙ omega arith

  -- the last one's place
  last_place : get_or places last 0 ≡ length slots
  last_place = last_lt places used slots held t last (omega (arith, ss_long)) last_is

  -- the slot has none then
  gone_here : get_or left slot 0 ≡ 0
  gone_here = get_or-set_same (set places last p) slot 0 0 (subst (λ n. slot < n) (sym (length-set places last p)) (slot_lt places used slots held t slot p is some))

  -- the last one has the slot's
  gone_last : last ≢ slot → get_or left last 0 ≡ p
  gone_last apart =
      get_or-set_other (set places last p) slot last 0 0 apart
      ∙ get_or-set_same places last p 0 (in_places places used slots held t last (λ zero. absurd (omega (arith, zero, last_place, ss_long))))

  -- the others keep theirs
  gone_other : (q : ℕ) → q ≢ slot → q ≢ last → get_or left q 0 ≡ get_or places q 0
  gone_other q other apart = get_or-set_other (set places last p) slot q 0 0 other ∙ get_or-set_other places last q p 0 apart

  -- a slot that is not the last stands before it
  before_last : last ≢ slot → (p - 1) + 1 < length slots
  before_last apart =
      let within : p - 1 < length slots = t.within slot (p - 1) own in
      let no_last : p ≡ length slots → ⊥ = λ same. apart (last_is ∙ ap (λ n. get_or slots (n - 1) 0) (sym same) ∙ t.placed slot (p - 1) own) in
      omega arith

  -- a place that is neither the slot's nor the last stays
  stays : (q i : ℕ) → q ≢ slot → q ≢ last → get_or places q 0 ≡ i + 1 → (i ≢ p - 1) × (i + 1 < length slots)
  stays q i other apart at =
      let within : i < length slots = t.within q i at in
      let no_last : i + 1 ≡ length slots → ⊥ = λ same. let end : i ≡ length slots - 1 = omega arith in apart (sym (t.placed q i at) ∙ ap (λ n. get_or slots n 0) end ∙ sym last_is) in
      ((λ same. other (sym (t.placed q i at) ∙ ap (λ n. get_or slots n 0) same ∙ t.placed slot (p - 1) own)), omega arith)

  -- what a place says is among the slots, and has its own
  gone_place : (q i : ℕ) → get_or left q 0 ≡ i + 1 → (i < length ss) × (get_or ss i 0 ≡ q)
  gone_place q i at = ⊎_elim here past (cases_eq q slot)
    where
      here : q ≡ slot → (i < length ss) × (get_or ss i 0 ≡ q)
      here same = let none : get_or left q 0 ≡ 0 = ap (λ k. get_or left k 0) same ∙ gone_here in absurd (omega arith)

      moved : q ≢ slot → q ≡ last → (i < length ss) × (get_or ss i 0 ≡ q)
      moved other same =
          let apart : last ≢ slot = λ e. other (same ∙ e) in
          let now : get_or left q 0 ≡ p = ap (λ k. get_or left k 0) same ∙ gone_last apart in
          let where_to : p - 1 ≡ i = omega arith in
          let less : (p - 1) + 1 < length slots = before_last apart in
          (omega arith, sym (ap (λ k. get_or ss k 0) where_to) ∙ ss_at 0 less ∙ sym last_is ∙ sym same)

      kept_place : q ≢ slot → q ≢ last → (i < length ss) × (get_or ss i 0 ≡ q)
      kept_place other apart =
          let before : get_or places q 0 ≡ i + 1 = sym (gone_other q other apart) ∙ at in
          let less : i + 1 < length slots = (stays q i other apart before).1 in
          (omega arith, ss_other i 0 (stays q i other apart before).0 less ∙ t.placed q i before)

      past : q ≢ slot → (i < length ss) × (get_or ss i 0 ≡ q)
      past other = ⊎_elim (moved other) (kept_place other) (cases_eq q last)

  -- each slot of the list is named by its place
  gone_named : (i : ℕ) → i < length ss → get_or left (get_or ss i 0) 0 ≡ i + 1
  gone_named i less = ⊎_elim here past (cases_eq i (p - 1))
    where
      here : i ≡ p - 1 → get_or left (get_or ss i 0) 0 ≡ i + 1
      here same =
          let apart : last ≢ slot = λ e. let both : length slots ≡ p = sym last_place ∙ ap (λ k. get_or places k 0) e ∙ sym is in absurd (omega arith) in
          ap (λ k. get_or left k 0) (ap (λ k. get_or ss k 0) same ∙ ss_at 0 (omega arith) ∙ sym last_is) ∙ gone_last apart ∙ omega arith

      past : i ≢ p - 1 → get_or left (get_or ss i 0) 0 ≡ i + 1
      past other =
          let named : get_or places (get_or slots i 0) 0 ≡ i + 1 = t.named i (omega arith) in
          ap (λ k. get_or left k 0) (ss_other i 0 other (omega arith))
          ∙ gone_other (get_or slots i 0)
          (λ e. let both : i + 1 ≡ p = sym named ∙ ap (λ k. get_or places k 0) e ∙ sym is in absurd (omega arith))
          (λ e. let both : i + 1 ≡ length slots = sym named ∙ ap (λ k. get_or places k 0) e ∙ last_place in absurd (omega arith))
          ∙ named

  -- the other slots have a place as before
  gone_marks : (q : ℕ) → q ≢ slot → mark (get_or left q 0) ≡ mark (get_or places q 0)
  gone_marks q other = ⊎_elim here (λ apart. ap mark (gone_other q other apart)) (cases_eq q last)
    where
      here : q ≡ last → mark (get_or left q 0) ≡ mark (get_or places q 0)
      here same =
          let now : get_or left q 0 ≡ p = ap (λ k. get_or left k 0) same ∙ gone_last (λ e. other (same ∙ e)) in
          let before : get_or places q 0 ≡ length slots = ap (λ k. get_or places k 0) same ∙ last_place in
          mark-some (get_or left q 0) (λ zero. some (sym now ∙ zero)) ∙ sym (mark-some (get_or places q 0) (λ zero. absurd (omega (arith, zero, before, ss_long))))

  -- the table is one without it
  pub gone : IsTable left (set used (slot / 64) count) ss (length hs)
  gone = record {
    few = subst (λ n. n ≤ 2 ^ 32) (sym (length-set (set places last p) slot 0 ∙ length-set places last p)) t.few;
    grouped = let a : length left ≡ length places = length-set (set places last p) slot 0 ∙ length-set places last p in
        let b : length (set used (slot / 64) count) ≡ length used = length-set used (slot / 64) count in let g : length places ≤ 64 * length used = t.grouped in omega arith;
    long = let long : length held ≡ length slots = t.long in omega arith;
    named = gone_named;
    within = λ q i at. (gone_place q i at).0;
    placed = λ q i at. (gone_place q i at).1;
    counted = one_less (λ q. get_or places q 0) (λ q. get_or left q 0) used slot count (in_used places used slots held t slot (slot_lt places used slots held t slot p is some)) t.counted
        gone_marks counts (λ zero. some (is ∙ zero)) gone_here;
  }

  -- the slot has no chain then
  pub gone_at : chain_at (paired ss hs) slot ≡ None
  gone_at = at_none left (set used (slot / 64) count) ss hs gone slot gone_here

  -- the others keep theirs
  pub gone_others : (q : ℕ) → q ≢ slot → chain_at (paired ss hs) q ≡ chain_at (paired slots held) q
  gone_others q other = go (get_or places q 0) refl
    where
      go : (n : ℕ) → get_or places q 0 ≡ n → chain_at (paired ss hs) q ≡ chain_at (paired slots held) q
      go zero at =
          let apart : q ≢ last = λ e. let both : 0 ≡ length slots = sym at ∙ ap (λ k. get_or places k 0) e ∙ last_place in absurd (omega (arith, both, ss_long)) in
          at_none left (set used (slot / 64) count) ss hs gone q (gone_other q other apart ∙ at) ∙ sym (at_none places used slots held t q at)
      go (suc i) at = ⊎_elim here past (cases_eq q last)
        where
          there : get_or places q 0 ≡ i + 1
          there = at ∙ omega arith

          here : q ≡ last → chain_at (paired ss hs) q ≡ chain_at (paired slots held) q
          here same =
              let apart : last ≢ slot = λ e. other (same ∙ e) in
              let both : i + 1 ≡ length slots = sym there ∙ ap (λ k. get_or places k 0) same ∙ last_place in
              let end : length slots - 1 ≡ i = omega arith in
              at_some left (set used (slot / 64) count) ss hs gone q (p - 1) no_chain (ap (λ k. get_or left k 0) same ∙ gone_last apart ∙ (let back : p ≡ (p - 1) + 1 = is ∙ own in back))
              ∙ ap (λ x. Some x) (hs_at no_chain (before_last apart) ∙ ap (λ k. get_or held k no_chain) end)
              ∙ sym (at_some places used slots held t q i no_chain there)

          past : q ≢ last → chain_at (paired ss hs) q ≡ chain_at (paired slots held) q
          past apart =
              at_some left (set used (slot / 64) count) ss hs gone q i no_chain (gone_other q other apart ∙ there)
              ∙ ap (λ x. Some x) (hs_other i no_chain (stays q i other apart there).0 (stays q i other apart there).1)
              ∙ sym (at_some places used slots held t q i no_chain there)
