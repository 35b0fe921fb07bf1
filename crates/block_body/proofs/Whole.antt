-- What the counts of a body's rows and chains tell of all its slots.
use Rattle.std.proofs.Common.{◌≡◌, ◌∙◌, ℕ, zero, suc, ◌+◌, ◌<◌, ◌≤◌, eqb, Bool, true, false, not, ◌&&◌, cond, List, [], ◌∷◌, Option, None, Some, length, get_or, take, refl, sym, ap, subst, arith, ⊎_elim}
use Rattle.std.specs.Prelude.{◌↔◌, IsTrue, IsSome, count_by, is_some, is_none}
use Rattle.std.specs.List.{list_any, list_all}
use Rattle.std.proofs.lemmas.Bool.{cases_lt, eqb-true, ne_eqb, eq-eqb}
use Rattle.std.proofs.lemmas.List.{get_or_past}
use Rattle.std.proofs.lemmas.List.Recursion.{is_count_by}
use Rattle.block_spec.specs.declared.change.Before.{Before}
use Rattle.block_spec.specs.Slots.{Row, Slot, bare, is_bare, has_none}
use Rattle.block_spec.specs.Bodies.{is_front}
use Rattle.undo_chain.specs.declared.undo.Undo.{Undo}
use Rattle.undo_chain.specs.State.{ChainState}
use Rattle.block_body.specs.Rows.{RowsValue}
use Rattle.block_body.specs.Slots.{slot_of, slots_from}
use Rattle.block_body.specs.Chains.{Chains, AreChains, IsChain, IsKept, slot_at, chain_at, entries_at, entries_of}
use Rattle.block_body.proofs.Lookups.{is_at-same}
use Rattle.block_body.proofs.RolledBack.{no_entry}
use Rattle.block_body.proofs.Slots.{slots-at, slots-length}

-- ---- rows

-- how many slots have a row, slot after slot
abbrev pub taken : {X : Type 0} → List (Option X) → ℕ
taken [] = 0
taken (row ∷ rows) = cond (is_some row) (1 + taken rows) (taken rows)

-- the count that goes slot after slot is how many slots have a row
pub taken_is : {X : Type 0} (rows : List (Option X)) → taken rows ≡ count_by is_some rows
taken_is rows = is_count_by taken is_some refl (λ row rows. refl) rows

-- some slot has a row unless none is counted
pub any_row : (f : ℕ → List (Undo Before)) (at : ℕ) (rows : List (Option Row)) →
    list_any (λ slot. is_some slot.row) (slots_from f at rows) ≡ not (eqb (taken rows) 0)
any_row f at [] = refl
any_row f at (None ∷ rows) = any_row f (at + 1) rows
any_row f at (Some row ∷ rows) = ap not (sym (ne_eqb (1 + taken rows) 0 (λ is. absurd (omega arith))))

-- Where no row is counted, each slot is without one.
no_row : (f : ℕ → List (Undo Before)) (at : ℕ) (rows : List (Option Row)) → taken rows ≡ 0 →
    list_all (λ slot. is_none slot.row) (slots_from f at rows) ≡ true
no_row f at [] none = refl
no_row f at (None ∷ rows) none = no_row f (at + 1) rows none
no_row f at (Some row ∷ rows) none = absurd (omega arith)

-- Where a row is counted, not each slot is without one.
some_row : (f : ℕ → List (Undo Before)) (at : ℕ) (rows : List (Option Row)) → 0 < taken rows →
    list_all (λ slot. is_none slot.row) (slots_from f at rows) ≡ false
some_row f at [] some = absurd (omega arith)
some_row f at (None ∷ rows) some = some_row f (at + 1) rows some
some_row f at (Some row ∷ rows) some = refl

-- the rows stand in front where each of the first slots, as many as there are rows, has one
pub front_true : (f : ℕ → List (Undo Before)) (at : ℕ) (rows : List (Option Row)) →
    ((k : ℕ) → k < taken rows → is_some (get_or rows k None) ≡ true) → is_front (slots_from f at rows) ≡ true
front_true f at [] all = refl
front_true f at (Some row ∷ rows) all = front_true f (at + 1) rows (λ k lt. all (suc k) (omega arith))
front_true f at (None ∷ rows) all =
    no_row f (at + 1) rows (⊎_elim (λ some. let no : false ≡ true = all 0 some in cc) (λ le. omega arith) (cases_lt 0 (taken rows)))

-- Of so many first slots no more have a row.
taken_few : {X : Type 0} (n : ℕ) (rows : List (Option X)) → taken (take n rows) ≤ n
taken_few zero rows = omega arith
taken_few (suc n) [] = omega arith
taken_few (suc n) (None ∷ rows) = let rest : taken (take n rows) ≤ n = taken_few n rows in omega arith
taken_few (suc n) (Some row ∷ rows) = let rest : taken (take n rows) ≤ n = taken_few n rows in omega arith

-- Where as many of the first slots have rows as there are, each of them has one.
all_taken : {X : Type 0} (n : ℕ) (rows : List (Option X)) → taken (take n rows) ≡ n → (k : ℕ) → k < n → is_some (get_or rows k None) ≡ true
all_taken zero rows all k lt = absurd (omega arith)
all_taken (suc n) [] all k lt = absurd (omega arith)
all_taken (suc n) (None ∷ rows) all k lt = let few : taken (take n rows) ≤ n = taken_few n rows in absurd (omega arith)
all_taken (suc n) (Some row ∷ rows) all zero lt = refl
all_taken (suc n) (Some row ∷ rows) all (suc k) lt = all_taken n rows (omega arith) k (omega arith)

-- Where the rows stand in front, as many first slots as there are rows have one.
front_counts : (f : ℕ → List (Undo Before)) (at : ℕ) (rows : List (Option Row)) (n : ℕ) → taken rows ≡ n →
    is_front (slots_from f at rows) ≡ true → taken (take n rows) ≡ n
front_counts f at rows zero is front = refl
front_counts f at [] (suc n) is front = absurd (omega arith)
front_counts f at (Some row ∷ rows) (suc n) is front =
    let rest : taken (take n rows) ≡ n = front_counts f (at + 1) rows n (omega arith) front in omega arith
front_counts f at (None ∷ rows) (suc n) is front =
    let never : true ≡ false = sym front ∙ some_row f (at + 1) rows (omega arith) in cc

-- the rows stand in front where the first slots, as many as there are rows, have as many
pub front_is : (f : ℕ → List (Undo Before)) (at : ℕ) (rows : List (Option Row)) (n first : ℕ) → n ≡ count_by is_some rows →
    first ≡ count_by is_some (take n rows) → eqb first n ≡ is_front (slots_from f at rows)
front_is f at rows n first all counted = go (is_front (slots_from f at rows)) refl
  where
    go : (front : Bool) → is_front (slots_from f at rows) ≡ front → eqb first n ≡ is_front (slots_from f at rows)
    go true is =
        eq-eqb first n (counted ∙ sym (taken_is (take n rows)) ∙ front_counts f at rows n (taken_is rows ∙ sym all) is) ∙ sym is
    go false is =
        ne_eqb first n
        (λ same.
        let full : taken (take n rows) ≡ n = taken_is (take n rows) ∙ sym counted ∙ same in
        let many : taken rows ≡ n = taken_is rows ∙ sym all in
        let never : true ≡ false = sym (front_true f at rows (λ k lt. all_taken n rows full k (omega arith))) ∙ is in
        cc)
        ∙ sym is

-- no more slots have a row than have memory
pub taken_room : {X : Type 0} (rows : List (Option X)) (room : ℕ) → ((slot : ℕ) → IsSome (get_or rows slot None) → slot < room) → taken rows ≤ room
taken_room [] room within = omega arith
taken_room (None ∷ rows) room within = taken_room rows room (λ slot some. let lt : suc slot < room = within (suc slot) some in omega arith)
taken_room (Some row ∷ rows) zero within = let lt : 0 < 0 = within 0 refl in absurd (omega arith)
taken_room (Some row ∷ rows) (suc room) within =
    let rest : taken rows ≤ room = taken_room rows room (λ slot some. let lt : suc slot < suc room = within (suc slot) some in omega arith) in
    omega arith

-- ---- chains

-- Where one slot fails a test, not all slots pass it.
all_at : (p : Slot → Bool) (slots : List Slot) (k : ℕ) (d : Slot) → k < length slots → p (get_or slots k d) ≡ false → list_all p slots ≡ false
all_at p [] k d lt fails = absurd (omega arith)
all_at p (s ∷ slots) zero d lt fails = ap (λ b. b && list_all p slots) fails
all_at p (s ∷ slots) (suc k) d lt fails = ap (λ b. p s && b) (all_at p slots k d (omega arith) fails) ∙ neither (p s)
  where
    neither : (b : Bool) → (b && false) ≡ false
    neither true = refl
    neither false = refl

-- Slots whose entries are all none are each without an entry.
all_none : (f : ℕ → List (Undo Before)) (at : ℕ) (rows : List (Option Row)) → ((k : ℕ) → f k ≡ []) →
    list_all (λ slot. has_none slot.entries) (slots_from f at rows) ≡ true
all_none f at [] none = refl
all_none f at (row ∷ rows) none = ap (λ l. has_none l && list_all (λ (slot : Slot). has_none slot.entries) (slots_from f (at + 1) rows)) (none at) ∙ all_none f (at + 1) rows none

-- Slots without entries are all bare just where no row is counted.
all_bare : (f : ℕ → List (Undo Before)) (at : ℕ) (rows : List (Option Row)) → ((k : ℕ) → f k ≡ []) →
    list_all is_bare (slots_from f at rows) ≡ eqb (taken rows) 0
all_bare f at [] none = refl
all_bare f at (None ∷ rows) none = ap (λ l. has_none l && list_all is_bare (slots_from f (at + 1) rows)) (none at) ∙ all_bare f (at + 1) rows none
all_bare f at (Some row ∷ rows) none = sym (ne_eqb (1 + taken rows) 0 (λ is. absurd (omega arith)))

-- some entries are not none
pub has_none-some : (es : List (Undo Before)) → 0 < length es → has_none es ≡ false
has_none-some [] some = absurd (omega arith)
has_none-some (e ∷ es) some = refl

-- the first chain is found at its slot
pub first_chain : (slot : ℕ) (chain : ChainState Before) (chains : Chains) → chain_at ((slot, chain) ∷ chains) slot ≡ Some chain
first_chain slot chain chains = ap (λ b. cond b (Some chain) (chain_at chains slot)) (is_at-same slot)

module _ (rows : RowsValue) (kept_chains : Chains) (are : AreChains kept_chains)
    (kept : (slot : ℕ) → IsKept rows slot (get_or rows.rows slot None) (entries_at kept_chains slot)) where
  -- a number past the slots has no entry
  pub entries_past : (k : ℕ) → length rows.rows ≤ k → entries_at kept_chains k ≡ []
  entries_past k le = no_entry (entries_at kept_chains k) (λ some. let lt : k < length rows.rows = (kept k).within some in omega arith)

  -- a slot of the body, also of those that it does not have
  pub slot_is : (k : ℕ) → get_or (slots_from (entries_at kept_chains) 0 rows.rows) k bare ≡ slot_at rows.rows kept_chains k
  slot_is k = ⊎_elim within past (cases_lt k (length rows.rows))
    where
      within : k < length rows.rows → get_or (slots_from (entries_at kept_chains) 0 rows.rows) k bare ≡ slot_at rows.rows kept_chains k
      within lt = slots-at (entries_at kept_chains) rows.rows k bare lt

      past : length rows.rows ≤ k → get_or (slots_from (entries_at kept_chains) 0 rows.rows) k bare ≡ slot_at rows.rows kept_chains k
      past le =
          get_or_past (slots_from (entries_at kept_chains) 0 rows.rows) k bare (subst (λ n. n ≤ k) (sym (slots-length (entries_at kept_chains) 0 rows.rows)) le)
          ∙ sym (ap (λ (r : Option Row). slot_of r (entries_at kept_chains k)) (get_or_past rows.rows k None le) ∙ ap (slot_of None) (entries_past k le))

-- the slots of a body have no entry where it has no chain, and one has one where it has any
pub quiet_is : (rows : RowsValue) (chains : Chains) → AreChains chains →
    ((slot : ℕ) → IsKept rows slot (get_or rows.rows slot None) (entries_at chains slot)) →
    list_all (λ slot. has_none slot.entries) (slots_from (entries_at chains) 0 rows.rows) ≡ eqb (length chains) 0
quiet_is rows [] are kept = all_none (entries_at []) 0 rows.rows (λ k. refl)
quiet_is rows ((slot, chain) ∷ chains) are kept =
    let found : chain_at ((slot, chain) ∷ chains) slot ≡ Some chain = first_chain slot chain chains in
    let some : 0 < length (entries_at ((slot, chain) ∷ chains) slot) =
    subst (λ (l : List (Undo Before)). 0 < length l) (sym (ap entries_of found)) (are.each slot chain found).some in
    let lt : slot < length rows.rows = (kept slot).within some in
    all_at (λ s. has_none s.entries) (slots_from (entries_at ((slot, chain) ∷ chains)) 0 rows.rows) slot bare
    (subst (λ n. slot < n) (sym (slots-length (entries_at ((slot, chain) ∷ chains)) 0 rows.rows)) lt)
    (ap (λ (s : Slot). has_none s.entries) (slots-at (entries_at ((slot, chain) ∷ chains)) rows.rows slot bare lt) ∙ has_none-some (entries_at ((slot, chain) ∷ chains) slot) some)
    ∙ sym (ne_eqb (length ((slot, chain) ∷ chains)) 0 (λ is. absurd (omega arith)))

-- All slots are bare where there is no row and no chain.
pub empty_is : (rows : RowsValue) (chains : Chains) → AreChains chains →
    ((slot : ℕ) → IsKept rows slot (get_or rows.rows slot None) (entries_at chains slot)) →
    list_all is_bare (slots_from (entries_at chains) 0 rows.rows) ≡ (eqb (taken rows.rows) 0 && eqb (length chains) 0)
empty_is rows [] are kept = all_bare (entries_at []) 0 rows.rows (λ k. refl) ∙ both (eqb (taken rows.rows) 0)
  where
    both : (b : Bool) → b ≡ (b && true)
    both true = refl
    both false = refl
empty_is rows ((slot, chain) ∷ chains) are kept =
    let found : chain_at ((slot, chain) ∷ chains) slot ≡ Some chain = first_chain slot chain chains in
    let some : 0 < length (entries_at ((slot, chain) ∷ chains) slot) =
    subst (λ (l : List (Undo Before)). 0 < length l) (sym (ap entries_of found)) (are.each slot chain found).some in
    let lt : slot < length rows.rows = (kept slot).within some in
    all_at is_bare (slots_from (entries_at ((slot, chain) ∷ chains)) 0 rows.rows) slot bare
    (subst (λ n. slot < n) (sym (slots-length (entries_at ((slot, chain) ∷ chains)) 0 rows.rows)) lt)
    (ap is_bare (slots-at (entries_at ((slot, chain) ∷ chains)) rows.rows slot bare lt)
    ∙ ap (λ b. is_none (get_or rows.rows slot None) && b) (has_none-some (entries_at ((slot, chain) ∷ chains) slot) some)
    ∙ neither (is_none (get_or rows.rows slot None)))
    ∙ sym (ap (λ b. eqb (taken rows.rows) 0 && b) (ne_eqb (length ((slot, chain) ∷ chains)) 0 (λ is. absurd (omega arith))) ∙ neither (eqb (taken rows.rows) 0))
  where
    neither : (b : Bool) → (b && false) ≡ false
    neither true = refl
    neither false = refl

-- ---- tests

-- what tells whether a number is zero is the test for it
pub tells_zero : (b : Bool) (n : ℕ) → IsTrue b ↔ ◌≡◌ {A = ℕ} n 0 → b ≡ eqb n 0
tells_zero true n tells = sym (eq-eqb n 0 (tells.0 refl))
tells_zero false n tells = sym (ne_eqb n 0 (λ is. let never : false ≡ true = tells.1 is in cc))

module _ (row : Option Row) (found : Option (ChainState Before)) (are : (chain : ChainState Before) → found ≡ Some chain → IsChain chain) (has key : Bool)
    (tells : IsTrue has ↔ IsSome row) (has_key : key ≡ is_some found) where
  -- a slot without a row is bare where it has no chain
  pub bare_then : has ≡ false → not key ≡ (is_none row && has_none (entries_of found))
  bare_then lacks = go row found are tells has_key
    where
      go : (row : Option Row) (found : Option (ChainState Before)) → ((chain : ChainState Before) → found ≡ Some chain → IsChain chain) →
          IsTrue has ↔ IsSome row → key ≡ is_some found → not key ≡ (is_none row && has_none (entries_of found))
      go (Some r) found are tells has_key = let holds : has ≡ true = tells.1 refl in cc
      go None None are tells has_key = ap not has_key
      go None (Some chain) are tells has_key = ap not has_key ∙ sym (has_none-some chain.entries (are chain refl).some)

  -- a slot with a row is not bare
  pub bare_else : has ≡ true → not has ≡ (is_none row && has_none (entries_of found))
  bare_else holds = go row tells
    where
      go : (row : Option Row) → IsTrue has ↔ IsSome row → not has ≡ (is_none row && has_none (entries_of found))
      go (Some r) tells = ap not holds
      go None tells = let never : false ≡ true = tells.0 holds in cc

-- where the chains are counted as none there is none
pub no_chains : (chains : Chains) → eqb (length chains) 0 ≡ true → chains ≡ []
no_chains [] none = refl
no_chains (c ∷ chains) none = absurd (omega (arith, eqb-true (length (c ∷ chains)) 0 none))

-- chains of no length are none
pub no_length : (chains : Chains) → length chains ≡ 0 → chains ≡ []
no_length [] none = refl
no_length (c ∷ chains) none = absurd (omega arith)
