-- What a look finds, slot after slot.
use Rattle.std.proofs.Common.{◌≡◌, ◌∙◌, ℕ, zero, suc, ◌+◌, ◌-◌, ◌<◌, ◌≤◌, ℤ, Bool, true, false, cond, List, [], ◌∷◌, ◌++◌, Option, None, Some, get_or, refl, sym, ap, arith}
use mathlib.Core.List.{append-nil}
use Rattle.std.specs.Prelude.{◌↔◌, ◌&&◌, slice_get, IsTrue, IsSome, IfSome, filter, is_some, is_none}
use Rattle.std.specs.List.{filter_map, list_all, range_with_len, cons_option}
use Rattle.std.proofs.lemmas.List.Elements.{filter-append, filter_map-append}
use Rattle.isolation_spec.specs.Contents.{key_of}
use Rattle.block_spec.specs.declared.look.MovableRow.{MovableRow}
use Rattle.block_spec.specs.Slots.{Row, Slot, bare, has_none, is_bare}
use Rattle.block_spec.specs.Bodies.{Body as BodyValue, is_empty, slot_in}
use Rattle.block_spec.specs.Looks.{movable, movable_row}
use Rattle.block_spec.specs.declared.change.Before.{Before}
use Rattle.undo_chain.specs.declared.undo.Undo.{Undo}
use Rattle.undo_chain.specs.State.{ChainState}
use Rattle.block_body.specs.Chains.{IsChain, entries_of}
use Rattle.block_body.proofs.Whole.{has_none-some}

-- One number more stands at the end of a range.
range_next : (a n : ℕ) → range_with_len a (suc n) ≡ range_with_len a n ++ (a + n) ∷ []
range_next a zero = let same : a ≡ a + 0 = omega arith in ap (λ (k : ℕ). k ∷ []) same
range_next a (suc n) =
    let same : a + 1 + n ≡ a + suc n = omega arith in
    ap (λ (l : List ℕ). a ∷ l) (range_next (a + 1) n ∙ ap (λ (k : ℕ). range_with_len (a + 1) n ++ k ∷ []) same)

-- One number more stands at the end of the numbers from 0 on.
range_more : (n : ℕ) → range_with_len 0 (n + 1) ≡ range_with_len 0 n ++ n ∷ []
range_more n =
    let next : n + 1 ≡ suc n = omega arith in
    let same : 0 + n ≡ n = omega arith in
    ap (range_with_len 0) next ∙ range_next 0 n ∙ ap (λ (k : ℕ). range_with_len 0 n ++ k ∷ []) same

-- one more slot, which passes, or does not
pub filter_more : (p : ℕ → Bool) (n : ℕ) → p n ≡ true → filter p (range_with_len 0 (n + 1)) ≡ filter p (range_with_len 0 n) ++ n ∷ []
filter_more p n is =
    ap (filter p) (range_more n) ∙ filter-append p (range_with_len 0 n) (n ∷ []) ∙ ap (λ b. filter p (range_with_len 0 n) ++ cond b (n ∷ []) []) is

-- a number that fails adds nothing to those that pass
pub filter_skip : (p : ℕ → Bool) (n : ℕ) → p n ≡ false → filter p (range_with_len 0 (n + 1)) ≡ filter p (range_with_len 0 n)
filter_skip p n is =
    ap (filter p) (range_more n) ∙ filter-append p (range_with_len 0 n) (n ∷ []) ∙ ap (λ b. filter p (range_with_len 0 n) ++ cond b (n ∷ []) []) is
    ∙ append-nil (filter p (range_with_len 0 n))

-- and one more that gives something, or does not
pub filter_map_more : {X : Type 0} (h : ℕ → Option X) (n : ℕ) (x : X) → h n ≡ Some x →
    filter_map h (range_with_len 0 (n + 1)) ≡ filter_map h (range_with_len 0 n) ++ x ∷ []
filter_map_more h n x is =
    ap (filter_map h) (range_more n) ∙ filter_map-append h (range_with_len 0 n) (n ∷ []) ∙ ap (λ o. filter_map h (range_with_len 0 n) ++ cons_option o []) is

-- a number of which nothing is made adds nothing
pub filter_map_skip : {X : Type 0} (h : ℕ → Option X) (n : ℕ) → h n ≡ None →
    filter_map h (range_with_len 0 (n + 1)) ≡ filter_map h (range_with_len 0 n)
filter_map_skip h n is =
    ap (filter_map h) (range_more n) ∙ filter_map-append h (range_with_len 0 n) (n ∷ []) ∙ ap (λ o. filter_map h (range_with_len 0 n) ++ cons_option o []) is
    ∙ append-nil (filter_map h (range_with_len 0 n))

module _ (slot : ℕ) (row : Option Row) (found : Option (ChainState Before)) (are : (chain : ChainState Before) → found ≡ Some chain → IsChain chain) (has key : Bool)
    (tells : IsTrue has ↔ IsSome row) (has_key : key ≡ is_some found) where
  -- a slot without a row has none that may move
  pub no_row : has ≡ false → None ≡ movable_row slot row (has_none (entries_of found))
  no_row lacks = go row tells
    where
      go : (row : Option Row) → IsTrue has ↔ IsSome row → None ≡ movable_row slot row (has_none (entries_of found))
      go None tells = refl
      go (Some r) tells = let holds : has ≡ true = tells.1 refl in cc

  -- nor has one with an entry
  pub with_entry : key ≡ true → None ≡ movable_row slot row (has_none (entries_of found))
  with_entry is = go row found are has_key
    where
      go : (row : Option Row) (found : Option (ChainState Before)) → ((chain : ChainState Before) → found ≡ Some chain → IsChain chain) →
          key ≡ is_some found → None ≡ movable_row slot row (has_none (entries_of found))
      go None found are has_key = refl
      go (Some r) None are has_key = let never : true ≡ false = sym is ∙ has_key in cc
      go (Some r) (Some chain) are has_key = ap (movable_row slot (Some r)) (sym (has_none-some chain.entries (are chain refl).some))

  -- a row without an entry may move, with its key
  pub may_move : has ≡ true → key ≡ false → (k : ℤ) → IfSome row (λ row. k ≡ key_of row) → Some (record { slot = slot; key = k }) ≡ movable_row slot row (has_none (entries_of found))
  may_move holds lacks k key_is = go row found tells has_key key_is
    where
      go : (row : Option Row) (found : Option (ChainState Before)) → IsTrue has ↔ IsSome row → key ≡ is_some found → IfSome row (λ row. k ≡ key_of row)
          → Some (record { slot = slot; key = k }) ≡ movable_row slot row (has_none (entries_of found))
      go None found tells has_key key_is = let never : false ≡ true = tells.0 holds in cc
      go (Some r) (Some chain) tells has_key key_is = let never : true ≡ false = sym has_key ∙ lacks in cc
      go (Some r) None tells has_key key_is = ap (λ (n : ℤ). let m : MovableRow = record { slot = slot; key = n } in Some m) key_is

-- ---- an empty body

-- Where each element passes, a filter keeps all.
filter_all : {X : Type 0} (p : X → Bool) (xs : List X) → ((x : X) → p x ≡ true) → filter p xs ≡ xs
filter_all p [] all = refl
filter_all p (x ∷ xs) all = ap (λ b. cond b (x ∷ filter p xs) (filter p xs)) (all x) ∙ ap (λ (l : List _). x ∷ l) (filter_all p xs all)

-- Where nothing is made of each element, nothing is made of the list.
filter_map_none : {X Y : Type 0} (h : X → Option Y) (xs : List X) → ((x : X) → h x ≡ None) → filter_map h xs ≡ []
filter_map_none h [] none = refl
filter_map_none h (x ∷ xs) none = ap (λ (o : Option _). cons_option o (filter_map h xs)) (none x) ∙ filter_map_none h xs none

-- what a test says of all slots, it says of each, also of those that there are not
pub slot_passes : (p : Slot → Bool) (slots : List Slot) (j : ℕ) → p bare ≡ true → list_all p slots ≡ true → p (get_or slots j bare) ≡ true
slot_passes p [] j here all = here
slot_passes p (slot ∷ slots) zero here all = first (p slot) (list_all p slots) all
  where
    first : (a b : Bool) → (a && b) ≡ true → a ≡ true
    first true b both = refl
    first false b both = both
slot_passes p (slot ∷ slots) (suc j) here all = slot_passes p slots j here (rest (p slot) (list_all p slots) all)
  where
    rest : (a b : Bool) → (a && b) ≡ true → b ≡ true
    rest true b both = both
    rest false b both = let no : false ≡ true = both in cc

-- each slot of an empty body is bare
bare_at : (slots : List Slot) (j : ℕ) → list_all is_bare slots ≡ true → is_bare (get_or slots j bare) ≡ true
bare_at slots j all = slot_passes is_bare slots j refl all

-- A bare slot has no row that may move.
bare_row : (j : ℕ) (row : Option Row) (entries : List (Undo Before)) → (is_none row && has_none entries) ≡ true → movable_row j row (has_none entries) ≡ None
bare_row j None entries is = refl
bare_row j (Some row) entries is = let no : false ≡ true = is in cc

-- an empty body has no row that may move
pub no_movable : (body : BodyValue) (n : ℕ) → is_empty body ≡ true → [] ≡ filter_map (movable body) (range_with_len 0 n)
no_movable body n empty =
    sym (filter_map_none (movable body) (range_with_len 0 n)
    (λ j. bare_row j (slot_in body j).row (slot_in body j).entries (bare_at body.slots j empty)))

-- each slot of an empty body is bare
pub all_gaps : (body : BodyValue) (n : ℕ) → is_empty body ≡ true →
    range_with_len 0 n ++ [] ≡ filter (λ j. is_bare (slot_in body j)) (range_with_len 0 n)
all_gaps body n empty =
    append-nil (range_with_len 0 n)
    ∙ sym (filter_all (λ j. is_bare (slot_in body j)) (range_with_len 0 n) (λ j. bare_at body.slots j empty))

-- At a place within a range stands its first number plus the place.
range_at : (a n k : ℕ) (rest : List ℕ) → k < n → slice_get (range_with_len a n ++ rest) k ≡ Some (a + k)
range_at a zero k rest lt = absurd (omega arith)
range_at a (suc n) zero rest lt = let same : a ≡ a + 0 = omega arith in ap (λ (x : ℕ). Some x) same
range_at a (suc n) (suc k) rest lt =
    let same : a + 1 + k ≡ a + suc k = omega arith in
    range_at (a + 1) n k rest (omega arith) ∙ ap (λ (x : ℕ). Some x) same

-- At a place past a range stands what is behind it.
range_past : (a n k : ℕ) (rest : List ℕ) → n ≤ k → slice_get (range_with_len a n ++ rest) k ≡ slice_get rest (k - n)
range_past a zero k rest le = let same : k ≡ k - 0 = omega arith in ap (λ (x : ℕ). slice_get rest x) same
range_past a (suc n) zero rest le = absurd (omega arith)
range_past a (suc n) (suc k) rest le =
    let same : k - n ≡ suc k - suc n = omega arith in
    range_past (a + 1) n k rest (omega arith) ∙ ap (λ (x : ℕ). slice_get rest x) same

-- a gap is one of the first, or one that is listed
pub gap_first : (first place : ℕ) (gaps : List ℕ) → place < first → slice_get (range_with_len 0 first ++ gaps) place ≡ Some place
gap_first first place gaps lt =
    let same : 0 + place ≡ place = omega arith in
    range_at 0 first place gaps lt ∙ ap (λ (x : ℕ). Some x) same

-- behind the first slots, which are all gaps, stand the further ones
pub gap_listed : (first place : ℕ) (gaps : List ℕ) → first ≤ place → slice_get (range_with_len 0 first ++ gaps) place ≡ slice_get gaps (place - first)
gap_listed first place gaps le = range_past 0 first place gaps le
