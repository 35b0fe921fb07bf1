-- Where rows stand in the slots of bodies, and where an index finds them.
use Rattle.std.proofs.Common.{◌≡◌, ◌≢◌, ◌⊎◌, ℕ, zero, suc, ◌+◌, ◌*◌, ◌/◌, ◌%◌, ◌^◌, ◌<◌, ◌≤◌, ℤ, Bool, true, false, cond, ◌&&◌, ◌==◌, List, [], ◌∷◌, map, Option, None, Some, length, get_or, ltb, unwrap_or, refl, sym, ap, ◌∙◌, arith}
use mathlib.Core.Logic.{inl, inr}
use Rattle.std.specs.Prelude.{All, IfSome, filter, slice_get}
use Rattle.std.specs.List.{list_all, range_with_len}
use Rattle.std.specs.Cmp.{int_cmp_total}
use Rattle.std.specs.FinMap as finite
use Rattle.std.specs.FinMap.{get-insert, get-empty}
use Rattle.std.specs.Ordering.{int_cmp, eq_by_cmp}
use Rattle.std.proofs.Math.Nat.{div-lt_iff_lt-mul}
use Rattle.std.proofs.lemmas.Bool.Decides.{nat_tests}
use Rattle.std.proofs.lemmas.List.{get_or_past}
use Rattle.std.proofs.lemmas.List.Elements.{All-nil, All-cons}
use Rattle.std.proofs.lemmas.Option.{none-some, slice_get_past, slice_get-get_or}
use Rattle.std.proofs.lemmas.Bool.{and_from}
use Rattle.block_layout.specs.Place.{block_of, place_of, slot_of}
use Rattle.cell_model.specs.declared.column.Column.{Column}
use Rattle.cell_model.specs.Rows.{Fits}
use Rattle.block_spec.specs.Bodies.{Body, is_empty, slot_in}
use Rattle.block_spec.specs.Slots.{Row, Slot, bare, is_bare}
use Rattle.core_laws.proofs.Events.Places.{key_cases}
use Rattle.event_spec.specs.Parts.{shard_of}
use Rattle.event_spec.specs.Replay.{opening_body, places_from}
use Rattle.event_spec.specs.SlotSound.{VersionsFit}
use Rattle.isolation_spec.specs.Contents.{key_of}
use Rattle.key_index.specs.Candidates.{Places, candidates_of}

-- True is not the same as false.
true_false : true ≡ false → ⊥
true_false e = cc

-- A number is tested as the same as itself.
num_refl : (a : ℕ) → (a == a) ≡ true
num_refl a = grind (arith, nat_tests)

-- the place of the row with a number
abbrev pub row_place : ℕ → ℕ → ℕ
row_place slots number = place_of (number / slots) (number % slots)

-- The block and the slot of a row's place are those of its number.
pub row_block : (slots number : ℕ) → 1 ≤ slots → slots ≤ 2 ^ 15 → block_of (row_place slots number) ≡ number / slots
row_block slots number some few = let less : number % slots < slots = omega arith in let q : ℕ = number / slots in let r : ℕ = number % slots in in_place q r (omega (arith, less, few))
  where
    in_place : (q r : ℕ) → r < 2 ^ 20 → (q * 2 ^ 20 + r) / 2 ^ 20 ≡ q
    in_place q r less = omega arith

pub row_slot : (slots number : ℕ) → 1 ≤ slots → slots ≤ 2 ^ 15 → slot_of (row_place slots number) ≡ number % slots
row_slot slots number some few = let less : number % slots < slots = omega arith in in_place (number / slots) (number % slots) (omega (arith, less, few))
  where
    in_place : (q r : ℕ) → r < 2 ^ 20 → (q * 2 ^ 20 + r) % 2 ^ 20 ≡ r
    in_place q r less = omega arith

-- a row's number is made of its block and its slot
pub row_number : (slots number : ℕ) → number / slots * slots + number % slots ≡ number
row_number slots number = grind arith

-- a number below that of all slots is of one of the blocks
pub quotient_less : (number slots blocks : ℕ) → 1 ≤ slots → number < blocks * slots → number / slots < blocks
quotient_less number slots blocks some less = (div-lt_iff_lt-mul (omega (arith, some))).1 less

-- a block and a slot in it are those of the number that they make
pub made_block : (slots block slot : ℕ) → slot < slots → (block * slots + slot) / slots ≡ block
made_block slots block slot less = grind (arith, less)

pub made_slot : (slots block slot : ℕ) → slot < slots → (block * slots + slot) % slots ≡ slot
made_slot slots block slot less = grind (arith, less)

-- ---- slots

-- what a list of values by number has at a number, and behind its end
pub by_number : {X : Type 0} (f : ℕ → X) (d : X) (at n j : ℕ) → j < n → get_or (map f (range_with_len at n)) j d ≡ f (at + j)
by_number f d at zero j less = absurd (omega (arith, less))
by_number f d at (suc n) zero less = let e : at ≡ at + 0 = omega arith in ap f e
by_number f d at (suc n) (suc j) less = let e : at + 1 + j ≡ at + suc j = omega arith in by_number f d (at + 1) n j (omega (arith, less)) ∙ ap f e

pub so_many : {X : Type 0} (f : ℕ → X) (at n : ℕ) → length (map f (range_with_len at n)) ≡ n
so_many f at zero = refl
so_many f at (suc n) = ap suc (so_many f (at + 1) n)

-- slots by number are all bare where each is
all_bare : (f : ℕ → Slot) (at n : ℕ) → ((k : ℕ) → at ≤ k → is_bare (f k) ≡ true) → list_all is_bare (map f (range_with_len at n)) ≡ true
all_bare f at zero each = refl
all_bare f at (suc n) each = and_from (is_bare (f at)) (list_all is_bare (map f (range_with_len (at + 1) n))) (each at (omega arith)) (all_bare f (at + 1) n (λ k low. each k (omega (arith, low))))

-- They are not where the first is not.
not_all_bare : (f : ℕ → Slot) (at n : ℕ) → 1 ≤ n → is_bare (f at) ≡ false → list_all is_bare (map f (range_with_len at n)) ≡ false
not_all_bare f at zero some is = absurd (omega (arith, some))
not_all_bare f at (suc n) some is = ap (λ b. b && list_all is_bare (map f (range_with_len (at + 1) n))) is

-- What each slot by number has, all have.
each_has : (P : Slot → Type 0) (f : ℕ → Slot) (at n : ℕ) → ((k : ℕ) → P (f k)) → All P (map f (range_with_len at n))
each_has P f at zero each = All-nil P
each_has P f at (suc n) each = All-cons P (f at) (map f (range_with_len (at + 1) n)) (each at) (each_has P f (at + 1) n each)

-- a slot with a row, or without one, and no entry
abbrev pub of_row : Option Row → Slot
of_row row = record { row = row; entries = [] }

module _ (columns : List Column) (slots : ℕ) (rows : List Row) (block : ℕ) where
  -- the body over the rows
  abbrev its_body : Body
  its_body = opening_body columns slots rows block

  -- The slot of a number, which may be behind the last.
  abbrev slot_by : ℕ → Slot
  slot_by slot = of_row (slice_get rows (block * slots + slot))

  -- a slot has the row of its number, if there is one
  pub body_slot : (slot : ℕ) → slot < slots → slot_in its_body slot ≡ of_row (slice_get rows (block * slots + slot))
  body_slot slot less = by_number slot_by bare 0 slots slot less ∙ (let e : 0 + slot ≡ slot = omega arith in ap slot_by e)

  -- behind the last slot there is a bare one
  pub body_past : (slot : ℕ) → slots ≤ slot → slot_in its_body slot ≡ bare
  body_past slot past = let long = so_many slot_by 0 slots in get_or_past (map slot_by (range_with_len 0 slots)) slot bare (omega (arith, past, long))

  -- it has so many slots
  pub body_slots : length its_body.slots ≡ slots
  body_slots = so_many slot_by 0 slots

  -- behind the last row a slot is bare
  pub body_unused : (slot : ℕ) → length rows ≤ block * slots + slot → is_bare (slot_in its_body slot) ≡ true
  body_unused slot behind = go (ltb slot slots) refl
    where
      go : (b : Bool) → ltb slot slots ≡ b → is_bare (slot_in its_body slot) ≡ true
      go true is = ap is_bare (body_slot slot (grind (arith, nat_tests))) ∙ ap (λ row. is_bare (of_row row)) (slice_get_past rows (block * slots + slot) behind)
      go false is = ap is_bare (body_past slot (grind (arith, nat_tests)))

  -- it is empty where the rows end before it
  pub body_empty : length rows ≤ block * slots → is_empty its_body ≡ true
  body_empty behind = all_bare slot_by 0 slots (λ slot low. ap (λ row. is_bare (of_row row)) (slice_get_past rows (block * slots + slot) (omega (arith, behind))))

  -- and is not where they end behind its first slot
  pub body_filled : 1 ≤ slots → block * slots < length rows → is_empty its_body ≡ false
  body_filled some before = not_all_bare slot_by 0 slots some (
      ap (λ row. is_bare (of_row row)) (let e : block * slots + 0 ≡ block * slots = omega arith in ap (slice_get rows) e ∙ there (block * slots) before)
      )
    where
      there : (number : ℕ) → number < length rows → slice_get rows number ≡ Some (get_or rows number [])
      there number less = slice_get-get_or rows number [] less

  -- each version in it fits where each row does
  pub body_fits : ((number : ℕ) (row : Row) → slice_get rows number ≡ Some row → Fits columns row)
      → All (λ (slot : Slot). VersionsFit columns slot.row slot.entries) its_body.slots
  body_fits fits = each_has (λ (slot : Slot). VersionsFit columns slot.row slot.entries) slot_by 0 slots (λ slot. if_some (slice_get rows (block * slots + slot)) (λ row is. fits (block * slots + slot) row is))
    where
      if_some : (o : Option Row) → ((row : Row) → o ≡ Some row → Fits columns row) → IfSome o (Fits columns)
      if_some None each = tt
      if_some (Some row) each = each row refl

-- ---- candidates

-- the index with these entries
abbrev index_of : List (ℤ × List ℕ) → Places
index_of entries = finite.from_entries entries

module _ (slots shard : ℕ) (key : ℤ) (own : shard_of key ≡ shard) where
  -- the candidates of the key in the shard over rows from a number on
  abbrev pub candidates_in : ℕ → List Row → List ℕ
  candidates_in at rows = candidates_of (index_of (filter (λ entry. shard_of entry.0 == shard) (places_from slots at rows))) key

  -- a row that has the key
  abbrev pub HasKeyAt : List Row → ℕ → Type 0
  HasKeyAt rows number = (row : Row) × (slice_get rows number ≡ Some row) × (key_of row ≡ key)

  -- there is no row of the key, and no candidate
  abbrev IsNowhere : ℕ → List Row → Type 0
  IsNowhere at rows = (candidates_in at rows ≡ []) × ((number : ℕ) → HasKeyAt rows number → ⊥)

  -- there is one, whose place is the only candidate
  abbrev IsSomewhere : ℕ → List Row → Type 0
  IsSomewhere at rows = (number : ℕ) × HasKeyAt rows number × (candidates_in at rows ≡ row_place slots (at + number) ∷ [])

  -- a key is nowhere in the rows, or its one candidate is the place of the first row that has it
  pub key_place : (at : ℕ) (rows : List Row) → IsNowhere at rows ⊎ IsSomewhere at rows
  key_place at [] = inl (ap (λ o. unwrap_or o []) (get-empty int_cmp key), λ number has. none-some has.0 has.1)
  key_place at (row ∷ rows) = go (shard_of (key_of row) == shard) refl (key_place (at + 1) rows)
    where
      others : List (ℤ × List ℕ)
      others = filter (λ entry. shard_of entry.0 == shard) (places_from slots (at + 1) rows)

      -- where the row has another key, all is as behind it
      behind : candidates_in at (row ∷ rows) ≡ candidates_in (at + 1) rows → key ≢ key_of row → IsNowhere (at + 1) rows ⊎ IsSomewhere (at + 1) rows → IsNowhere at (row ∷ rows) ⊎ IsSomewhere at (row ∷ rows)
      behind same ne (inl none) = inl (same ∙ none.0, no)
        where
          no : (number : ℕ) → HasKeyAt (row ∷ rows) number → ⊥
          no zero has = let first : row ≡ has.0 = cc in ne (sym has.2 ∙ ap key_of (sym first))
          no (suc number) has = none.1 number has
      behind same ne (inr some) =
          let e : at + 1 + some.0 ≡ at + suc some.0 = omega arith in
          inr (suc some.0, some.1, same ∙ some.2 ∙ ap (λ k. row_place slots k ∷ []) e)

      mine : (shard_of (key_of row) == shard) ≡ true → IsNowhere (at + 1) rows ⊎ IsSomewhere (at + 1) rows → IsNowhere at (row ∷ rows) ⊎ IsSomewhere at (row ∷ rows)
      mine is rest = by (key_cases key (key_of row))
        where
          found : (b : Bool) → eq_by_cmp int_cmp key (key_of row) ≡ b
              → candidates_in at (row ∷ rows) ≡ unwrap_or (cond b (Some (row_place slots at ∷ [])) (finite.get (index_of others) key)) []
          found b tied =
              ap (λ own. candidates_of (index_of (cond own ((key_of row, row_place slots at ∷ []) ∷ others) others)) key) is
              ∙ ap (λ o. unwrap_or o []) (get-insert int_cmp_total (index_of others) (key_of row) (row_place slots at ∷ []) key)
              ∙ ap (λ b. unwrap_or (cond b (Some (row_place slots at ∷ [])) (finite.get (index_of others) key)) []) tied

          by : ((eq_by_cmp int_cmp key (key_of row) ≡ true) × (key ≡ key_of row)) ⊎ ((eq_by_cmp int_cmp key (key_of row) ≡ false) × (key ≢ key_of row)) → IsNowhere at (row ∷ rows) ⊎ IsSomewhere at (row ∷ rows)
          by (inl x) = let e : at ≡ at + 0 = omega arith in inr (0, (row, refl, sym x.1), found true x.0 ∙ ap (λ k. row_place slots k ∷ []) e)
          by (inr x) = behind (found false x.0) x.1 rest

      go : (b : Bool) → (shard_of (key_of row) == shard) ≡ b → IsNowhere (at + 1) rows ⊎ IsSomewhere (at + 1) rows → IsNowhere at (row ∷ rows) ⊎ IsSomewhere at (row ∷ rows)
      go true is rest = mine is rest
      go false is rest = behind (ap (λ own. candidates_of (index_of (cond own ((key_of row, row_place slots at ∷ []) ∷ others) others)) key) is)
          (λ e. true_false (sym (ap (λ k. k == shard) (ap shard_of (sym e) ∙ own) ∙ num_refl shard) ∙ is)) rest
