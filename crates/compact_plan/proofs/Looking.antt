-- The rows and the gaps that a look tells stand in the order of their slots.
use Rattle.std.proofs.Common.{◌≡◌, ℕ, ◌<◌, ◌≤◌, ◌^◌, Bool, true, false, cond, List, [], ◌∷◌, get_or, map, length, Option, None, Some, refl, sym, ap, ◌∙◌, subst, arith}
use Rattle.std.specs.Prelude.{All, AllPairs, filter, is_some}
use Rattle.std.specs.List.{filter_map, cons_option, range_with_len}
use Rattle.std.proofs.lemmas.List.Elements.{All-filter, All-map, All-weaker}
use Rattle.std.proofs.lemmas.List.Kept.{AllPairs-filter}
use Rattle.block_layout.specs.Place.{place_of, block_of, slot_of}
use Rattle.block_spec.specs.declared.look.MovableRow.{MovableRow}
use Rattle.block_spec.specs.Bodies.{Body, slot_in}
use Rattle.block_spec.specs.Looks.{Look, looked, movable, movable_row}
use Rattle.block_spec.specs.Slots.{Row, has_none, is_bare}
use Rattle.event_spec.specs.Plans.{BlockLook}
use Rattle.compact_plan.specs.Looks.{HasPlaces}
use Rattle.compact_plan.proofs.Lists.{All-from_map, AllPairs-from_map, AllPairs-map, range_rises, range_within}

-- slots of a block that stand in order, each below a number
pub record AreSlots {Y : Type 0} (number : Y → ℕ) (slots : ℕ) (ys : List Y) : Type 0 where
  pub rising : AllPairs (λ one other. number one < number other) ys
  pub within : All (λ y. number y < slots) ys

-- One slot more is among those kept just where its row may move.
kept_slot : (row : Option Row) (quiet : Bool) (j : ℕ) (rows : List MovableRow) →
    map (λ (row : MovableRow). row.slot) (cons_option (movable_row j row quiet) rows)
    ≡ cond (is_some (movable_row j row quiet)) (j ∷ map (λ (row : MovableRow). row.slot) rows) (map (λ (row : MovableRow). row.slot) rows)
kept_slot None quiet j rows = refl
kept_slot (Some row) true j rows = refl
kept_slot (Some row) false j rows = refl

-- The slots of the rows that may move are some of all slots, in their order.
kept_slots : (body : Body) (js : List ℕ) →
    map (λ (row : MovableRow). row.slot) (filter_map (movable body) js) ≡ filter (λ j. is_some (movable body j)) js
kept_slots body [] = refl
kept_slots body (j ∷ js) =
    kept_slot (slot_in body j).row (has_none (slot_in body j).entries) j (filter_map (movable body) js)
    ∙ ap (λ (slots : List ℕ). cond (is_some (movable body j)) (j ∷ slots) slots) (kept_slots body js)

-- Those numbers below a bound that pass a test stand in order below it.
some_slots : (p : ℕ → Bool) (n : ℕ) → AreSlots (λ (slot : ℕ). slot) n (filter p (range_with_len 0 n))
some_slots p n = record {
  rising = AllPairs-filter (λ one other. one < other) p (range_with_len 0 n) (range_rises n);
  within = All-filter p (λ slot. slot < n) (range_with_len 0 n) (range_within n);
}

-- the rows that a look tells stand in the order of their slots
pub looked_rows : (body : Body) → AreSlots (λ (row : MovableRow). row.slot) (length body.slots) (looked body).rows
looked_rows body =
    let js : List ℕ = range_with_len 0 (length body.slots) in
    let rows : List MovableRow = filter_map (movable body) js in
    let some : AreSlots (λ (slot : ℕ). slot) (length body.slots) (map (λ (row : MovableRow). row.slot) rows) =
    subst (AreSlots (λ (slot : ℕ). slot) (length body.slots)) (sym (kept_slots body js)) (some_slots (λ j. is_some (movable body j)) (length body.slots)) in
    record {
      rising = AllPairs-from_map (λ one other. one < other) (λ (row : MovableRow). row.slot) rows some.rising;
      within = All-from_map (λ slot. slot < length body.slots) (λ (row : MovableRow). row.slot) rows some.within;
    }

-- the gaps that a look tells stand in their order
pub looked_gaps : (body : Body) → AreSlots (λ (slot : ℕ). slot) (length body.slots) (looked body).gaps
looked_gaps body = some_slots (λ j. is_bare (slot_in body j)) (length body.slots)

-- A look at a body whose slots have places is one that can be planned over.
pub has_places : (seen : BlockLook) (body : Body) → seen.look ≡ looked body → length body.slots ≤ 2 ^ 20 → HasPlaces seen
has_places seen body is few =
    subst
    (λ (look : Look). HasPlaces (record { block = seen.block; look = look }))
    (sym is)
    (record {
      rows = λ k d within. omega (arith, few, (looked_rows body).within k d within);
      gaps = λ k d within. omega (arith, few, (looked_gaps body).within k d within);
    })

-- ---- places

-- a place has the block that it was made of
pub block_placed : (block slot : ℕ) → slot < 2 ^ 20 → block_of (place_of block slot) ≡ block
block_placed block slot small = omega arith

-- a place has the slot that it was made of
pub slot_placed : (block slot : ℕ) → slot < 2 ^ 20 → slot_of (place_of block slot) ≡ slot
slot_placed block slot small = omega arith

-- places of a block that stand in order, each of a slot below a number
pub record ArePlaces {Y : Type 0} (place : Y → ℕ) (block slots : ℕ) (ys : List Y) : Type 0 where
  pub rising : AllPairs (λ one other. place one < place other) ys
  pub here : All (λ y. block_of (place y) ≡ block) ys
  pub within : All (λ y. slot_of (place y) < slots) ys

-- slots of a block that stand in order have places that do
pub placed : {X Y : Type 0} (number : X → ℕ) (place : Y → ℕ) (f : X → Y) (block slots : ℕ) (xs : List X) →
    ((x : X) → place (f x) ≡ place_of block (number x)) → slots ≤ 2 ^ 20 →
    AreSlots number slots xs → ArePlaces place block slots (map f xs)
placed {X} {Y} number place f block slots xs is small are = record {
  rising = AllPairs-map (λ one other. place one < place other) f xs
      (λ i j d before within. omega (arith, are.rising i j d before within, is (get_or xs i d), is (get_or xs j d)));
  here = All-map (λ y. block_of (place y) ≡ block) f xs
      (All-weaker (λ x. number x < slots) (λ x. block_of (place (f x)) ≡ block)
      (λ x below. ap block_of (is x) ∙ block_placed block (number x) (omega (arith, below, small))) xs are.within);
  within = All-map (λ y. slot_of (place y) < slots) f xs
      (All-weaker (λ x. number x < slots) (λ x. slot_of (place (f x)) < slots)
      (λ x below. let at = ap slot_of (is x) ∙ slot_placed block (number x) (omega (arith, below, small)) in omega (arith, at, below)) xs are.within);
}
