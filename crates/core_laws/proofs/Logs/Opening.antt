-- The opening core.
use Rattle.std.proofs.Common.{◌≡◌, ◌⊎◌, ℕ, zero, suc, ◌+◌, ◌*◌, ◌/◌, ◌%◌, ◌^◌, ◌<◌, ◌≤◌, ℤ, Bool, true, false, cond, ltb, not, ◌&&◌, ◌==◌, List, [], ◌∷◌, map, Option, None, Some, length, option_map, unwrap_or, nat_lt, refl, sym, ap, ◌∙◌, subst, arith}
use mathlib.Core.Logic.{inl, inr}
use Rattle.std.specs.Prelude.{All, IsSomeAnd, filter, replicate, slice_get}
use Rattle.std.specs.Ordering.{int_cmp}
use Rattle.std.specs.FinMap as finite
use Rattle.std.proofs.Math.Nat.{mul-le-mul_right}
use Rattle.std.proofs.lemmas.Bool.Decides.{nat_tests}
use Rattle.std.proofs.lemmas.List.{length-map}
use Rattle.std.proofs.lemmas.List.Elements.{All-weaker}
use Rattle.std.proofs.lemmas.Option.{none-some, slice_get_within}
use Rattle.std.proofs.lemmas.Bool.{and_from}
use Rattle.block_layout.specs.Place.{block_of, place_of, slot_of}
use Rattle.cell_model.specs.declared.table.TableDecl.{TableDecl}
use Rattle.cell_model.specs.Rows.{Fits}
use Rattle.block_spec.specs.Bodies.{Body, is_empty, is_loose, slot_in}
use Rattle.block_spec.specs.Slots.{Row, Slot, bare, is_bare}
use Rattle.core_laws.proofs.Events.Lists.{all_by}
use Rattle.core_laws.proofs.Events.Naming.{body_is_there, body_named, desk_named, desk_there, each_kind, head_named, named_member, shard_named, shard_there}
use Rattle.core_laws.specs.Events.Named.{FollowsMachine}
use Rattle.core_laws.proofs.Events.Places.{shard_small}
use Rattle.core_laws.proofs.Events.States.{name_is}
use Rattle.core_laws.proofs.Logs.FirstFollows.{Stand, first_follows, none_open}
use Rattle.core_laws.proofs.Logs.FirstPlaces.{HasKeyAt, body_empty, body_filled, body_fits, body_past, body_slot, body_slots, body_unused, candidates_in, key_place, made_block, made_slot, of_row, quotient_less, row_block, row_number, row_place, row_slot}
use Rattle.core_laws.proofs.Logs.FirstRows.{HasRowsOf, found_row, one_row, row_found, rows_of_tables, whole_state}
use Rattle.event_spec.specs.declared.part.Head.{Head}
use Rattle.event_spec.specs.Follows.{Follows, StandsBefore}
use Rattle.isolation_spec.specs.Commits.{FitsPlace, IsCommitOf}
use Rattle.isolation_spec.specs.Order.{InOrder}
use Rattle.event_spec.specs.Lawful.{Among, HasBlock, HasTable}
use Rattle.event_spec.specs.Parts.{CorePart, Parts, Shape, Name, HeadOf, ShardOf, BodyOf, TheDesk, same_name, names, part_named, part_at, head_from, shard_from, body_from, desk_from, head_at, body_at, desk_at, slot_at, places_at, blocks_of, slots_of, below, shard_of}
use Rattle.event_spec.specs.Replay.{columns_in, opening, opening_body, opening_desk, opening_head, opening_part, rows_first}
use Rattle.event_spec.specs.Sound.{BodyHolds, HeadHolds, IsOfKind, IsShape, Sound}
use Rattle.isolation_spec.specs.Contents.{State, WriteSet, at_place, key_of, place_at, state_at}
use Rattle.isolation_spec.specs.declared.place.Place.{Place}
use Rattle.isolation_spec.specs.Machine as machine
use Rattle.key_index.specs.Candidates.{candidates_of}
use Rattle.core_laws.proofs.Sound.Kept.{filter_same, in_block}
use Rattle.txn_desk.specs.Desk.{DeskState}
use Rattle.txn_desk.specs.Oldest.{snapshot_of}

-- True is not the same as false.
true_false : true ≡ false → ⊥
true_false e = cc

-- A number is tested as the same as itself.
num_refl : (a : ℕ) → (a == a) ≡ true
num_refl a = grind (arith, nat_tests)

-- A name is tested as the same as itself.
name_self : (n : Name) → same_name n n ≡ true
name_self (HeadOf t) = num_refl t
name_self (ShardOf t i) = and_from (t == t) (i == i) (num_refl t) (num_refl i)
name_self (BodyOf t b) = and_from (t == t) (b == b) (num_refl t) (num_refl b)
name_self TheDesk = refl

-- the part of a name where each name's part is made by one function
pub part_there : (f : Name → CorePart) (ns : List Name) (w : Name) → Among w ns → part_named ns (map f ns) w ≡ Some (f w)
part_there f [] w a = absurd a
part_there f (n ∷ ns) w a = go (same_name n w) refl a (λ b. part_there f ns w b)
  where
    go : (b : Bool) → same_name n w ≡ b → Among w (n ∷ ns) → (Among w ns → part_named ns (map f ns) w ≡ Some (f w)) → cond (same_name n w) (Some (f n)) (part_named ns (map f ns) w) ≡ Some (f w)
    go true is a rest = ap (λ b. cond b (Some (f n)) (part_named ns (map f ns) w)) is ∙ ap (λ x. Some (f x)) (name_is n w is)
    go false is (inl e) rest = absurd (true_false (sym (ap (λ x. same_name x w) (sym e) ∙ name_self w) ∙ is))
    go false is (inr b) rest = ap (λ b. cond b (Some (f n)) (part_named ns (map f ns) w)) is ∙ rest b

-- A list of so many times one element has so many.
size : {X : Type 0} (n : ℕ) (x : X) → length (replicate n x) ≡ n
size zero x = refl
size (suc n) x = ap suc (size n x)

-- Where there is a part, there is not none.
some_part : (o : Option CorePart) (piece : CorePart) → o ≡ None → o ≡ Some piece → ⊥
some_part o piece none some = cc

-- ---- the rows with which a core begins

module _ (sh : Shape) (shape : IsShape sh) where
  -- What the first commits leave.
  abbrev pub left : State
  left = state_at sh.first (length sh.first)

  -- it stands in order, and has rows of the tables
  pub left_holds : InOrder left × HasRowsOf sh.tables left
  left_holds = subst (λ (rows : State). InOrder rows × HasRowsOf sh.tables rows) (sym (whole_state sh.first)) (rows_of_tables sh.tables sh.first shape.commits)

  -- a row that is left has its place's key, and its table is one of the shape's
  pub row_keyed : (place : Place) (row : Row) → at_place left place ≡ Some row → key_of row ≡ place.key
  row_keyed place row is = go (slice_get sh.tables place.table) (left_holds.1 place row is)
    where
      go : (o : Option TableDecl) → IsSomeAnd o (λ (table : TableDecl). FitsPlace table.schema place row) → key_of row ≡ place.key
      go None has = absurd has
      go (Some table) has = has.key

  row_tabled : (place : Place) (row : Row) → at_place left place ≡ Some row → HasTable sh place.table
  row_tabled place row is = go (slice_get sh.tables place.table) refl (left_holds.1 place row is)
    where
      go : (o : Option TableDecl) → slice_get sh.tables place.table ≡ o → IsSomeAnd o (λ (table : TableDecl). FitsPlace table.schema place row) → HasTable sh place.table
      go None at has = absurd has
      go (Some table) at has = slice_get_within sh.tables place.table table at

  -- The rows of a table.
  abbrev rows : ℕ → List Row
  rows t = rows_first sh t

  -- The key of a row is one at which it is left.
  row_left : (t n : ℕ) (row : Row) → slice_get (rows t) n ≡ Some row → at_place left (place_at t (key_of row)) ≡ Some row
  row_left t n row is =
      let found = row_found t left n row left_holds.0 is in
      ap (λ (key : ℤ). at_place left (place_at t key)) (row_keyed (place_at t found.0) row found.1) ∙ found.1

  -- A table with a row is one of the shape's.
  has_table : (t n : ℕ) (row : Row) → slice_get (rows t) n ≡ Some row → HasTable sh t
  has_table t n row is = row_tabled (place_at t (key_of row)) row (row_left t n row is)

  -- Each row fits its table's columns.
  row_fits : (t n : ℕ) (row : Row) → slice_get (rows t) n ≡ Some row → Fits (columns_in sh t) row
  row_fits t n row is = go (slice_get sh.tables t) (left_holds.1 (place_at t (key_of row)) row (row_left t n row is))
    where
      go : (o : Option TableDecl) → IsSomeAnd o (λ (table : TableDecl). FitsPlace table.schema (place_at t (key_of row)) row) → Fits (unwrap_or (option_map (λ (decl : TableDecl). decl.schema) o) []) row
      go None has = absurd has
      go (Some table) has = has.cells

  -- rows of one key are one
  pub row_once : (t n m : ℕ) (row other : Row) → slice_get (rows t) n ≡ Some row → slice_get (rows t) m ≡ Some other → key_of row ≡ key_of other → n ≡ m
  row_once t n m row other is also same = one_row t left n m row other left_holds.0 row_keyed is also same

  -- ---- the opening core

  -- The opening core of the shape.
  abbrev s : Parts
  s = opening sh

  -- the part of a name, or none
  part_cases : (w : Name) → (part_at sh s w ≡ Some (opening_part sh w)) ⊎ (part_at sh s w ≡ None)
  part_cases w = go (part_at sh s w) refl
    where
      go : (o : Option CorePart) → part_at sh s w ≡ o → (part_at sh s w ≡ Some (opening_part sh w)) ⊎ (part_at sh s w ≡ None)
      go None is = inr is
      go (Some x) is = inl (part_there (opening_part sh) (names sh) w (named_member (names sh) s w x is))

  -- the body of a block in the opening core is one over its table's rows
  pub body : (t b : ℕ) → HasBlock sh t b → body_at sh s t b ≡ opening_body (columns_in sh t) (slots_of sh t) (rows_first sh t) b
  body t b has = ap body_from (part_there (opening_part sh) (names sh) (BodyOf t b) (body_named sh t b has))

  -- the head of a table in the opening core stands behind its rows
  pub head : (t : ℕ) → HasTable sh t → head_at sh s t ≡ opening_head (blocks_of sh t) (slots_of sh t) (length (rows_first sh t))
  head t has = ap head_from (part_there (opening_part sh) (names sh) (HeadOf t) (head_named sh t has))

  -- ---- its slots

  -- A slot of the opening core is bare, or has the row of its number.
  slot_cases : (t p : ℕ) → (slot_at sh s t p ≡ bare)
      ⊎ (HasBlock sh t (block_of p) × (slot_of p < slots_of sh t) × (slot_at sh s t p ≡ of_row (slice_get (rows t) (block_of p * slots_of sh t + slot_of p))))
  slot_cases t p = go (part_cases (BodyOf t (block_of p)))
    where
      go : (part_at sh s (BodyOf t (block_of p)) ≡ Some (opening_part sh (BodyOf t (block_of p)))) ⊎ (part_at sh s (BodyOf t (block_of p)) ≡ None)
          → (slot_at sh s t p ≡ bare)
          ⊎ (HasBlock sh t (block_of p) × (slot_of p < slots_of sh t) × (slot_at sh s t p ≡ of_row (slice_get (rows t) (block_of p * slots_of sh t + slot_of p))))
      go (inr none) = inl (ap (λ o. slot_in (body_from o) (slot_of p)) none)
      go (inl some) = by (ltb (slot_of p) (slots_of sh t)) refl
        where
          its : slot_at sh s t p ≡ slot_in (opening_body (columns_in sh t) (slots_of sh t) (rows t) (block_of p)) (slot_of p)
          its = ap (λ o. slot_in (body_from o) (slot_of p)) some

          by : (b : Bool) → ltb (slot_of p) (slots_of sh t) ≡ b
              → (slot_at sh s t p ≡ bare)
              ⊎ (HasBlock sh t (block_of p) × (slot_of p < slots_of sh t) × (slot_at sh s t p ≡ of_row (slice_get (rows t) (block_of p * slots_of sh t + slot_of p))))
          by true is =
              let less : slot_of p < slots_of sh t = grind (arith, nat_tests) in
              inr (body_is_there sh s t (block_of p) (opening_part sh (BodyOf t (block_of p))) some, less, its ∙ body_slot (columns_in sh t) (slots_of sh t) (rows t) (block_of p) (slot_of p) less)
          by false is =
              let past : slots_of sh t ≤ slot_of p = grind (arith, nat_tests) in
              inl (its ∙ body_past (columns_in sh t) (slots_of sh t) (rows t) (block_of p) (slot_of p) past)

  -- No slot has an entry.
  settled : (t p : ℕ) → (slot_at sh s t p).entries ≡ []
  settled t p = go (slot_cases t p)
    where
      go : (slot_at sh s t p ≡ bare)
          ⊎ (HasBlock sh t (block_of p) × (slot_of p < slots_of sh t) × (slot_at sh s t p ≡ of_row (slice_get (rows t) (block_of p * slots_of sh t + slot_of p))))
          → (slot_at sh s t p).entries ≡ []
      go (inl is) = ap (λ (x : Slot). x.entries) is
      go (inr at) = ap (λ (x : Slot). x.entries) at.2

  -- A slot with a row stands at the place of the row's number.
  slot_row : (t p : ℕ) (row : Row) → (slot_at sh s t p).row ≡ Some row → (n : ℕ) × (slice_get (rows t) n ≡ Some row) × (p ≡ row_place (slots_of sh t) n)
  slot_row t p row is = go (slot_cases t p)
    where
      whole : block_of p * 2 ^ 20 + slot_of p ≡ p
      whole = omega arith

      go : (slot_at sh s t p ≡ bare)
          ⊎ (HasBlock sh t (block_of p) × (slot_of p < slots_of sh t) × (slot_at sh s t p ≡ of_row (slice_get (rows t) (block_of p * slots_of sh t + slot_of p))))
          → (n : ℕ) × (slice_get (rows t) n ≡ Some row) × (p ≡ row_place (slots_of sh t) n)
      go (inl none) = absurd (none-some row (sym (ap (λ (x : Slot). x.row) none) ∙ is))
      go (inr at) = (
        block_of p * slots_of sh t + slot_of p,
        sym (ap (λ (x : Slot). x.row) at.2) ∙ is,
        sym (ap (λ b. place_of b ((block_of p * slots_of sh t + slot_of p) % slots_of sh t)) (made_block (slots_of sh t) (block_of p) (slot_of p) at.1)
            ∙ ap (place_of (block_of p)) (made_slot (slots_of sh t) (block_of p) (slot_of p) at.1)
            ∙ whole),
      )

  -- At the place of a row's number stands the row.
  row_slot_is : (t n : ℕ) (row : Row) → slice_get (rows t) n ≡ Some row → slot_at sh s t (row_place (slots_of sh t) n) ≡ of_row (Some row)
  row_slot_is t n row is =
      ap (λ b. slot_in (body_at sh s t b) (slot_of (row_place (slots_of sh t) n))) (row_block (slots_of sh t) n slots.0 slots.1)
      ∙ ap (slot_in (body_at sh s t (n / slots_of sh t))) (row_slot (slots_of sh t) n slots.0 slots.1)
      ∙ ap (λ (x : Body). slot_in x (n % slots_of sh t)) (body t (n / slots_of sh t) (has, quotient_less n (slots_of sh t) (blocks_of sh t) slots.0 within))
      ∙ body_slot (columns_in sh t) (slots_of sh t) (rows t) (n / slots_of sh t) (n % slots_of sh t) (let some = slots.0 in omega (arith, some))
      ∙ ap (λ k. of_row (slice_get (rows t) k)) (row_number (slots_of sh t) n)
      ∙ ap of_row is
    where
      has : HasTable sh t
      has = has_table t n row is

      slots : (1 ≤ slots_of sh t) × (slots_of sh t ≤ 2 ^ 15)
      slots = shape.slots t has

      within : n < blocks_of sh t * slots_of sh t
      within = let less = slice_get_within (rows t) n row is in let room = shape.room t has in omega (arith, less, room)

  -- ---- its candidates

  -- A key has no candidate and no row, or the place of its row is the one candidate.
  key_cases : (t : ℕ) (key : ℤ) → ((places_at sh s t key ≡ []) × ((n : ℕ) (row : Row) → slice_get (rows t) n ≡ Some row → key_of row ≡ key → ⊥))
      ⊎ ((n : ℕ) × (row : Row) × (slice_get (rows t) n ≡ Some row) × (key_of row ≡ key) × (places_at sh s t key ≡ row_place (slots_of sh t) n ∷ []))
  key_cases t key = go (part_cases (ShardOf t (shard_of key)))
    where
      go : (part_at sh s (ShardOf t (shard_of key)) ≡ Some (opening_part sh (ShardOf t (shard_of key)))) ⊎ (part_at sh s (ShardOf t (shard_of key)) ≡ None)
          → ((places_at sh s t key ≡ []) × ((n : ℕ) (row : Row) → slice_get (rows t) n ≡ Some row → key_of row ≡ key → ⊥))
          ⊎ ((n : ℕ) × (row : Row) × (slice_get (rows t) n ≡ Some row) × (key_of row ≡ key) × (places_at sh s t key ≡ row_place (slots_of sh t) n ∷ []))
      go (inr none) = inl (
        ap (λ o. candidates_of (shard_from o) key) none ∙ ap (λ o. unwrap_or o []) (finite.get-empty int_cmp key),
        λ n row is same. some_part (part_at sh s (ShardOf t (shard_of key))) (opening_part sh (ShardOf t (shard_of key))) none
            (part_there (opening_part sh) (names sh) (ShardOf t (shard_of key)) (shard_named sh t (shard_of key) (has_table t n row is) (shard_small key))),
      )
      go (inl some) = by (key_place (slots_of sh t) (shard_of key) key refl 0 (rows t))
        where
          its : places_at sh s t key ≡ candidates_in (slots_of sh t) (shard_of key) key refl 0 (rows t)
          its = ap (λ o. candidates_of (shard_from o) key) some

          by : ((candidates_in (slots_of sh t) (shard_of key) key refl 0 (rows t) ≡ []) × ((n : ℕ) → HasKeyAt (slots_of sh t) (shard_of key) key refl (rows t) n → ⊥))
              ⊎ ((n : ℕ) × HasKeyAt (slots_of sh t) (shard_of key) key refl (rows t) n × (candidates_in (slots_of sh t) (shard_of key) key refl 0 (rows t) ≡ row_place (slots_of sh t) (0 + n) ∷ []))
              → ((places_at sh s t key ≡ []) × ((n : ℕ) (row : Row) → slice_get (rows t) n ≡ Some row → key_of row ≡ key → ⊥))
              ⊎ ((n : ℕ) × (row : Row) × (slice_get (rows t) n ≡ Some row) × (key_of row ≡ key) × (places_at sh s t key ≡ row_place (slots_of sh t) n ∷ []))
          by (inl none) = inl (its ∙ none.0, λ n row is same. none.1 n (row, is, same))
          by (inr found) =
              let e : 0 + found.0 ≡ found.0 = omega arith in
              inr (found.0, found.1.0, found.1.1, found.1.2, its ∙ found.2 ∙ ap (λ n. row_place (slots_of sh t) n ∷ []) e)

  -- A candidate has a row of its key.
  candidate : (t p : ℕ) (key : ℤ) → Among p (places_at sh s t key) → (row : Row) × ((slot_at sh s t p).row ≡ Some row) × (key_of row ≡ key)
  candidate t p key a = go (key_cases t key)
    where
      at : (n : ℕ) (row : Row) → slice_get (rows t) n ≡ Some row → key_of row ≡ key → Among p (row_place (slots_of sh t) n ∷ []) → (row : Row) × ((slot_at sh s t p).row ≡ Some row) × (key_of row ≡ key)
      at n row is same (inl e) = (row, ap (λ q. (slot_at sh s t q).row) e ∙ ap (λ (x : Slot). x.row) (row_slot_is t n row is), same)
      at n row is same (inr b) = absurd b

      go : ((places_at sh s t key ≡ []) × ((n : ℕ) (row : Row) → slice_get (rows t) n ≡ Some row → key_of row ≡ key → ⊥))
          ⊎ ((n : ℕ) × (row : Row) × (slice_get (rows t) n ≡ Some row) × (key_of row ≡ key) × (places_at sh s t key ≡ row_place (slots_of sh t) n ∷ []))
          → (row : Row) × ((slot_at sh s t p).row ≡ Some row) × (key_of row ≡ key)
      go (inl none) = absurd (subst (Among p) none.0 a)
      go (inr r) = at r.0 r.1 r.2 r.3 (subst (Among p) r.4 a)

  -- The place of a row's number is a candidate of the row's key.
  number_listed : (t n : ℕ) (row : Row) → slice_get (rows t) n ≡ Some row → Among (row_place (slots_of sh t) n) (places_at sh s t (key_of row))
  number_listed t n row is = go (key_cases t (key_of row))
    where
      go : ((places_at sh s t (key_of row) ≡ []) × ((m : ℕ) (other : Row) → slice_get (rows t) m ≡ Some other → key_of other ≡ key_of row → ⊥))
          ⊎ ((m : ℕ) × (other : Row) × (slice_get (rows t) m ≡ Some other) × (key_of other ≡ key_of row) × (places_at sh s t (key_of row) ≡ row_place (slots_of sh t) m ∷ []))
          → Among (row_place (slots_of sh t) n) (places_at sh s t (key_of row))
      go (inl none) = absurd (none.1 n row is refl)
      go (inr r) = subst (Among (row_place (slots_of sh t) n)) (sym r.4) (inl (ap (row_place (slots_of sh t)) (row_once t n r.0 row r.1 is r.2 (sym r.3))))

  -- A key has one candidate at most.
  one_candidate : (t : ℕ) (key : ℤ) (p q : ℕ) → Among p (places_at sh s t key) → Among q (places_at sh s t key) → p ≡ q
  one_candidate t key p q a b = go (key_cases t key)
    where
      both : (x : ℕ) → Among p (x ∷ []) → Among q (x ∷ []) → p ≡ q
      both x (inl d) (inl e) = d ∙ sym e
      both x (inl d) (inr e) = absurd e
      both x (inr d) c = absurd d

      go : ((places_at sh s t key ≡ []) × ((n : ℕ) (row : Row) → slice_get (rows t) n ≡ Some row → key_of row ≡ key → ⊥))
          ⊎ ((n : ℕ) × (row : Row) × (slice_get (rows t) n ≡ Some row) × (key_of row ≡ key) × (places_at sh s t key ≡ row_place (slots_of sh t) n ∷ []))
          → p ≡ q
      go (inl none) = absurd (subst (Among p) none.0 a)
      go (inr r) = both (row_place (slots_of sh t) r.0) (subst (Among p) r.4 a) (subst (Among q) r.4 b)

  -- None stands before another.
  no_before : (t : ℕ) (key : ℤ) (p q : ℕ) → StandsBefore p q (places_at sh s t key) → ⊥
  no_before t key p q before = go (key_cases t key)
    where
      single : (x : ℕ) → StandsBefore p q (x ∷ []) → ⊥
      single x (inl d) = absurd d.1
      single x (inr d) = absurd d

      go : ((places_at sh s t key ≡ []) × ((n : ℕ) (row : Row) → slice_get (rows t) n ≡ Some row → key_of row ≡ key → ⊥))
          ⊎ ((n : ℕ) × (row : Row) × (slice_get (rows t) n ≡ Some row) × (key_of row ≡ key) × (places_at sh s t key ≡ row_place (slots_of sh t) n ∷ []))
          → ⊥
      go (inl none) = absurd (subst (StandsBefore p q) none.0 before)
      go (inr r) = single (row_place (slots_of sh t) r.0) (subst (StandsBefore p q) r.4 before)

  -- The slots and candidates of the opening core have what the first commits left.
  stands : Stand left (slot_at sh s) (places_at sh s)
  stands = record {
    settled = settled;
    there = λ t p row is. let at = slot_row t p row is in row_left t at.0 row at.1;
    all = λ t key row is.
        let at = found_row t left key row is in (
          row_place (slots_of sh t) at.0,
          subst (λ (k : ℤ). Among (row_place (slots_of sh t) at.0) (places_at sh s t k)) (row_keyed (place_at t key) row is) (number_listed t at.0 row at.1),
          ap (λ (x : Slot). x.row) (row_slot_is t at.0 row at.1),
        );
    candidate = candidate;
    listed = λ t p row is.
        let at = slot_row t p row is in
        subst (λ q. Among q (places_at sh s t (key_of row))) (sym at.2) (number_listed t at.0 row at.1);
    one = one_candidate;
    alone = no_before;
  }

  -- ---- its desk

  -- the desk at first
  abbrev pub new_desk : DeskState
  new_desk = opening_desk sh.first sh.passes

  -- it is the desk of the opening core
  pub desk : desk_at sh s ≡ new_desk
  desk = ap desk_from (part_there (opening_part sh) (names sh) TheDesk (desk_named sh))

  -- Each first commit stands in order.
  first_order : All InOrder sh.first
  first_order = All-weaker (IsCommitOf sh.tables) (λ (writes : WriteSet). InOrder writes) (λ writes is. is.rises) sh.first shape.commits

  -- no session has a snapshot there
  pub idle : (q : ℕ) → snapshot_of new_desk q ≡ None
  idle q = none_open sh.first sh.passes first_order (slot_at sh s) (places_at sh s) stands q

  -- The slots, candidates and desk of the opening core follow the machine that begins as it does.
  follows : Follows (slot_at sh s) (places_at sh s) (desk_at sh s) (machine.opening_from sh.first)
  follows =
      subst (λ x. Follows (slot_at sh s) (places_at sh s) x (machine.opening_from sh.first)) (sym desk)
      (first_follows sh.first sh.passes first_order (slot_at sh s) (places_at sh s) stands)

  -- ---- heads and bodies

  -- A body over rows holds what is asked of a body.
  body_holds : (t b : ℕ) → BodyHolds sh t (opening_body (columns_in sh t) (slots_of sh t) (rows t) b)
  body_holds t b = record {
    columns = refl;
    slots = body_slots (columns_in sh t) (slots_of sh t) (rows t) b;
    versions = body_fits (columns_in sh t) (slots_of sh t) (rows t) b (λ n row is. row_fits t n row is);
    cooling = λ is. absurd (true_false (sym is));
    rested = λ is. absurd (true_false (sym is));
    quiet = λ is. absurd (true_false is);
    dense = λ is. absurd (true_false is);
    sealed = λ stamp is. cc;
    imaged = λ stamp is. cc;
    rounds = omega arith;
    last = omega arith;
  }

  -- What is asked of a table's head, of a head by itself.
  record HeadIs (t : ℕ) (h : Head) : Type 0 where
    block : HasBlock sh t h.block
    taken : h.taken ≤ slots_of sh t
    unused : (slot : ℕ) → h.taken ≤ slot → is_bare (slot_in (body_at sh s t h.block) slot) ≡ true
    loose : is_loose (body_at sh s t h.block).phase ≡ true
    anew : is_empty (body_at sh s t h.block) ≡ true → h.taken ≡ 0
    empty : h.empty ≡ filter (λ b. is_empty (body_at sh s t b) && not (b == h.block)) (below (blocks_of sh t))

  module _ (t : ℕ) (has : HasTable sh t) where
    some_slots : 1 ≤ slots_of sh t
    some_slots = (shape.slots t has).0

    -- A body is empty where the rows end before it, and is not where they end behind its first slot.
    empty_body : (b : ℕ) → Among b (below (blocks_of sh t)) → length (rows t) ≤ b * slots_of sh t → is_empty (body_at sh s t b) ≡ true
    empty_body b a behind = ap is_empty (body t b (in_block sh t b has a)) ∙ body_empty (columns_in sh t) (slots_of sh t) (rows t) b behind

    filled_body : (b : ℕ) → HasBlock sh t b → b * slots_of sh t < length (rows t) → is_empty (body_at sh s t b) ≡ false
    filled_body b hb before = ap is_empty (body t b hb) ∙ body_filled (columns_in sh t) (slots_of sh t) (rows t) b some_slots before

    unused_slots : (b slot : ℕ) → HasBlock sh t b → length (rows t) ≤ b * slots_of sh t + slot → is_bare (slot_in (body_at sh s t b) slot) ≡ true
    unused_slots b slot hb behind = ap (λ (x : Body). is_bare (slot_in x slot)) (body t b hb) ∙ body_unused (columns_in sh t) (slots_of sh t) (rows t) b slot behind

    -- The head of a table without rows.
    head_of_none : length (rows t) ≡ 0 → HeadIs t (opening_head (blocks_of sh t) (slots_of sh t) 0)
    head_of_none none = record {
      block = first;
      taken = omega arith;
      unused = λ slot le. unused_slots 0 slot first (omega (arith, none));
      loose = ap (λ (x : Body). is_loose x.phase) (body t 0 first);
      anew = λ e. refl;
      empty = filter_same (λ b. not (b == 0)) (λ b. is_empty (body_at sh s t b) && not (b == 0)) (below (blocks_of sh t))
          (λ b a. sym (ap (λ e. e && not (b == 0)) (empty_body b a (omega (arith, none)))));
    }
      where
        first : HasBlock sh t 0
        first = (has, let one = shape.blocks t has in omega (arith, one))

    -- The head of a table with rows.
    head_of_some : (before : ℕ) → length (rows t) ≡ suc before → HeadIs t (opening_head (blocks_of sh t) (slots_of sh t) (suc before))
    head_of_some before some = record {
      block = mine;
      taken = let less : before % slots_of sh t < slots_of sh t = let one = some_slots in omega (arith, one) in omega (arith, less);
      unused = λ slot le. let whole = row_number (slots_of sh t) before in unused_slots (before / slots_of sh t) slot mine (omega (arith, some, le, whole));
      loose = ap (λ (x : Body). is_loose x.phase) (body t (before / slots_of sh t) mine);
      anew = λ e. absurd (true_false (sym e ∙ filled_body (before / slots_of sh t) mine here));
      empty = filter_same (nat_lt (before / slots_of sh t)) (λ b. is_empty (body_at sh s t b) && not (b == before / slots_of sh t)) (below (blocks_of sh t)) each;
    }
      where
        mine : HasBlock sh t (before / slots_of sh t)
        mine = (has, quotient_less before (slots_of sh t) (blocks_of sh t) some_slots (let room = shape.room t has in omega (arith, some, room)))

        here : before / slots_of sh t * slots_of sh t < length (rows t)
        here = let whole = row_number (slots_of sh t) before in omega (arith, some, whole)

        each : (b : ℕ) → Among b (below (blocks_of sh t)) → nat_lt (before / slots_of sh t) b ≡ (is_empty (body_at sh s t b) && not (b == before / slots_of sh t))
        each b a = go (nat_lt (before / slots_of sh t) b) refl
          where
            go : (above : Bool) → nat_lt (before / slots_of sh t) b ≡ above → nat_lt (before / slots_of sh t) b ≡ (is_empty (body_at sh s t b) && not (b == before / slots_of sh t))
            go true is =
                let less : before / slots_of sh t < b = grind (arith, nat_tests) in
                let apart : (b == before / slots_of sh t) ≡ false = grind (arith, nat_tests) in
                let times : (before / slots_of sh t + 1) * slots_of sh t ≤ b * slots_of sh t = mul-le-mul_right (slots_of sh t) (omega (arith, less)) in
                let whole = row_number (slots_of sh t) before in
                let rest : before % slots_of sh t < slots_of sh t = let one = some_slots in omega (arith, one) in
                let behind : length (rows t) ≤ b * slots_of sh t = omega (arith, some, times, whole, rest) in
                is ∙ sym (ap (λ e. e && not (b == before / slots_of sh t)) (empty_body b a behind) ∙ ap not apart)
            go false is =
                let low : b ≤ before / slots_of sh t = grind (arith, nat_tests) in
                let times : b * slots_of sh t ≤ before / slots_of sh t * slots_of sh t = mul-le-mul_right (slots_of sh t) low in
                let whole = here in
                is ∙ sym (ap (λ e. e && not (b == before / slots_of sh t)) (filled_body b (in_block sh t b has a) (omega (arith, times, whole))))

    head_is : HeadIs t (head_at sh s t)
    head_is = subst (HeadIs t) (sym (head t has)) (go (length (rows t)) refl)
      where
        go : (n : ℕ) → length (rows t) ≡ n → HeadIs t (opening_head (blocks_of sh t) (slots_of sh t) (length (rows t)))
        go zero is = subst (λ n. HeadIs t (opening_head (blocks_of sh t) (slots_of sh t) n)) (sym is) (head_of_none is)
        go (suc before) is = subst (λ n. HeadIs t (opening_head (blocks_of sh t) (slots_of sh t) n)) (sym is) (head_of_some before is)

    -- a head of the opening core holds what is asked of a head
    pub head_holds : HeadHolds sh s t
    head_holds = record {
      block = head_is.block;
      taken = head_is.taken;
      unused = head_is.unused;
      loose = head_is.loose;
      anew = head_is.anew;
      empty = head_is.empty;
    }

  -- ---- the whole

  -- Each part of the opening core is of its name's kind.
  kinds_hold : All (λ name. IsOfKind name (part_at sh s name)) (names sh)
  kinds_hold = all_by (λ name. IsOfKind name (part_at sh s name)) (names sh) (λ name a. subst (IsOfKind name) (sym (part_there (opening_part sh) (names sh) name a)) (kind name))
    where
      kind : (name : Name) → IsOfKind name (Some (opening_part sh name))
      kind (HeadOf t) = tt
      kind (ShardOf t i) = tt
      kind (BodyOf t b) = tt
      kind TheDesk = tt

  -- it follows the machine before its first command
  pub opening_follows : FollowsMachine sh (opening sh) (machine.opening_from sh.first)
  opening_follows = record {
    kinds = each_kind sh s kinds_hold;
    desk = desk_there sh s kinds_hold;
    shards = shard_there sh s kinds_hold;
    follows = follows;
  }

  -- The opening core is sound.
  pub sound : Sound sh (opening sh)
  sound = record {
    follows = (machine.opening_from sh.first, follows);
    count = length-map (names sh) (opening_part sh);
    kinds = kinds_hold;
    heads = λ t has. head_holds t has;
    bodies = λ t b has. subst (BodyHolds sh t) (sym (body t b has)) (body_holds t b);
    no_head = λ t b has. record {
      cooling = λ is. absurd (true_false (sym is ∙ ap (λ (x : Body). x.cooling) (body t b has)));
      phase = λ is. absurd (true_false (sym (ap (λ (x : Body). is_loose x.phase) (body t b has)) ∙ is));
    };
    sessions = ap (λ (d : DeskState). length d.open_snapshots) desk ∙ size sh.passes None;
  }
