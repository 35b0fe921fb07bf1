-- The rows read in all blocks are those that the machine's transaction sees.
use Rattle.std.proofs.Common.{◌≡◌, ◌⊎◌, ℕ, zero, suc, ◌+◌, ◌<◌, ◌≤◌, ◌^◌, ℤ, Bool, true, false, List, [], ◌∷◌, ◌++◌, Option, None, Some, length, nat_lt, option_map, unwrap_or, refl, sym, ap, ◌∙◌, arith}
use mathlib.Core.Logic.{inl, inr}
use Rattle.std.specs.List.{cons_option, filter_map, flat_map, range_with_len}
use Rattle.std.specs.Prelude.{slice_get}
use Rattle.std.proofs.lemmas.Bool.Decides.{Decides-int_eq, nat_tests}
use Rattle.std.proofs.lemmas.Option.{slice_get_past}
use Rattle.block_layout.specs.Place.{block_of, place_of as place_in, slot_of}
use Rattle.block_spec.specs.Slots.{Row}
use Rattle.cell_model.specs.declared.table.TableDecl.{TableDecl}
use Rattle.core_laws.proofs.Events.Lists.{below_member, flat_member, kept_member, member_below, member_flat, member_kept}
use Rattle.core_laws.specs.Events.Named.{FollowsMachine}
use Rattle.event_spec.specs.declared.own.OwnTransaction.{OwnTransaction}
use Rattle.isolation_spec.specs.Order.{InOrder}
use Rattle.event_spec.specs.Lawful.{Among, HasBlock, OwnsAll}
use Rattle.event_spec.specs.Parts.{Parts, Shape, below, blocks_of, body_at}
use Rattle.event_spec.specs.Replies.{row_read, rows_read}
use Rattle.event_spec.specs.Sound.{IsShape, Sound}
use Rattle.isolation_laws.proofs.States.{state-order}
use Rattle.isolation_laws.proofs.Overlays.{at-laid_over}
use Rattle.isolation_laws.proofs.Rows.{is_place-of}
use Rattle.isolation_spec.specs.Contents.{at_place, is_place, key_of, place_at, place_of, state_at}
use Rattle.isolation_spec.specs.Machine.{IsolationMachine, Transaction, seen_rows, transaction_of}
use Rattle.core_laws.proofs.Snapshots.BlockReads.{reads_hold_each_row}
use Rattle.core_laws.specs.Snapshots.Laws.{ReadsEachOnce}
use Rattle.store_laws.specs.Scans.{IsTheScan, ReadsAreTheScan, all_read}
use Rattle.core_laws.proofs.Events.Puts.{order_put, put, put_has}
use Rattle.store_laws.proofs.Maps.{Fresh, put_count, same_contents}

-- Rows of different keys in two lists have different keys in both where none is common.
fresh_append : (table : ℕ) (xs ys : List Row) → Fresh table xs → Fresh table ys
    → ((x y : Row) → Among x xs → Among y ys → key_of x ≡ key_of y → ⊥) → Fresh table (xs ++ ys)
fresh_append table [] ys a b apart = b
fresh_append table (x ∷ xs) ys a b apart = (
  λ other among same. go other same (Rattle.core_laws.proofs.Events.Lists.split xs ys other among),
  fresh_append table xs ys a.1 b (λ x y m n. apart x y (inr m) n),
)
  where
    go : (other : Row) → key_of x ≡ key_of other → Among other xs ⊎ Among other ys → ⊥
    go other same (inl m) = a.0 other m same
    go other same (inr m) = apart x other (inl refl) m same

-- A number of a range is not below the range's first.
least : (a n k : ℕ) → Among k (range_with_len a n) → a ≤ k
least a zero k h = absurd h
least a (suc n) k (inl e) = omega (arith, e)
least a (suc n) k (inr h) = let low = least (a + 1) n k h in omega (arith, low)

-- a block that a table may have is there
pub within : (sh : Shape) (t b : ℕ) → b < blocks_of sh t → HasBlock sh t b
within sh t b less = (go (nat_lt t (length sh.tables)) refl, less)
  where
    go : (x : Bool) → nat_lt t (length sh.tables) ≡ x → t < length sh.tables
    go true e = grind (arith, nat_tests, e)
    go false e =
        let none : slice_get sh.tables t ≡ None = slice_get_past sh.tables t (grind (arith, nat_tests, e)) in
        let zero_blocks : blocks_of sh t ≡ 0 = ap (λ o. unwrap_or (option_map (λ (decl : TableDecl). decl.blocks) o) 0) none in
        absurd (let never : ⊥ = omega (arith, less, zero_blocks) in never)

module _ (sh : Shape) (s : Parts) (own : OwnTransaction) (t : ℕ) (m : IsolationMachine) (open' : Transaction)
    (shape : IsShape sh) (ok : Sound sh s) (owns : OwnsAll sh own s) (f : FollowsMachine sh s m)
    (is_open : transaction_of own.session m ≡ Some open') where
  -- What is read of the table is each seen row, read once.
  each : ReadsEachOnce sh s own t (seen_rows m open')
  each = reads_hold_each_row sh s own t m open' shape ok owns f is_open

  -- A block has fewer slots than a place has numbers for.
  width : (b : ℕ) → HasBlock sh t b → length (body_at sh s t b).slots < 2 ^ 20
  width b has = let w = (shape.slots t has.0).1 in let count = (ok.bodies t b has).slots in omega (arith, w, count)

  -- A block among those of the table is there.
  has : (b : ℕ) → Among b (below (blocks_of sh t)) → HasBlock sh t b
  has b a = let less = member_below 0 (blocks_of sh t) b a in within sh t b (omega (arith, less))

  -- the rows of one block, from a slot on
  fresh_block : (b a n : ℕ) → a + n ≤ 2 ^ 20 → Fresh t (filter_map (λ j. row_read sh s own t (place_in b j)) (range_with_len a n))
  fresh_block b a zero fits = tt
  fresh_block b a (suc n) fits = go (row_read sh s own t (place_in b a)) refl (fresh_block b (a + 1) n (omega (arith, fits)))
    where
      go : (o : Option Row) → row_read sh s own t (place_in b a) ≡ o
          → Fresh t (filter_map (λ j. row_read sh s own t (place_in b j)) (range_with_len (a + 1) n))
          → Fresh t (cons_option o (filter_map (λ j. row_read sh s own t (place_in b j)) (range_with_len (a + 1) n)))
      go None is rest = rest
      go (Some row) is rest = (apart, rest)
        where
          apart : (other : Row) → Among other (filter_map (λ j. row_read sh s own t (place_in b j)) (range_with_len (a + 1) n)) → key_of row ≡ key_of other → ⊥
          apart other among same =
              let k = kept_member (λ j. row_read sh s own t (place_in b j)) (range_with_len (a + 1) n) other among in
              let at : place_in b a ≡ place_in b k.0 = each.once (place_in b a) (place_in b k.0) row other is k.2 same in
              let low = least (a + 1) n k.0 k.1 in
              absurd (let never : ⊥ = omega (arith, at, low) in never)

  -- a row of a block is read at one of its slots
  block_row : (b : ℕ) → HasBlock sh t b → (row : Row) → Among row (rows_read sh s own t b)
      → (j : ℕ) × (j < 2 ^ 20) × (row_read sh s own t (place_in b j) ≡ Some row)
  block_row b h row a =
      let k = kept_member (λ j. row_read sh s own t (place_in b j)) (below (length (body_at sh s t b).slots)) row a in
      let less = member_below 0 (length (body_at sh s t b).slots) k.0 k.1 in
      let w = width b h in
      (k.0, omega (arith, less, w), k.2)

  -- The rows of some blocks from one on have different keys.
  fresh_blocks : (a n : ℕ) → a + n ≤ blocks_of sh t → Fresh t (flat_map (rows_read sh s own t) (range_with_len a n))
  fresh_blocks a zero fits = tt
  fresh_blocks a (suc n) fits =
      let h = within sh t a (omega (arith, fits)) in
      let w = width a h in
      fresh_append t (rows_read sh s own t a) (flat_map (rows_read sh s own t) (range_with_len (a + 1) n))
      (fresh_block a 0 (length (body_at sh s t a).slots) (omega (arith, w)))
      (fresh_blocks (a + 1) n (omega (arith, fits)))
      apart
    where
      apart : (x y : Row) → Among x (rows_read sh s own t a) → Among y (flat_map (rows_read sh s own t) (range_with_len (a + 1) n)) → key_of x ≡ key_of y → ⊥
      apart x y one other same =
          let from = flat_member (rows_read sh s own t) (range_with_len (a + 1) n) y other in
          let low = least (a + 1) n from.0 from.1 in
          let high = member_below (a + 1) n from.0 from.1 in
          let here = block_row a (within sh t a (omega (arith, fits))) x one in
          let there = block_row from.0 (within sh t from.0 (omega (arith, fits, high))) y from.2 in
          let small = here.1 in
          let little = there.1 in
          let at : place_in a here.0 ≡ place_in from.0 there.0 = each.once (place_in a here.0) (place_in from.0 there.0) x y here.2 there.2 same in
          absurd (let never : ⊥ = omega (arith, at, low, small, little) in never)

  -- All rows that are read of the table have different keys.
  fresh : Fresh t (all_read sh s own t)
  fresh = fresh_blocks 0 (blocks_of sh t) (omega arith)

  -- a row that is read is seen
  read_seen : (row : Row) → Among row (all_read sh s own t) → at_place (seen_rows m open') (place_of t row) ≡ Some row
  read_seen row a =
      let from = flat_member (rows_read sh s own t) (below (blocks_of sh t)) row a in
      let here = block_row from.0 (has from.0 from.1) row from.2 in
      each.no_other (place_in from.0 here.0) row here.2

  -- a row that is seen is read
  seen_read : (key : ℤ) (row : Row) → at_place (seen_rows m open') (place_at t key) ≡ Some row
      → Among row (all_read sh s own t) × (key_of row ≡ key)
  seen_read key row is =
      let at = each.all key row is in
      let p = at.0 in
      let there = at.1 in
      let inside = there.1 in
      let count = (ok.bodies t (block_of p) there.0).slots in
      let place : place_in (block_of p) (slot_of p) ≡ p = omega arith in
      let high = there.0.1 in (
        member_flat (rows_read sh s own t) (below (blocks_of sh t)) (block_of p) row
            (below_member 0 (blocks_of sh t) (block_of p) (omega arith) (omega (arith, high)))
            (member_kept (λ j. row_read sh s own t (place_in (block_of p) j)) (below (length (body_at sh s t (block_of p)).slots)) (slot_of p) row
            (below_member 0 (length (body_at sh s t (block_of p)).slots) (slot_of p) (omega arith) (omega (arith, inside, count)))
            (ap (row_read sh s own t) place ∙ at.2)),
        at.3,
      )

  -- The rows that the machine's transaction sees stand in order.
  order : InOrder (seen_rows m open')
  order =
      (at-laid_over (state_at m.history open'.snapshot) open'.own (place_at t (Rattle.std.specs.Prelude.pos 0))
      (state-order m.history open'.snapshot f.follows.desked.history_order)
      (f.follows.desked.own_order own.session open' is_open)).1

  -- The rows that are read, put at their keys, are those seen at each key.
  same : (key : ℤ) → at_place (put t [] (all_read sh s own t)) (place_at t key) ≡ at_place (seen_rows m open') (place_at t key)
  same key = put_has t (place_at t key) (at_place (seen_rows m open') (place_at t key)) (all_read sh s own t) [] one (there (at_place (seen_rows m open') (place_at t key)) refl)
    where
      key_same : (row : Row) → is_place (place_at t key) (place_of t row) ≡ true → key_of row ≡ key
      key_same row is = (Decides-int_eq (key_of row) key).0 (sym (is_place-of t key row) ∙ is)

      one : (row : Row) → Among row (all_read sh s own t) → is_place (place_at t key) (place_of t row) ≡ true → at_place (seen_rows m open') (place_at t key) ≡ Some row
      one row a is = ap (λ k. at_place (seen_rows m open') (place_at t k)) (sym (key_same row is)) ∙ read_seen row a

      there : (target : Option Row) → at_place (seen_rows m open') (place_at t key) ≡ target
          → (None ≡ at_place (seen_rows m open') (place_at t key)) ⊎ ((row : Row) × Among row (all_read sh s own t) × (is_place (place_at t key) (place_of t row) ≡ true))
      there None is = inl (sym is)
      there (Some row) is =
          let r = seen_read key row is in
          inr (row, r.0, is_place-of t key row ∙ (Decides-int_eq (key_of row) key).1 r.1)

  -- The rows read in all blocks are those that the machine's transaction sees, each read once.
  pub scan : IsTheScan sh s own t m open'
  scan =
      let rows = same_contents t (put t [] (all_read sh s own t)) (seen_rows m open') (order_put t (all_read sh s own t) [] tt) order same in
      let count = put_count t (all_read sh s own t) [] fresh (λ row a. refl) in
      let both = ap length rows in
      record { rows = rows; count = omega (arith, count, both) }

-- And so they are wherever the parts follow the machine.
pub reads_are_the_scan : ReadsAreTheScan
reads_are_the_scan sh s own t m open' shape ok owns f is_open = scan sh s own t m open' shape ok owns f is_open
